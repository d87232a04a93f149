-- `mending::mended_count` meets its contract.
-- Assumes nothing.
use native.Mathlib.Omega.{arith}
use Rattle.mending.specs.Mend.{mended_count}
use Rattle.mending.proofs.mended_count.Goals as goal

pub returns : goal.returns
unfolding mended_count
returns c = omega arith
