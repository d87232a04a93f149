-- `mending::mended_entry` meets its contract.
-- Assumes nothing.
use native.Mathlib.Omega.{arith}
use Rattle.mending.proofs.WritingLaws.{mended-is}
use Rattle.mending.proofs.mended_entry.Goals as goal

pub returns : goal.returns
returns c = mended-is _ _ _ _ _ (omega arith) (omega arith)
