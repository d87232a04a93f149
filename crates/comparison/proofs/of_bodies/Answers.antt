-- `comparison::of_bodies` meets its contract.
-- Assumes nothing.
use native.Mathlib.Omega.{arith}
use Rattle.comparison.proofs.DifferenceLaws.{some_byte, no_byte}
use Rattle.comparison.proofs.of_bodies.Goals as goal

pub returns-then-p-n : goal.returns-then-p-n
returns-then-p-n c = some_byte _ _ (omega arith)

pub returns-else-p-n : goal.returns-else-p-n
returns-else-p-n c = no_byte _ _ (omega arith)
