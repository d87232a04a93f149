-- `recording::is_good` meets its contract: each test decides a case of the definition.
-- Assumes nothing.
use native.Mathlib.Omega.{arith}
use Rattle.std.proofs.lemmas.Bool.Decides.{nat_tests}
use Rattle.recording.specs.Format.{is_good}
use Rattle.recording.proofs.is_good.Goals as goal

pub returns-then-e-le-MAX_BODY : goal.returns-then-e-le-MAX_BODY
unfolding is_good
returns-then-e-le-MAX_BODY c = grind (arith, nat_tests)

pub returns-else-e-le-MAX_BODY : goal.returns-else-e-le-MAX_BODY
unfolding is_good
returns-else-e-le-MAX_BODY c = grind (arith, nat_tests)
