-- `comparison_text::refusal` meets its contract: each test decides a case of the definition.
-- Assumes nothing.
use native.Mathlib.Omega.{arith}
use Rattle.std.proofs.lemmas.Bool.Decides.{nat_tests}
use Rattle.comparison_text.specs.Text.{refusal}
use Rattle.comparison_text.proofs.refusal.Goals as goal

pub returns-then-first-gt-MAX_FILE : goal.returns-then-first-gt-MAX_FILE
unfolding refusal
returns-then-first-gt-MAX_FILE c = grind (arith, nat_tests)

pub returns-then-not-is_well_formed : goal.returns-then-not-is_well_formed
unfolding refusal
returns-then-not-is_well_formed c = grind (arith, nat_tests)

pub returns : goal.returns
unfolding refusal
returns c = grind (arith, nat_tests)
