-- `recording::is_well_formed` meets its contract: each test decides a case of the definition.
-- Assumes nothing.
use mathlib.Core.Path.{ap, ◌∙◌}
use Prim.Native.Nat.{ℕ}
use native.Mathlib.Omega.{arith}
use Rattle.std.proofs.lemmas.Bool.Decides.{nat_tests}
use Rattle.recording.specs.Format.{place_of, are_good, is_well_formed}
use Rattle.recording.proofs.EntryLaws.{uncounted, by_entries}
use Rattle.recording.proofs.is_well_formed.Goals as goal

pub returns-then-s-lt4 : goal.returns-then-s-lt4
returns-then-s-lt4 c = uncounted _ c.if-s-lt4.true

pub returns-then-n-s : goal.returns-then-n-s
returns-then-n-s c =
    c.are_good.ensures
    ∙ ap (λ (n : ℕ). are_good c.args.s.now n 0 (place_of n)) c.count-n.ensures
    ∙ by_entries _ (omega arith) (grind (arith, nat_tests)) (grind (arith, nat_tests))

pub returns-else-n-s : goal.returns-else-n-s
unfolding is_well_formed
returns-else-n-s c = grind (arith, nat_tests)
