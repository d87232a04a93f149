-- The contents end before the hash, and the bodies follow each other up to it.
-- Assumes nothing.
use mathlib.Core.Path.{ap, ◌∙◌}
use Prim.Native.Nat.{ℕ}
use native.Mathlib.Omega.{arith}
use borrow.Author.Tests.{lt-leb}
use Rattle.settings_file.specs.Format.{place_of, follow}
use Rattle.settings_file.proofs.RowLaws.{past-hash, by-bodies}
use Rattle.settings_file.proofs.is_in_row.Goals as goal

pub returns-then-n-s : goal.returns-then-n-s
returns-then-n-s c =
    let s = c.args.s.now in
    c.bodies_follow.ensures ∙ ap (λ (n : ℕ). follow s n 0 (place_of n)) c.count-n.ensures
    ∙ by-bodies s (omega (arith, c.count-n.ensures))

pub returns-else-n-s : goal.returns-else-n-s
returns-else-n-s c = lt-leb _ _ (omega arith) ∙ past-hash c.args.s.now (omega (arith, c.count-n.ensures))
