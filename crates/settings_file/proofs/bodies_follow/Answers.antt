use mathlib.Core.Path.{◌≡◌, sym, ap, ◌∙◌}
use Prim.Native.Nat.{ℕ, ◌-◌}
use native.Mathlib.Omega.{arith}
use Rattle.settings_file.specs.Format.{place_of, follow}
use Rattle.settings_file.proofs.RowLaws.{here, elsewhere, at-end}
use borrow.Author.Rules.{rules}
use Rattle.settings_file.proofs.bodies_follow.Goals as goal

pub loop-i-init : goal.loop-i-init
loop-i-init c =
    let a = c.args in
    let e : a.n - 0 ≡ a.n = omega arith in
    (search rules, ap (λ (m : ℕ). follow a.s.now m 0 (place_of a.n)) e)

pub returns-then-e-place : goal.returns-then-e-place
returns-then-e-place c =
    sym (sym c.loop-i.invariant.1 ∙ elsewhere _ _ _ _ _ (omega arith) c.read_entry-e.ensures (omega arith))

pub loop-i-preserved : goal.loop-i-preserved
loop-i-preserved c =
    (omega arith, sym (here _ _ _ _ _ (omega arith) c.read_entry-e.ensures (omega arith)) ∙ c.loop-i.invariant.1)

pub returns : goal.returns
returns c = sym (sym c.loop-i.invariant.1 ∙ at-end _ _ _ _ (omega arith))
