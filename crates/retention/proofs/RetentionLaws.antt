-- The range, and what 0 stands for.
-- Assumes nothing.
use mathlib.Core.Path.{◌≡◌, sym, ap, ◌∙◌}
use mathlib.Core.Bool.{Bool, true, false, ◌&&◌, cond, and-false}
use Prim.Native.Nat.{ℕ, ◌<◌, ◌≤◌}
use lib.Dec.{leb}
use borrow.Author.Tests.{eq-eqb, ne_eqb, le-leb, lt-leb}
use Rattle.retention.specs.Retention.{least_retention, greatest_retention, default_retention, in_range, made_retention}

module _ (R : ℕ) where
  pub below : R < least_retention → in_range R ≡ false
  below l = ap (λ (b : Bool). b && leb R greatest_retention) (lt-leb least_retention R l)

  pub long-enough : least_retention ≤ R → in_range R ≡ leb R greatest_retention
  long-enough l = ap (λ (b : Bool). b && leb R greatest_retention) (le-leb least_retention R l)

  pub within : least_retention ≤ R → R ≤ greatest_retention → in_range R ≡ true
  within l u = long-enough l ∙ le-leb R greatest_retention u

  pub above : greatest_retention < R → in_range R ≡ false
  above l = ap (◌&&◌ (leb least_retention R)) (lt-leb R greatest_retention l) ∙ and-false (leb least_retention R)

  pub zero-is-default : R ≡ 0 → default_retention ≡ made_retention R
  zero-is-default e = sym (ap (λ (b : Bool). cond b default_retention R) (eq-eqb R 0 e))

  pub else-itself : (R ≡ 0 → ⊥) → R ≡ made_retention R
  else-itself n = sym (ap (λ (b : Bool). cond b default_retention R) (ne_eqb R 0 n))
