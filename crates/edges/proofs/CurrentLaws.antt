-- When a record of `records` is current, case by case: what docs/PROVING.md named of its first proof. Assumes nothing.
use Prim.Native.Nat.{ℕ, ◌+◌, ◌-◌, ◌<◌, ◌≤◌}
use native.Mathlib.Omega.{arith}
use mathlib.Core.Bool.{Bool, true, false, not, ◌&&◌}
use mathlib.Core.Path.{◌≡◌, refl, sym, ap, ◌∙◌}
use lib.Dec.{leb, eqb}
use borrow.Author.Tests.{eq-eqb, ne_eqb, le-leb, lt-leb, leb-true, leb-false}
use Rattle.records.specs.Records.{current}

-- past x by at most k is at most x + k
pub leb-moved : (n x k : ℕ) → x < n → leb (n - x) k ≡ leb n (x + k)
leb-moved n x k l = go (leb (n - x) k) refl
  where
    go : (b : Bool) → leb (n - x) k ≡ b → leb (n - x) k ≡ leb n (x + k)
    go true e = e ∙ sym (le-leb n (x + k) (omega (arith, leb-true (n - x) k e)))
    go false e = e ∙ sym (lt-leb n (x + k) (omega (arith, leb-false (n - x) k e)))

module _ (span clock used time : ℕ) where
  pub unused : used ≡ 0 → false ≡ current span clock used time
  unused e = sym (ap (λ (b : Bool). not b && leb clock (time + span)) (eq-eqb used 0 e))

  pub in_use : (used ≡ 0 → ⊥) → current span clock used time ≡ leb clock (time + span)
  in_use n = ap (λ (b : Bool). not b && leb clock (time + span)) (ne_eqb used 0 n)

  pub before : (used ≡ 0 → ⊥) → clock ≤ time → true ≡ current span clock used time
  before n l = sym (in_use n ∙ le-leb clock (time + span) (omega arith))

  pub past : (used ≡ 0 → ⊥) → time < clock → leb (clock - time) span ≡ current span clock used time
  past n l = leb-moved clock time span l ∙ sym (in_use n)
