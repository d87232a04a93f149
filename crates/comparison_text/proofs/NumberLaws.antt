-- Writing a number: its only digit, or its last one behind the others.
-- Assumes nothing.
use mathlib.Core.Path.{sym, ap, subst}
use mathlib.Core.List.{List, [], ◌∷◌, ◌++◌}
use Prim.Native.Nat.{ℕ, ◌+◌, ◌/◌, ◌%◌, ◌≤◌, ◌<◌}
use native.Mathlib.Omega.{arith}
use lib.ListN.{length}
use Rattle.comparison_text.specs.Decimal.{decimal}
use Rattle.recording.specs.Written.{Written}
use Rattle.comparison_text.proofs.DecimalLaws.{one-digit, more-digits}
use Rattle.recording.proofs.WrittenLaws.{also, room, room-behind}

module _ (d : List ℕ) (at n : ℕ) (fits : at + length (decimal n) ≤ length d) where
  pub room-single : n < 10 → at + 1 ≤ length d
  room-single h = omega (arith, fits, ap length (one-digit n h))

  pub put-single : n < 10 → (d₁ : List ℕ) (r : ℕ) → Written d at d₁ r ((48 + n) ∷ []) → Written d at d₁ r (decimal n)
  put-single h d₁ r p = subst (Written d at d₁ r) (sym (one-digit n h)) p

  split : 10 ≤ n → at + length (decimal (n / 10) ++ ((48 + n % 10) ∷ [])) ≤ length d
  split h = subst (λ (s : List ℕ). at + length s ≤ length d) (more-digits n h) fits

  pub room-others : 10 ≤ n → at + length (decimal (n / 10)) ≤ length d
  room-others h = room at (length d) (decimal (n / 10)) ((48 + n % 10) ∷ []) (split h)

  module _ (d₁ : List ℕ) (r : ℕ) (p : Written d at d₁ r (decimal (n / 10))) where
    pub room-last : 10 ≤ n → r + 1 ≤ length d₁
    room-last h = room-behind ((48 + n % 10) ∷ []) p (split h)

    pub put-behind-others : 10 ≤ n → (d₂ : List ℕ) (r₂ : ℕ) → Written d₁ r d₂ r₂ ((48 + n % 10) ∷ []) → Written d at d₂ r₂ (decimal n)
    put-behind-others h d₂ r₂ q = subst (Written d at d₂ r₂) (sym (more-digits n h)) (also p q)
