-- Laws of the numbers that a plan is reckoned from.
-- Assumes nothing.
use mathlib.Core.Path.{◌≡◌, sym, ap, ◌∙◌}
use mathlib.Core.Bool.{Bool, cond}
use Prim.Native.Nat.{ℕ, zero, suc, ◌+◌, ◌-◌, ◌*◌, ◌/◌, ◌≤◌, ◌<◌}
use native.Mathlib.Nat.{div-eq_of_lt-le}
use Rattle.std.specs.Int.{div_ceil}
use Rattle.std.proofs.lemmas.Grind.{div_ceil_times}
use native.Mathlib.Omega.{arith}
use borrow.Author.Tests.{eq-eqb, ne_eqb, le-leb, lt-leb}
use Rattle.plan_pieces.specs.Plans.{fewest, smaller}

-- ---- numbers

pub fewest-none : (n most : ℕ) → n ≡ 0 → 0 ≡ fewest n most
unfolding fewest
fewest-none n most e = sym (ap (λ (b : Bool). cond b 0 ((n - 1) / most + 1)) (eq-eqb n 0 e))

pub fewest-some : (n most : ℕ) → (n ≡ 0 → ⊥) → (n - 1) / most + 1 ≡ fewest n most
unfolding fewest
fewest-some n most f = sym (ap (λ (b : Bool). cond b 0 ((n - 1) / most + 1)) (ne_eqb n 0 f))

-- the quotient rounded up
rounded : (n m q : ℕ) → 0 < n → n ≤ q * m → q * m < n + m → q ≡ (n - 1) / m + 1
rounded n m zero p a b = absurd (omega arith)
rounded n m (suc k) p a b =
    let e : (n - 1) / m ≡ k = div-eq_of_lt-le m (omega arith) (omega arith) in
    omega arith

pub fewest-rounded : (n most : ℕ) → (n ≡ 0 → ⊥) → 0 < most → div_ceil n most ≡ fewest n most
fewest-rounded n most f l =
    let b = div_ceil_times n most l in
    rounded n most (div_ceil n most) (omega arith) b.0 b.1 ∙ fewest-some n most f

pub smaller-first : (a b : ℕ) → a ≤ b → a ≡ smaller a b
smaller-first a b l = sym (ap (λ (t : Bool). cond t a b) (le-leb a b l))

pub smaller-second : (a b : ℕ) → b < a → b ≡ smaller a b
smaller-second a b l = sym (ap (λ (t : Bool). cond t a b) (lt-leb a b l))
