-- The product is linear: V's step and the product go through ⊕.
-- Assumes nothing.
use mathlib.Core.Path.{◌≡◌, refl, sym, ap, ap₂, ◌∙◌}
use Prim.Native.Nat.{ℕ, zero, suc, ◌-◌, ◌*◌, ◌/◌, ◌%◌, ◌^◌, ◌<◌}
use native.Mathlib.Nat.{zero-mul, one-mul}
use native.Mathlib.Omega.{arith}
use lib.Bits.{bit_xor, xor_self, xor_shr}
use Rattle.octets.proofs.XorLaws.{digit_lt, xor-parity, xor-medial, differ-mul}
use Rattle.ghash.specs.Field.{bit_at, R, next, step_v, step_z, mul}

-- ---- what is linear, at zero and at a digit's multiple

module _ (f : ℕ → ℕ) (linear : (v w : ℕ) → f (bit_xor v w) ≡ bit_xor (f v) (f w)) where
  pub linear-zero : f 0 ≡ 0
  linear-zero = linear 0 0 ∙ xor_self (f 0)

  pub linear-digit : (b v : ℕ) → b < 2 → f (b * v) ≡ b * f v
  linear-digit zero v h = ap f (zero-mul v) ∙ linear-zero ∙ sym (zero-mul (f v))
  linear-digit (suc zero) v h = ap f (one-mul v) ∙ sym (one-mul (f v))
  linear-digit (suc (suc b)) v h = absurd (omega arith)

-- ---- V's step

pub next-xor : (v w : ℕ) → next (bit_xor v w) ≡ bit_xor (next v) (next w)
unfolding next
next-xor v w =
    ap₂ bit_xor (xor_shr v w 1) (ap (λ (b : ℕ). b * R) (xor-parity v w) ∙ differ-mul (v % 2) (w % 2) R (digit_lt v) (digit_lt w))
    ∙ xor-medial (v / 2) (w / 2) (v % 2 * R) (w % 2 * R)

pub next-zero : next 0 ≡ 0
next-zero = linear-zero next next-xor

pub next-digit : (b v : ℕ) → b < 2 → next (b * v) ≡ b * next v
next-digit = linear-digit next next-xor

-- ---- the product, in its first factor

pub bit-lt : (x i : ℕ) → bit_at x i < 2
bit-lt x i = digit_lt (x / 2 ^ (127 - i))

step_z-xor : (x y z n : ℕ) → step_z (bit_xor x y) z n ≡ bit_xor (step_z x z n) (step_z y z n)
unfolding step_z
step_z-xor x y z zero = refl
step_z-xor x y z (suc n) =
    ap₂ bit_xor (step_z-xor x y z n)
    (ap (λ (b : ℕ). b % 2 * step_v z n) (xor_shr x y (127 - n))
    ∙ ap (λ (b : ℕ). b * step_v z n) (xor-parity (x / 2 ^ (127 - n)) (y / 2 ^ (127 - n)))
    ∙ differ-mul (bit_at x n) (bit_at y n) (step_v z n) (bit-lt x n) (bit-lt y n))
    ∙ xor-medial (step_z x z n) (step_z y z n) (bit_at x n * step_v z n) (bit_at y n * step_v z n)

pub mul-xor-left : (x y z : ℕ) → mul (bit_xor x y) z ≡ bit_xor (mul x z) (mul y z)
unfolding mul
mul-xor-left x y z = step_z-xor x y z 128

pub mul-zero-left : (y : ℕ) → mul 0 y ≡ 0
mul-zero-left y = linear-zero (λ (x : ℕ). mul x y) (λ v w. mul-xor-left v w y)

-- ---- the product, in its second factor

-- what is linear and goes through V's step goes through the product
module _ (f : ℕ → ℕ) (linear : (v w : ℕ) → f (bit_xor v w) ≡ bit_xor (f v) (f w)) (step : (v : ℕ) → f (next v) ≡ next (f v)) where
  linear-step_v : (y n : ℕ) → f (step_v y n) ≡ step_v (f y) n
  unfolding step_v
  linear-step_v y zero = refl
  linear-step_v y (suc n) = step (step_v y n) ∙ ap next (linear-step_v y n)

  linear-step_z : (x y n : ℕ) → f (step_z x y n) ≡ step_z x (f y) n
  unfolding step_z
  linear-step_z x y zero = linear-zero f linear
  linear-step_z x y (suc n) =
      linear (step_z x y n) (bit_at x n * step_v y n)
      ∙ ap₂ bit_xor (linear-step_z x y n)
      (linear-digit f linear (bit_at x n) (step_v y n) (bit-lt x n) ∙ ap (λ (v : ℕ). bit_at x n * v) (linear-step_v y n))

  pub linear-mul : (x y : ℕ) → f (mul x y) ≡ mul x (f y)
  unfolding mul
  linear-mul x y = linear-step_z x y 128
