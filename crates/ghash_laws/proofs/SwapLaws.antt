-- The product is linear in its second factor, and two products may change places.
-- Assumes nothing.
use mathlib.Core.Path.{◌≡◌, refl, sym, ap, ap₂, ◌∙◌}
use Prim.Native.Nat.{ℕ, zero, suc, ◌*◌}
use Rattle.octets.proofs.XorLaws.{mul-xor, xor-medial}
use Rattle.ghash.specs.Field.{bit_at, next, step_v, step_z, mul}
use Rattle.ghash.proofs.FieldLaws.{linear-mul, next-xor, bit-lt}
use Rattle.ghash_laws.specs.Laws.{◌⊕◌, ◌•◌}

step_v-xor : (y z n : ℕ) → step_v (y ⊕ z) n ≡ step_v y n ⊕ step_v z n
unfolding step_v
step_v-xor y z zero = refl
step_v-xor y z (suc n) = ap next (step_v-xor y z n) ∙ next-xor (step_v y n) (step_v z n)

step_z-xor : (x y z n : ℕ) → step_z x (y ⊕ z) n ≡ step_z x y n ⊕ step_z x z n
unfolding step_z
step_z-xor x y z zero = refl
step_z-xor x y z (suc n) =
    ap₂ ◌⊕◌ (step_z-xor x y z n)
    (ap (λ (v : ℕ). bit_at x n * v) (step_v-xor y z n) ∙ mul-xor (bit_at x n) (step_v y n) (step_v z n) (bit-lt x n))
    ∙ xor-medial (step_z x y n) (step_z x z n) (bit_at x n * step_v y n) (bit_at x n * step_v z n)

pub mul-xor-right : (x y z : ℕ) → x • (y ⊕ z) ≡ x • y ⊕ x • z
unfolding mul
mul-xor-right x y z = step_z-xor x y z 128

-- V's step is linear and goes through itself, so it goes through the product
mul_next : (x y : ℕ) → x • next y ≡ next (x • y)
mul_next x y = sym (linear-mul next next-xor (λ v. refl) x y)

-- and so is the product with x
pub mul-swap : (x y z : ℕ) → x • (y • z) ≡ y • (x • z)
mul-swap x = linear-mul (λ (v : ℕ). x • v) (mul-xor-right x) (mul_next x)
