-- A product with a block is a block.
-- Assumes nothing.
use Prim.Native.Nat.{ℕ, zero, suc, ◌*◌, ◌/◌, ◌%◌}
use native.Mathlib.Nat.{lt_of_le_of_lt, div-le_self}
use lib.Bits.{xor_lt}
use lib.Dec.{lit<}
use lib.Pow.{pow_pos}
use Rattle.octets.proofs.XorLaws.{digit_lt, digit-mul-le}
use Rattle.ghash.specs.Field.{bit_at, R, next, step_v, step_z, mul}
use Rattle.ghash.proofs.FieldLaws.{bit-lt}
use Rattle.ghash_laws.specs.Laws.{Block, ◌•◌}

next-block : (v : ℕ) → Block v → Block (next v)
unfolding next
next-block v h =
    xor_lt 128 (v / 2) (v % 2 * R) (lt_of_le_of_lt (div-le_self v 2) h)
    (lt_of_le_of_lt (digit-mul-le (v % 2) R (digit_lt v)) (lit< tt))

module _ (y : ℕ) (block : Block y) where
  step_v-block : (n : ℕ) → Block (step_v y n)
  unfolding step_v
  step_v-block zero = block
  step_v-block (suc n) = next-block (step_v y n) (step_v-block n)

  step_z-block : (x n : ℕ) → Block (step_z x y n)
  unfolding step_z
  step_z-block x zero = pow_pos 128
  step_z-block x (suc n) =
      xor_lt 128 (step_z x y n) (bit_at x n * step_v y n) (step_z-block x n)
      (lt_of_le_of_lt (digit-mul-le (bit_at x n) (step_v y n) (bit-lt x n)) (step_v-block n))

  pub mul-block : (x : ℕ) → Block (x • y)
  unfolding mul
  mul-block x = step_z-block x 128
