-- The product in GF(2^8): products of bytes are bytes, and it is linear.
-- Assumes nothing.
use mathlib.Core.Path.{◌≡◌, refl, sym, ap, ap₂, ◌∙◌}
use Prim.Native.Nat.{ℕ, zero, suc, ◌*◌, ◌/◌, ◌%◌, ◌<◌}
use native.Mathlib.Nat.{add-zero, lt_of_le_of_lt}
use native.Mathlib.Omega.{arith}
use lib.Bits.{bit_xor, differ, xor_shr, xor_mod, xor_block, xor_lt}
use lib.Dec.{lit<}
use Rattle.octets.proofs.XorLaws.{digit_lt, digit-mul-le, differ-mul, mul-xor, xor-medial}
use Rattle.aes_tables.specs.Field.{◌⊕◌, x_times, times, ◌•◌, square, powers, inverse}

-- ---- products of bytes are bytes

pub x_times-lt : (x : ℕ) → x < 256 → x_times x < 256
unfolding x_times
x_times-lt x h = xor_lt 8 (x * 2 % 256) (x / 128 * 0x1b) (omega arith) (omega arith)

times-lt : (n a x : ℕ) → x < 256 → times n a x < 256
unfolding times
times-lt zero a x h = lit< tt
times-lt (suc n) a x h =
    xor_lt 8 (a % 2 * x) (times n (a / 2) (x_times x)) (lt_of_le_of_lt (digit-mul-le (a % 2) x (digit_lt a)) h) (times-lt n (a / 2) (x_times x) (x_times-lt x h))

pub product_lt : (a x : ℕ) → x < 256 → a • x < 256
unfolding ◌•◌
product_lt a x h = times-lt 8 a x h

powers-lt : (n x : ℕ) → x < 256 → powers n x < 256
unfolding powers square
powers-lt zero x h = lit< tt
powers-lt (suc n) x h = product_lt (x • x) (powers n (x • x)) (powers-lt n (x • x) (product_lt x x h))

pub inverse-lt : (x : ℕ) → x < 256 → inverse x < 256
unfolding inverse
inverse-lt x h = powers-lt 7 x h

-- ---- the product is linear

doubled : (x y : ℕ) → (x ⊕ y) * 2 ≡ x * 2 ⊕ y * 2
doubled x y =
    sym (ap₂ bit_xor (sym (add-zero (x * 2))) (sym (add-zero (y * 2))) ∙ xor_block 1 x y 0 0 (lit< tt) (lit< tt) ∙ add-zero ((x ⊕ y) * 2))

-- the sum of two digits, each 0 or 1, is the digit that differs
digit-sum : (p q : ℕ) → p < 2 → q < 2 → p ⊕ q ≡ differ p q
digit-sum zero q hp hq = refl
digit-sum (suc zero) zero hp hq = refl
digit-sum (suc zero) (suc zero) hp hq = refl
digit-sum (suc zero) (suc (suc q)) hp hq = absurd (omega arith)
digit-sum (suc (suc p)) q hp hq = absurd (omega arith)

reduced : (p q : ℕ) → p < 2 → q < 2 → (p ⊕ q) * 0x1b ≡ p * 0x1b ⊕ q * 0x1b
reduced p q hp hq = ap (λ (d : ℕ). d * 0x1b) (digit-sum p q hp hq) ∙ differ-mul p q 0x1b hp hq

x_times-linear : (x y : ℕ) → x < 256 → y < 256 → x_times (x ⊕ y) ≡ x_times x ⊕ x_times y
unfolding x_times
x_times-linear x y hx hy =
    ap₂ bit_xor
    (ap (λ (n : ℕ). n % 256) (doubled x y) ∙ xor_mod (x * 2) (y * 2) 8)
    (ap (λ (n : ℕ). n * 0x1b) (xor_shr x y 7) ∙ reduced (x / 128) (y / 128) (omega arith) (omega arith))
    ∙ xor-medial (x * 2 % 256) (y * 2 % 256) (x / 128 * 0x1b) (y / 128 * 0x1b)

times-linear : (n a x y : ℕ) → x < 256 → y < 256 → times n a (x ⊕ y) ≡ times n a x ⊕ times n a y
unfolding times
times-linear zero a x y hx hy = refl
times-linear (suc n) a x y hx hy =
    ap₂ bit_xor (mul-xor (a % 2) x y (digit_lt a))
    (ap (times n (a / 2)) (x_times-linear x y hx hy) ∙ times-linear n (a / 2) (x_times x) (x_times y) (x_times-lt x hx) (x_times-lt y hy))
    ∙ xor-medial (a % 2 * x) (a % 2 * y) (times n (a / 2) (x_times x)) (times n (a / 2) (x_times y))

-- a • (x ⊕ y) = a • x ⊕ a • y
pub product-linear : (a x y : ℕ) → x < 256 → y < 256 → a • (x ⊕ y) ≡ a • x ⊕ a • y
unfolding ◌•◌
product-linear a x y hx hy = times-linear 8 a x y hx hy
