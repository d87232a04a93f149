-- A circuit of bitwise gates works on each digit apart.
-- Assumes nothing.
use mathlib.Core.Path.{◌≡◌, ap, ap₂, ◌∙◌}
use mathlib.Core.Logic.{◌⊎◌}
use Prim.Native.Nat.{ℕ, suc, ◌/◌, ◌%◌, ◌^◌, ◌<◌}
use native.Mathlib.Nat.{mod-lt, eq-or-lt_of_le, le_of_suc-le-suc}
use lib.Bits.{xor_shr, and_shr, xor_mod, and_mod}
use lib.Dec.{lit<, eqb→eq, eqb}
use Rattle.octets.proofs.Table.{at_each}
use Rattle.aes_tables.specs.SBox.{bit}
use Rattle.aes_circuit.specs.Circuit.{◌⊻◌, ◌⊗◌, top_of, middle_of, inverse_of, products_of, bottom_of, sbox_of, digit_bits, digit_linear, digit_four, digit_nine, digit_ands}
use Rattle.aes_circuit.specs.declared.Bits.{Bits}
use Rattle.aes_circuit.specs.declared.Linear.{Linear}
use Rattle.aes_circuit.specs.declared.Four.{Four}
use Rattle.aes_circuit.specs.declared.Nine.{Nine}
use Rattle.aes_circuit.specs.declared.Ands.{Ands}

-- a number below n + 1 is n, or below n
pub below : (i n : ℕ) → i < suc n → (i ≡ n) ⊎ (i < n)
below i n h = eq-or-lt_of_le (le_of_suc-le-suc h)

-- ---- one gate

pub bit-xor : (a b k : ℕ) → bit (a ⊻ b) k ≡ bit a k ⊻ bit b k
unfolding bit ◌⊻◌
bit-xor a b k = ap (λ (n : ℕ). n % 2) (xor_shr a b k) ∙ xor_mod (a / 2 ^ k) (b / 2 ^ k) 1

pub bit_and : (a b k : ℕ) → bit (a ⊗ b) k ≡ bit a k ⊗ bit b k
unfolding bit ◌⊗◌
bit_and a b k = ap (λ (n : ℕ). n % 2) (and_shr a b k) ∙ and_mod (a / 2 ^ k) (b / 2 ^ k) 1

pub bit-lt : (a k : ℕ) → bit a k < 2
unfolding bit
bit-lt a k = mod-lt (a / 2 ^ k) (lit< tt)

-- every digit below the 32nd
pub bit-ones : (k : ℕ) → k < 32 → bit 0xffffffff k ≡ 1
unfolding bit
bit-ones k h = eqb→eq _ _ (at_each 32 (λ n. eqb (0xffffffff / 2 ^ n % 2) 1) tt k h)

-- ---- the parts of the circuit

top_digit : (x : Bits) (k : ℕ) → digit_linear k (top_of x) ≡ top_of (digit_bits k x)
unfolding top_of digit_bits digit_linear
top_digit x k = simp (bit-xor, bit_and)

middle-digit : (x7 : ℕ) (y : Linear) (k : ℕ) → digit_four k (middle_of x7 y) ≡ middle_of (bit x7 k) (digit_linear k y)
unfolding middle_of digit_four digit_linear
middle-digit x7 y k = simp (bit-xor, bit_and)

inverse-digit : (m : Four) (k : ℕ) → digit_nine k (inverse_of m) ≡ inverse_of (digit_four k m)
unfolding inverse_of digit_four digit_nine
inverse-digit m k = simp (bit-xor, bit_and)

products-digit : (x7 : ℕ) (y : Linear) (i : Nine) (k : ℕ) → digit_ands k (products_of x7 y i) ≡ products_of (bit x7 k) (digit_linear k y) (digit_nine k i)
unfolding products_of digit_ands digit_linear digit_nine
products-digit x7 y i k = simp (bit-xor, bit_and)

bottom-digit : (ones : ℕ) (z : Ands) (k : ℕ) → digit_bits k (bottom_of ones z) ≡ bottom_of (bit ones k) (digit_ands k z)
unfolding bottom_of digit_ands digit_bits
bottom-digit ones z k = simp (bit-xor, bit_and)

-- ---- the whole

pub sbox-digit : (ones : ℕ) (x : Bits) (k : ℕ) → digit_bits k (sbox_of ones x) ≡ sbox_of (bit ones k) (digit_bits k x)
unfolding sbox_of digit_bits
sbox-digit ones x k =
    let y = top_of x in
    let m = middle_of x.x7 y in
    let i = inverse_of m in
    let ey : digit_linear k y ≡ top_of (digit_bits k x) = top_digit x k in
    let em : digit_four k m ≡ middle_of (bit x.x7 k) (top_of (digit_bits k x)) =
    middle-digit x.x7 y k ∙ ap (middle_of (bit x.x7 k)) ey in
    let ei : digit_nine k i ≡ inverse_of (middle_of (bit x.x7 k) (top_of (digit_bits k x))) =
    inverse-digit m k ∙ ap inverse_of em in
    bottom-digit ones (products_of x.x7 y i) k
    ∙ ap (bottom_of (bit ones k))
    (products-digit x.x7 y i k ∙ ap₂ (products_of (bit x.x7 k)) ey ei)
