-- FIPS 180-4, sections 2.2.2, 3.2, 4.1.1 and 4.2.1: operations on words of 32 bits, which are numbers below 2^32, and the
-- functions and constants of SHA-1.
use Rattle.std.specs.Prelude.{ℕ, ◌-◌, ◌*◌, ◌/◌, ◌%◌, ◌^◌, cond, bit_and, bit_or, bit_xor, nat_lt}

-- ROTLⁿ(x) = (x << n) ∨ (x >> 32 - n)
unfoldable pub ROTL : ℕ → ℕ → ℕ
ROTL n x = bit_or (x * 2 ^ n % 2 ^ 32) (x / 2 ^ (32 - n))

-- (x ∧ y) ⊕ (¬x ∧ z)
unfoldable pub Ch : ℕ → ℕ → ℕ → ℕ
Ch x y z = bit_xor (bit_and x y) (bit_and (2 ^ 32 - 1 - x) z)

-- x ⊕ y ⊕ z
unfoldable pub Parity : ℕ → ℕ → ℕ → ℕ
Parity x y z = bit_xor (bit_xor x y) z

-- (x ∧ y) ⊕ (x ∧ z) ⊕ (y ∧ z)
unfoldable pub Maj : ℕ → ℕ → ℕ → ℕ
Maj x y z = bit_xor (bit_xor (bit_and x y) (bit_and x z)) (bit_and y z)

-- one of four by t: the first for t up to 19, the second for 20 to 39, the third for 40 to 59, the fourth from 60 on
unfoldable pub of_twenty : ℕ → ℕ → ℕ → ℕ → ℕ → ℕ
of_twenty t p q r v = cond (nat_lt t 20) p (cond (nat_lt t 40) q (cond (nat_lt t 60) r v))

-- fₜ
unfoldable pub f : ℕ → ℕ → ℕ → ℕ → ℕ
f t x y z = of_twenty t (Ch x y z) (Parity x y z) (Maj x y z) (Parity x y z)

-- Kₜ
unfoldable pub K : ℕ → ℕ
K t = of_twenty t 0x5a827999 0x6ed9eba1 0x8f1bbcdc 0xca62c1d6
