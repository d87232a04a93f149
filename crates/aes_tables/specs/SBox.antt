-- FIPS 197, 5.1.1 and 5.3.2: the substitution of a byte and its inverse.
use Rattle.std.specs.Prelude.{ℕ, zero, suc, ◌+◌, ◌*◌, ◌/◌, ◌%◌, ◌^◌}
use Rattle.aes_tables.specs.Field.{inverse}

unfoldable pub bit : ℕ → ℕ → ℕ
bit b i = b / 2 ^ i % 2

-- the number whose bits are f 0, .., f (n - 1), lowest first, each taken modulo 2
unfoldable pub from_bits : ℕ → (ℕ → ℕ) → ℕ
from_bits zero f = 0
from_bits (suc n) f = from_bits n f + f n % 2 * 2 ^ n

-- the affine map, with the constant {63}
unfoldable pub affine : ℕ → ℕ
affine b = from_bits 8 (λ i. bit b i + bit b ((i + 4) % 8) + bit b ((i + 5) % 8) + bit b ((i + 6) % 8) + bit b ((i + 7) % 8) + bit 0x63 i)

-- the affine map backwards, with the constant {05}
unfoldable pub unaffine : ℕ → ℕ
unaffine b = from_bits 8 (λ i. bit b ((i + 2) % 8) + bit b ((i + 5) % 8) + bit b ((i + 7) % 8) + bit 0x05 i)

-- SBOX: the inverse in the field, then the affine map
unfoldable pub s_box : ℕ → ℕ
s_box b = affine (inverse b)

-- INVSBOX
unfoldable pub inv_sbox : ℕ → ℕ
inv_sbox b = inverse (unaffine b)
