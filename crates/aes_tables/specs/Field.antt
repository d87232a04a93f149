-- FIPS 197, section 4: arithmetic in GF(2^8). A byte is a number below 256, its bit i the coefficient of x^i.
use Rattle.std.specs.Prelude.{ℕ, zero, suc, ◌*◌, ◌/◌, ◌%◌}
use Rattle.std.specs.Int.Bits.{bit_xor}

infixl 68 ◌⊕◌
infixl 70 ◌•◌
-- 4.1: the sum of two bytes
abbrev pub ◌⊕◌ : ℕ → ℕ → ℕ
◌⊕◌ = bit_xor

-- 4.2, XTIMES: {02} • b, reduced by x^8 + x^4 + x^3 + x + 1
unfoldable pub x_times : ℕ → ℕ
x_times b = b * 2 % 256 ⊕ b / 128 * 0x1b

-- the sum of b • x^i over the set bits i of a, of which the n lowest are looked at
unfoldable pub times : ℕ → ℕ → ℕ → ℕ
times zero a b = 0
times (suc n) a b = a % 2 * b ⊕ times n (a / 2) (x_times b)

-- 4.2: the product of two bytes
unfoldable pub ◌•◌ : ℕ → ℕ → ℕ
◌•◌ = times 8

unfoldable pub square : ℕ → ℕ
square b = b • b

-- b^2 • b^4 • .. • b^(2^n)
unfoldable pub powers : ℕ → ℕ → ℕ
powers zero b = 1
powers (suc n) b = square b • powers n (square b)

-- 4.4: the multiplicative inverse, b^254; that of {00} is {00}
unfoldable pub inverse : ℕ → ℕ
inverse = powers 7
