-- SP 800-38D, sections 6.1 to 6.3: blocks and their product. A block of 128 bits is the number below 2^128 whose binary
-- digits it is, the first bit highest (the standard's int), so x ⊕ y is bit_xor, x >> 1 is x / 2 and LSB₁(x) is x % 2.
use Rattle.std.specs.Prelude.{ℕ, zero, suc, ◌-◌, ◌*◌, ◌/◌, ◌%◌, ◌^◌}
use Rattle.std.specs.Int.Bits.{bit_xor}

-- the bit xᵢ of the block x₀ x₁ .. x₁₂₇
abbrev pub bit_at : ℕ → ℕ → ℕ
bit_at x i = x / 2 ^ (127 - i) % 2

-- R = 11100001 || 0^120
abbrev pub R : ℕ
R = 0xe1 * 2 ^ 120

-- V >> 1, and ⊕ R where LSB₁(V) is 1
unfoldable pub next : ℕ → ℕ
next v = bit_xor (v / 2) (v % 2 * R)

-- Vᵢ, from V₀ = y
unfoldable pub step_v : ℕ → ℕ → ℕ
step_v y zero = y
step_v y (suc i) = next (step_v y i)

-- Zᵢ, from Z₀ = 0: ⊕ Vᵢ where xᵢ is 1
unfoldable pub step_z : ℕ → ℕ → ℕ → ℕ
step_z x y zero = 0
step_z x y (suc i) = bit_xor (step_z x y i) (bit_at x i * step_v y i)

-- Algorithm 1: x • y
unfoldable pub mul : ℕ → ℕ → ℕ
mul x y = step_z x y 128
