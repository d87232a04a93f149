-- SP 800-38D, section 6.4: GHASH.
use Rattle.std.specs.Prelude.{List, [], ◌∷◌, ℕ, zero, suc, drop}
use Rattle.std.specs.Int.Bits.{bit_xor}
use Rattle.octets.specs.Buffers.{block_count}
use Rattle.octets.specs.Numbers.{be}
use Rattle.ghash.specs.Field.{mul}

-- the first n blocks of a byte string, zeros standing for the bytes past its end
unfoldable pub first_blocks : ℕ → List ℕ → List ℕ
first_blocks zero s = []
first_blocks (suc n) s = be 16 s ∷ first_blocks n (drop 16 s)

-- s || 0^u, as blocks
unfoldable pub blocks : List ℕ → List ℕ
blocks s = first_blocks (block_count s) s

-- Algorithm 2: Yᵢ = (Yᵢ₋₁ ⊕ Xᵢ) • H, from Y₀ = y
unfoldable pub ghash_from : ℕ → ℕ → List ℕ → ℕ
ghash_from h y [] = y
ghash_from h y (x ∷ xs) = ghash_from h (mul (bit_xor y x) h) xs

-- GHASH_H
unfoldable pub ghash : ℕ → List ℕ → ℕ
ghash h xs = ghash_from h 0 xs
