-- Byte strings: what is written into a buffer, exclusive or, comparison.
use Rattle.std.specs.Prelude.{Bool, true, false, ◌&&◌, List, [], ◌∷◌, ◌++◌, ℕ, ◌+◌, ◌/◌, ◌<◌, eqb, length, get_or, take, drop}
use Rattle.std.specs.Int.Bits.{bit_xor}

infixl 60 ◌⊞◌
-- s is made of bytes
pub record Octets (s : List ℕ) : Type 0 where
  pub octet : (i : ℕ) → get_or s i 0 < 256

-- the buffer d with s in it from the place `at` on
unfoldable pub put : List ℕ → ℕ → List ℕ → List ℕ
put d at s = take at d ++ s ++ drop (at + length s) d

-- s ⊞ k, byte by byte: as long as s, with zeros for the bytes that k lacks
unfoldable pub ◌⊞◌ : List ℕ → List ℕ → List ℕ
[] ⊞ k = []
(a ∷ s) ⊞ [] = a ∷ s
(a ∷ s) ⊞ (b ∷ k) = bit_xor a b ∷ (s ⊞ k)

-- how many blocks of 16 bytes hold s, the last of which may be short
abbrev pub block_count : List ℕ → ℕ
block_count s = (length s + 15) / 16

-- s and t are the same string
unfoldable pub same : List ℕ → List ℕ → Bool
same [] [] = true
same [] (b ∷ t) = false
same (a ∷ s) [] = false
same (a ∷ s) (b ∷ t) = eqb a b && same s t
