-- BLAKE3, section 2.2: bytes and words stand for each other in little-endian order.
use Rattle.std.specs.Prelude.{List, [], ◌∷◌, ◌++◌, map, ℕ, drop}
use Rattle.octets.specs.Numbers.{le, to_le}

-- the sixteen words of a block of at most 64 bytes, with zeros behind it
unfoldable pub block_words : List ℕ → List ℕ
block_words s =
    map (λ (i : ℕ). le 4 (drop i s)) (0 ∷ 4 ∷ 8 ∷ 12 ∷ 16 ∷ 20 ∷ 24 ∷ 28 ∷ 32 ∷ 36 ∷ 40 ∷ 44 ∷ 48 ∷ 52 ∷ 56 ∷ 60 ∷ [])

-- the bytes of some words
unfoldable pub word_bytes : List ℕ → List ℕ
word_bytes [] = []
word_bytes (w ∷ ws) = to_le 4 w ++ word_bytes ws
