-- Words of 32 bits, as numbers below 2^32, and strings of bytes as words, the lowest byte first.
use Rattle.std.specs.Prelude.{ℕ, ◌+◌, ◌-◌, ◌*◌, ◌/◌, ◌%◌, ◌^◌, List, [], ◌∷◌, ◌++◌, drop, bit_or, bit_xor}
use Rattle.octets.specs.Numbers.{le, to_le}

-- the places of a state's words
abbrev pub to_fifteen : List ℕ
to_fifteen = 0 ∷ 1 ∷ 2 ∷ 3 ∷ 4 ∷ 5 ∷ 6 ∷ 7 ∷ 8 ∷ 9 ∷ 10 ∷ 11 ∷ 12 ∷ 13 ∷ 14 ∷ 15 ∷ []

-- a + b
unfoldable pub add32 : ℕ → ℕ → ℕ
add32 a b = (a + b) % 2 ^ 32

-- x <<< k = (x << k) ∨ (x >> 32 - k)
unfoldable pub rotl : ℕ → ℕ → ℕ
rotl x k = bit_or (x * 2 ^ k % 2 ^ 32) (x / 2 ^ (32 - k))

-- a ⊕ b, under a name that stays shut
unfoldable pub xor : ℕ → ℕ → ℕ
xor a b = bit_xor a b

-- word i of a string of bytes; a byte past its end counts as 0
abbrev pub word : List ℕ → ℕ → ℕ
word s i = le 4 (drop (4 * i) s)

-- the bytes of some words
unfoldable pub bytes : List ℕ → List ℕ
bytes [] = []
bytes (w ∷ ws) = to_le 4 w ++ bytes ws
