-- RFC 8439, section 2.5: Poly1305; and what the tag of section 2.8 is made of. A byte past the end of a string counts as 0.
use Rattle.std.specs.Prelude.{List, [], ◌∷◌, ◌++◌, ℕ, zero, suc, ◌+◌, ◌-◌, ◌*◌, ◌%◌, ◌^◌, length, take, drop, replicate}
use Rattle.std.specs.Int.Bits.{bit_and}
use Rattle.octets.specs.Buffers.{block_count}
use Rattle.octets.specs.Numbers.{le, to_le}

-- P, under a name that stays shut: omega takes no number of 40 digits
unfoldable pub prime : ℕ
prime = 2 ^ 130 - 5

unfoldable pub mod_p : ℕ → ℕ
mod_p x = x % prime

-- a block of at most 16 bytes as a number, with one bit beyond its bytes
unfoldable pub block_number : List ℕ → ℕ
block_number s = le 17 (s ++ 1 ∷ [])

-- the accumulator after n blocks of 16 bytes, the last of which may be shorter: a = (a + block) * r mod P
unfoldable pub poly_from : ℕ → ℕ → ℕ → List ℕ → ℕ
poly_from zero r a s = a
poly_from (suc n) r a s = poly_from n r (mod_p ((a + block_number (take 16 s)) * r)) (drop 16 s)

-- the accumulator after a message
unfoldable pub poly : ℕ → List ℕ → ℕ
poly r s = poly_from (block_count s) r 0 s

-- r is the first half of the one-time key with 22 bits cleared
unfoldable pub clamp : ℕ → ℕ
clamp x = bit_and x 0x0ffffffc0ffffffc0ffffffc0fffffff

-- the tag of a message under a one-time key of 32 bytes: the 16 low bytes of the accumulator plus s, the key's second half
unfoldable pub mac : List ℕ → List ℕ → List ℕ
mac key m = to_le 16 (poly (clamp (le 16 key)) m + le 16 (drop 16 key))

-- ---- section 2.8

-- at most 16 bytes, with zeros up to 16
unfoldable pub zero_padded : List ℕ → List ℕ
zero_padded s = s ++ replicate (16 - length s) 0

-- a string and pad16 of it: zeros up to a multiple of 16 bytes
unfoldable pub padded : List ℕ → List ℕ
padded s = s ++ replicate ((16 - length s % 16) % 16) 0

-- the length of the additional data, of which there are none, and that of the ciphertext
unfoldable pub lengths : ℕ → List ℕ
lengths n = to_le 8 0 ++ to_le 8 n

-- what the tag of a ciphertext is made of
unfoldable pub mac_data : List ℕ → List ℕ
mac_data c = padded c ++ lengths (length c)
