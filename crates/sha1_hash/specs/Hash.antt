-- FIPS 180-4, sections 5.1.1, 5.2.1, 5.3.1 and 6.1: padding, parsing, the initial hash value, and SHA-1.
use Rattle.std.specs.Prelude.{ℕ, zero, suc, ◌-◌, ◌*◌, ◌/◌, ◌%◌, List, ◌∷◌, ◌++◌, length, drop, replicate}
use Rattle.octets.specs.Numbers.{to_be}
use Rattle.sha1_compression.specs.declared.State.{State}
use Rattle.sha1_compression.specs.Schedule.{block_words}
use Rattle.sha1_compression.specs.Compression.{compressed}

-- H(0)
abbrev pub initial_hash : State
initial_hash = record { a = 0x67452301; b = 0xefcdab89; c = 0x98badcfe; d = 0x10325476; e = 0xc3d2e1f0 }

-- how many bytes of zeros stand between the byte 80 and the length: the fewest k for which l + 1 + k is 56 modulo 64
abbrev pub zeros : ℕ → ℕ
zeros l = (119 - l % 64) % 64

-- what is appended to a message of l bytes: a one bit, zeros, and its length in bits, in 64 bits. (The standard has messages of
-- fewer than 2^61 bytes; of a longer one the length is taken modulo 2^64.)
unfoldable pub padding : ℕ → List ℕ
padding l = 0x80 ∷ (replicate (zeros l) 0 ++ to_be 8 (8 * l))

-- the padded message
unfoldable pub padded : List ℕ → List ℕ
padded s = s ++ padding (length s)

-- H(i + n) from H(i) = h and the next n blocks of a padded message
unfoldable pub chain : ℕ → State → List ℕ → State
chain zero h p = h
chain (suc n) h p = chain n (compressed h (block_words p)) (drop 64 p)

-- all its blocks
unfoldable pub all_blocks : State → List ℕ → State
all_blocks h p = chain (length p / 64) h p

-- H0 || H1 || H2 || H3 || H4
unfoldable pub digest_bytes : State → List ℕ
digest_bytes h = to_be 4 h.a ++ (to_be 4 h.b ++ (to_be 4 h.c ++ (to_be 4 h.d ++ to_be 4 h.e)))

-- the message digest, 20 bytes
unfoldable pub sha1 : List ℕ → List ℕ
sha1 s = digest_bytes (all_blocks initial_hash (padded s))
