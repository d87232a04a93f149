-- RFC 2104, section 2: HMAC, with SHA-1 for H, so that B is 64 and L is 20.
use Rattle.std.specs.Prelude.{cond, List, ◌++◌, ℕ, ◌+◌, ◌-◌, leb, length, replicate}
use Rattle.octets.specs.Buffers.{◌⊞◌}
use Rattle.sha1_hash.specs.Hash.{initial_hash, padding, all_blocks, digest_bytes, sha1}
use Rattle.hmac.specs.declared.Keyed.{Keyed}

-- the byte 36 repeated B times, and the byte 5C repeated B times
abbrev pub ipad : List ℕ
ipad = replicate 64 0x36

abbrev pub opad : List ℕ
opad = replicate 64 0x5c

-- a key longer than B bytes is hashed first
unfoldable pub short_key : List ℕ → List ℕ
short_key k = cond (leb (length k) 64) k (sha1 k)

-- zeros appended to the end of K to create a string of B bytes
unfoldable pub block_key : List ℕ → List ℕ
block_key k = k ++ replicate (64 - length k) 0

-- H(K XOR opad, H(K XOR ipad, text)) for a key of at most B bytes
unfoldable pub hmac_short : List ℕ → List ℕ → List ℕ
hmac_short k text = sha1 ((block_key k ⊞ opad) ++ sha1 ((block_key k ⊞ ipad) ++ text))

-- HMAC
unfoldable pub hmac : List ℕ → List ℕ → List ℕ
hmac k text = hmac_short (short_key k) text

-- ---- section 4: the hash values after the first blocks, which depend on the key alone

unfoldable pub keyed_short : List ℕ → Keyed
keyed_short k = record { inner = all_blocks initial_hash (block_key k ⊞ ipad); outer = all_blocks initial_hash (block_key k ⊞ opad) }

unfoldable pub keyed_of : List ℕ → Keyed
keyed_of k = keyed_short (short_key k)

-- H of the block behind the hash value inner and the text, and H of the block behind outer and that
unfoldable pub inner_hash : Keyed → List ℕ → List ℕ
inner_hash k text = digest_bytes (all_blocks k.inner (text ++ padding (64 + length text)))

unfoldable pub mac_with : Keyed → List ℕ → List ℕ
mac_with k text = digest_bytes (all_blocks k.outer (inner_hash k text ++ padding (64 + length (inner_hash k text))))
