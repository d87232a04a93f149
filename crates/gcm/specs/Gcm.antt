-- SP 800-38D, section 7: authenticated encryption and decryption, for a 12-byte IV (the nonce), a 16-byte tag and no
-- additional data. ciph gives the bytes of CIPH_K; a block is the number below 2^128 whose binary digits it is.
use Rattle.std.specs.Prelude.{◌≡◌, List, [], ◌∷◌, ◌++◌, ℕ, ◌-◌, ◌*◌, length, take, drop}
use Rattle.octets.specs.Numbers.{be, to_be}
use Rattle.ghash.specs.Ghash.{blocks, ghash}
use Rattle.ctr.specs.Gctr.{inc32, gctr, counter_block}

-- H = CIPH_K(0^128)
unfoldable pub hash_key : (ℕ → List ℕ) → ℕ
hash_key ciph = be 16 (ciph 0)

-- J₀ = IV || 0^31 1
unfoldable pub j0 : List ℕ → ℕ
j0 nonce = counter_block nonce 1

-- S = GHASH_H(C || 0^u || [0]64 || [len(C)]64)
unfoldable pub hashed : ℕ → List ℕ → ℕ
hashed h c = ghash h (blocks c ++ 8 * length c ∷ [])

-- T = GCTR_K(J₀, S)
unfoldable pub tag : (ℕ → List ℕ) → List ℕ → List ℕ → List ℕ
tag ciph nonce c = gctr ciph (j0 nonce) (to_be 16 (hashed (hash_key ciph) c))

-- C = GCTR_K(inc32(J₀), P); the same map takes C to P
unfoldable pub crypt : (ℕ → List ℕ) → List ℕ → List ℕ → List ℕ
crypt ciph nonce s = gctr ciph (inc32 (j0 nonce)) s

-- 7.1, Algorithm 4: C || T
unfoldable pub seal : (ℕ → List ℕ) → List ℕ → List ℕ → List ℕ
seal ciph nonce p = crypt ciph nonce p ++ tag ciph nonce (crypt ciph nonce p)

-- so many bytes at the end of a sealed text are its tag
abbrev pub tag_length : ℕ
tag_length = 16

-- the C and the T of C || T
unfoldable pub text_of : List ℕ → List ℕ
text_of s = take (length s - tag_length) s

unfoldable pub tag_of : List ℕ → List ℕ
tag_of s = drop (length s - tag_length) s

-- 7.2, Algorithm 5: C || T is authentic where T is the tag of C, so where it has 16 bytes at least, and then it opens to P
pub record Authentic (ciph : ℕ → List ℕ) (nonce s : List ℕ) : Type 0 where
  pub good : tag_of s ≡ tag ciph nonce (text_of s)

unfoldable pub opened : (ℕ → List ℕ) → List ℕ → List ℕ → List ℕ
opened ciph nonce s = crypt ciph nonce (text_of s)
