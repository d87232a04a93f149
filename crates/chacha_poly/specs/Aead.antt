-- RFC 8439, sections 2.6 and 2.8, over the number n of double rounds: ChaCha with Poly1305, with a 12-byte nonce, a 16-byte tag and no
-- additional data. ChaCha20 has 10 double rounds, ChaCha12 has 6, ChaCha8 has 4.
use Rattle.std.specs.Prelude.{Bool, ◌≡◌, List, ◌++◌, ℕ, ◌-◌, length, take, drop}
use Rattle.octets.specs.Buffers.{same}
use Rattle.chacha.specs.ChaCha.{key_block, stream}
use Rattle.poly1305.specs.Poly1305.{mac, mac_data}

-- so many bytes at the end of a sealed text are its tag
abbrev pub tag_length : ℕ
tag_length = 16

-- 2.6: the one-time key is the first half of block 0
unfoldable pub one_time_key : ℕ → List ℕ → List ℕ → List ℕ
one_time_key n key nonce = take 32 (key_block n key 0 nonce)

-- 2.8: a text is encrypted with the key stream from block 1 on; the same map decrypts it
unfoldable pub crypt : ℕ → List ℕ → List ℕ → List ℕ → List ℕ
crypt n key nonce s = stream n key 1 nonce s

-- the tag of a ciphertext
unfoldable pub tag : ℕ → List ℕ → List ℕ → List ℕ → List ℕ
tag n key nonce c = mac (one_time_key n key nonce) (mac_data c)

-- the ciphertext and its tag
unfoldable pub seal : ℕ → List ℕ → List ℕ → List ℕ → List ℕ
seal n key nonce p = crypt n key nonce p ++ tag n key nonce (crypt n key nonce p)

-- the two parts of a sealed text
unfoldable pub text_of : List ℕ → List ℕ
text_of s = take (length s - tag_length) s

unfoldable pub tag_of : List ℕ → List ℕ
tag_of s = drop (length s - tag_length) s

-- s is authentic where its last part is the tag of the part before that, so where it has 16 bytes at least
pub record Authentic (n : ℕ) (key nonce s : List ℕ) : Type 0 where
  pub good : tag_of s ≡ tag n key nonce (text_of s)

-- the same, as a test
unfoldable pub authentic : ℕ → List ℕ → List ℕ → List ℕ → Bool
authentic n key nonce s = same (tag n key nonce (text_of s)) (tag_of s)

-- then it opens to this
unfoldable pub opened : ℕ → List ℕ → List ℕ → List ℕ → List ℕ
opened n key nonce s = crypt n key nonce (text_of s)
