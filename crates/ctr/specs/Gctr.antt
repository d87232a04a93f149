-- SP 800-38D, sections 6.2 and 6.5: the counter and GCTR. A block of 128 bits is the number below 2^128 whose binary digits
-- it is, the first bit highest; its bytes are to_be 16 of it.
use Rattle.std.specs.Prelude.{ℕ, zero, suc, ◌+◌, ◌*◌, ◌/◌, ◌%◌, ◌^◌, cond, List, [], ◌++◌, map, length, take, drop}
use Rattle.octets.specs.Buffers.{block_count, ◌⊞◌}
use Rattle.octets.specs.Numbers.{be, to_be}
use Rattle.aes.specs.Cipher.{cipher}
use Rattle.aes.specs.Words.{bytes}
use Rattle.aes.specs.KeyExpansion.{aes}
use Rattle.aes.specs.Keyed.{nk_of, lawful}

-- 6.2: the low 32 bits go up by one, modulo 2^32
unfoldable pub inc32 : ℕ → ℕ
inc32 x = x / 2 ^ 32 * 2 ^ 32 + (x % 2 ^ 32 + 1) % 2 ^ 32

-- 6.5, Algorithm 3: n blocks of s, the last of which may be short, from the counter block cb on. ciph gives the bytes of
-- CIPH_K
unfoldable pub gctr_blocks : (ℕ → List ℕ) → ℕ → ℕ → List ℕ → List ℕ
gctr_blocks ciph zero cb s = []
gctr_blocks ciph (suc n) cb s = (take 16 s ⊞ ciph cb) ++ gctr_blocks ciph n (inc32 cb) (drop 16 s)

unfoldable pub gctr : (ℕ → List ℕ) → ℕ → List ℕ → List ℕ
gctr ciph icb s = gctr_blocks ciph (block_count s) icb s

-- CIPH_K for AES at the words of an expanded key, and under the key
abbrev pub ciph_at : ℕ → List ℕ → ℕ → List ℕ
ciph_at rounds w x = cipher rounds (map bytes w) (to_be 16 x)

unfoldable pub aes_block : ℕ → List ℕ → ℕ → List ℕ
aes_block nk key x = aes nk key (to_be 16 x)

-- the counter block of a 12-byte nonce and a 32-bit counter
unfoldable pub counter_block : List ℕ → ℕ → ℕ
counter_block nonce c = be 12 nonce * 2 ^ 32 + c

-- AES in counter mode, from the counter c on; s as it was where key or nonce has a wrong length
unfoldable pub aes_ctr : List ℕ → List ℕ → ℕ → List ℕ → List ℕ
aes_ctr key nonce c s = cond (lawful 12 key nonce) (gctr (aes_block (nk_of (length key)) key) (counter_block nonce c) s) s
