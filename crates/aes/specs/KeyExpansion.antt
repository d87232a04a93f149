-- FIPS 197, section 5.2: the key expansion. Nk, the key's length in words, is 4, 6 or 8, and Nr, the number of rounds, Nk + 6.
use Rattle.std.specs.Prelude.{cond, List, [], ◌∷◌, ◌++◌, map, ℕ, zero, suc, ◌+◌, ◌-◌, ◌*◌, ◌/◌, ◌%◌, eqb, ltb, get_or, take, drop}
use Rattle.octets.specs.Buffers.{◌⊞◌}
use Rattle.aes_tables.specs.Field.{x_times}
use Rattle.aes_tables.specs.SBox.{s_box}
use Rattle.aes.specs.Cipher.{word, cipher}

-- ROTWORD
unfoldable pub rot_word : List ℕ → List ℕ
rot_word w = drop 1 w ++ take 1 w

-- SUBWORD
unfoldable pub sub_word : List ℕ → List ℕ
sub_word = map s_box

-- x^n in GF(2^8)
unfoldable pub x_power : ℕ → ℕ
x_power zero = 1
x_power (suc n) = x_times (x_power n)

-- Rcon[j]: x^(j-1) and three zeros
unfoldable pub rcon : ℕ → List ℕ
rcon j = x_power (j - 1) ∷ 0 ∷ 0 ∷ 0 ∷ []

-- temp of Algorithm 2: what is added to w[i - Nk], from w[i - 1]
unfoldable pub temp : ℕ → ℕ → List ℕ → List ℕ
temp nk i t = cond (eqb (i % nk) 0) (sub_word (rot_word t) ⊞ rcon (i / nk)) (cond (ltb 6 nk) (cond (eqb (i % nk) 4) (sub_word t) t) t)

-- the first n words of the key
unfoldable pub key_words : List ℕ → ℕ → List (List ℕ)
key_words key zero = []
key_words key (suc i) =
    key_words key i ++ (get_or key (4 * i) 0 ∷ get_or key (4 * i + 1) 0 ∷ get_or key (4 * i + 2) 0 ∷ get_or key (4 * i + 3) 0 ∷ []) ∷ []

-- the key's Nk words and n more
unfoldable pub expanded : ℕ → List ℕ → ℕ → List (List ℕ)
expanded nk key zero = key_words key nk
expanded nk key (suc n) = let w = expanded nk key n in w ++ (word w n ⊞ temp nk (nk + n) (word w (nk + n - 1))) ∷ []

-- KEYEXPANSION(key): 4 * (Nr + 1) words
unfoldable pub key_expansion : ℕ → List ℕ → List (List ℕ)
key_expansion nk key = expanded nk key (3 * nk + 28)

-- AES-128, AES-192 and AES-256 at Nk 4, 6 and 8
unfoldable pub aes : ℕ → List ℕ → List ℕ → List ℕ
aes nk key = cipher (nk + 6) (key_expansion nk key)
