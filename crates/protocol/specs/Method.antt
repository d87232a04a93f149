-- SIP022, sections 2 and 4: the methods, by the numbers that the host gives them. Key length, salt length, rounds and cipher are
-- written here once.
use Rattle.std.specs.Prelude.{Bool, false, cond, List, [], ◌∷◌, ℕ, ◌/◌, eqb, None, Option, Some}
use Rattle.protocol.specs.declared.Cipher.{Cipher}
use Rattle.protocol.specs.declared.Cipher.TheVariants.{AesGcm, ChaChaPoly}
use Rattle.protocol.specs.declared.Method.{Method}

-- 2022-blake3-aes-128-gcm
abbrev pub aes128 : Method
aes128 = record { number = 1; key = 16; salt = 16; rounds = 10; cipher = AesGcm }

-- 2022-blake3-aes-256-gcm
abbrev pub aes256 : Method
aes256 = record { number = 2; key = 32; salt = 32; rounds = 14; cipher = AesGcm }

-- ChaCha with Poly1305: two rounds are a double round
abbrev pub chacha : ℕ → ℕ → Method
chacha number rounds = record { number = number; key = 32; salt = 32; rounds = rounds; cipher = ChaChaPoly (rounds / 2) }

-- 2022-blake3-chacha20-poly1305
abbrev pub chacha20 : Method
chacha20 = chacha 3 20

-- 2022-blake3-chacha12-poly1305
abbrev pub chacha12 : Method
chacha12 = chacha 4 12

-- 2022-blake3-chacha8-poly1305
abbrev pub chacha8 : Method
chacha8 = chacha 5 8

abbrev pub methods : List Method
methods = aes128 ∷ aes256 ∷ chacha20 ∷ chacha12 ∷ chacha8 ∷ []

-- the longest key, and so the longest salt and subkey
abbrev pub max_key : ℕ
max_key = 32

-- the method of a number, compared as the whole number
abbrev pub numbered_among : ℕ → List Method → Option Method
numbered_among n [] = None
numbered_among n (m ∷ ms) = cond (eqb n m.number) (Some m) (numbered_among n ms)

unfoldable pub method_of : ℕ → Option Method
method_of n = numbered_among n methods

-- ---- what the method of a number asks for

-- a key of its own length
abbrev pub asks : Option Method → ℕ → Bool
asks (Some m) k = eqb m.key k
asks None k = false

unfoldable pub key_fits : ℕ → ℕ → Bool
key_fits method k = asks (method_of method) k

-- the lengths of its key and its salt; 0 where there is no such method
abbrev pub key_in : Option Method → ℕ
key_in (Some m) = m.key
key_in None = 0

unfoldable pub key_length : ℕ → ℕ
key_length method = key_in (method_of method)

abbrev pub salt_in : Option Method → ℕ
salt_in (Some m) = m.salt
salt_in None = 0

unfoldable pub salt_length : ℕ → ℕ
salt_length method = salt_in (method_of method)

-- its cipher; AES where there is no such method, which no key fits
abbrev pub cipher_in : Option Method → Cipher
cipher_in (Some m) = m.cipher
cipher_in None = AesGcm

unfoldable pub cipher_of : ℕ → Cipher
cipher_of method = cipher_in (method_of method)
