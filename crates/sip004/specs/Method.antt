-- SIP004: its AES methods, by the numbers that the host gives them. Key length and salt length are written here once.
use Rattle.std.specs.Prelude.{Bool, false, cond, ◌&&◌, ℕ, eqb, None, Option, Some}
pub use Rattle.protocol.specs.Method.{max_key}
use Rattle.sip004.specs.declared.Method.{Method}

-- AEAD_AES_128_GCM
abbrev pub aes128 : Method
aes128 = record { number = 11; key = 16; salt = 16 }

-- AEAD_AES_192_GCM
abbrev pub aes192 : Method
aes192 = record { number = 12; key = 24; salt = 24 }

-- AEAD_AES_256_GCM
abbrev pub aes256 : Method
aes256 = record { number = 13; key = 32; salt = 32 }

-- the method of a number, compared as the whole number
unfoldable pub method_of : ℕ → Option Method
method_of n = cond (eqb n 11) (Some aes128) (cond (eqb n 12) (Some aes192) (cond (eqb n 13) (Some aes256) None))

-- ---- what the method of a number asks for

-- a key of its own length
abbrev pub asks_key : Option Method → ℕ → Bool
asks_key (Some m) k = eqb m.key k
asks_key None k = false

unfoldable pub key_fits : ℕ → ℕ → Bool
key_fits method k = asks_key (method_of method) k

-- a key and a salt of its own lengths
abbrev pub asks_both : Option Method → ℕ → ℕ → Bool
asks_both (Some m) k s = eqb m.key k && eqb m.salt s
asks_both None k s = false

unfoldable pub settings_fit : ℕ → ℕ → ℕ → Bool
settings_fit method k s = asks_both (method_of method) k s

-- the length of its key; 0 where there is no such method
abbrev pub key_in : Option Method → ℕ
key_in (Some m) = m.key
key_in None = 0

unfoldable pub key_length : ℕ → ℕ
key_length method = key_in (method_of method)
