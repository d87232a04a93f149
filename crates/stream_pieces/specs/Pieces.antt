-- SIP022, section 3.1: a stream is made of pieces, each sealed under the stream's subkey and a nonce that counts them from 0.
use Rattle.std.specs.Prelude.{Bool, List, ◌++◌, ℕ, ◌+◌, ◌-◌, ◌^◌, take, drop}
use Rattle.octets.specs.Numbers.{be, to_be, to_le}
use Rattle.aead.specs.Aead as aead
pub use Rattle.aead.specs.Aead.{tag_length, Keyed, keyed}
use Rattle.protocol.specs.Method.{cipher_of}
use Rattle.protocol.specs.Subkey.{subkey}
use Rattle.stream_pieces.specs.declared.Subkey.{Subkey}

-- the nonce: the counter in 12 bytes, little-endian
unfoldable pub nonce : ℕ → List ℕ
nonce counter = to_le 12 counter

-- ---- how long pieces are

-- the piece of a length, which has two bytes
abbrev pub length_piece : ℕ
length_piece = 2 + tag_length

-- a head's fixed header: type, time and length; a response's has the request's salt more
abbrev pub fixed_length : ℕ
fixed_length = 11

abbrev pub fixed_piece : ℕ
fixed_piece = fixed_length + tag_length

-- the longest plaintext of a piece with a length of its own
abbrev pub max_chunk : ℕ
max_chunk = 65535

-- the counter that is never used
abbrev pub last_counter : ℕ
last_counter = 2 ^ 64 - 1

-- ---- one piece, under a key and a counter

unfoldable pub seal_at : Keyed → ℕ → List ℕ → List ℕ
seal_at key counter text = aead.seal key (nonce counter) text

unfoldable pub authentic_at : Keyed → ℕ → List ℕ → Bool
authentic_at key counter s = aead.authentic key (nonce counter) s

unfoldable pub open_at : Keyed → ℕ → List ℕ → List ℕ
open_at key counter s = aead.opened key (nonce counter) s

-- ---- a subkey in four words, big-endian, as the state of a stream has it

-- one of fewer than 32 bytes has zeros for the last words
unfoldable pub subkey_words : List ℕ → Subkey
subkey_words s = record { a = be 8 s; b = be 8 (drop 8 s); c = be 8 (drop 16 s); d = be 8 (drop 24 s) }

unfoldable pub subkey_bytes : Subkey → List ℕ
subkey_bytes w = to_be 8 w.a ++ (to_be 8 w.b ++ (to_be 8 w.c ++ to_be 8 w.d))

-- the key of k bytes
unfoldable pub key_of : Subkey → ℕ → List ℕ
key_of w k = take k (subkey_bytes w)

-- the key of a stream of a method, under a key and its salt
abbrev pub salted_key : ℕ → (key salt : List ℕ) → Keyed
salted_key method key salt = keyed (cipher_of method) (subkey key salt)
