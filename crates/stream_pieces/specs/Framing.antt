-- How an edition frames the payloads of a stream: its cipher, how long its key is, and how many bytes a payload has at least and at
-- most. What both editions say of chunks is said over these.
use Rattle.std.specs.Prelude.{Bool, ◌&&◌, ◌||◌, ◌≡◌, ℕ, ltb}
use Rattle.aead.specs.Aead.{KeyFor}
use Rattle.protocol.specs.Method.{key_length, cipher_of}
use Rattle.stream_pieces.specs.declared.Framing.{Framing}
use Rattle.stream_pieces.specs.Pieces.{max_chunk}

-- fewer bytes than the least
abbrev pub under : Framing → ℕ → Bool
under f n = ltb n f.least

-- more than the greatest; a cap at all that two bytes can say is none
abbrev pub over : Framing → ℕ → Bool
over f n = ltb f.greatest max_chunk && ltb f.greatest n

-- no chunk has so many
abbrev pub unframed : Framing → ℕ → Bool
unframed f n = over f n || under f n

-- a key that there is, is one of its cipher
abbrev pub HasCipher : Framing → Type 0
HasCipher f = (f.key ≡ 0 → ⊥) → KeyFor f.cipher f.key

-- SIP022, by the number of the method: a payload has a byte at least, and as many at most as two bytes can say. The key has none
-- where there is no such method.
abbrev pub framing_of : ℕ → Framing
framing_of method = record { cipher = cipher_of method; key = key_length method; least = 1; greatest = max_chunk }

-- a payload of no bytes, which no chunk of SIP022 has
abbrev pub is_empty : ℕ → Bool
is_empty n = ltb n 1
