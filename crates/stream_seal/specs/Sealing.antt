-- Sealing chunks: what is answered and what is written. Both editions do it alike (SIP022, section 3.1, and SIP004), each under
-- its own framing. What is said of sizes serves the heads of SIP022 too.
use Rattle.std.specs.Prelude.{cond, List, ◌++◌, ℕ, ◌+◌, ◌-◌, eqb, leb, ltb, length, Err, Ok, Result}
use Rattle.octets.specs.Buffers.{put}
use Rattle.octets.specs.Numbers.{to_be}
use Rattle.protocol.specs.declared.Refusal.TheVariants.{Settings, Length, Room, Counter, Empty}
use Rattle.protocol.specs.Method.{key_length, cipher_of}
use Rattle.stream_seal.specs.declared.Sender.{Sender}
use Rattle.stream_pieces.specs.declared.Framing.{Framing}
use Rattle.stream_pieces.specs.Framing.{under, framing_of}
use Rattle.stream_pieces.specs.Pieces.{tag_length, length_piece, seal_at, key_of, last_counter, Keyed, keyed}
use Rattle.protocol.specs.declared.Refusal.{Refusal}

-- ---- what is written

-- a length with its payload
unfoldable pub chunk : Keyed → ℕ → List ℕ → List ℕ
chunk key counter payload = seal_at key counter (to_be 2 (length payload)) ++ seal_at key (counter + 1) payload

-- ---- what is answered

-- the stream behind a chunk, which uses two counters
abbrev pub moved : Sender → Sender
moved s = record { method = s.method; counter = s.counter + 2; subkey = s.subkey }

-- refusals 2 and 3, of a piece of n bytes, at most so many, behind `before` bytes
unfoldable pub size_answer : (greatest n before room : ℕ) → Sender → Result (ℕ × Sender) Refusal
size_answer greatest n before room s =
    cond (leb n greatest) (cond (leb (before + n + tag_length) room) (Ok (before + n + tag_length, s)) (Err Room)) (Err Length)

-- 1, 14, 11, 2, 3
unfoldable pub framed_answer : Framing → Sender → ℕ → ℕ → Result (ℕ × Sender) Refusal
framed_answer f s payload room =
    cond (eqb f.key 0) (Err Settings)
    (cond (under f payload) (Err Empty)
    (cond (ltb s.counter (last_counter - 1)) (size_answer f.greatest payload length_piece room (moved s)) (Err Counter)))

-- what is written goes to the front of the buffer; a refusal writes nothing
abbrev pub seal_out : Result (ℕ × Sender) Refusal → List ℕ → List ℕ → List ℕ
seal_out (Ok (n, s)) text out = put out 0 text
seal_out (Err r) text out = out

-- ---- SIP022: the framing is the method's

abbrev pub sender_key : Sender → Keyed
sender_key s = keyed (cipher_of s.method) (key_of s.subkey (key_length s.method))

abbrev pub chunk_answer : Sender → ℕ → ℕ → Result (ℕ × Sender) Refusal
chunk_answer s payload room = framed_answer (framing_of s.method) s payload room
