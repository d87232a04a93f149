-- Opening a stream behind its head, one piece a step: a length and its payload by turns. Both editions do it alike (SIP022, section
-- 3.1, and SIP004), each under its own framing.
use Rattle.std.specs.Prelude.{cond, List, ℕ, ◌+◌, eqb, leb, length, take, Err, Ok, Result}
use Rattle.octets.specs.Buffers.{put}
use Rattle.octets.specs.Numbers.{be}
use Rattle.protocol.specs.declared.Refusal.{Refusal}
use Rattle.protocol.specs.declared.Refusal.TheVariants.{Settings, Room, NotAuthentic, Malformed, More, Counter, Empty}
use Rattle.protocol.specs.Refusal.{ends_stream}
use Rattle.stream_pieces.specs.declared.Framing.{Framing}
use Rattle.stream_pieces.specs.Framing.{under, over, unframed}
use Rattle.stream_pieces.specs.Pieces.{tag_length, length_piece, authentic_at, open_at, key_of, last_counter, Keyed, keyed}
use Rattle.stream_open.specs.declared.Turn.{Turn}
use Rattle.stream_open.specs.declared.Turn.TheVariants.{Variable, Length, Payload, Ended}
use Rattle.stream_open.specs.declared.Receiver.{Receiver}
use Rattle.stream_open.specs.declared.Chunk.{Chunk}

-- ---- one piece of n bytes of plaintext: 11, 10, 3, 4; a length asks for no room

unfoldable pub piece_answer : (key : Keyed) (counter n : ℕ) → List ℕ → (asked room : ℕ) → Result Chunk Refusal → Result Chunk Refusal
piece_answer key counter n s asked room good =
    cond (eqb counter last_counter) (Err Counter)
    (cond (leb (n + tag_length) (length s))
    (cond (leb asked room) (cond (authentic_at key counter (take (n + tag_length) s)) good (Err NotAuthentic)) (Err Room))
    (Err (More (n + tag_length))))

-- what was read as a length
unfoldable pub length_read : (key : Keyed) (counter : ℕ) → List ℕ → ℕ
length_read key counter s = be 2 (open_at key counter (take length_piece s))

-- ---- a step

-- 14 and 5 right behind the length's tag
abbrev pub length_answer : Framing → ℕ → Result Chunk Refusal
length_answer f n =
    cond (under f n) (Err Empty) (cond (over f n) (Err Malformed) (Ok (record { used = length_piece; length = n })))

module _ (f : Framing) where
  -- the key of a stream
  abbrev pub key_in : Receiver → Keyed
  key_in st = keyed f.cipher (key_of st.subkey f.key)

  -- no length was opened that such a payload would follow, so a stream at one is none of ours
  abbrev pub turn_answer : Turn → Receiver → List ℕ → ℕ → Result Chunk Refusal
  turn_answer Length st s room =
      piece_answer (key_in st) st.counter 2 s 0 room (length_answer f (length_read (key_in st) st.counter s))
  turn_answer (Payload n) st s room =
      cond (unframed f n) (Err Settings)
      (piece_answer (key_in st) st.counter n s n room (Ok (record { used = n + tag_length; length = n })))
  turn_answer Ended st s room = Err NotAuthentic
  turn_answer (Variable n) st s room = Err Settings

  -- 1, also of a stream at another turn, 4 of one that has ended, and the piece's
  unfoldable pub step_answer : Receiver → List ℕ → ℕ → Result Chunk Refusal
  step_answer st s room = cond (eqb f.key 0) (Err Settings) (turn_answer st.turn st s room)

-- ---- what is written: a payload, to the front of the buffer

abbrev pub written_by : Result Chunk Refusal → Turn → List ℕ → List ℕ → List ℕ
written_by (Ok c) (Payload n) plain out = put out 0 plain
written_by (Ok c) Length plain out = out
written_by (Ok c) Ended plain out = out
written_by (Ok c) (Variable n) plain out = out
written_by (Err r) turn plain out = out

abbrev pub payload_piece : Turn → List ℕ → List ℕ
payload_piece (Payload n) s = take (n + tag_length) s
payload_piece Length s = s
payload_piece Ended s = s
payload_piece (Variable n) s = s

unfoldable pub step_out : Framing → Receiver → List ℕ → List ℕ → List ℕ
step_out f st s out =
    written_by (step_answer f st s (length out)) st.turn (open_at (key_in f st) st.counter (payload_piece st.turn s)) out

-- ---- the state behind a step: one counter further, at the other turn; a refusal ends the stream or leaves it

abbrev pub turn_after : Turn → ℕ → Turn
turn_after Length n = Payload n
turn_after (Payload m) n = Length
turn_after Ended n = Ended
turn_after (Variable m) n = Length

abbrev pub ended : Receiver → Receiver
ended st = record { method = st.method; turn = Ended; counter = st.counter; subkey = st.subkey }

abbrev pub refused_next : Refusal → Receiver → Receiver
refused_next r st = cond (ends_stream r) (ended st) st

abbrev pub advances : Receiver → ℕ → Receiver
advances st n = record { method = st.method; turn = turn_after st.turn n; counter = st.counter + 1; subkey = st.subkey }

abbrev pub step_next : Receiver → Result Chunk Refusal → Receiver
step_next st (Ok c) = advances st c.length
step_next st (Err r) = refused_next r st
