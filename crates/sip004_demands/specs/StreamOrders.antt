-- The orders of refusals of the 2017 edition's streams, as lists to be held beside the scope's own lines, with its numbers written out.
-- Assumes nothing.
use Rattle.std.specs.Prelude.{◌≡◌, Bool, true, false, not, ◌||◌, List, [], ◌∷◌, ℕ, ◌+◌, ◌-◌, ◌^◌, eqb, ltb, length, take}
use Rattle.octets.specs.Numbers.{be}
use Rattle.protocol.specs.Orders.{Rule, rule, more, first}
use Rattle.stream_pieces.specs.Pieces.{authentic_at, open_at}
use Rattle.stream_seal.specs.declared.Sender.{Sender}
use Rattle.stream_open.specs.declared.Turn.{Turn}
use Rattle.stream_open.specs.declared.Turn.TheVariants.{Variable, Length, Payload, Ended}
use Rattle.stream_open.specs.declared.Receiver.{Receiver}
use Rattle.stream_open.specs.declared.Chunk.{Chunk}
use Rattle.stream_chunks.specs.Orders.{is_ended, text_bytes, due_bytes, length_told, said_step, said_piece}
use Rattle.sip004_stream.specs.Streams.{stream_key, step_answer, chunk_answer}

-- a method other than 11 to 13
abbrev pub other_method : ℕ → Bool
other_method method = not (eqb method 11 || (eqb method 12 || eqb method 13))

-- ---- a step: 1, 4 (ended), 11, 10, 3, 4, 5 (a length above 16,383)

-- no step's turn: a payload above 16,383 is next, which no length says that is accepted, or a request's variable header, which this
-- edition has not
abbrev pub no_step : Turn → Bool
no_step Length = false
no_step (Payload m) = ltb 16383 m
no_step Ended = false
no_step (Variable m) = true

-- the length read is above it
abbrev pub long_length : Turn → (read : ℕ) → Bool
long_length Length read = ltb 16383 read
long_length (Payload m) read = false
long_length Ended read = false
long_length (Variable m) read = false

module _ (st : Receiver) (s : List ℕ) (room : ℕ) where
  abbrev piece : List ℕ
  piece = take (text_bytes st.turn + 16) s

  abbrev pub step_order : List Rule
  step_order =
      rule 1 (other_method st.method || no_step st.turn)
      ∷ rule 4 (is_ended st.turn)
      ∷ rule 11 (eqb st.counter (2 ^ 64 - 1))
      ∷ more (text_bytes st.turn + 16) (ltb (length s) (text_bytes st.turn + 16))
      ∷ rule 3 (ltb room (due_bytes st.turn))
      ∷ rule 4 (not (authentic_at (stream_key st) st.counter piece))
      ∷ rule 5 (long_length st.turn (be 2 (open_at (stream_key st) st.counter piece)))
      ∷ []

  abbrev pub chunk_opened : Chunk
  chunk_opened =
      record {
        used = text_bytes st.turn + 16;
        length = length_told st.turn (be 2 (open_at (stream_key st) st.counter piece));
      }

-- ---- sealing a chunk: 1, 11, 2, 3

module _ (s : Sender) (size room : ℕ) where
  abbrev chunk_bytes : ℕ
  chunk_bytes = 2 + 16 + size + 16

  abbrev pub seal_order : List Rule
  seal_order =
      rule 1 (other_method s.method)
      ∷ rule 11 (not (ltb s.counter (2 ^ 64 - 2)))
      ∷ rule 2 (ltb 16383 size)
      ∷ rule 3 (ltb room chunk_bytes)
      ∷ []

  abbrev pub chunk_sealed : ℕ × Sender
  chunk_sealed = (chunk_bytes, record { method = s.method; counter = s.counter + 2; subkey = s.subkey })

pub record StreamOrders : Type 0 where
  pub step : (st : Receiver) (s : List ℕ) (room : ℕ) → said_step (step_answer st s room) ≡ first (step_order st s room) (chunk_opened st s room)
  pub sealing : (s : Sender) (payload room : ℕ)
      → said_piece (chunk_answer s payload room) ≡ first (seal_order s payload room) (chunk_sealed s payload room)
