-- What stands after a call about a chunk, framed as the stream's edition frames it: its number, and what it leaves in all that it was
-- lent to write. A lent stream or answer of the wrong length, and a stream at another turn than the call's, are refusal 1.
use Rattle.std.specs.Prelude.{Bool, cond, ◌&&◌, List, ℕ, eqb, length, Err, Result}
use Rattle.protocol.specs.declared.Refusal.{Refusal}
use Rattle.protocol.specs.declared.Refusal.TheVariants.{Settings, NotAuthentic, Empty}
use Rattle.stream_pieces.specs.declared.Framing.{Framing}
use Rattle.stream_pieces.specs.Framing.{under}
use Rattle.stream_pieces.specs.Pieces.{key_of, keyed}
use Rattle.stream_seal.specs.Sealing.{framed_answer, chunk, seal_out}
use Rattle.stream_open.specs.declared.Receiver.{Receiver}
use Rattle.stream_open.specs.Steps.{step_answer, step_out, step_next}
use Rattle.words.specs.Answers.{answer_words}
use Rattle.words.specs.States.{stream_size, turn_of, sender_in, receiver_lawful, receiver_in}
use Rattle.stream_answers.specs.Told.{sealed_number, sealed_words, sealed_stream, stepped_number, stepped_answer, step_stream}
use Rattle.stream_seal.specs.declared.Sender.{Sender}
use Rattle.stream_open.specs.declared.Chunk.{Chunk}

-- a stream and an answer of these lengths
abbrev pub fits : (stream answer : ℕ) → Bool
fits stream answer = eqb stream stream_size && eqb answer answer_words

pub record AfterChunk : Type 0 where
  pub number : ℕ
  pub out : List ℕ
  pub stream : List ℕ
  pub answer : List ℕ

-- ---- sealing

-- x is what is answered where stream and answer fit, and text what is then sealed
unfoldable pub seals : Result (ℕ × Sender) Refusal → (text out stream answer : List ℕ) → AfterChunk
seals x text out stream answer =
    cond (fits (length stream) (length answer))
    (record { number = sealed_number x; out = seal_out x text out; stream = sealed_stream x stream; answer = sealed_words x answer })
    (record { number = 1; out = out; stream = stream; answer = answer })

module _ (f : Framing) where
  -- a stream that does not seal: 1 at another turn or where its method is none, 14 of a payload under the least, and 4 where it has ended
  unfoldable pub not_sealing : (turn payload : ℕ) → Refusal
  not_sealing turn payload = cond (eqb turn 0) (cond (eqb f.key 0) Settings (cond (under f payload) Empty NotAuthentic)) Settings

  unfoldable pub chunk_sealed : List ℕ → (payload room : ℕ) → Result (ℕ × Sender) Refusal
  chunk_sealed w payload room =
      cond (eqb (turn_of w) 3) (framed_answer f (sender_in w) payload room) (Err (not_sealing (turn_of w) payload))

  unfoldable pub seals_chunk : (stream payload out answer : List ℕ) → AfterChunk
  seals_chunk stream payload out answer =
      seals (chunk_sealed stream (length payload) (length out))
      (chunk (keyed f.cipher (key_of (sender_in stream).subkey f.key)) (sender_in stream).counter payload) out stream answer

-- ---- opening

abbrev pub opens : (stream answer : List ℕ) → Bool
opens stream answer = eqb (length answer) answer_words && receiver_lawful stream

module _ (f : Framing) where
  -- x is what is answered
  abbrev pub step_told : Result Chunk Refusal → Receiver → (s out stream answer : List ℕ) → AfterChunk
  step_told x state s out stream answer = record {
    number = stepped_number x;
    out = step_out f state s out;
    stream = step_stream x (step_next state x) stream;
    answer = stepped_answer x answer;
  }

  unfoldable pub opens_chunk : (stream s out answer : List ℕ) → AfterChunk
  opens_chunk stream s out answer =
      cond (opens stream answer)
      (step_told (step_answer f (receiver_in stream) s (length out)) (receiver_in stream) s out stream answer)
      (record { number = 1; out = out; stream = stream; answer = answer })
