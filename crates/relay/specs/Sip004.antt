-- What stands after each call about SIP004, the 2017 edition: its number, and what it leaves in all that it was lent to write. A lent
-- stream or answer of the wrong length is refusal 1.
use Rattle.std.specs.Prelude.{cond, List, ℕ, eqb, length, set, Err, Ok, Result}
use Rattle.octets.specs.Buffers.{put}
use Rattle.protocol.specs.Refusal.{refusal_number}
use Rattle.sip004.specs.Datagram.{datagram, seal_answer, payload_of, open_answer}
use Rattle.sip004_stream.specs.Streams.{framing_of, sender_begun, receiver_begun}
use Rattle.words.specs.Answers.{answer_words}
use Rattle.words.specs.States.{method_in}
use Rattle.stream_answers.specs.Beginning.{AfterBegin, begins, sender_told, receiver_told}
use Rattle.stream_answers.specs.Chunks as chunks
use Rattle.stream_answers.specs.Chunks.{AfterChunk}
use Rattle.protocol.specs.declared.Refusal.{Refusal}

-- ---- datagrams: a length that is answered is the answer's first word, and a refusal writes none

pub record AfterDatagram : Type 0 where
  pub number : ℕ
  pub out : List ℕ
  pub answer : List ℕ

-- x is what stands where the answer has its length
unfoldable pub tells : AfterDatagram → (out answer : List ℕ) → AfterDatagram
tells x out answer = cond (eqb (length answer) answer_words) x (record { number = 1; out = out; answer = answer })

abbrev pub sealed_told : Result ℕ Refusal → (text out answer : List ℕ) → AfterDatagram
sealed_told (Ok n) text out answer = record { number = 0; out = put out 0 text; answer = set answer 0 n }
sealed_told (Err r) text out answer = record { number = refusal_number r; out = out; answer = answer }

abbrev pub seals_datagram : ℕ → (key salt payload out answer : List ℕ) → AfterDatagram
seals_datagram method key salt payload out answer =
    tells
    (sealed_told (seal_answer method (length key) (length salt) (length payload) (length out)) (datagram key salt payload) out answer)
    out answer

abbrev pub opened_told : Result ℕ Refusal → (text out answer : List ℕ) → AfterDatagram
opened_told (Ok n) text out answer = record { number = 0; out = put out 0 text; answer = set answer 0 n }
opened_told (Err r) text out answer = record { number = refusal_number r; out = out; answer = answer }

abbrev pub opens_datagram : ℕ → (key s out answer : List ℕ) → AfterDatagram
opens_datagram method key s out answer =
    tells (opened_told (open_answer method key s (length out)) (payload_of key s) out answer) out answer

-- ---- streams: begun in lent words, and chunks framed as the method's edition frames them

abbrev pub begins_sealing : ℕ → (key salt stream : List ℕ) → AfterBegin
begins_sealing method key salt stream = begins (sender_told (sender_begun method key salt) stream) stream

abbrev pub begins_opening : ℕ → (key salt stream : List ℕ) → AfterBegin
begins_opening method key salt stream = begins (receiver_told (receiver_begun method key salt) stream) stream

abbrev pub seals_chunk : (stream payload out answer : List ℕ) → AfterChunk
seals_chunk stream payload out answer = chunks.seals_chunk (framing_of (method_in stream)) stream payload out answer

abbrev pub opens_chunk : (stream s out answer : List ℕ) → AfterChunk
opens_chunk stream s out answer = chunks.opens_chunk (framing_of (method_in stream)) stream s out answer
