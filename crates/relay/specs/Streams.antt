-- What stands after each call about streams of SIP022: its number, and what it leaves in all that it was lent to write. A lent stream or
-- answer of the wrong length, and a stream at another turn than the call's, are refusal 1.
use Rattle.std.specs.Prelude.{cond, List, ℕ, length, Result}
use Rattle.protocol.specs.Method.{cipher_of}
use Rattle.protocol.specs.declared.Refusal.{Refusal}
use Rattle.stream_pieces.specs.Framing.{framing_of}
use Rattle.stream_open.specs.declared.Receiver.{Receiver}
use Rattle.stream_seal_heads.specs.HeadSealing.{request_answer, request, response_answer, response}
use Rattle.stream_open_request.specs.Requests.{opened_request, request_pool}
use Rattle.stream_open_variable.specs.Variable.{variable_answer, variable_out, variable_next}
use Rattle.stream_open_response.specs.Responses.{opened_response}
use Rattle.words.specs.States.{method_in, receiver_in}
use Rattle.stream_answers.specs.Told.{request_number, request_answer as request_told, request_stream, variable_number, variable_told, variable_stream, response_number, response_answer as response_told, response_stream}
use Rattle.stream_answers.specs.Chunks as chunks
use Rattle.stream_answers.specs.Chunks.{fits, AfterChunk, seals, opens}
use Rattle.stream_open_request.specs.declared.Request.{Request}
use Rattle.stream_open_variable.specs.declared.VariableHeader.{VariableHeader}
use Rattle.stream_open_response.specs.declared.Response.{Response}

-- ---- sealing, and opening a chunk or a variable header

module _ (method : ℕ) (key salt : List ℕ) (clock : ℕ) (address : List ℕ) (padding : ℕ) (payload out stream answer : List ℕ) where
  unfoldable pub seals_request : AfterChunk
  seals_request =
      seals (request_answer method key salt address padding (length payload) (length out))
      (request (cipher_of method) key salt clock address padding payload) out stream answer

module _ (method : ℕ) (key salt request_salt : List ℕ) (clock : ℕ) (payload out stream answer : List ℕ) where
  unfoldable pub seals_response : AfterChunk
  seals_response =
      seals (response_answer method key salt request_salt (length payload) (length out))
      (response (cipher_of method) key salt request_salt clock payload) out stream answer

-- a chunk: the framing is the method's
abbrev pub not_sealing : (turn method payload : ℕ) → Refusal
not_sealing turn method payload = chunks.not_sealing (framing_of method) turn payload

abbrev pub seals_chunk : (stream payload out answer : List ℕ) → AfterChunk
seals_chunk stream payload out answer = chunks.seals_chunk (framing_of (method_in stream)) stream payload out answer

abbrev pub opens_chunk : (stream s out answer : List ℕ) → AfterChunk
opens_chunk stream s out answer = chunks.opens_chunk (framing_of (method_in stream)) stream s out answer

-- ---- opening a request's head

pub record AfterRequest : Type 0 where
  pub number : ℕ
  pub pool : List ℕ
  pub stream : List ℕ
  pub answer : List ℕ

module _ (method : ℕ) (key : List ℕ) (clock : ℕ) (s pool stream answer : List ℕ) where
  -- x is what is answered where stream and answer fit
  abbrev pub request_left : Result (Request × Receiver) Refusal → AfterRequest
  request_left x = record {
    number = request_number x;
    pool = request_pool method key clock s pool;
    stream = request_stream x stream;
    answer = request_told x answer;
  }

  unfoldable pub opens_request : AfterRequest
  opens_request =
      cond (fits (length stream) (length answer)) (request_left (opened_request method key clock s pool))
      (record { number = 1; pool = pool; stream = stream; answer = answer })

-- its variable header: x is what is answered
abbrev pub variable_left : Result VariableHeader Refusal → Receiver → (s out stream answer : List ℕ) → AfterChunk
variable_left x state s out stream answer = record {
  number = variable_number x;
  out = variable_out state s out;
  stream = variable_stream x (variable_next state x) stream;
  answer = variable_told x answer;
}

unfoldable pub opens_variable : (stream s out answer : List ℕ) → AfterChunk
opens_variable stream s out answer =
    cond (opens stream answer)
    (variable_left (variable_answer (receiver_in stream) s (length out)) (receiver_in stream) s out stream answer)
    (record { number = 1; out = out; stream = stream; answer = answer })

-- ---- opening the head of a response

pub record AfterResponse : Type 0 where
  pub number : ℕ
  pub stream : List ℕ
  pub answer : List ℕ

-- x is what is answered where stream and answer fit
abbrev pub response_left : Result (Response × Receiver) Refusal → (stream answer : List ℕ) → AfterResponse
response_left x stream answer = record { number = response_number x; stream = response_stream x stream; answer = response_told x answer }

module _ (method : ℕ) (key : List ℕ) (clock : ℕ) (request_salt s stream answer : List ℕ) where
  unfoldable pub opens_response : AfterResponse
  opens_response =
      cond (fits (length stream) (length answer)) (response_left (opened_response method key clock request_salt s) stream answer)
      (record { number = 1; stream = stream; answer = answer })
