-- Demand 1 for streams: every call ends with an answer or a refusal, and what a refusal leaves.
-- Assumes nothing.
use Rattle.std.specs.Prelude.{◌≡◌, Bool, true, false, List, [], ◌∷◌, ◌++◌, ℕ, ◌-◌, ◌≤◌, length, take, drop, replicate, Err, Ok, Result}
use Rattle.octets.specs.Buffers.{put}
use Rattle.octets.specs.Numbers.{be}
use Rattle.protocol.specs.declared.Refusal.{Refusal}
use Rattle.protocol.specs.declared.Refusal.TheVariants.{Settings, NotAuthentic, Malformed, More}
use Rattle.protocol.specs.Refusal.{refusal_number}
use Rattle.protocol.specs.Orders.{among}
use Rattle.protocol.specs.Method.{key_length, salt_length, cipher_of}
use Rattle.stream_pieces.specs.Framing.{framing_of}
use Rattle.stream_seal.specs.declared.Sender.{Sender}
use Rattle.stream_seal.specs.Sealing.{chunk, sender_key, chunk_answer}
use Rattle.stream_seal_heads.specs.HeadSealing.{request, response, request_answer, response_answer}
use Rattle.stream_open.specs.declared.Turn.{Turn}
use Rattle.stream_open.specs.declared.Turn.TheVariants.{Variable, Length, Payload, Ended}
use Rattle.stream_open.specs.declared.Receiver.{Receiver}
use Rattle.stream_open_response.specs.declared.Response.{Response}
use Rattle.stream_open_request.specs.declared.Request.{Request}
use Rattle.stream_open_response.specs.Responses.{opened_response}
use Rattle.stream_open_request.specs.Requests.{opened_request, request_pool}
use Rattle.stream_open_variable.specs.declared.VariableHeader.{VariableHeader}
use Rattle.stream_open_variable.specs.Variable.{variable_answer, variable_out, variable_next}
use Rattle.stream_open.specs.Chunks.{step_answer, step_out, ended, step_next}
use Rattle.stream_chunks.specs.Keeps.{StepKeeps, SealKeeps}

-- ---- which refusals are given, by their numbers

-- by the call for a request's front
abbrev pub of_request : Refusal → Bool
of_request r = among (1 ∷ 4 ∷ 6 ∷ 7 ∷ 8 ∷ 9 ∷ 10 ∷ []) (refusal_number r)

-- by the call for its variable header
abbrev pub of_variable : Refusal → Bool
of_variable r = among (1 ∷ 3 ∷ 4 ∷ 5 ∷ 10 ∷ []) (refusal_number r)

-- those of them that end the stream
abbrev pub ends_variable : Refusal → Bool
ends_variable r = among (4 ∷ 5 ∷ []) (refusal_number r)

-- by the fixed header of a head
abbrev pub of_front : Refusal → Bool
of_front r = among (4 ∷ 6 ∷ 7 ∷ []) (refusal_number r)

-- by a response's head
abbrev pub of_response : Refusal → Bool
of_response r = among (1 ∷ 4 ∷ 6 ∷ 7 ∷ 10 ∷ 13 ∷ 14 ∷ []) (refusal_number r)

-- by a step, and those of them that end the stream
abbrev pub step_refusals : List ℕ
step_refusals = 1 ∷ 3 ∷ 4 ∷ 10 ∷ 11 ∷ 14 ∷ []

abbrev pub step_ends : List ℕ
step_ends = 4 ∷ 14 ∷ []

-- by the sealer of a request's head, of a response's, and of a chunk
abbrev pub request_sealer : List ℕ
request_sealer = 1 ∷ 2 ∷ 3 ∷ 12 ∷ []

abbrev pub response_sealer : List ℕ
response_sealer = 1 ∷ 2 ∷ 3 ∷ 14 ∷ []

abbrev pub chunk_sealer : List ℕ
chunk_sealer = 1 ∷ 2 ∷ 3 ∷ 11 ∷ 14 ∷ []

-- ---- the front of a request's head

-- the salt that a head begins with
abbrev pub salt_of : ℕ → List ℕ → List ℕ
salt_of method s = take (salt_length method) s

-- the time of a fixed header, and the length of the piece behind it, which is its last two bytes
abbrev pub time_in : List ℕ → ℕ
time_in plain = be 8 (drop 1 plain)

abbrev pub length_in : List ℕ → ℕ
length_in plain = be 2 (drop (length plain - 2) plain)

pub data RequestAnswered (a : Result (Request × Receiver) Refusal) : Type 0 where
  accepted-request : (h : Request) (st : Receiver) → a ≡ Ok (h, st) → RequestAnswered a
  refused-request : (r : Refusal) → of_request r ≡ true → a ≡ Err r → RequestAnswered a

-- there is no buffer to write to, and no refusal changes the pool
pub record RequestKeeps (method : ℕ) (key : List ℕ) (clock : ℕ) (s pool : List ℕ) : Type 0 where
  pub answered : RequestAnswered (opened_request method key clock s pool)
  pub refused-keeps-pool : (r : Refusal) → opened_request method key clock s pool ≡ Err r → request_pool method key clock s pool ≡ pool

-- ---- its variable header, which has no pool

pub data VariableAnswered (a : Result VariableHeader Refusal) : Type 0 where
  opened-variable : (h : VariableHeader) → a ≡ Ok h → VariableAnswered a
  refused-variable : (r : Refusal) → of_variable r ≡ true → a ≡ Err r → VariableAnswered a

-- the bytes due: the variable header's
abbrev pub due_variable : Turn → ℕ
due_variable (Variable n) = n
due_variable Length = 0
due_variable (Payload n) = 0
due_variable Ended = 0

pub record VariableKeeps (st : Receiver) (s out : List ℕ) : Type 0 where
  pub answered : VariableAnswered (variable_answer st s (length out))
  -- none but 5 touches the buffer
  pub untouched : (r : Refusal) → variable_answer st s (length out) ≡ Err r → (refusal_number r ≡ 5 → ⊥) → variable_out st s out ≡ out
  -- and 5 sets the bytes due to zero
  pub cleared : variable_answer st s (length out) ≡ Err Malformed
      → (due_variable st.turn ≤ length out) × (variable_out st s out ≡ put out 0 (replicate (due_variable st.turn) 0))
  -- the bytes past them never change, whatever is answered
  pub past-due-kept : drop (due_variable st.turn) (variable_out st s out) ≡ drop (due_variable st.turn) out
  pub length-kept : length (variable_out st s out) ≡ length out
  -- 4 and 5 end the stream, and no other refusal moves it
  pub ends : (r : Refusal) → variable_answer st s (length out) ≡ Err r → ends_variable r ≡ true
      → variable_next st (variable_answer st s (length out)) ≡ ended st
  pub refused-keeps-state : (r : Refusal) → variable_answer st s (length out) ≡ Err r → ends_variable r ≡ false
      → variable_next st (variable_answer st s (length out)) ≡ st
  -- a stream that has ended opens nothing any more
  pub ended-refuses : (key_length st.method ≡ 0 → ⊥) → (bytes : List ℕ) (room : ℕ) → variable_answer (ended st) bytes room ≡ Err NotAuthentic

-- Where bytes are missing the same call is made again, with t behind them: it goes on from a state and a buffer that are as they
-- were, so it is one call on all bytes. With as many as were wanted none is missing any more.
pub record MoreAgain (st : Receiver) (s out : List ℕ) (wanted : ℕ) (t : List ℕ) : Type 0 where
  pub state-kept : variable_next st (variable_answer st s (length out)) ≡ st
  pub buffer-kept : variable_out st s out ≡ out
  pub same_answer : variable_answer (variable_next st (variable_answer st s (length out))) (s ++ t) (length (variable_out st s out))
      ≡ variable_answer st (s ++ t) (length out)
  pub same-buffer : variable_out (variable_next st (variable_answer st s (length out))) (s ++ t) (variable_out st s out)
      ≡ variable_out st (s ++ t) out
  pub same-stream : variable_next (variable_next st (variable_answer st s (length out))) (variable_answer st (s ++ t) (length out))
      ≡ variable_next st (variable_answer st (s ++ t) (length out))
  pub enough : wanted ≤ length (s ++ t) → (more : ℕ) → variable_answer st (s ++ t) (length out) ≡ Err (More more) → ⊥

abbrev pub MoreAsksAgain : Type 0
MoreAsksAgain =
    (st : Receiver) (s out : List ℕ) (wanted : ℕ) → variable_answer st s (length out) ≡ Err (More wanted)
    → (t : List ℕ) → MoreAgain st s out wanted t

-- ---- turns: a call on a stream at another turn is 1 and leaves it; one that has ended is at no turn, and is 4

pub record Turns (st : Receiver) (s out : List ℕ) : Type 0 where
  pub step-at-variable : (n : ℕ) → st.turn ≡ Variable n
      → (step_answer st s (length out) ≡ Err Settings)
      × ((step_next st (step_answer st s (length out)) ≡ st) × (step_out st s out ≡ out))
  pub variable-at-length : st.turn ≡ Length
      → (variable_answer st s (length out) ≡ Err Settings)
      × ((variable_next st (variable_answer st s (length out)) ≡ st) × (variable_out st s out ≡ out))
  pub variable-at-payload : (n : ℕ) → st.turn ≡ Payload n
      → (variable_answer st s (length out) ≡ Err Settings)
      × ((variable_next st (variable_answer st s (length out)) ≡ st) × (variable_out st s out ≡ out))
  -- the call for the front hands on counter 1
  pub variable-at-other-counter : (st.counter ≡ 1 → ⊥) → (st.turn ≡ Ended → ⊥)
      → (variable_answer st s (length out) ≡ Err Settings)
      × ((variable_next st (variable_answer st s (length out)) ≡ st) × (variable_out st s out ≡ out))
  pub step-ended : (key_length st.method ≡ 0 → ⊥) → st.turn ≡ Ended → step_answer st s (length out) ≡ Err NotAuthentic
  pub variable-ended : (key_length st.method ≡ 0 → ⊥) → st.turn ≡ Ended → variable_answer st s (length out) ≡ Err NotAuthentic

-- ---- a response's head, which writes nothing

pub data ResponseAnswered (a : Result (Response × Receiver) Refusal) : Type 0 where
  accepted-response : (h : Response) (st : Receiver) → a ≡ Ok (h, st) → ResponseAnswered a
  refused-response : (r : Refusal) → of_response r ≡ true → a ≡ Err r → ResponseAnswered a

-- ---- sealing

pub record SealersKeep : Type 0 where
  pub requests : (method : ℕ) (key salt : List ℕ) (time : ℕ) (address : List ℕ) (padding : ℕ) (payload out : List ℕ)
      → SealKeeps request_sealer (request_answer method key salt address padding (length payload) (length out)) (request (cipher_of method) key salt time address padding payload) out
  pub responses : (method : ℕ) (key salt binding : List ℕ) (time : ℕ) (payload out : List ℕ)
      → SealKeeps response_sealer (response_answer method key salt binding (length payload) (length out)) (response (cipher_of method) key salt binding time payload) out
  pub chunks : (s : Sender) (payload out : List ℕ)
      → SealKeeps chunk_sealer (chunk_answer s (length payload) (length out)) (chunk (sender_key s) s.counter payload) out

-- ---- demand 1

pub record StreamsDemand1 : Type 0 where
  pub requests : (method : ℕ) (key : List ℕ) (clock : ℕ) (s pool : List ℕ) → RequestKeeps method key clock s pool
  pub variable-headers : (st : Receiver) (s out : List ℕ) → VariableKeeps st s out
  pub more-again : MoreAsksAgain
  pub turns : (st : Receiver) (s out : List ℕ) → Turns st s out
  pub responses : (method : ℕ) (key : List ℕ) (clock : ℕ) (request_salt s : List ℕ) → ResponseAnswered (opened_response method key clock request_salt s)
  pub steps : (st : Receiver) (s out : List ℕ) → StepKeeps step_refusals step_ends (framing_of st.method) st s out
  pub sealing : SealersKeep
