-- What stands after the calls about heads of streams, case by case. Assumes nothing.
use Rattle.std.specs.Prelude.{Result}
use Prim.Native.Nat.{ℕ}
use mathlib.Core.Bool.{Bool, true, false, cond}
use mathlib.Core.List.{List}
use mathlib.Core.Path.{◌≡◌, sym, ap, ◌∙◌}
use lib.ListN.{length}
use Rattle.stream_open.specs.declared.Receiver.{Receiver}
use Rattle.stream_open_request.specs.Requests.{opened_request, request_pool}
use Rattle.stream_open_variable.specs.Variable.{variable_answer, variable_out, variable_next}
use Rattle.stream_open_response.specs.Responses.{opened_response}
use Rattle.words.specs.Answers.{answer_words}
use Rattle.words.specs.States.{receiver_lawful, receiver_in}
use Rattle.stream_answers.specs.Told.{request_number, request_answer as request_told, request_stream, variable_number, variable_told, variable_stream, response_number, response_answer as response_told, response_stream}
use Rattle.stream_answers.specs.Chunks.{fits, AfterChunk, opens}
use Rattle.stream_answers.proofs.ChunkLaws.{opens-none, opens_by}
use Rattle.relay.specs.Streams.{AfterRequest, request_left, opens_request, variable_left, opens_variable, AfterResponse, response_left, opens_response}
use Rattle.stream_open_request.specs.declared.Request.{Request}
use Rattle.protocol.specs.declared.Refusal.{Refusal}
use Rattle.stream_open_response.specs.declared.Response.{Response}
use Rattle.stream_open_variable.specs.declared.VariableHeader.{VariableHeader}

-- ---- the front of a request's head

module _ (method : ℕ) (key : List ℕ) (clock : ℕ) (s pool w answer : List ℕ) (b : Bool) (e : b ≡ fits (length w) (length answer)) where
  abbrev R : AfterRequest
  R = opens_request method key clock s pool w answer

  abbrev request-left : Result (Request × Receiver) Refusal → AfterRequest
  request-left x = request_left method key clock s pool w answer x

  request-by : (z : Bool) → b ≡ z
      → cond z (request-left (opened_request method key clock s pool)) (record { number = 1; pool = pool; stream = w; answer = answer }) ≡ R
  unfolding opens_request
  request-by z f =
      ap
      (λ (t : Bool). cond t (request-left (opened_request method key clock s pool)) (record { number = 1; pool = pool; stream = w; answer = answer }))
      (sym f ∙ e)

  pub request-unfit : b ≡ false → record { number = 1; pool = pool; stream = w; answer = answer } ≡ R
  request-unfit f = request-by false f

  pub request-fit : b ≡ true → (x : Result (Request × Receiver) Refusal) (n : ℕ) (p st a : List ℕ) → x ≡ opened_request method key clock s pool
      → p ≡ request_pool method key clock s pool → n ≡ request_number x → st ≡ request_stream x w → a ≡ request_told x answer
      → record { number = n; pool = p; stream = st; answer = a } ≡ R
  request-fit f x n p st a g i j l m =
      (λ k. record { number = j k; pool = i k; stream = l k; answer = m k }) ∙ ap request-left g ∙ request-by true f

-- ---- the head of a response

module _ (method : ℕ) (key : List ℕ) (clock : ℕ) (salt s w answer : List ℕ) (b : Bool) (e : b ≡ fits (length w) (length answer)) where
  abbrev P : AfterResponse
  P = opens_response method key clock salt s w answer

  response-by : (z : Bool) → b ≡ z
      → cond z (response_left (opened_response method key clock salt s) w answer) (record { number = 1; stream = w; answer = answer }) ≡ P
  unfolding opens_response
  response-by z f =
      ap (λ (t : Bool). cond t (response_left (opened_response method key clock salt s) w answer) (record { number = 1; stream = w; answer = answer })) (sym f ∙ e)

  pub response-unfit : b ≡ false → record { number = 1; stream = w; answer = answer } ≡ P
  response-unfit f = response-by false f

  pub response-fit : b ≡ true → (x : Result (Response × Receiver) Refusal) (n : ℕ) (st a : List ℕ) → x ≡ opened_response method key clock salt s → n ≡ response_number x
      → st ≡ response_stream x w → a ≡ response_told x answer → record { number = n; stream = st; answer = a } ≡ P
  response-fit f x n st a g h i j =
      (λ k. record { number = h k; stream = i k; answer = j k }) ∙ ap (λ (z : Result (Response × Receiver) Refusal). response_left z w answer) g ∙ response-by true f

-- ---- a variable header

module _ (w s out answer : List ℕ) where
  abbrev untouched : AfterChunk
  untouched = record { number = 1; out = out; stream = w; answer = answer }

  abbrev H : AfterChunk
  H = opens_variable w s out answer

  abbrev headed : AfterChunk
  headed = variable_left (variable_answer (receiver_in w) s (length out)) (receiver_in w) s out w answer

  variable-by : (b : Bool) → opens w answer ≡ b → cond b headed untouched ≡ H
  unfolding opens_variable
  variable-by b e = sym (ap (λ (z : Bool). cond z headed untouched) e)

  pub variable-untold : (length answer ≡ answer_words → ⊥) → untouched ≡ H
  variable-untold e = variable-by false (opens-none w answer e)

  module _ (l : length answer ≡ answer_words) (b : Bool) (e : b ≡ receiver_lawful w) where
    pub variable-unlawful : b ≡ false → untouched ≡ H
    variable-unlawful f = variable-by false (opens_by w answer l b e ∙ f)

    pub variable-told : b ≡ true → (st : Receiver) → st ≡ receiver_in w → (x : Result VariableHeader Refusal) (next : Receiver) (n : ℕ) (o left a : List ℕ)
        → x ≡ variable_answer st s (length out) → next ≡ variable_next st x → o ≡ variable_out st s out → n ≡ variable_number x
        → left ≡ variable_stream x next w → a ≡ variable_told x answer → record { number = n; out = o; stream = left; answer = a } ≡ H
    variable-told f st g x next n o left a h i j m p q =
        (λ k. record { number = m k; out = j k; stream = (p ∙ ap (λ (z : Receiver). variable_stream x z w) i) k; answer = q k })
        ∙ ap (λ (z : Result VariableHeader Refusal). variable_left z st s out w answer) h
        ∙ ap (λ (z : Receiver). variable_left (variable_answer z s (length out)) z s out w answer) g
        ∙ variable-by true (opens_by w answer l b e ∙ f)
