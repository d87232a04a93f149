-- A salt that was stored by the call for a request's front stays known, whatever the calls for variable headers answer: it is not
-- accepted again while it is kept.
-- Assumes nothing.
use Rattle.std.specs.Prelude.{◌≡◌, true, List, [], ◌∷◌, ◌++◌, ℕ, ◌+◌, ◌≤◌, ◌<◌, length, Err, Ok, Result}
use Rattle.protocol.specs.declared.Refusal.{Refusal}
use Rattle.protocol.specs.declared.Refusal.TheVariants.{Replay, More}
use Rattle.protocol.specs.Method.{salt_length}
use Rattle.stream_pieces.specs.Pieces.{salted_key}
use Rattle.stream_open.specs.declared.Receiver.{Receiver}
use Rattle.stream_open_request.specs.declared.Request.{Request}
use Rattle.stream_heads.specs.Heads.{front_length, fixed_of}
use Rattle.stream_open_request.specs.Requests.{opened_request, request_pool}
use Rattle.stream_open_variable.specs.Variable.{variable_answer, variable_out, variable_next}
use Rattle.demands.specs.StreamsKeep.{of_front, salt_of}
use Rattle.demands.specs.StreamsOpen.{FixedOpens}
use Rattle.stream_open_variable.specs.declared.VariableHeader.{VariableHeader}

-- ---- calls of both kinds, all with one method and key

-- a call for a request's front
pub record FrontCall : Type 0 where
  pub clock : ℕ
  pub bytes : List ℕ

-- a call for a variable header, on any state
pub record VariableCall : Type 0 where
  pub stream : Receiver
  pub bytes : List ℕ
  pub buffer : List ℕ

pub data HeadCall : Type 0 where
  opens-front : FrontCall → HeadCall
  opens-variable : VariableCall → HeadCall

-- what a call leaves of what a host holds: the pool, the stream that it is about, and the buffer
pub record Held : Type 0 where
  pub pool : List ℕ
  pub stream : Receiver
  pub buffer : List ℕ

abbrev pub front_answer : ℕ → List ℕ → FrontCall → List ℕ → Result (Request × Receiver) Refusal
front_answer method key c pool = opened_request method key c.clock c.bytes pool

-- a front that is refused has no stream
abbrev pub handed_on : Result (Request × Receiver) Refusal → Receiver → Receiver
handed_on (Ok (h, st)) other = st
handed_on (Err r) other = other

abbrev pub second_answer : VariableCall → Result VariableHeader Refusal
second_answer c = variable_answer c.stream c.bytes (length c.buffer)

abbrev pub leaves : ℕ → List ℕ → Held → HeadCall → Held
leaves method key m (opens-front c) =
    record {
      pool = request_pool method key c.clock c.bytes m.pool;
      stream = handed_on (front_answer method key c m.pool) m.stream;
      buffer = m.buffer;
    }
leaves method key m (opens-variable c) =
    record {
      pool = m.pool;
      stream = variable_next c.stream (second_answer c);
      buffer = variable_out c.stream c.bytes c.buffer;
    }

abbrev pub held_after : ℕ → List ℕ → Held → List HeadCall → Held
held_after method key m [] = m
held_after method key m (c ∷ cs) = held_after method key (leaves method key m c) cs

-- from t on the clock never goes back; a variable header's call has none
abbrev pub ForwardCalls : (t : ℕ) → List HeadCall → Type 0
ForwardCalls t [] = Unit {0}
ForwardCalls t (opens-front c ∷ cs) = (t ≤ c.clock) × ForwardCalls c.clock cs
ForwardCalls t (opens-variable c ∷ cs) = ForwardCalls t cs

-- ---- the statement

-- a call is refused with 8, or with a refusal that stands before it in the order: bytes of the front are missing, or its fixed
-- header is refused
pub data ReplayOrEarlier (method : ℕ) (key : List ℕ) (c : FrontCall) (pool : List ℕ) : Type 0 where
  replayed : front_answer method key c pool ≡ Err Replay → ReplayOrEarlier method key c pool
  front-missing : length c.bytes < front_length (salt_length method) 0
      → front_answer method key c pool ≡ Err (More (front_length (salt_length method) 0)) → ReplayOrEarlier method key c pool
  front-refused : (r : Refusal) → of_front r ≡ true
      → ((time size : ℕ)
      → FixedOpens (salted_key method key (salt_of method c.bytes)) 0 c.clock (fixed_of (salt_length method) 0 c.bytes) time size → ⊥)
      → front_answer method key c pool ≡ Err r → ReplayOrEarlier method key c pool

pub record NotTwice (method : ℕ) (key : List ℕ) (c : FrontCall) (pool : List ℕ) : Type 0 where
  pub not-accepted : (h : Request) (st : Receiver) → front_answer method key c pool ≡ Ok (h, st) → ⊥
  pub answer : ReplayOrEarlier method key c pool

-- x is accepted after the calls `before`; y comes with its salt at most 60 seconds later, after the calls `between`, among which
-- are any calls for variable headers, on the stream that x handed on as on any other
abbrev pub SaltStays : Type 0
SaltStays =
    (method : ℕ) (key : List ℕ) (m : Held) (before between : List HeadCall) (x y : FrontCall) (h : Request) (st : Receiver)
    → front_answer method key x (held_after method key m before).pool ≡ Ok (h, st)
    → ForwardCalls x.clock (between ++ opens-front y ∷ [])
    → salt_of method y.bytes ≡ salt_of method x.bytes → y.clock ≤ x.clock + 60
    → NotTwice method key y (held_after method key m (before ++ opens-front x ∷ between)).pool
