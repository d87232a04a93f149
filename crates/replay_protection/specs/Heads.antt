-- No request head is accepted twice by its first call: salt and fixed part, on any pool. About what that call's contract says.
-- Assumes nothing.
use Rattle.std.specs.Prelude.{◌≢◌, Bool, true, false, cond, List, [], ◌∷◌, ℕ, ◌+◌, ◌≤◌, take, Err, Ok, Result}
use Rattle.session_book.specs.Demand3.{Pairs}
use Rattle.protocol.specs.Method.{salt_length}
use Rattle.salt_pool.specs.Pool.{keep_time}
use Rattle.demands.specs.SaltsStay.{HeadCall, opens-front, opens-variable, Held, front_answer, leaves, ForwardCalls}
use Rattle.stream_open_request.specs.declared.Request.{Request}
use Rattle.stream_open.specs.declared.Receiver.{Receiver}
use Rattle.protocol.specs.declared.Refusal.{Refusal}

abbrev pub is_accepted : Result (Request × Receiver) Refusal → Bool
is_accepted (Ok (h, st)) = true
is_accepted (Err r) = false

-- the seconds for which a pool has to keep a salt: a head's time is valid for 30 before the clock and for 30 after it
abbrev pub kept_for : ℕ
kept_for = 60

-- which it does
abbrev pub KeptLongEnough : Type 0
KeptLongEnough = kept_for ≤ keep_time

-- salt and fixed part: the fixed header's 11 bytes and its tag's 16
abbrev pub front_size : ℕ → ℕ
front_size method = salt_length method + 27

abbrev pub front : ℕ → List ℕ → List ℕ
front method s = take (front_size method) s

-- the fronts of the first calls that were accepted, in order; second calls stand between, on whatever streams
abbrev pub accepted_fronts : ℕ → List ℕ → Held → List HeadCall → List (List ℕ)
accepted_fronts method key m [] = []
accepted_fronts method key m (opens-front c ∷ cs) =
    cond (is_accepted (front_answer method key c m.pool)) (front method c.bytes ∷ accepted_fronts method key (leaves method key m (opens-front c)) cs)
    (accepted_fronts method key (leaves method key m (opens-front c)) cs)
accepted_fronts method key m (opens-variable c ∷ cs) = accepted_fronts method key (leaves method key m (opens-variable c)) cs

-- Every method and key, every list of calls of both kinds from any pool, each given the pool as the last left it, with clocks that
-- never go back: of the fronts that were accepted no two are equal.
abbrev pub HeadsOnce : Type 0
HeadsOnce =
    (method : ℕ) (key : List ℕ) (m : Held) (cs : List HeadCall) → ForwardCalls 0 cs → Pairs (λ a b. a ≢ b) (accepted_fronts method key m cs)
