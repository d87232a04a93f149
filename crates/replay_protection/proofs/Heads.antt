-- A head whose salt the pool has forgotten is stale, so no head is accepted twice.
-- Assumes nothing.
use Rattle.std.specs.Prelude.{Err, Ok, Result}
use mathlib.Core.Path.{◌≡◌, refl, sym, ap₂, subst}
use mathlib.Core.Logic.{◌≢◌}
use mathlib.Core.Bool.{Bool, true, false, cond, false≢true, and-eq-true_iff}
use mathlib.Core.List.{List, [], ◌∷◌, ◌++◌, append_assoc}
use Prim.Native.Nat.{ℕ, ◌+◌, ◌≤◌}
use native.Mathlib.Omega.{arith}
use lib.Dec.{leb}
use borrow.Author.Tests.{leb-true}
use Rattle.session_book.specs.Demand3.{Each, Pairs}
use Rattle.protocol.specs.Method.{salt_length}
use Rattle.protocol.specs.Time.{time_valid}
use Rattle.stream_pieces.specs.Pieces.{open_at, salted_key}
use Rattle.stream_heads.specs.Heads.{fixed_of}
use Rattle.stream_open.specs.declared.Receiver.{Receiver}
use Rattle.stream_open_request.specs.declared.Request.{Request}
use Rattle.demands.specs.StreamsKeep.{salt_of, time_in}
use Rattle.demands.specs.SaltsStay.{FrontCall, HeadCall, opens-front, opens-variable, Held, front_answer, leaves, held_after, ForwardCalls}
use Rattle.demands.proofs.BeyondUnread.{beginning, part}
use Rattle.demands.proofs.RequestTells.{request-tells}
use Rattle.demands.proofs.SaltsStay.{salt-stays}
use Rattle.replay_protection.specs.Heads.{is_accepted, kept_for, KeptLongEnough, front_size, front, accepted_fronts, HeadsOnce}
use Rattle.protocol.specs.declared.Refusal.{Refusal}

pub kept-long-enough : KeptLongEnough
kept-long-enough = omega arith

-- ---- an accepted call

record Opened (a : Result (Request × Receiver) Refusal) : Type 0 where
  head : Request
  stream : Receiver
  is : a ≡ Ok (head, stream)

opened : (a : Result (Request × Receiver) Refusal) → is_accepted a ≡ true → Opened a
opened (Ok (h, st)) e = record { head = h; stream = st; is = refl }
opened (Err r) e = absurd (false≢true e)

module _ (method : ℕ) (key : List ℕ) where
  -- the time that a head says
  abbrev stamp_of : List ℕ → ℕ
  stamp_of s = time_in (open_at (salted_key method key (salt_of method s)) 0 (fixed_of (salt_length method) 0 s))

  same-salt : (s t : List ℕ) → front method t ≡ front method s → salt_of method t ≡ salt_of method s
  same-salt s t e = beginning (front_size method) s t e (salt_length method) (omega arith)

  same-stamp : (s t : List ℕ) → front method t ≡ front method s → stamp_of t ≡ stamp_of s
  same-stamp s t e =
      ap₂ (λ (salt fixed : List ℕ). time_in (open_at (salted_key method key salt) 0 fixed)) (same-salt s t e)
      (part (front_size method) s t e (salt_length method) (27 + 0) (omega arith))

  -- it is valid at the clock of a call that accepts it
  record Timely (c : FrontCall) : Type 0 where
    not-ahead : stamp_of c.bytes ≤ c.clock + 30
    not_behind : c.clock ≤ stamp_of c.bytes + 30

  timely : (pool : List ℕ) (c : FrontCall) → Opened (front_answer method key c pool) → Timely c
  unfolding time_valid
  timely pool c o =
      let d = request-tells method key c.clock c.bytes pool o.head o.stream o.is in
      let valid = (and-eq-true_iff (leb d.time (c.clock + 30)) _).0 d.fixed-opens.time-valid in
      let ahead = leb-true d.time (c.clock + 30) valid.0 in
      let behind = leb-true c.clock (d.time + 30) valid.1 in
      let same : d.time ≡ stamp_of c.bytes = d.fixed-opens.says-time in
      record { not-ahead = omega arith; not_behind = omega arith }

  -- ---- calls after an accepted one

  forward-to : (t : ℕ) (between : List HeadCall) (y : FrontCall) (cs : List HeadCall) → ForwardCalls t (between ++ opens-front y ∷ cs)
      → ForwardCalls t (between ++ opens-front y ∷ [])
  forward-to t [] y cs f = (f.0, tt)
  forward-to t (opens-front c ∷ between) y cs f = (f.0, forward-to c.clock between y cs f.1)
  forward-to t (opens-variable c ∷ between) y cs f = forward-to t between y cs f

  held-append : (m : Held) (cs ds : List HeadCall) → held_after method key m (cs ++ ds) ≡ held_after method key (held_after method key m cs) ds
  held-append m [] ds = refl
  held-append m (c ∷ cs) ds = held-append (leaves method key m c) cs ds

  module _ (x : FrontCall) (m : Held) (o : Opened (front_answer method key x m.pool)) where
    -- what is held after x and the calls since
    abbrev since : List HeadCall → Held
    since between = held_after method key m (opens-front x ∷ between)

    -- a later call with the same front comes while the salt is kept, or it is not timely
    again : (between : List HeadCall) (y : FrontCall) → ForwardCalls x.clock (between ++ opens-front y ∷ [])
        → Opened (front_answer method key y (since between).pool) → front method x.bytes ≢ front method y.bytes
    again between y f p e =
        let first = timely m.pool x o in
        let second = timely (since between).pool y p in
        let stamp = same-stamp x.bytes y.bytes (sym e) in
        let soon : y.clock ≤ x.clock + kept_for = omega (arith, first.not-ahead, second.not_behind, stamp) in
        (salt-stays method key m [] between x y o.head o.stream o.is f (same-salt x.bytes y.bytes (sym e))
        (omega (arith, kept-long-enough))
        ).not-accepted p.head p.stream p.is

    abbrev Others : Held → List HeadCall → Type 0
    Others n cs = Each (λ b. front method x.bytes ≢ b) (accepted_fronts method key n cs)

    -- one call more among those since
    held_next : (between : List HeadCall) (c : HeadCall) (cs : List HeadCall) → Others (since (between ++ c ∷ [])) cs
        → Others (leaves method key (since between) c) cs
    held_next between c cs = subst (λ (n : Held). Others n cs) (held-append (leaves method key m (opens-front x)) between (c ∷ []))

    forward-next : (between : List HeadCall) (c : HeadCall) (cs : List HeadCall) → ForwardCalls x.clock (between ++ c ∷ cs)
        → ForwardCalls x.clock ((between ++ c ∷ []) ++ cs)
    forward-next between c cs = subst (ForwardCalls x.clock) (sym (append_assoc between (c ∷ []) cs))

    never-again : (between cs : List HeadCall) → ForwardCalls x.clock (between ++ cs) → Others (since between) cs
    never-again between [] f = tt
    never-again between (opens-variable y ∷ cs) f =
        let c = opens-variable y in
        held_next between c cs (never-again (between ++ c ∷ []) cs (forward-next between c cs f))
    never-again between (opens-front y ∷ cs) f =
        let c = opens-front y in
        go (is_accepted (front_answer method key y (since between).pool)) refl
        (held_next between c cs (never-again (between ++ c ∷ []) cs (forward-next between c cs f)))
      where
        go : (b : Bool) → is_accepted (front_answer method key y (since between).pool) ≡ b → Others (leaves method key (since between) (opens-front y)) cs
            → Each (λ z. front method x.bytes ≢ z)
            (cond b (front method y.bytes ∷ accepted_fronts method key (leaves method key (since between) (opens-front y)) cs)
            (accepted_fronts method key (leaves method key (since between) (opens-front y)) cs))
        go true e rest = (again between y (forward-to x.clock between y cs f) (opened _ e), rest)
        go false e rest = rest

  -- ---- a run

  from : (t : ℕ) (m : Held) (cs : List HeadCall) → ForwardCalls t cs → Pairs (λ a b. a ≢ b) (accepted_fronts method key m cs)
  from t m [] f = tt
  from t m (opens-front c ∷ cs) f =
      go (is_accepted (front_answer method key c m.pool)) refl (from c.clock (leaves method key m (opens-front c)) cs f.1)
    where
      go : (b : Bool) → is_accepted (front_answer method key c m.pool) ≡ b
          → Pairs (λ a d. a ≢ d) (accepted_fronts method key (leaves method key m (opens-front c)) cs)
          → Pairs (λ a d. a ≢ d) (cond b (front method c.bytes ∷ accepted_fronts method key (leaves method key m (opens-front c)) cs)
          (accepted_fronts method key (leaves method key m (opens-front c)) cs))
      go true e rest = (never-again c m (opened _ e) [] cs f.1, rest)
      go false e rest = rest
  from t m (opens-variable c ∷ cs) f = from t (leaves method key m (opens-variable c)) cs f

pub heads-once : HeadsOnce
heads-once method key m cs f = from method key 0 m cs f
