-- K4 and K13 of request heads, over mixed runs.
-- Assumes nothing.
use Rattle.std.specs.Prelude.{Err, Ok, Result, None, Option, Some}
use mathlib.Core.Path.{◌≡◌, refl, sym, ap, ap₂, ◌∙◌, subst}
use mathlib.Core.Logic.{◌≢◌}
use mathlib.Core.Bool.{Bool, true, false, cond, true≢false}
use mathlib.Core.List.{List, [], ◌∷◌, ◌++◌}
use Prim.Native.Nat.{ℕ, ◌+◌, ◌≤◌}
use native.Mathlib.Omega.{arith}
use lib.Dec.{eqb}
use lib.ListN.{length, take}
use borrow.Author.Tests.{eqb-true, eqb-false}
use Rattle.protocol.specs.Orders.{among}
use Rattle.protocol.specs.Method.{salt_length}
use Rattle.protocol.specs.Refusal.{refusal_number}
use Rattle.session_book.specs.Demand3.{Each, Pairs}
use Rattle.stream_open.specs.declared.Receiver.{Receiver}
use Rattle.stream_open.specs.declared.Turn.TheVariants.{Ended}
use Rattle.stream_open_request.specs.declared.Request.{Request}
use Rattle.stream_open_request.specs.Requests.{opened_request, request_pool}
use Rattle.stream_answers.specs.Chunks.{fits}
use Rattle.stream_answers.specs.Told.{request_number}
use Rattle.relay.specs.Streams.{AfterRequest, request_left, opens_request}
use Rattle.demands.specs.SaltsStay as demands
use Rattle.demands.specs.SaltsStay.{HeadCall, Held, FrontCall, held_after, leaves, ForwardCalls, front_answer, NotTwice, ReplayOrEarlier, replayed, front-missing, front-refused}
use Rattle.demands.proofs.SaltsStay.{salt-stays}
use Rattle.replay_protection.specs.Heads as heads
use Rattle.replay_protection.proofs.Heads.{heads-once}
use Rattle.guarantees.specs.Calls.{Role, Front, nothing, makes-table, opens-datagram, makes-pool, opens-front, Memory, Use, lend, does, next, after, role_of, picked, front_in, on_pool, front_clocks, accepted_fronts}
use Rattle.guarantees.specs.Guarantees.{Fronts, PoolRun, HeadsOnce, SaltStays}
use Rattle.guarantees.proofs.Base.{list-in}
use Rattle.guarantees.proofs.Deciding.{not-zero}
use Rattle.guarantees.proofs.Roles.{OnPool, on-pool}
use Rattle.guarantees.proofs.Runs.{placed-here, placed-elsewhere, placed_same}
use Rattle.protocol.specs.declared.Refusal.{Refusal}

module _ (k method : ℕ) (key : List ℕ) where
  -- what is held beside the pool is not looked at
  abbrev held : List ℕ → Held
  held p = record { pool = p; stream = record { method = 0; turn = Ended; counter = 0; subkey = record { a = 0; b = 0; c = 0; d = 0 } }; buffer = [] }

  abbrev as_call : Front → FrontCall
  as_call f = record { clock = f.clock; bytes = f.bytes }

  -- the calls that reach the pool: those that are lent a stream and an answer of their lengths
  abbrev reached : Memory → Use → Bool
  reached m u = fits (length (m.streams u.stream)) (length u.answer)

  abbrev heads_of : Memory → List Use → List HeadCall
  heads_of m [] = []
  heads_of m (u ∷ us) = cond (reached m u) (picked (on_pool k u) (λ f. demands.opens-front (as_call f)) (heads_of (next m u) us)) (heads_of (next m u) us)

  -- ---- one call, seen from the pool

  module _ (m : Memory) (u : Use) where
    abbrev p : List ℕ
    p = m.pools k

    pub record Opened (f : Front) : Type 0 where
      pub unreached : reached m u ≡ false → ((does m u).number ≡ 1) × ((next m u).pools k ≡ p)
      pub number : reached m u ≡ true → (does m u).number ≡ request_number (front_answer method key (as_call f) p)
      pub pool : reached m u ≡ true → (next m u).pools k ≡ request_pool method key f.clock f.bytes p

    abbrev StepOn : Option Front → Type 0
    StepOn None = (next m u).pools k ≡ p
    StepOn (Some f) = Opened f

    opened : (f : Front) → u.pool ≡ k → OnPool (opens-front f) (lend m u) (does m u) → Fronts method key (opens-front f) → Opened f
    unfolding opens_request
    opened f e x s =
        let there : m.pools u.pool ≡ p = ap m.pools e in
        let here = placed-here m.pools k u.pool (does m u).left.pool e in
        let w = m.streams u.stream in
        record {
          unreached = λ b. (
            x.number ∙ ap (λ (z : Bool). (cond z (left (opened_request f.method f.key f.clock f.bytes (m.pools u.pool))) unfit).number) b,
            here ∙ x.pool ∙ ap (λ (z : Bool). (cond z (left (opened_request f.method f.key f.clock f.bytes (m.pools u.pool))) unfit).pool) b ∙ there,
          );
          number = λ b.
              x.number
              ∙ ap (λ (z : Bool). (cond z (left (opened_request f.method f.key f.clock f.bytes (m.pools u.pool))) unfit).number) b
              ∙ (λ i. request_number (opened_request (s.0 i) (s.1 i) f.clock f.bytes (there i)));
          pool = λ b.
              here ∙ x.pool
              ∙ ap (λ (z : Bool). (cond z (left (opened_request f.method f.key f.clock f.bytes (m.pools u.pool))) unfit).pool) b
              ∙ (λ i. request_pool (s.0 i) (s.1 i) f.clock f.bytes (there i));
        }
      where
        left : Result (Request × Receiver) Refusal → AfterRequest
        left x = request_left f.method f.key f.clock f.bytes (m.pools u.pool) (m.streams u.stream) u.answer x

        unfit : AfterRequest
        unfit = record { number = 1; pool = m.pools u.pool; stream = m.streams u.stream; answer = u.answer }

    by-role : (r : Role) → u.pool ≡ k → OnPool r (lend m u) (does m u) → Fronts method key r → StepOn (front_in r)
    by-role nothing e x s = placed_same m.pools k u.pool (does m u).left.pool x
    by-role makes-table e x s = placed_same m.pools k u.pool (does m u).left.pool x
    by-role (opens-datagram o) e x s = placed_same m.pools k u.pool (does m u).left.pool x
    by-role makes-pool e x s = absurd s
    by-role (opens-front f) e x s = opened f e x s

    pub step-on : (u.pool ≡ k → Fronts method key (role_of u.call)) → StepOn (on_pool k u)
    step-on s = go (eqb u.pool k) refl
      where
        go : (b : Bool) → eqb u.pool k ≡ b → StepOn (cond b (front_in (role_of u.call)) None)
        go true e = by-role (role_of u.call) (eqb-true u.pool k e) (on-pool u.call (lend m u)) (s (eqb-true u.pool k e))
        go false e = placed-elsewhere m.pools k u.pool (does m u).left.pool (eqb-false u.pool k e)

  -- ---- a run, as the calls for fronts alone

  abbrev Served : List Use → Type 0
  Served us = Each (λ u. u.pool ≡ k → Fronts method key (role_of u.call)) us

  same-either : {A : Type 0} (b : Bool) (x : A) → cond b x x ≡ x
  same-either true x = refl
  same-either false x = refl

  pool-run : (m : Memory) (us : List Use) → Served us → (h : Held) → h.pool ≡ m.pools k → (after m us).pools k ≡ (held_after method key h (heads_of m us)).pool
  pool-run m [] s h e = sym e
  pool-run m (u ∷ us) s h e = go (on_pool k u) (reached m u) refl (step-on m u s.0) (pool-run (next m u) us s.1)
    where
      go : (o : Option Front) (b : Bool) → reached m u ≡ b → StepOn m u o
          → ((g : Held) → g.pool ≡ (next m u).pools k → (after (next m u) us).pools k ≡ (held_after method key g (heads_of (next m u) us)).pool)
          → (after (next m u) us).pools k
          ≡ (held_after method key h (cond b (picked o (λ f. demands.opens-front (as_call f)) (heads_of (next m u) us)) (heads_of (next m u) us))).pool
      go None b eb x rest =
          rest h (e ∙ sym x) ∙ ap (λ (l : List HeadCall). (held_after method key h l).pool) (sym (same-either b (heads_of (next m u) us)))
      go (Some f) false eb x rest = rest h (e ∙ sym (x.unreached eb).1)
      go (Some f) true eb x rest =
          rest (leaves method key h (demands.opens-front (as_call f))) (ap (request_pool method key f.clock f.bytes) e ∙ sym (x.pool eb))

  accepted-number : (a : Result (Request × Receiver) Refusal) → eqb (request_number a) 0 ≡ heads.is_accepted a
  accepted-number (Ok (h, st)) = refl
  accepted-number (Err r) = not-zero r

  accepted-run : (m : Memory) (us : List Use) → Served us → (h : Held) → h.pool ≡ m.pools k
      → accepted_fronts k method m us ≡ heads.accepted_fronts method key h (heads_of m us)
  accepted-run m [] s h e = refl
  accepted-run m (u ∷ us) s h e = go (on_pool k u) (reached m u) refl (step-on m u s.0) (accepted-run (next m u) us s.1)
    where
      rest_of : List (List ℕ)
      rest_of = accepted_fronts k method (next m u) us

      go : (o : Option Front) (b : Bool) → reached m u ≡ b → StepOn m u o
          → ((g : Held) → g.pool ≡ (next m u).pools k → accepted_fronts k method (next m u) us ≡ heads.accepted_fronts method key g (heads_of (next m u) us))
          → cond (eqb (does m u).number 0) (picked o (λ f. take (salt_length method + 27) f.bytes) (accepted_fronts k method (next m u) us))
          (accepted_fronts k method (next m u) us)
          ≡ heads.accepted_fronts method key h (cond b (picked o (λ f. demands.opens-front (as_call f)) (heads_of (next m u) us)) (heads_of (next m u) us))
      go None b eb x rest =
          same-either (eqb (does m u).number 0) (accepted_fronts k method (next m u) us) ∙ rest h (e ∙ sym x)
          ∙ ap (heads.accepted_fronts method key h) (sym (same-either b (heads_of (next m u) us)))
      go (Some f) false eb x rest =
          ap (λ (n : ℕ). cond (eqb n 0) (take (salt_length method + 27) f.bytes ∷ accepted_fronts k method (next m u) us) (accepted_fronts k method (next m u) us))
          (x.unreached eb).0
          ∙ rest h (e ∙ sym (x.unreached eb).1)
      go (Some f) true eb x rest =
          let c = as_call f in
          ap₂ (λ (z : Bool) (l : List (List ℕ)). cond z (take (salt_length method + 27) f.bytes ∷ l) l)
          (ap (λ (n : ℕ). eqb n 0) (x.number eb) ∙ accepted-number (front_answer method key c (m.pools k))
          ∙ ap (λ (q : List ℕ). heads.is_accepted (front_answer method key c q)) (sym e))
          (rest (leaves method key h (demands.opens-front c)) (ap (request_pool method key f.clock f.bytes) e ∙ sym (x.pool eb)))

  -- ---- clocks

  -- `behind` is what comes behind the run's own calls
  forward-run : (behind : List HeadCall) (later : List Use) → ((t : ℕ) → Each (λ c. t ≤ c) (front_clocks k later) → ForwardCalls t behind)
      → (t : ℕ) (m : Memory) (us : List Use) → Each (λ c. t ≤ c) (front_clocks k (us ++ later)) → Pairs ◌≤◌ (front_clocks k (us ++ later))
      → ForwardCalls t (heads_of m us ++ behind)
  forward-run behind later end t m [] l p = end t l
  forward-run behind later end t m (u ∷ us) l p =
      go (on_pool k u) (reached m u) l p (λ c. forward-run behind later end c (next m u) us)
    where
      go : (o : Option Front) (b : Bool) → Each (λ c. t ≤ c) (picked o (λ f. f.clock) (front_clocks k (us ++ later)))
          → Pairs ◌≤◌ (picked o (λ f. f.clock) (front_clocks k (us ++ later)))
          → ((c : ℕ) → Each (λ d. c ≤ d) (front_clocks k (us ++ later)) → Pairs ◌≤◌ (front_clocks k (us ++ later)) → ForwardCalls c (heads_of (next m u) us ++ behind))
          → ForwardCalls t (cond b (picked o (λ f. demands.opens-front (as_call f)) (heads_of (next m u) us)) (heads_of (next m u) us) ++ behind)
      go None true l p rest = rest t l p
      go None false l p rest = rest t l p
      go (Some f) true l p rest = (l.0, rest f.clock p.0 p.1)
      go (Some f) false l p rest = rest t l.1 p.1

each_none : (l : List ℕ) → Each (λ c. 0 ≤ c) l
each_none [] = _
each_none (c ∷ l) = (omega arith, each_none l)

append-none : {A : Type 0} (l : List A) → l ++ [] ≡ l
append-none [] = refl
append-none (x ∷ l) = ap (◌∷◌ x) (append-none l)

pub once : HeadsOnce
once k method key m us run =
    subst (Pairs (λ a b. a ≢ b)) (sym (accepted-run k method key m us run.serves (held k method key (m.pools k)) refl))
    (heads-once method key (held k method key (m.pools k)) (heads_of k method key m us)
    (subst (ForwardCalls 0) (append-none (heads_of k method key m us))
    (forward-run k method key [] [] (λ t l. _) 0 m us (each_none (front_clocks k (us ++ [])))
    (subst (λ (l : List Use). Pairs ◌≤◌ (front_clocks k l)) (sym (append-none us)) run.forward))))

-- ---- a stored salt stays

each-front : {A : Type 0} (P : A → Type 0) (l r : List A) → Each P (l ++ r) → Each P l × Each P r
each-front P [] r e = (_, e)
each-front P (x ∷ l) r e = let q = each-front P l r e.1 in ((e.0, q.0), q.1)

module _ (k method : ℕ) (key : List ℕ) (m : Memory) (x y : Use) (us : List Use) (f g : Front) (run : PoolRun k method key (x ∷ us ++ y ∷ []))
    (ex : on_pool k x ≡ Some f) (ey : on_pool k y ≡ Some g) (accepted : (does m x).number ≡ 0)
    (salts : take (salt_length method) g.bytes ≡ take (salt_length method) f.bytes) (soon : g.clock ≤ f.clock + 60) where
  abbrev then : Memory
  then = after m (x ∷ us)

  served : Each (λ u. u.pool ≡ k → Fronts method key (role_of u.call)) us × Each (λ u. u.pool ≡ k → Fronts method key (role_of u.call)) (y ∷ [])
  served = each-front (λ u. u.pool ≡ k → Fronts method key (role_of u.call)) us (y ∷ []) run.serves.1

  first_on : Opened k method key m x f
  first_on = subst (StepOn k method key m x) ex (step-on k method key m x run.serves.0)

  second-on : Opened k method key then y g
  second-on = subst (StepOn k method key then y) ey (step-on k method key then y served.1.0)

  reached-first : reached k method key m x ≡ true
  reached-first = go (reached k method key m x) refl
    where
      go : (b : Bool) → reached k method key m x ≡ b → b ≡ true
      go true e = refl
      go false e = absurd (let z = sym accepted ∙ (first_on.unreached e).0 in omega (arith, z))

  abbrev c : FrontCall
  c = as_call k method key f

  abbrev d : FrontCall
  d = as_call k method key g

  abbrev start : Held
  start = held k method key (m.pools k)

  -- what the first front was answered
  data Taken (a : Result (Request × Receiver) Refusal) : Type 0 where
    taken : (h : Request) (st : Receiver) → a ≡ Ok (h, st) → Taken a

  taken-first : Taken (front_answer method key c (m.pools k))
  taken-first = go (front_answer method key c (m.pools k)) refl (sym (first_on.number reached-first) ∙ accepted)
    where
      go : (a : Result (Request × Receiver) Refusal) → front_answer method key c (m.pools k) ≡ a → request_number a ≡ 0 → Taken (front_answer method key c (m.pools k))
      go (Ok (h, st)) e z = taken h st e
      go (Err r) e z = absurd (true≢false (sym (ap (λ (n : ℕ). eqb n 0) z) ∙ not-zero r))

  clocks : f.clock ∷ front_clocks k (us ++ y ∷ []) ≡ front_clocks k (x ∷ us ++ y ∷ [])
  clocks = sym (ap (λ (o : Option Front). picked o (λ q. q.clock) (front_clocks k (us ++ y ∷ []))) ex)

  forward : ForwardCalls f.clock (heads_of k method key (next m x) us ++ demands.opens-front d ∷ [])
  forward =
      let l = subst (Pairs ◌≤◌) (sym clocks) run.forward in
      forward-run k method key (demands.opens-front d ∷ []) (y ∷ [])
      (λ t e. ((subst (λ (o : Option Front). Each (λ q. t ≤ q) (picked o (λ w. w.clock) [])) ey e).0, _)) f.clock (next m x) us l.0 l.1

  pool-then : then.pools k ≡ (held_after method key start ([] ++ demands.opens-front c ∷ heads_of k method key (next m x) us)).pool
  pool-then =
      pool-run k method key (next m x) us served.0 (leaves method key start (demands.opens-front c)) (sym (first_on.pool reached-first))

  not-twice : NotTwice method key d (held_after method key start ([] ++ demands.opens-front c ∷ heads_of k method key (next m x) us)).pool
  not-twice = go taken-first
    where
      go : Taken (front_answer method key c (m.pools k)) → NotTwice method key d (held_after method key start ([] ++ demands.opens-front c ∷ heads_of k method key (next m x) us)).pool
      go (taken h st e) = salt-stays method key start [] (heads_of k method key (next m x) us) c d h st e forward salts soon

  refused-again : among (1 ∷ 10 ∷ 4 ∷ 6 ∷ 7 ∷ 8 ∷ []) (does then y).number ≡ true
  refused-again = go (reached k method key then y) refl
    where
      listed : (q : List ℕ) → ReplayOrEarlier method key d q → among (1 ∷ 10 ∷ 4 ∷ 6 ∷ 7 ∷ 8 ∷ []) (request_number (front_answer method key d q)) ≡ true
      listed q (replayed e) = ap (λ (a : Result (Request × Receiver) Refusal). among (1 ∷ 10 ∷ 4 ∷ 6 ∷ 7 ∷ 8 ∷ []) (request_number a)) e
      listed q (front-missing l e) = ap (λ (a : Result (Request × Receiver) Refusal). among (1 ∷ 10 ∷ 4 ∷ 6 ∷ 7 ∷ 8 ∷ []) (request_number a)) e
      listed q (front-refused r o n e) =
          ap (λ (a : Result (Request × Receiver) Refusal). among (1 ∷ 10 ∷ 4 ∷ 6 ∷ 7 ∷ 8 ∷ []) (request_number a)) e ∙ of-front (refusal_number r) o
        where
          of-front : (i : ℕ) → among (4 ∷ 6 ∷ 7 ∷ []) i ≡ true → among (1 ∷ 10 ∷ 4 ∷ 6 ∷ 7 ∷ 8 ∷ []) i ≡ true
          of-front i z = list-in (4 ∷ 6 ∷ 7 ∷ []) (1 ∷ 10 ∷ 4 ∷ 6 ∷ 7 ∷ 8 ∷ []) i refl z

      go : (b : Bool) → reached k method key then y ≡ b → among (1 ∷ 10 ∷ 4 ∷ 6 ∷ 7 ∷ 8 ∷ []) (does then y).number ≡ true
      go false e = ap (among (1 ∷ 10 ∷ 4 ∷ 6 ∷ 7 ∷ 8 ∷ [])) (second-on.unreached e).0
      go true e =
          ap (among (1 ∷ 10 ∷ 4 ∷ 6 ∷ 7 ∷ 8 ∷ []))
          (second-on.number e ∙ ap (λ (q : List ℕ). request_number (front_answer method key d q)) pool-then) ∙ listed _ not-twice.answer

pub stays : SaltStays
stays k method key m x y us f g run ex ey accepted salts soon =
    refused-again k method key m x y us f g run ex ey accepted salts (omega (arith, soon))
