-- When exactly the front of a request's head is accepted, and what each way out of its call leaves.
-- Assumes nothing.
use mathlib.Core.Path.{◌≡◌, refl, sym, ap, ◌∙◌, subst}
use mathlib.Core.Bool.{Bool, true, false, cond, ◌&&◌, and-eq-true_iff}
use mathlib.Core.List.{List}
use Prim.Native.Nat.{ℕ}
use native.Mathlib.Omega.{arith}
use lib.Dec.{leb}
use lib.ListN.{length}
use borrow.Author.Tests.{le-leb, leb-true}
use Rattle.protocol.specs.declared.Refusal.{Refusal}
use Rattle.protocol.specs.declared.Refusal.TheVariants.{Settings, Replay, Full, More}
use Rattle.protocol.specs.Method.{salt_length}
use Rattle.salt_pool.specs.Pool.{Met}
use Rattle.std.specs.Prelude.{Ok, Err, Result}
use Rattle.salt_pool.specs.Pool.{Replay as Known, Full as NoRoom}
use Rattle.salt_pool.specs.Pool.{meet, store}
use Rattle.salt_pool.proofs.MeetLaws.{meet-exactly}
use Rattle.stream_pieces.specs.declared.Subkey.{Subkey}
use Rattle.stream_pieces.specs.Pieces.{subkey_words, Keyed, salted_key}
use Rattle.stream_heads.specs.Heads.{front_length, fixed_of, open_fixed}
use Rattle.stream_open.specs.declared.Turn.TheVariants.{Variable}
use Rattle.stream_open.specs.declared.Receiver.{Receiver}
use Rattle.stream_open.specs.Chunks.{receiver}
use Rattle.stream_open_request.specs.declared.Request.{Request}
use Rattle.stream_open_request.specs.Requests.{fixed_as, fixed_pool, read_front, front_pool, opened_as, settings, opened_request, request_pool}
use Rattle.demands.specs.StreamsKeep.{salt_of, of_request, of_front, RequestAnswered, accepted-request, refused-request, RequestKeeps}
use Rattle.demands.specs.StreamsOpen.{RequestOpens, RequestExactlyWhen}
use Rattle.demands.proofs.HeadTells.{of_fixed, fixed-tells, fixed-given, fixed-refusals}
use Rattle.stream_heads.specs.declared.Fixed.{Fixed}

abbrev is_accepted : Result (Request × Receiver) Refusal → ℕ
is_accepted (Ok (h, st)) = 1
is_accepted (Err r) = 0

abbrev request_in : Result (Request × Receiver) Refusal → Request → Request
request_in (Ok (h, st)) other = h
request_in (Err r) other = other

abbrev stream_in : Result (Request × Receiver) Refusal → Receiver → Receiver
stream_in (Ok (h, st)) other = st
stream_in (Err r) other = other

pub not-accepted : (a : Result (Request × Receiver) Refusal) (r : Refusal) (h : Request) (st : Receiver) → a ≡ Err r → a ≡ Ok (h, st) → ⊥
not-accepted a r h st e g = let z : ◌≡◌ {A = ℕ} 0 1 = ap is_accepted (sym e ∙ g) in omega arith

module _ (method : ℕ) (key : List ℕ) (clock : ℕ) (s pool : List ℕ) where
  abbrev n : ℕ
  n = salt_length method

  abbrev k : Keyed
  k = salted_key method key (salt_of method s)

  abbrev w : Subkey
  w = subkey_words k.bytes

  abbrev front_read : Result Fixed Refusal
  front_read = open_fixed k 0 clock (fixed_of n 0 s)

  abbrev met : Met
  met = meet pool clock (salt_of method s)

  abbrev whole : Bool
  whole = leb (front_length n 0) (length s)

  -- by the tests for the settings and the front, by what the salt meets and by what the fixed header says
  module _ (a b : Bool) (m : Met) (x : Result Fixed Refusal) (ea : settings method (length key) pool ≡ a) (eb : whole ≡ b) (em : met ≡ m)
      (ex : front_read ≡ x) where
    pub answer-by : opened_request method key clock s pool
        ≡ cond a (cond b (opened_as method w (front_length n 0) (fixed_as m x)) (Err (More (front_length n 0)))) (Err Settings)
    unfolding opened_request read_front
    answer-by =
        λ i. cond (ea i)
        (cond (eb i) (opened_as method w (front_length n 0) (fixed_as (em i) (ex i))) (Err (More (front_length n 0)))) (Err Settings)

    pub pool-by : request_pool method key clock s pool ≡ cond (a && b) (fixed_pool m x clock (salt_of method s) pool) pool
    unfolding request_pool front_pool
    pool-by = λ i. cond (ea i && eb i) (fixed_pool (em i) (ex i) clock (salt_of method s) pool) pool

  pub record RequestGiven (h : Request) (st : Receiver) (d : RequestOpens method key clock s pool h st) : Type 0 where
    pub accepts : opened_request method key clock s pool ≡ Ok (h, st)
    pub stores : request_pool method key clock s pool ≡ store pool d.place clock (salt_of method s)

  pub meets-room : (h : Request) (st : Receiver) (d : RequestOpens method key clock s pool h st) → met ≡ Ok d.place
  meets-room h st d = ((meet-exactly pool clock (salt_of method s)).room d.place).1 (d.new-salt, d.free-place)

  pub request-given : (h : Request) (st : Receiver) (d : RequestOpens method key clock s pool h st) → RequestGiven h st d
  request-given h st d =
      let eb = le-leb (front_length n 0) (length s) d.front-whole in
      let ef = fixed-given k 0 clock (fixed_of n 0 s) d.time d.size d.fixed-opens in
      let em = meets-room h st d in
      record {
        accepts = answer-by true true _ _ d.lawful-settings eb em ef ∙ (λ i. Ok (sym d.says i, sym d.stream i));
        stores = pool-by true true _ _ d.lawful-settings eb em ef;
      }

  pub data Way : Type 0 where
    refused : (r : Refusal) → of_request r ≡ true → opened_request method key clock s pool ≡ Err r → request_pool method key clock s pool ≡ pool → Way
    accepted : (h : Request) (st : Receiver) (d : RequestOpens method key clock s pool h st) → RequestGiven h st d → Way

  by-met : settings method (length key) pool ≡ true → whole ≡ true → (m : Met) (x : Result Fixed Refusal) → met ≡ m → front_read ≡ x → Way
  by-met ea eb (Ok place) (Ok f) em ex =
      let h : Request = record { time = f.time; length = f.length; used = front_length n 0 } in
      let st : Receiver = receiver method (Variable f.length) 1 w in
      let there = ((meet-exactly pool clock (salt_of method s)).room place).0 em in
      let d : RequestOpens method key clock s pool h st =
      record {
        lawful-settings = ea;
        front-whole = leb-true (front_length n 0) (length s) eb;
        time = f.time;
        size = f.length;
        fixed-opens = fixed-tells k 0 clock (fixed_of n 0 s) f ex;
        place = place;
        new-salt = there.0;
        free-place = there.1;
        says = refl;
        stream = refl;
      } in
      accepted h st d (request-given h st d)
  by-met ea eb (Err Known) (Ok f) em ex = refused Replay refl (answer-by true true (Err Known) (Ok f) ea eb em ex) (pool-by true true (Err Known) (Ok f) ea eb em ex)
  by-met ea eb (Err NoRoom) (Ok f) em ex = refused Full refl (answer-by true true (Err NoRoom) (Ok f) ea eb em ex) (pool-by true true (Err NoRoom) (Ok f) ea eb em ex)
  by-met ea eb m (Err r) em ex =
      let o = ap of_fixed (sym ex) ∙ fixed-refusals k 0 clock (fixed_of n 0 s) in
      refused r ((and-eq-true_iff (of_request r) _).0 ((and-eq-true_iff (of_front r) _).0 o).1).0 (answer-by true true m (Err r) ea eb em ex)
      (pool-by true true m (Err r) ea eb em ex)

  by_front : (a b : Bool) → settings method (length key) pool ≡ a → whole ≡ b → Way
  by_front false b ea eb = refused Settings refl (answer-by false b met front_read ea eb refl refl) (pool-by false b met front_read ea eb refl refl)
  by_front true false ea eb =
      refused (More (front_length n 0)) refl (answer-by true false met front_read ea eb refl refl) (pool-by true false met front_read ea eb refl refl)
  by_front true true ea eb = by-met ea eb met front_read refl refl

  pub way : Way
  way = by_front (settings method (length key) pool) whole refl refl

  pub request-tells : (h : Request) (st : Receiver) → opened_request method key clock s pool ≡ Ok (h, st)
      → RequestOpens method key clock s pool h st
  request-tells h st e = go way
    where
      go : Way → RequestOpens method key clock s pool h st
      go (refused r o er ep) = absurd (not-accepted _ r h st er e)
      go (accepted g t d q) =
          let eg : g ≡ h = ap (λ (x : Result (Request × Receiver) Refusal). request_in x g) (sym q.accepts ∙ e) in
          let et : t ≡ st = ap (λ (x : Result (Request × Receiver) Refusal). stream_in x t) (sym q.accepts ∙ e) in
          subst (λ (x : Request). RequestOpens method key clock s pool x st) eg
          (subst (λ (x : Receiver). RequestOpens method key clock s pool g x) et d)

  -- ---- demand 1

  pub request-keeps : RequestKeeps method key clock s pool
  request-keeps = record { answered = answers way; refused-keeps-pool = λ r e. keeps r e way }
    where
      answers : Way → RequestAnswered (opened_request method key clock s pool)
      answers (refused r o er ep) = refused-request r o er
      answers (accepted h st d q) = accepted-request h st q.accepts

      keeps : (r : Refusal) → opened_request method key clock s pool ≡ Err r → Way → request_pool method key clock s pool ≡ pool
      keeps r e (refused t o er ep) = ep
      keeps r e (accepted h st d q) = absurd (not-accepted _ r h st e q.accepts)

-- ---- demand 2

pub request-exactly-when : RequestExactlyWhen
request-exactly-when method key clock s pool h st =
    record {
      only-when = request-tells method key clock s pool h st;
      always-when = λ d. (request-given method key clock s pool h st d).accepts;
      salt-stored = λ d. (request-given method key clock s pool h st d).stores;
    }
