-- The calls that open the front of a request's head and the head of a response.
-- Assumes nothing.
use mathlib.Core.Path.{◌≡◌, refl, sym, ap, ◌∙◌}
use mathlib.Core.Logic.{◌≢◌}
use mathlib.Core.Bool.{Bool, true, false, cond, ◌&&◌, ◌||◌, true≢false}
use mathlib.Core.List.{List, [], ◌∷◌}
use Prim.Native.Nat.{ℕ, ◌+◌}
use native.Mathlib.Omega.{arith}
use lib.Dec.{eqb, leb}
use lib.ListN.{length, get_or, set, take, drop, replicate}
use borrow.Author.Tests.{eq-eqb, ne_eqb}
use Rattle.octets.specs.Buffers.{put, same}
use Rattle.octets.specs.Numbers.{be}
use Rattle.octets.proofs.BufferLaws.{put-none}
use Rattle.protocol.specs.Orders.{among}
use Rattle.protocol.specs.Method.{key_fits, salt_length, cipher_of}
use Rattle.protocol.specs.Subkey.{subkey}
use Rattle.protocol.specs.Time.{time_valid}
use Rattle.protocol.specs.declared.Refusal.{Refusal}
use Rattle.protocol.specs.declared.Refusal.TheVariants.{Settings, NotAuthentic, WrongType, WrongTime, More, Empty}
use Rattle.protocol.specs.Refusal.{refusal_number, added, ends_stream}
use Rattle.salt_pool.specs.Pool.{Met}
use Rattle.std.specs.Prelude.{Ok, Err, Result}
use Rattle.salt_pool.specs.Pool.{Replay as Known, Full as NoRoom}
use Rattle.salt_pool.specs.Pool.{meet}
use Rattle.stream_pieces.specs.Pieces.{authentic_at, open_at, keyed, subkey_words, Keyed}
use Rattle.stream_pieces.specs.declared.Subkey.{Subkey}
use Rattle.stream_pieces.specs.Framing.{is_empty}
use Rattle.stream_heads.specs.Heads.{front_length, fixed_of, fields_of, read_fixed, open_fixed}
use Rattle.stream_open_request.specs.Requests.{settings, fixed_as, read_front, opened_as, opened_request, request_pool}
use Rattle.stream_open_response.specs.Responses.{binding_of, bound_as, bound_of, response_at, opened_response}
use Rattle.words.specs.Answers.{refused_answer}
use Rattle.stream_answers.specs.Chunks.{fits}
use Rattle.relay.specs.Streams as heads
use Rattle.demands.proofs.StreamDemands.{streams-demand1}
use Rattle.guarantees.specs.Calls.{Lent, Role, nothing, opens-front, Front, head, leaves_stream, step, relay_stream_open_request, relay_stream_open_response}
use Rattle.guarantees.specs.Guarantees.{Ends}
use Rattle.guarantees.proofs.Base.{either, never, unlisted, Quiet, table_same}
use Rattle.stream_heads.specs.declared.Fixed.{Fixed}
use Rattle.stream_open_request.specs.declared.Request.{Request}
use Rattle.stream_open.specs.declared.Receiver.{Receiver}
use Rattle.stream_open_response.specs.declared.Response.{Response}

-- ---- what is known of a refusal

pub record Fact (ns behind ends : List ℕ) (tag : Bool) (wanted : ℕ) (r : Refusal) : Type 0 where
  pub listed : among (0 ∷ ns) (refusal_number r) ≡ true
  pub behind-tag : among behind (refusal_number r) ≡ true → tag ≡ true
  pub wanted-so : refusal_number r ≡ 10 → added r ≡ wanted
  pub ends_so : ends_stream r ≡ among ends (refusal_number r)

pub told-kept : (r : Refusal) (answer : List ℕ) → refusal_number r ≢ 10 → refusal_number r ≢ 15 → refused_answer r answer ≡ answer
unfolding refused_answer
told-kept r answer e f =
    let a = ne_eqb (refusal_number r) 10 e in
    let b = ne_eqb (refusal_number r) 15 f in
    (λ i. cond (a i || b i) (set answer 0 (added r)) answer)

pub told-wanted : (r : Refusal) (answer : List ℕ) → refusal_number r ≡ 10 → refused_answer r answer ≡ set answer 0 (added r)
unfolding refused_answer
told-wanted r answer e =
    ap (λ (b : Bool). cond (b || eqb (refusal_number r) 15) (set answer 0 (added r)) answer) (eq-eqb (refusal_number r) 10 e)

-- nothing is due
pub none-due : (b : Bool) (out : List ℕ) → out ≡ cond b (put out 0 (replicate 0 0)) out
none-due true out = put-none out 0
none-due false out = refl

-- a refusal before the tag is good, whose number is not 10
pub early : (ns behind ends : List ℕ) (tag : Bool) (wanted : ℕ) (r : Refusal) → among (0 ∷ ns) (refusal_number r) ≡ true
    → among behind (refusal_number r) ≡ false → refusal_number r ≢ 10 → ends_stream r ≡ among ends (refusal_number r) → Fact ns behind ends tag wanted r
early ns behind ends tag wanted r l e n g = record {
  listed = l;
  behind-tag = λ f. absurd (true≢false (sym f ∙ e));
  wanted-so = λ f. absurd (n f);
  ends_so = g;
}

-- one behind it
pub late : (ns behind ends : List ℕ) (tag : Bool) (wanted : ℕ) (r : Refusal) → among (0 ∷ ns) (refusal_number r) ≡ true → tag ≡ true
    → refusal_number r ≢ 10 → ends_stream r ≡ among ends (refusal_number r) → Fact ns behind ends tag wanted r
late ns behind ends tag wanted r l e n g =
    record { listed = l; behind-tag = λ f. e; wanted-so = λ f. absurd (n f); ends_so = g }

-- bytes are missing
pub missing : (ns behind ends : List ℕ) (tag : Bool) (wanted n : ℕ) → among (0 ∷ ns) 10 ≡ true → among behind 10 ≡ false → among ends 10 ≡ false
    → n ≡ wanted → Fact ns behind ends tag wanted (More n)
missing ns behind ends tag wanted n l e g h = record {
  listed = l;
  behind-tag = λ f. absurd (true≢false (sym f ∙ e));
  wanted-so = λ f. h;
  ends_so = sym g;
}

-- ---- a fixed header

abbrev tag_of : ℕ → (key s : List ℕ) → (b : ℕ) → Bool
tag_of method key s b = authentic_at (keyed (cipher_of method) (subkey key (take (salt_length method) s))) 0 (take (27 + b) (drop (salt_length method) s))

module _ (ns behind : List ℕ) (tag : Bool) (wanted : ℕ)
    (has-4 : among (0 ∷ ns) 4 ≡ true) (has-6 : among (0 ∷ ns) 6 ≡ true) (has-7 : among (0 ∷ ns) 7 ≡ true) (early-4 : among behind 4 ≡ false) where
  -- 4 does not end what no stream was handed on of, so ends are not looked at
  abbrev Fixes : Result Fixed Refusal → Type 0
  Fixes (Ok f) = tag ≡ true
  Fixes (Err r) = (among (0 ∷ ns) (refusal_number r) ≡ true) × ((among behind (refusal_number r) ≡ true → tag ≡ true) × (refusal_number r ≢ 10))

  opens-fixed : (key : Keyed) (kind clock : ℕ) (s : List ℕ) → authentic_at key 0 s ≡ tag → Fixes (open_fixed key kind clock s)
  unfolding open_fixed read_fixed
  opens-fixed key kind clock s e =
      let plain = open_at key 0 s in
      either Fixes (authentic_at key 0 s)
      (cond (eqb (get_or plain 0 0) kind) (cond (time_valid (be 8 (drop 1 plain)) clock) (Ok (fields_of plain)) (Err WrongTime)) (Err WrongType))
      (Err NotAuthentic)
      (λ g. let t : tag ≡ true = sym e ∙ g in
      either Fixes (eqb (get_or plain 0 0) kind) (cond (time_valid (be 8 (drop 1 plain)) clock) (Ok (fields_of plain)) (Err WrongTime)) (Err WrongType)
      (λ h. either Fixes (time_valid (be 8 (drop 1 plain)) clock) (Ok (fields_of plain)) (Err WrongTime) (λ i. t)
      (λ i. (has-7, ((λ j. t), (λ j. omega (arith, j))))))
      (λ h. (has-6, ((λ j. t), (λ j. omega (arith, j))))))
      (λ g. (has-4, ((λ j. absurd (true≢false (sym j ∙ early-4))), (λ j. omega (arith, j)))))

-- ---- the front of a request

abbrev request_ns : List ℕ
request_ns = 1 ∷ 10 ∷ 4 ∷ 6 ∷ 7 ∷ 8 ∷ 9 ∷ []

abbrev request_behind : List ℕ
request_behind = 6 ∷ 7 ∷ 8 ∷ 9 ∷ []

-- of a refusal of a head: number, verdict, and what is wanted
pub record HeadFact (ns behind : List ℕ) (tag : Bool) (wanted : ℕ) (r : Refusal) : Type 0 where
  pub listed : among (0 ∷ ns) (refusal_number r) ≡ true
  pub behind-tag : among behind (refusal_number r) ≡ true → tag ≡ true
  pub wanted-so : refusal_number r ≡ 10 → added r ≡ wanted

module _ (method : ℕ) (key : List ℕ) (clock : ℕ) (s pool : List ℕ) where
  abbrev tag : Bool
  tag = tag_of method key s 0

  abbrev FrontFacts : Result (Request × Receiver) Refusal → Type 0
  FrontFacts (Ok (h, st)) = Unit {0}
  FrontFacts (Err r) = HeadFact request_ns request_behind tag (salt_length method + 27 + 0) r

  by-met : (w : Subkey) (used : ℕ) (x : Met) (r : Result Fixed Refusal) → Fixes request_ns request_behind tag (salt_length method + 27 + 0) refl refl refl refl r
      → FrontFacts (opened_as method w used (fixed_as x r))
  by-met w used (Ok i) (Ok f) t = _
  by-met w used (Err Known) (Ok f) t = record { listed = refl; behind-tag = λ e. t; wanted-so = λ e. absurd (omega (arith, e)) }
  by-met w used (Err NoRoom) (Ok f) t = record { listed = refl; behind-tag = λ e. t; wanted-so = λ e. absurd (omega (arith, e)) }
  by-met w used x (Err r) t = record { listed = t.0; behind-tag = t.1.0; wanted-so = λ e. absurd (t.1.1 e) }

  pub request-known : FrontFacts (opened_request method key clock s pool)
  unfolding opened_request read_front
  request-known =
      let n = salt_length method in
      let k = subkey key (take n s) in
      let x = opened_as method (subkey_words k) (front_length n 0) (read_front (keyed (cipher_of method) k) clock n s pool) in
      either FrontFacts (settings method (length key) pool) (cond (leb (front_length n 0) (length s)) x (Err (More (front_length n 0)))) (Err Settings)
      (λ e. either FrontFacts (leb (front_length n 0) (length s)) x (Err (More (front_length n 0)))
      (λ f. by-met (subkey_words k) (front_length n 0) (meet pool clock (take n s)) (open_fixed (keyed (cipher_of method) k) 0 clock (fixed_of n 0 s))
      (opens-fixed request_ns request_behind tag (salt_length method + 27 + 0) refl refl refl refl (keyed (cipher_of method) k) 0 clock (fixed_of n 0 s) refl))
      (λ f. record { listed = refl; behind-tag = λ g. absurd (true≢false (sym g)); wanted-so = λ g. refl }))
      (λ e. record { listed = refl; behind-tag = λ g. absurd (true≢false (sym g)); wanted-so = λ g. absurd (omega (arith, g)) })

-- ---- the head of a response

abbrev response_ns : List ℕ
response_ns = 1 ∷ 10 ∷ 4 ∷ 6 ∷ 7 ∷ 13 ∷ 14 ∷ []

abbrev response_behind : List ℕ
response_behind = 6 ∷ 7 ∷ 13 ∷ 14 ∷ []

module _ (method : ℕ) (key : List ℕ) (clock : ℕ) (request_salt s : List ℕ) where
  abbrev n : ℕ
  n = salt_length method

  abbrev verdict : Bool
  verdict = tag_of method key s n

  abbrev Bound : Result (Response × Receiver) Refusal → Type 0
  Bound (Ok (h, st)) = Unit {0}
  Bound (Err r) = HeadFact response_ns response_behind verdict (n + 27 + n) r

  by-binding : (w : Subkey) (used : ℕ) (ours : Bool) (r : Result Fixed Refusal) → Fixes response_ns response_behind verdict (n + 27 + n) refl refl refl refl r
      → Bound (bound_as method w used ours r)
  by-binding w used true (Ok f) t =
      either Bound (is_empty f.length) (Err Empty) _
      (λ e. record { listed = refl; behind-tag = λ g. t; wanted-so = λ g. absurd (omega (arith, g)) }) (λ e. _)
  by-binding w used false (Ok f) t = record { listed = refl; behind-tag = λ g. t; wanted-so = λ g. absurd (omega (arith, g)) }
  by-binding w used ours (Err r) t = record { listed = t.0; behind-tag = t.1.0; wanted-so = λ e. absurd (t.1.1 e) }

  pub response-known : Bound (opened_response method key clock request_salt s)
  unfolding opened_response response_at bound_of
  response-known =
      let k = subkey key (take n s) in
      let x = response_at method (subkey_words k) (keyed (cipher_of method) k) clock n request_salt s in
      either Bound (key_fits method (length key) && eqb (length request_salt) n)
      (cond (leb (front_length n n) (length s)) x (Err (More (front_length n n)))) (Err Settings)
      (λ e. either Bound (leb (front_length n n) (length s)) x (Err (More (front_length n n)))
      (λ f. by-binding (subkey_words k) (front_length n n) (same (binding_of n (open_at (keyed (cipher_of method) k) 0 (fixed_of n n s))) request_salt)
      (open_fixed (keyed (cipher_of method) k) 1 clock (fixed_of n n s))
      (opens-fixed response_ns response_behind verdict (n + 27 + n) refl refl refl refl (keyed (cipher_of method) k) 1 clock (fixed_of n n s) refl))
      (λ f. record { listed = refl; behind-tag = λ g. absurd (true≢false (sym g)); wanted-so = λ g. refl }))
      (λ e. record { listed = refl; behind-tag = λ g. absurd (true≢false (sym g)); wanted-so = λ g. absurd (omega (arith, g)) })

-- ---- the exported calls

abbrev front_of : ℕ → List ℕ → ℕ → List ℕ → Front
front_of method key clock s = record { method = method; key = key; clock = clock; bytes = s }

module _ (m : Lent) (f : Front) (b : ℕ) (ns behind : List ℕ) (role : Role) (q : Quiet role) (no-15 : among (0 ∷ ns) 15 ≡ false) (has_1 : among (0 ∷ ns) 1 ≡ true)
    (early-1 : among behind 1 ≡ false) where
  abbrev Heads : (n : ℕ) → (pool stream answer : List ℕ) → Type 0
  Heads n p w a = Ends m (head f b ns behind role n (leaves_stream m p w m.out a))

  accepted : (p w a : List ℕ) → Heads 0 p w a
  accepted p w a = record { listed = refl; refused = λ z. never z; past-due-kept = refl; length-kept = refl }

  refused : (r : Refusal) → HeadFact ns behind (tag_of f.method f.key f.bytes b) (salt_length f.method + 27 + b) r
      → (p : List ℕ) → p ≡ m.pool → Heads (refusal_number r) p m.stream (refused_answer r m.answer)
  refused r k p e = record {
    listed = k.listed;
    refused = λ z. record {
      table_kept = λ g. refl;
      repeat-counted = λ g. table_same role q m.table m.table refl;
      pool-kept = e;
      session-kept = refl;
      words-kept = refl;
      stream-left = refl;
      out-left = none-due (among behind (refusal_number r)) m.out;
      behind-tag = λ g. (k.behind-tag g, omega arith);
      answer-kept = λ g h. told-kept r m.answer g h;
      wanted-told = λ g. told-wanted r m.answer g ∙ ap (set m.answer 0) (k.wanted-so g);
      setting-told = λ g. absurd (unlisted ns (refusal_number r) 15 k.listed no-15 g);
    };
    past-due-kept = refl;
    length-kept = refl;
  }

  unfit : Heads 1 m.pool m.stream m.answer
  unfit = record {
    listed = has_1;
    refused = λ z. record {
      table_kept = λ g. refl;
      repeat-counted = λ g. table_same role q m.table m.table refl;
      pool-kept = refl;
      session-kept = refl;
      words-kept = refl;
      stream-left = refl;
      out-left = none-due (among behind 1) m.out;
      behind-tag = λ g. absurd (true≢false (sym g ∙ early-1));
      answer-kept = λ g h. refl;
      wanted-told = λ g. absurd (omega (arith, g));
      setting-told = λ g. absurd (omega (arith, g));
    };
    past-due-kept = refl;
    length-kept = refl;
  }

pub open-request : (m : Lent) (method : ℕ) (key : List ℕ) (clock : ℕ) (s : List ℕ) → Ends m (step (relay_stream_open_request method key clock s) m)
unfolding step heads.opens_request
open-request m method key clock s =
    let f = front_of method key clock s in
    either
    (λ (y : heads.AfterRequest). Ends m (head f 0 request_ns request_behind (opens-front f) y.number (leaves_stream m y.pool y.stream m.out y.answer)))
    (fits (length m.stream) (length m.answer)) (heads.request_left method key clock s m.pool m.stream m.answer (opened_request method key clock s m.pool))
    (record { number = 1; pool = m.pool; stream = m.stream; answer = m.answer })
    (λ e. go (opened_request method key clock s m.pool) refl (request-known method key clock s m.pool))
    (λ e. unfit m f 0 request_ns request_behind (opens-front f) _ refl refl refl)
  where
    go : (x : Result (Request × Receiver) Refusal) → opened_request method key clock s m.pool ≡ x → FrontFacts method key clock s m.pool x
        → Ends m (head (front_of method key clock s) 0 request_ns request_behind
        (opens-front (front_of method key clock s))
        (heads.request_left method key clock s m.pool m.stream m.answer x).number
        (leaves_stream m (request_pool method key clock s m.pool) (heads.request_left method key clock s m.pool m.stream m.answer x).stream m.out
        (heads.request_left method key clock s m.pool m.stream m.answer x).answer))
    go (Ok (h, st)) e k = accepted m (front_of method key clock s) 0 request_ns request_behind (opens-front (front_of method key clock s)) _ refl refl refl _ _ _
    go (Err r) e k =
        refused m (front_of method key clock s) 0 request_ns request_behind (opens-front (front_of method key clock s)) _ refl refl refl r k (request_pool method key clock s m.pool)
        ((streams-demand1.requests method key clock s m.pool).refused-keeps-pool r e)

pub open-response : (m : Lent) (method : ℕ) (key : List ℕ) (clock : ℕ) (request_salt s : List ℕ)
    → Ends m (step (relay_stream_open_response method key clock request_salt s) m)
unfolding step heads.opens_response
open-response m method key clock request_salt s =
    either
    (λ (y : heads.AfterResponse).
    Ends m (head (front_of method key clock s) (salt_length method) response_ns response_behind nothing y.number
    (leaves_stream m m.pool y.stream m.out y.answer)))
    (fits (length m.stream) (length m.answer)) (heads.response_left (opened_response method key clock request_salt s) m.stream m.answer)
    (record { number = 1; stream = m.stream; answer = m.answer })
    (λ e. go (opened_response method key clock request_salt s) (response-known method key clock request_salt s))
    (λ e. unfit m (front_of method key clock s) (salt_length method) response_ns response_behind nothing _ refl refl refl)
  where
    go : (x : Result (Response × Receiver) Refusal) → Bound method key clock request_salt s x
        → Ends m (head (front_of method key clock s) (salt_length method) response_ns response_behind nothing
        (heads.response_left x m.stream m.answer).number
        (leaves_stream m m.pool (heads.response_left x m.stream m.answer).stream m.out (heads.response_left x m.stream m.answer).answer))
    go (Ok (h, st)) k = accepted m (front_of method key clock s) (salt_length method) response_ns response_behind nothing _ refl refl refl _ _ _
    go (Err r) k = refused m (front_of method key clock s) (salt_length method) response_ns response_behind nothing _ refl refl refl r k m.pool refl
