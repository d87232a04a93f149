-- When exactly a fixed header is good, and a response's head accepted.
-- Assumes nothing.
use Rattle.std.specs.Prelude.{Err, Ok, Result}
use mathlib.Core.Path.{◌≡◌, refl, sym, ap, ◌∙◌, subst}
use mathlib.Core.Bool.{Bool, true, false, cond, ◌&&◌, and-eq-true_iff, false≢true}
use mathlib.Core.List.{List, [], ◌∷◌}
use Prim.Native.Nat.{ℕ, ◌≤◌}
use native.Mathlib.Omega.{arith}
use lib.Dec.{eqb, leb}
use lib.ListN.{length, get_or, drop}
use borrow.Author.Tests.{eq-eqb, le-leb, leb-true, eqb-true}
use Rattle.octets.specs.Buffers.{same}
use Rattle.octets.specs.Numbers.{be}
use Rattle.octets.proofs.BufferLaws.{same_refl, same-eq}
use Rattle.protocol.specs.declared.Refusal.{Refusal}
use Rattle.protocol.specs.declared.Refusal.TheVariants.{Settings, NotAuthentic, WrongType, WrongTime, More, Binding, Empty}
use Rattle.protocol.specs.Refusal.{refusal_number}
use Rattle.protocol.specs.Method.{key_fits, salt_length}
use Rattle.protocol.specs.Time.{time_valid}
use Rattle.protocol.specs.Orders.{among}
use Rattle.stream_pieces.specs.Framing.{is_empty}
use Rattle.stream_pieces.proofs.FramingLaws.{empty-zero, some_left, not-zero-some}
use Rattle.stream_pieces.specs.Pieces.{authentic_at, open_at, subkey_words, Keyed, salted_key}
use Rattle.stream_heads.specs.Heads.{front_length, fixed_of, fields_of, read_fixed, open_fixed}
use Rattle.stream_open.specs.declared.Turn.TheVariants.{Payload}
use Rattle.stream_open.specs.declared.Receiver.{Receiver}
use Rattle.stream_heads.specs.declared.Fixed.{Fixed}
use Rattle.stream_open_response.specs.declared.Response.{Response}
use Rattle.stream_open_response.specs.Responses.{binding_of, bound_as, bound_of, response_at, opened_response}
use Rattle.stream_open.specs.Chunks.{receiver}
use Rattle.demands.specs.StreamsKeep.{salt_of, of_request, of_front, of_response, ResponseAnswered, accepted-response, refused-response}
use Rattle.demands.specs.StreamsOpen.{FixedOpens, ResponseOpens, ResponseExactlyWhen, ResponseEmpty, ResponseEmptyExactlyWhen}

-- ---- the fixed header

abbrev is_read : Result Fixed Refusal → ℕ
is_read (Ok f) = 1
is_read (Err r) = 0

abbrev fields_in : Result Fixed Refusal → Fixed → Fixed
fields_in (Ok f) other = f
fields_in (Err r) other = other

pub not-read : (r : Refusal) (f : Fixed) → Err r ≡ Ok f → ⊥
not-read r f e = let z : ◌≡◌ {A = ℕ} 0 1 = ap is_read e in omega arith

record FixedPassed (b : Bool) (x : Result Fixed Refusal) (f : Fixed) : Type 0 where
  test : b ≡ true
  then : x ≡ Ok f

fixed-passed : (b : Bool) (x : Result Fixed Refusal) (r : Refusal) (f : Fixed) → cond b x (Err r) ≡ Ok f → FixedPassed b x f
fixed-passed true x r f e = record { test = refl; then = e }
fixed-passed false x r f e = absurd (not-read r f e)

-- 4, 6 and 7
abbrev pub of_fixed : Result Fixed Refusal → Bool
of_fixed (Ok f) = true
of_fixed (Err r) = of_front r && (of_request r && of_response r)

fixed-among : (b : Bool) (x : Result Fixed Refusal) (r : Refusal) → of_fixed x ≡ true → of_fixed (Err r) ≡ true → of_fixed (cond b x (Err r)) ≡ true
fixed-among true x r e g = e
fixed-among false x r e g = g

module _ (key : Keyed) (kind clock : ℕ) (s : List ℕ) where
  abbrev fixed_plain : List ℕ
  fixed_plain = open_at key 0 s

  pub fixed-tells : (f : Fixed) → open_fixed key kind clock s ≡ Ok f → FixedOpens key kind clock s f.time f.length
  unfolding open_fixed read_fixed
  fixed-tells f e =
      let e₁ = fixed-passed (authentic_at key 0 s) _ _ f e in
      let e₂ = fixed-passed (eqb (get_or fixed_plain 0 0) kind) _ _ f e₁.then in
      let e₃ = fixed-passed (time_valid (be 8 (drop 1 fixed_plain)) clock) _ _ f e₂.then in
      let here : f ≡ fields_of fixed_plain = sym (ap (λ (x : Result Fixed Refusal). fields_in x f) e₃.then) in
      record {
        authentic = e₁.test;
        right-type = eqb-true (get_or fixed_plain 0 0) kind e₂.test;
        time-valid = ap (λ (x : Fixed). time_valid x.time clock) here ∙ e₃.test;
        says-time = ap (λ (x : Fixed). x.time) here;
        says-length = ap (λ (x : Fixed). x.length) here;
      }

  pub fixed-given : (time size : ℕ) → FixedOpens key kind clock s time size → open_fixed key kind clock s ≡ Ok (record { time = time; length = size })
  unfolding open_fixed read_fixed
  fixed-given time size d =
      let valid = ap (λ (t : ℕ). time_valid t clock) (sym d.says-time) ∙ d.time-valid in
      (λ i. cond (d.authentic i)
      (cond (eq-eqb (get_or fixed_plain 0 0) kind d.right-type i)
      (cond (valid i) (Ok (fields_of fixed_plain)) (Err WrongTime)) (Err WrongType)) (Err NotAuthentic))
      ∙ (λ i. Ok (record { time = sym d.says-time i; length = sym d.says-length i }))

  pub fixed-refusals : of_fixed (open_fixed key kind clock s) ≡ true
  unfolding open_fixed read_fixed
  fixed-refusals =
      fixed-among (authentic_at key 0 s) _ NotAuthentic
      (fixed-among (eqb (get_or fixed_plain 0 0) kind) _ WrongType
      (fixed-among (time_valid (be 8 (drop 1 fixed_plain)) clock) _ WrongTime refl refl) refl) refl

-- ---- a response

abbrev is_answered : Result (Response × Receiver) Refusal → ℕ
is_answered (Ok (h, st)) = 1
is_answered (Err r) = 0

not-answered : (r : Refusal) (h : Response) (st : Receiver) → ◌≡◌ {A = Result (Response × Receiver) Refusal} (Err r) (Ok (h, st)) → ⊥
not-answered r h st e = let z : ◌≡◌ {A = ℕ} 0 1 = ap is_answered e in omega arith

abbrev response_in : Result (Response × Receiver) Refusal → Response → Response
response_in (Ok (h, st)) other = h
response_in (Err r) other = other

abbrev response_stream : Result (Response × Receiver) Refusal → Receiver → Receiver
response_stream (Ok (h, st)) other = st
response_stream (Err r) other = other

record ResponsePassed (b : Bool) (x : Result (Response × Receiver) Refusal) (h : Response) (st : Receiver) : Type 0 where
  test : b ≡ true
  then : x ≡ Ok (h, st)

response-passed : (b : Bool) (x : Result (Response × Receiver) Refusal) (r : Refusal) (h : Response) (st : Receiver) → cond b x (Err r) ≡ Ok (h, st)
    → ResponsePassed b x h st
response-passed true x r h st e = record { test = refl; then = e }
response-passed false x r h st e = absurd (not-answered r h st e)

record ResponseDenied (b : Bool) (x : Result (Response × Receiver) Refusal) (h : Response) (st : Receiver) : Type 0 where
  test : b ≡ false
  then : x ≡ Ok (h, st)

response-denied : (b : Bool) (x : Result (Response × Receiver) Refusal) (r : Refusal) (h : Response) (st : Receiver) → cond b (Err r) x ≡ Ok (h, st)
    → ResponseDenied b x h st
response-denied true x r h st e = absurd (not-answered r h st e)
response-denied false x r h st e = record { test = refl; then = e }

abbrev among_responses : Result (Response × Receiver) Refusal → Bool
among_responses (Ok (h, st)) = true
among_responses (Err r) = of_response r

response-among : (b : Bool) (x : Result (Response × Receiver) Refusal) (r : Refusal) → among_responses x ≡ true → of_response r ≡ true
    → among_responses (cond b x (Err r)) ≡ true
response-among true x r e g = e
response-among false x r e g = g

module _ (method : ℕ) (key : List ℕ) (clock : ℕ) (request_salt s : List ℕ) where
  abbrev salts : ℕ
  salts = salt_length method

  abbrev response-key : Keyed
  response-key = salted_key method key (salt_of method s)

  abbrev ours : Bool
  ours = same (binding_of salts (open_at response-key 0 (fixed_of salts salts s))) request_salt

  abbrev response-front : Result Fixed Refusal
  response-front = open_fixed response-key 1 clock (fixed_of salts salts s)

  bound-tells : (h : Response) (st : Receiver) (x : Result Fixed Refusal) → response-front ≡ x → front_length salts salts ≤ length s
      → bound_as method (subkey_words response-key.bytes) (front_length salts salts) ours x ≡ Ok (h, st) → ResponseOpens method key clock request_salt s h st
  bound-tells h st (Ok f) ef whole e =
      let e₁ = response-passed ours _ _ h st e in
      let e₂ = response-denied (is_empty f.length) _ _ h st e₁.then in
      record {
        front-whole = whole;
        time = f.time;
        size = f.length;
        fixed-opens = fixed-tells response-key 1 clock (fixed_of salts salts s) f ef;
        for-us = same-eq _ request_salt e₁.test;
        not-empty = some_left f.length e₂.test;
        says = sym (ap (λ (x : Result (Response × Receiver) Refusal). response_in x h) e₂.then);
        stream = sym (ap (λ (x : Result (Response × Receiver) Refusal). response_stream x st) e₂.then);
      }
  bound-tells h st (Err r) ef whole e = absurd (not-answered r h st e)

  pub response-tells : (h : Response) (st : Receiver) → opened_response method key clock request_salt s ≡ Ok (h, st)
      → ResponseOpens method key clock request_salt s h st
  unfolding opened_response response_at bound_of
  response-tells h st e =
      let e₁ = response-passed (key_fits method (length key) && eqb (length request_salt) salts) _ _ h st e in
      let e₂ = response-passed (leb (front_length salts salts) (length s)) _ _ h st e₁.then in
      bound-tells h st response-front refl (leb-true (front_length salts salts) (length s) e₂.test) e₂.then

  pub response-given : key_fits method (length key) ≡ true → length request_salt ≡ salts → (h : Response) (st : Receiver)
      → ResponseOpens method key clock request_salt s h st → opened_response method key clock request_salt s ≡ Ok (h, st)
  unfolding opened_response response_at bound_of
  response-given fits long h st d =
      let es = eq-eqb (length request_salt) salts long in
      let ew = le-leb (front_length salts salts) (length s) d.front-whole in
      let ef = fixed-given response-key 1 clock (fixed_of salts salts s) d.time d.size d.fixed-opens in
      let eo = ap (λ (x : List ℕ). same x request_salt) d.for-us ∙ same_refl request_salt in
      let en = not-zero-some d.size (λ z. omega (arith, z, d.not-empty)) in
      (λ i. cond (fits i && es i)
      (cond (ew i) (bound_as method (subkey_words response-key.bytes) (front_length salts salts) (eo i) (ef i))
      (Err (More (front_length salts salts)))) (Err Settings))
      ∙ (λ i. cond (en i) (Err Empty) (Ok (sym d.says i, sym d.stream i)))

  bound-among : (b : Bool) (x : Result Fixed Refusal) → of_fixed x ≡ true
      → among_responses (bound_as method (subkey_words response-key.bytes) (front_length salts salts) b x) ≡ true
  bound-among true (Ok f) o = go (is_empty f.length)
    where
      go : (b : Bool) → among_responses (cond b (Err Empty) (Ok (record { time = f.time; length = f.length; used = front_length salts salts }, receiver method (Payload f.length) 1 (subkey_words response-key.bytes)))) ≡ true
      go true = refl
      go false = refl
  bound-among false (Ok f) o = refl
  bound-among b (Err r) o = ((and-eq-true_iff (of_request r) _).0 ((and-eq-true_iff (of_front r) _).0 o).1).1

  among-response : among_responses (opened_response method key clock request_salt s) ≡ true
  unfolding opened_response response_at bound_of
  among-response =
      response-among (key_fits method (length key) && eqb (length request_salt) salts) _ Settings
      (response-among (leb (front_length salts salts) (length s)) _ (More (front_length salts salts))
      (bound-among ours response-front (fixed-refusals response-key 1 clock (fixed_of salts salts s))) refl) refl

  pub response-keeps : ResponseAnswered (opened_response method key clock request_salt s)
  response-keeps = go (opened_response method key clock request_salt s) refl
    where
      go : (a : Result (Response × Receiver) Refusal) → opened_response method key clock request_salt s ≡ a → ResponseAnswered (opened_response method key clock request_salt s)
      go (Ok (h, st)) e = accepted-response h st e
      go (Err r) e = refused-response r (ap among_responses (sym e) ∙ among-response) e

pub response-exactly-when : ResponseExactlyWhen
response-exactly-when method key clock request_salt s fits long h st =
    record {
      only-when = response-tells method key clock request_salt s h st;
      always-when = response-given method key clock request_salt s fits long h st;
    }

-- ---- a response's 14

abbrev is_emptied : Result (Response × Receiver) Refusal → ℕ
is_emptied (Ok (h, st)) = 0
is_emptied (Err r) = cond (eqb (refusal_number r) 14) 1 0

not-emptied : {x : Result (Response × Receiver) Refusal} → is_emptied x ≡ 0 → x ≡ Err Empty → ⊥
not-emptied o e = let z : ◌≡◌ {A = ℕ} 0 1 = sym o ∙ ap is_emptied e in omega arith

-- it stands behind a test whose refusal is another
record Behind (b : Bool) (x : Result (Response × Receiver) Refusal) : Type 0 where
  test : b ≡ true
  then : x ≡ Err Empty

behind : (b : Bool) (x : Result (Response × Receiver) Refusal) (r : Refusal) → is_emptied (Err r) ≡ 0 → cond b x (Err r) ≡ Err Empty → Behind b x
behind true x r o e = record { test = refl; then = e }
behind false x r o e = absurd (not-emptied o e)

-- no refusal of a fixed header is 14
fixed-not-empty : (r : Refusal) → of_front r ≡ true → is_emptied (Err r) ≡ 0
fixed-not-empty r o = go (eqb (refusal_number r) 14) refl
  where
    go : (b : Bool) → eqb (refusal_number r) 14 ≡ b → ◌≡◌ {A = ℕ} (cond b 1 0) 0
    go false e = refl
    go true e = absurd (false≢true (ap (λ (n : ℕ). among (4 ∷ 6 ∷ 7 ∷ []) n) (sym (eqb-true (refusal_number r) 14 e)) ∙ o))

is-0 : (good : Result (Response × Receiver) Refusal) (n : ℕ) (b : Bool) → is_emptied good ≡ 0 → is_empty n ≡ b → cond b (Err Empty) good ≡ Err Empty → n ≡ 0
is-0 good n true o h e = empty-zero n h
is-0 good n false o h e = absurd (not-emptied o e)

module _ (method : ℕ) (key : List ℕ) (clock : ℕ) (request_salt s : List ℕ) where
  abbrev emptied-key : Keyed
  emptied-key = salted_key method key (salt_of method s)

  abbrev piece : List ℕ
  piece = fixed_of (salt_length method) (salt_length method) s

  abbrev bound : Bool
  bound = same (binding_of (salt_length method) (open_at emptied-key 0 piece)) request_salt

  bound-emptied : (x : Result Fixed Refusal) → open_fixed emptied-key 1 clock piece ≡ x → of_fixed x ≡ true
      → front_length (salt_length method) (salt_length method) ≤ length s
      → bound_as method (subkey_words emptied-key.bytes) (front_length (salt_length method) (salt_length method)) bound x ≡ Err Empty
      → ResponseEmpty method key clock request_salt s
  bound-emptied (Ok f) ef o whole e =
      let e₁ = behind bound _ Binding refl e in
      let size = is-0 _ f.length (is_empty f.length) refl refl e₁.then in
      record {
        front-whole = whole;
        time = f.time;
        fixed-opens = subst (λ (n : ℕ). FixedOpens emptied-key 1 clock piece f.time n) size (fixed-tells emptied-key 1 clock piece f ef);
        for-us = same-eq _ request_salt e₁.test;
      }
  bound-emptied (Err r) ef o whole e = absurd (not-emptied (fixed-not-empty r ((and-eq-true_iff (of_front r) _).0 o).0) e)

  response-emptied : opened_response method key clock request_salt s ≡ Err Empty → ResponseEmpty method key clock request_salt s
  unfolding opened_response response_at bound_of
  response-emptied e =
      let n = salt_length method in
      let e₁ = behind (key_fits method (length key) && eqb (length request_salt) n) _ Settings refl e in
      let e₂ = behind (leb (front_length n n) (length s)) _ (More (front_length n n)) refl e₁.then in
      bound-emptied (open_fixed emptied-key 1 clock piece) refl (fixed-refusals emptied-key 1 clock piece)
      (leb-true (front_length n n) (length s) e₂.test) e₂.then

  emptied-given : key_fits method (length key) ≡ true → length request_salt ≡ salt_length method → ResponseEmpty method key clock request_salt s
      → opened_response method key clock request_salt s ≡ Err Empty
  unfolding opened_response response_at bound_of
  emptied-given fits long d =
      let n = salt_length method in
      let es = eq-eqb (length request_salt) n long in
      let ew = le-leb (front_length n n) (length s) d.front-whole in
      let ef = fixed-given emptied-key 1 clock piece d.time 0 d.fixed-opens in
      let eo = ap (λ (x : List ℕ). same x request_salt) d.for-us ∙ same_refl request_salt in
      λ i. cond (fits i && es i)
      (cond (ew i) (bound_as method (subkey_words emptied-key.bytes) (front_length n n) (eo i) (ef i)) (Err (More (front_length n n)))) (Err Settings)

pub response-empty-exactly-when : ResponseEmptyExactlyWhen
response-empty-exactly-when method key clock request_salt s fits long =
    (response-emptied method key clock request_salt s, emptied-given method key clock request_salt s fits long)
