-- Heads that were sealed open to what was given, and so do the 2017 edition's datagrams.
-- Assumes nothing.
use mathlib.Core.Path.{◌≡◌, refl, sym, ap, ap₂, ◌∙◌, subst}
use mathlib.Core.Logic.{◌≢◌}
use mathlib.Core.Bool.{Bool, true, false, cond, not, ◌&&◌, true≢false, and-eq-true_iff}
use mathlib.Core.List.{List, [], ◌∷◌, ◌++◌}
use Prim.Native.Nat.{ℕ, suc, ◌+◌, ◌*◌, ◌%◌, ◌^◌, ◌≤◌, ◌<◌}
use native.Mathlib.Omega.{arith}
use lib.Dec.{eqb, leb}
use lib.ListN.{length, get_or, set, take, drop, replicate, length-append, length-replicate}
use lib.Seq.{sets, get_or-set_same, take_at}
use borrow.Author.Tests.{eq-eqb, eqb-true, le-leb, leb-true}
use Rattle.octets.specs.Buffers.{put}
use Rattle.octets.proofs.BufferLaws.{take_put, get_or-zeros}
use Rattle.octets.specs.Numbers.{be}
use Rattle.octets.specs.Numbers.{to_be}
use Rattle.octets.proofs.NumberLaws.{length-to_be}
use Rattle.protocol.specs.Method.{cipher_of}
use Rattle.protocol.specs.Time.{time_valid}
use Rattle.protocol.specs.declared.Refusal.TheVariants.{Settings, Length as TooLong, Room, Argument, Empty}
use Rattle.salt_pool.specs.Pool.{Met}
use Rattle.std.specs.Prelude.{Ok, Err, Result}
use Rattle.salt_pool.specs.Pool.{Replay as Known, Full as NoRoom}
use Rattle.salt_pool.proofs.MeetLaws.{meet-exactly}
use Rattle.salt_pool.specs.Pool as pool
use Rattle.socks5.specs.Address.{is_address}
use Rattle.stream_pieces.specs.Pieces.{max_chunk, tag_length, fixed_piece}
use Rattle.stream_pieces.specs.Framing.{framing_of, is_empty}
use Rattle.stream_seal.specs.declared.Sender.{Sender}
use Rattle.stream_seal.specs.Sealing.{size_answer, seal_out}
use Rattle.stream_seal_heads.specs.HeadSealing.{variable_part, variable_length, begun, sizes_fit, padding_lawful, request_answer, request, response_answer, response}
use Rattle.stream_open.specs.declared.Turn.TheVariants.{Variable, Payload}
use Rattle.stream_open.specs.declared.Receiver.{Receiver}
use Rattle.stream_open.specs.Chunks.{receiver}
use Rattle.stream_open_request.specs.Requests.{opened_request, request_pool}
use Rattle.stream_open_response.specs.Responses.{opened_response}
use Rattle.stream_open_variable.specs.Variable.{variable_answer}
use Rattle.stream_chunks.specs.Back.{partner}
use Rattle.words.specs.Answers.{variable_words}
use Rattle.words.specs.States.{sender_words, receiver_in, receiver_words}
use Rattle.stream_answers.specs.Chunks as chunks
use Rattle.stream_answers.specs.Chunks.{AfterChunk, fits}
use Rattle.stream_answers.specs.Told as Told
use Rattle.relay.specs.Streams as heads
use Rattle.demands.specs.StreamsBack as demands
use Rattle.demands.proofs.StreamDemands.{seal-keeps, streams-demand2}
use Rattle.guarantees.specs.Calls.{Lent, step, sent, on_stream}
use Rattle.guarantees.specs.Guarantees.{RequestBack, RequestsBack, ResponsesBack, DatagramsBack2017}
use Rattle.sip004.specs.Datagram as sip004
use Rattle.relay.specs.Sip004 as edition2017
use Rattle.sip004_demands.specs.Datagrams.{seal_leaves, open_leaves, OpensBack}
use Rattle.sip004_demands.proofs.Sip004.{sip004-back}
use Rattle.guarantees.proofs.ChunksBack.{opened-as}
use Rattle.guarantees.proofs.DatagramsBack.{part-behind, put_front}
use Rattle.protocol.specs.Method.{salt_length}
use Rattle.protocol.specs.Subkey.{subkey}
use Rattle.protocol.specs.declared.Refusal.TheVariants.{WrongType, WrongTime}
use Rattle.stream_pieces.specs.Pieces.{Keyed, salted_key, open_at, subkey_words}
use Rattle.stream_heads.specs.Heads.{front_length, fixed_of, fields_of, read_fixed}
use Rattle.stream_seal_heads.specs.HeadSealing.{request_at, front}
use Rattle.stream_open_request.specs.Requests.{settings, fixed_as, opened_as}
use Rattle.stream_answers.specs.Told.{request_number}
use Rattle.demands.specs.StreamsOpen.{RequestOpens}
use Rattle.demands.proofs.RequestReadBack.{Requests, requests}
use Rattle.guarantees.specs.Calls.{at, relay_stream_seal_request, relay_stream_open_request, relay_stream_open_variable}
use Rattle.guarantees.specs.Guarantees.{RequestBack}
use Rattle.guarantees.proofs.StreamsBack.{append_assoc}
use Rattle.guarantees.proofs.Exactly.{fits-so}
use Rattle.guarantees.proofs.Verdicts.{chain, front-number}
use Rattle.guarantees.proofs.Deciding.{not-zero}
use Rattle.protocol.specs.declared.Refusal.{Refusal}
use Rattle.stream_open_request.specs.declared.Request.{Request}
use Rattle.stream_open_variable.specs.declared.VariableHeader.{VariableHeader}
use Rattle.stream_open_response.specs.declared.Response.{Response}

-- ---- what a sealer of a head that returned 0 tells

pub record SealTells (x : Result (ℕ × Sender) Refusal) (text out w answer : List ℕ) (y : AfterChunk) : Type 0 where
  pub n : ℕ
  pub next : Sender
  pub answered : x ≡ Ok (n, next)
  pub nine : length answer ≡ 9
  pub leaves : y ≡ record { number = 0; out = put out 0 text; stream = sender_words next; answer = set answer 0 n }

module _ (x : Result (ℕ × Sender) Refusal) (text out w answer : List ℕ) where
  by-fit : (b : Bool) (z : Result (ℕ × Sender) Refusal) → fits (length w) (length answer) ≡ b → x ≡ z
      → chunks.seals x text out w answer
      ≡ cond b (record { number = Told.sealed_number z; out = seal_out z text out; stream = Told.sealed_stream z w; answer = Told.sealed_words z answer })
      (record { number = 1; out = out; stream = w; answer = answer })
  unfolding chunks.seals
  by-fit b z eb ez =
      λ i. cond (eb i) (record { number = Told.sealed_number (ez i); out = seal_out (ez i) text out; stream = Told.sealed_stream (ez i) w; answer = Told.sealed_words (ez i) answer })
      (record { number = 1; out = out; stream = w; answer = answer })

  seal-tells : (chunks.seals x text out w answer).number ≡ 0 → SealTells x text out w answer (chunks.seals x text out w answer)
  seal-tells e = go (fits (length w) (length answer)) x refl refl
    where
      go : (b : Bool) (z : Result (ℕ × Sender) Refusal) → fits (length w) (length answer) ≡ b → x ≡ z → SealTells x text out w answer (chunks.seals x text out w answer)
      go true (Ok (n, next)) eb ez =
          record {
            n = n;
            next = next;
            answered = ez;
            nine = eqb-true (length answer) 9 ((and-eq-true_iff (eqb (length w) 8) _).0 eb).1;
            leaves = by-fit true (Ok (n, next)) eb ez;
          }
      go true (Err r) eb ez =
          absurd (true≢false (sym (ap (λ (k : ℕ). eqb k 0) (sym (ap (λ (y : AfterChunk). y.number) (by-fit true (Err r) eb ez)) ∙ e)) ∙ not-zero r))
      go false z eb ez = absurd (let q = sym (ap (λ (y : AfterChunk). y.number) (by-fit false z eb ez)) ∙ e in omega (arith, q))

  -- the bytes that were sent
  sent-so : (y : AfterChunk) (k : SealTells x text out w answer y) → (length text ≡ k.n) × (k.n ≤ length out) → take (get_or y.answer 0 0) y.out ≡ text
  sent-so y k q =
      let a : get_or y.answer 0 0 ≡ k.n =
      ap (λ (z : AfterChunk). get_or z.answer 0 0) k.leaves ∙ get_or-set_same answer 0 k.n 0 (let z = k.nine in omega (arith, z)) in
      let o : y.out ≡ put out 0 text = ap (λ (z : AfterChunk). z.out) k.leaves in
      let z : k.n ≡ 0 + length text = omega (arith, q) in
      ap₂ take a o ∙ ap (λ (j : ℕ). take j (put out 0 text)) z ∙ take_put out 0 text (omega (arith, q))

-- ---- lengths that a sealer lets pass

is_bytes : Result (ℕ × Sender) Refusal → ℕ
is_bytes (Ok (n, s)) = 1
is_bytes (Err r) = 0

short-request : (method : ℕ) (key salt address : List ℕ) (padding payload room n : ℕ) (next : Sender)
    → request_answer method key salt address padding payload room ≡ Ok (n, next) → variable_length (length address) padding payload ≤ max_chunk
unfolding request_answer size_answer is_bytes
short-request method key salt address padding payload room n next e =
    go (sizes_fit method (length key) (length salt)) (is_address address && padding_lawful padding payload) (leb (variable_length (length address) padding payload) max_chunk) refl (ap is_bytes e)
  where
    go : (a b c : Bool) → leb (variable_length (length address) padding payload) max_chunk ≡ c
        → is_bytes (cond a (cond b (cond c (cond (leb (length salt + fixed_piece + variable_length (length address) padding payload + tag_length) room) (Ok (length salt + fixed_piece + variable_length (length address) padding payload + tag_length, begun method key salt)) (Err Room)) (Err TooLong)) (Err Argument)) (Err Settings)) ≡ 1
        → variable_length (length address) padding payload ≤ max_chunk
    go false b c ec z = absurd (omega (arith, z))
    go true false c ec z = absurd (omega (arith, z))
    go true true false ec z = absurd (omega (arith, z))
    go true true true ec z = leb-true (variable_length (length address) padding payload) max_chunk ec

short-response : (method : ℕ) (key salt binding : List ℕ) (payload room n : ℕ) (next : Sender)
    → response_answer method key salt binding payload room ≡ Ok (n, next) → payload ≤ max_chunk
unfolding response_answer size_answer is_bytes
short-response method key salt binding payload room n next e =
    go (sizes_fit method (length key) (length salt) && eqb (length binding) (length salt)) (is_empty payload) (leb payload max_chunk) refl (ap is_bytes e)
  where
    go : (a b c : Bool) → leb payload max_chunk ≡ c
        → is_bytes (cond a (cond b (Err Empty) (cond c (cond (leb (length salt + fixed_piece + length binding + payload + tag_length) room) (Ok (length salt + fixed_piece + length binding + payload + tag_length, begun method key salt)) (Err Room)) (Err TooLong))) (Err Settings)) ≡ 1
        → payload ≤ max_chunk
    go false b c ec z = absurd (omega (arith, z))
    go true true c ec z = absurd (omega (arith, z))
    go true false false ec z = absurd (omega (arith, z))
    go true false true ec z = leb-true payload max_chunk ec

-- ---- a request

at_turn : (method counter : ℕ) (next : Sender) (n : ℕ) → n ≤ max_chunk → receiver_in (receiver_words (receiver method (Variable n) counter next.subkey)) ≡ receiver method (Variable n) counter next.subkey
at_turn method counter next n l =
    let e : n % 65536 ≡ n = omega (arith, l) in ap (λ (k : ℕ). receiver method (Variable k) counter next.subkey) e

at-payload : (method counter : ℕ) (next : Sender) (n : ℕ) → n ≤ max_chunk → receiver_in (receiver_words (receiver method (Payload n) counter next.subkey)) ≡ receiver method (Payload n) counter next.subkey
at-payload method counter next n l =
    let e : n % 65536 ≡ n = omega (arith, l) in ap (λ (k : ℕ). receiver method (Payload k) counter next.subkey) e

module _ (m : Lent) (method : ℕ) (key salt : List ℕ) (clock : ℕ) (address : List ℕ) (padding : ℕ) (payload rest : List ℕ)
    (good : (heads.seals_request method key salt clock address padding payload m.out m.stream m.answer).number ≡ 0) (clock-fits : clock < 2 ^ 64)
    (later place : ℕ) (valid : time_valid clock later ≡ true) (b : Lent) (fit : fits (length b.stream) (length b.answer) ≡ true)
    (lawful : pool.lawful b.pool method ≡ true) (free : pool.meet b.pool later salt ≡ Ok place) (out again : List ℕ) (nine : length again ≡ 9)
    (room : length address + 2 + padding + length payload ≤ length out) where
  abbrev A : Result (ℕ × Sender) Refusal
  A = request_answer method key salt address padding (length payload) (length m.out)

  abbrev text : List ℕ
  text = request (cipher_of method) key salt clock address padding payload

  abbrev X : AfterChunk
  X = heads.seals_request method key salt clock address padding payload m.out m.stream m.answer

  tells : SealTells A text m.out m.stream m.answer X
  unfolding heads.seals_request
  tells = seal-tells A text m.out m.stream m.answer good

  abbrev size : ℕ
  size = variable_length (length address) padding (length payload)

  length_part : length (variable_part address padding payload) ≤ length out
  unfolding variable_part
  length_part =
      let a = length-append address (to_be 2 padding ++ (replicate padding 0 ++ payload)) in
      let c = length-append (to_be 2 padding) (replicate padding 0 ++ payload) in
      let d = length-append (replicate padding 0) payload in
      let e = length-to_be 2 padding in
      let f = length-replicate {A = ℕ} padding 0 in
      omega (arith, a, c, d, e, f, room)

  back : demands.RequestBack method key salt clock address padding payload tells.n tells.next later rest b.pool place out
  back =
      streams-demand2.requests-back method key salt clock address padding payload (length m.out) tells.n tells.next tells.answered clock-fits later
      valid b.pool lawful place free rest out length_part

  bytes-are : take (get_or X.answer 0 0) X.out ++ rest ≡ text ++ rest
  bytes-are =
      ap (λ (l : List ℕ). l ++ rest)
      (sent-so A text m.out m.stream m.answer X tells
      ((seal-keeps.requests method key salt clock address padding payload m.out).sealed-length tells.n tells.next tells.answered))

  abbrev mid : Receiver
  mid = demands.between method tells.next size

  small : size ≤ max_chunk
  small = short-request method key salt address padding (length payload) (length m.out) tells.n tells.next tells.answered

  abbrev Y : heads.AfterRequest
  Y = heads.opens_request method key later (take (get_or X.answer 0 0) X.out ++ rest) b.pool b.stream b.answer

  abbrev YLeft : Result (Request × Receiver) Refusal → heads.AfterRequest
  YLeft r = heads.request_left method key later (text ++ rest) b.pool b.stream b.answer r

  front-is : Y ≡ record {
    number = 0;
    pool = request_pool method key later (text ++ rest) b.pool;
    stream = receiver_words mid;
    answer = sets b.answer 0 ((length salt + 27) ∷ size ∷ clock ∷ []);
  }
  unfolding heads.opens_request
  front-is =
      ap (λ (s : List ℕ). heads.opens_request method key later s b.pool b.stream b.answer) bytes-are
      ∙ ap (λ (c : Bool). cond c (YLeft (opened_request method key later (text ++ rest) b.pool)) (record { number = 1; pool = b.pool; stream = b.stream; answer = b.answer })) fit
      ∙ ap YLeft back.accepted

  abbrev v : List ℕ
  v = receiver_words mid

  abbrev left : List ℕ
  left = drop (length salt + 27) (text ++ rest)

  abbrev ZLeft : Result VariableHeader Refusal → Receiver → AfterChunk
  ZLeft r st = heads.variable_left r st left out v again

  header_is : heads.opens_variable v left out again ≡ record {
    number = 0;
    out = put out 0 (variable_part address padding payload);
    stream = receiver_words (partner tells.next);
    answer = sets again 0 (variable_words (demands.sealed_header (length address) back.target padding (length payload)));
  }
  unfolding heads.opens_variable
  header_is =
      let o : chunks.opens v again ≡ true = ap₂ ◌&&◌ (eq-eqb (length again) 9 nine) (le-leb size max_chunk small) in
      let h = demands.sealed_header (length address) back.target padding (length payload) in
      ap (λ (c : Bool). cond c (ZLeft (variable_answer (receiver_in v) left (length out)) (receiver_in v)) (record { number = 1; out = out; stream = v; answer = again })) o
      ∙ ap (λ (st : Receiver). ZLeft (variable_answer st left (length out)) st) (at_turn method 1 tells.next size small)
      ∙ ap (λ (r : Result VariableHeader Refusal). ZLeft r mid) back.variable-read
      ∙ (λ i. record { number = 0; out = back.text i; stream = receiver_words (back.variable-next i); answer = sets again 0 (variable_words h) })

  abbrev Z : AfterChunk
  Z = heads.opens_variable Y.stream (drop (length salt + 27) (take (get_or X.answer 0 0) X.out ++ rest)) out again

  behind-is : Z ≡ record {
    number = 0;
    out = put out 0 (variable_part address padding payload);
    stream = receiver_words (partner tells.next);
    answer = sets again 0 (variable_words (demands.sealed_header (length address) back.target padding (length payload)));
  }
  behind-is = (λ i. heads.opens_variable (front-is i).stream (drop (length salt + 27) (bytes-are i)) out again) ∙ header_is

  stream-is : set X.stream 0 1 ≡ receiver_words (partner tells.next)
  stream-is = ap (λ (y : AfterChunk). set y.stream 0 1) tells.leaves

  payload-in : take (length payload) (drop (length address + 2 + padding) (put out 0 (variable_part address padding payload))) ≡ payload
  payload-in =
      ap (λ (l : List ℕ). take (length payload) (drop (length address + 2 + padding) l)) (put_front out (variable_part address padding payload))
      ∙ part-behind (length address + 2 + padding) (variable_part address padding payload) _ payload back.payload-there

behind-first : (a : ℕ) (l : List ℕ) (k : ℕ) → get_or (a ∷ l) (1 + k) 0 ≡ get_or l k 0
behind-first a l k = let e : 1 + k ≡ suc k = omega arith in ap (λ (j : ℕ). get_or (a ∷ l) j 0) e

-- what the front is answered on a pool of its method depends on the salt there alone
module _ (m : Lent) (method : ℕ) (key salt : List ℕ) (clock : ℕ) (address : List ℕ) (padding : ℕ) (payload rest : List ℕ)
    (good : (heads.seals_request method key salt clock address padding payload m.out m.stream m.answer).number ≡ 0) (clock-fits : clock < 2 ^ 64)
    (later : ℕ) (valid : time_valid clock later ≡ true) (b : Lent) (fit : fits (length b.stream) (length b.answer) ≡ true)
    (pool-length : length b.pool ≡ 1537) (pool-method : at b.pool 0 ≡ method) where
  abbrev new : List ℕ
  new = pool.new_pool method

  new-unkept : (clock i : ℕ) → pool.kept new clock i ≡ false
  unfolding pool.kept
  new-unkept clock i =
      ap (λ (u : ℕ). not (eqb u 0) && leb clock (get_or new (pool.start i + 1) 0 + pool.keep_time))
      (behind-first method (replicate (pool.capacity * pool.record_words) 0) (i * pool.record_words)
      ∙ get_or-zeros (pool.capacity * pool.record_words) (i * pool.record_words))

  new-free : pool.meet new later salt ≡ Ok 0
  new-free =
      ((meet-exactly new later salt).room 0).1 (
        (λ i k. true≢false (sym k.1 ∙ new-unkept later i)),
        (omega arith, new-unkept later 0, (λ k l. absurd (omega (arith, l)))),
      )

  new-lawful : pool.lawful new method ≡ true
  new-lawful = eq-eqb method method refl

  told-so : SealTells (request_answer method key salt address padding (length payload) (length m.out)) (request (cipher_of method) key salt clock address padding payload) m.out m.stream m.answer
      (heads.seals_request method key salt clock address padding payload m.out m.stream m.answer)
  unfolding heads.seals_request
  told-so = seal-tells _ _ m.out m.stream m.answer good

  abbrev s : List ℕ
  s = request (cipher_of method) key salt clock address padding payload ++ rest

  sealed : Requests method key salt address padding (length payload) (length m.out) told-so.n told-so.next
  sealed = requests method key salt address padding (length payload) (length m.out) told-so.n told-so.next told-so.answered

  -- it begins with its salt
  salt-there : take (salt_length method) s ≡ salt
  unfolding request request_at front
  salt-there =
      ap (take (salt_length method)) (append_assoc (salt ++ _) _ rest ∙ append_assoc salt _ _)
      ∙ take_at salt _ (salt_length method) sealed.salt-fits

  -- accepted on a new pool
  accepted-new : demands.RequestBack method key salt clock address padding payload told-so.n told-so.next later rest new 0 (variable_part address padding payload)
  accepted-new =
      streams-demand2.requests-back method key salt clock address padding payload (length m.out) told-so.n told-so.next told-so.answered clock-fits
      later valid new new-lawful 0 new-free rest (variable_part address padding payload) (omega arith)

  abbrev header-size : ℕ
  header-size = variable_length (length address) padding (length payload)

  facts : RequestOpens method key later s new (record { time = clock; length = header-size; used = length salt + 27 }) (demands.between method told-so.next header-size)
  facts =
      (streams-demand2.requests-exactly method key later s new (record { time = clock; length = header-size; used = length salt + 27 })
      (demands.between method told-so.next header-size)).only-when accepted-new.accepted

  abbrev k : Keyed
  k = salted_key method key (take (salt_length method) s)

  abbrev fixed : List ℕ
  fixed = open_at k 0 (fixed_of (salt_length method) 0 s)

  read-so : read_fixed 0 later fixed ≡ Ok (fields_of fixed)
  unfolding read_fixed
  read-so =
      let o = facts.fixed-opens in
      let t = eq-eqb (get_or fixed 0 0) 0 o.right-type in
      let v : time_valid (be 8 (drop 1 fixed)) later ≡ true = ap (λ (z : ℕ). time_valid z later) (sym o.says-time) ∙ o.time-valid in
      (λ i. cond (t i) (cond (v i) (Ok (fields_of fixed)) (Err WrongTime)) (Err WrongType))

  settings-good : settings method (length key) b.pool ≡ true
  unfolding settings
  settings-good = ap₂ ◌&&◌ sealed.fits (ap₂ ◌&&◌ (eq-eqb (length b.pool) 1537 pool-length) (eq-eqb (at b.pool 0) method pool-method))

  number_by : (x : Met) → ℕ
  number_by x = request_number (opened_as method (subkey_words (subkey key (take (salt_length method) s))) (front_length (salt_length method) 0) (fixed_as x (Ok (fields_of fixed))))

  number_is : (heads.opens_request method key later s b.pool b.stream b.answer).number ≡ number_by (pool.meet b.pool later (take (salt_length method) s))
  unfolding number_by
  number_is =
      let w = le-leb (front_length (salt_length method) 0) (length s) facts.front-whole in
      let a = facts.fixed-opens.authentic in
      front-number method key later b s
      ∙ (λ i. chain ((fit i, 1) ∷ (settings-good i, 1) ∷ (w i, 10) ∷ (a i, 4) ∷ [])
      (request_number (opened_as method (subkey_words (subkey key (take (salt_length method) s))) (front_length (salt_length method) 0) (fixed_as (pool.meet b.pool later (take (salt_length method) s)) (read-so i)))))

  data PlaceFound : Type 0 where
    found : (place : ℕ) → pool.meet b.pool later salt ≡ Ok place → PlaceFound

  pool-good : pool.lawful b.pool method ≡ true
  pool-good = ap₂ ◌&&◌ (eq-eqb (length b.pool) 1537 pool-length) (eq-eqb (at b.pool 0) method pool-method)

  place_found : (n : ℕ) → n ≡ (heads.opens_request method key later s b.pool b.stream b.answer).number → n ≢ 8 → n ≢ 9 → PlaceFound
  unfolding number_by
  place_found n e not-8 not-9 = go (pool.meet b.pool later (take (salt_length method) s)) refl (e ∙ number_is)
    where
      go : (x : Met) → pool.meet b.pool later (take (salt_length method) s) ≡ x → n ≡ number_by (pool.meet b.pool later (take (salt_length method) s)) → PlaceFound
      go (Ok i) ex en = found i (sym (ap (pool.meet b.pool later) salt-there) ∙ ex)
      go (Err Known) ex en = absurd (not-8 (en ∙ ap number_by ex))
      go (Err NoRoom) ex en = absurd (not-9 (en ∙ ap number_by ex))

  sent-there : take (get_or (heads.seals_request method key salt clock address padding payload m.out m.stream m.answer).answer 0 0)
      (heads.seals_request method key salt clock address padding payload m.out m.stream m.answer).out ++ rest ≡ s
  sent-there =
      ap (λ (l : List ℕ). l ++ rest)
      (sent-so _ _ m.out m.stream m.answer _ told-so
      ((seal-keeps.requests method key salt clock address padding payload m.out).sealed-length told-so.n told-so.next told-so.answered))

pub requests-back : RequestsBack
unfolding step variable_length
requests-back m method key salt clock address padding payload rest good clock-fits later valid b eight nine-there pool-length pool-method out again nine room not-8 not-9 =
    let e = sent-there m method key salt clock address padding payload rest good clock-fits later valid b fit pool-length pool-method in
    let n = ap (λ (l : List ℕ). (heads.opens_request method key later l b.pool b.stream b.answer).number) e in
    go (place_found m method key salt clock address padding payload rest good clock-fits later valid b fit pool-length pool-method _ n not-8 not-9)
  where
    fit : fits (length b.stream) (length b.answer) ≡ true
    fit = fits-so (length b.stream) (length b.answer) eight nine-there

    go : PlaceFound m method key salt clock address padding payload rest good clock-fits later valid b fit pool-length pool-method
        → RequestBack method key salt clock address padding payload (step (relay_stream_seal_request method key salt clock address padding payload) m)
        (step (relay_stream_open_request method key later (sent (step (relay_stream_seal_request method key salt clock address padding payload) m) ++ rest)) b)
        (step (relay_stream_open_variable (drop (length salt + 27) (sent (step (relay_stream_seal_request method key salt clock address padding payload) m) ++ rest)))
        (on_stream (step (relay_stream_open_request method key later (sent (step (relay_stream_seal_request method key salt clock address padding payload) m) ++ rest)) b).left.stream out again))
        b.answer out again
    go (found place free) =
        let l = pool-good m method key salt clock address padding payload rest good clock-fits later valid b fit pool-length pool-method in
        let f = front-is m method key salt clock address padding payload rest good clock-fits later place valid b fit l free out again nine room in
        let z = behind-is m method key salt clock address padding payload rest good clock-fits later place valid b fit l free out again nine room in
        let k = back m method key salt clock address padding payload rest good clock-fits later place valid b fit l free out again nine room in
        record {
          front_read = ap (λ (y : heads.AfterRequest). y.number) f;
          front-told = ap (λ (y : heads.AfterRequest). y.answer) f;
          target = k.target;
          target-given = k.target-sealed;
          header_read = ap (λ (y : AfterChunk). y.number) z;
          header-told = ap (λ (y : AfterChunk). y.answer) z;
          payload-there = ap (λ (y : AfterChunk). take (length payload) (drop (length address + 2 + padding) y.out)) z
              ∙ payload-in m method key salt clock address padding payload rest good clock-fits later place valid b fit l free out again nine room;
          in_step = ap (λ (y : AfterChunk). y.stream) z
              ∙ sym (stream-is m method key salt clock address padding payload rest good clock-fits later place valid b fit l free out again nine room);
        }

-- ---- a response

module _ (m : Lent) (method : ℕ) (key salt request_salt : List ℕ) (clock : ℕ) (payload rest : List ℕ)
    (good : (heads.seals_response method key salt request_salt clock payload m.out m.stream m.answer).number ≡ 0) (clock-fits : clock < 2 ^ 64)
    (later : ℕ) (valid : time_valid clock later ≡ true) (b : Lent) (fit : fits (length b.stream) (length b.answer) ≡ true) (out again : List ℕ)
    (nine : length again ≡ 9) (room : length payload ≤ length out) where
  abbrev Ra : Result (ℕ × Sender) Refusal
  Ra = response_answer method key salt request_salt (length payload) (length m.out)

  abbrev whole : List ℕ
  whole = response (cipher_of method) key salt request_salt clock payload

  abbrev RX : AfterChunk
  RX = heads.seals_response method key salt request_salt clock payload m.out m.stream m.answer

  told : SealTells Ra whole m.out m.stream m.answer RX
  unfolding heads.seals_response
  told = seal-tells Ra whole m.out m.stream m.answer good

  given : demands.ResponseBack method key salt request_salt clock payload told.n told.next later rest out
  given =
      streams-demand2.responses-back method key salt request_salt clock payload (length m.out) told.n told.next told.answered clock-fits later valid
      rest out room

  sent_is : take (get_or RX.answer 0 0) RX.out ++ rest ≡ whole ++ rest
  sent_is =
      ap (λ (l : List ℕ). l ++ rest)
      (sent-so Ra whole m.out m.stream m.answer RX told
      ((seal-keeps.responses method key salt request_salt clock payload m.out).sealed-length told.n told.next told.answered))

  abbrev half : Receiver
  half = receiver method (Payload (length payload)) 1 told.next.subkey

  few : length payload ≤ max_chunk
  few = short-response method key salt request_salt (length payload) (length m.out) told.n told.next told.answered

  abbrev RY : heads.AfterResponse
  RY = heads.opens_response method key later request_salt (take (get_or RX.answer 0 0) RX.out ++ rest) b.stream b.answer

  head-is : RY ≡ record {
    number = 0;
    stream = receiver_words half;
    answer = sets b.answer 0 ((length salt + 27 + length request_salt) ∷ length payload ∷ clock ∷ []);
  }
  unfolding heads.opens_response
  head-is =
      ap (λ (s : List ℕ). heads.opens_response method key later request_salt s b.stream b.answer) sent_is
      ∙ ap (λ (c : Bool). cond c (heads.response_left (opened_response method key later request_salt (whole ++ rest)) b.stream b.answer) (record { number = 1; stream = b.stream; answer = b.answer })) fit
      ∙ ap (λ (r : Result (Response × Receiver) Refusal). heads.response_left r b.stream b.answer) given.accepted

  abbrev behind_head : List ℕ
  behind_head = drop (length salt + 27 + length request_salt) (whole ++ rest)

  payload-is : heads.opens_chunk (receiver_words half) behind_head out again ≡ record {
    number = 0;
    out = put out 0 payload;
    stream = receiver_words (partner told.next);
    answer = sets again 0 ((length payload + 16) ∷ length payload ∷ []);
  }
  payload-is =
      opened-as (framing_of method) (receiver_words half) behind_head out again (le-leb (length payload) max_chunk few) nine half
      (at-payload method 1 told.next (length payload) few) (record { used = length payload + 16; length = length payload }) given.payload-read
      ∙ (λ i. record {
        number = 0;
        out = given.payload-written i;
        stream = receiver_words (given.payload-next i);
        answer = sets again 0 ((length payload + 16) ∷ length payload ∷ []);
      })

  abbrev RZ : AfterChunk
  RZ = heads.opens_chunk RY.stream (drop (length salt + 27 + length request_salt) (take (get_or RX.answer 0 0) RX.out ++ rest)) out again

  first-payload : RZ ≡ record {
    number = 0;
    out = put out 0 payload;
    stream = receiver_words (partner told.next);
    answer = sets again 0 ((length payload + 16) ∷ length payload ∷ []);
  }
  first-payload =
      (λ i. heads.opens_chunk (head-is i).stream (drop (length salt + 27 + length request_salt) (sent_is i)) out again) ∙ payload-is

  turned-stream : set RX.stream 0 1 ≡ receiver_words (partner told.next)
  turned-stream = ap (λ (y : AfterChunk). set y.stream 0 1) told.leaves

pub responses-back : ResponsesBack
unfolding step
responses-back m method key salt request_salt clock payload rest good clock-fits later valid b eight nine-there out again nine room =
    let fit = fits-so (length b.stream) (length b.answer) eight nine-there in
    let h = head-is m method key salt request_salt clock payload rest good clock-fits later valid b fit out again nine room in
    let z = first-payload m method key salt request_salt clock payload rest good clock-fits later valid b fit out again nine room in
    record {
      head_read = ap (λ (y : heads.AfterResponse). y.number) h;
      head-told = ap (λ (y : heads.AfterResponse). y.answer) h;
      payload-read = ap (λ (y : AfterChunk). y.number) z;
      payload-there = ap (λ (y : AfterChunk). y.out) z;
      in_step = ap (λ (y : AfterChunk). y.stream) z
          ∙ sym (turned-stream m method key salt request_salt clock payload rest good clock-fits later valid b fit out again nine room);
    }

-- ---- the 2017 edition's datagrams

module _ (m : Lent) (method : ℕ) (key salt payload : List ℕ)
    (good : (edition2017.seals_datagram method key salt payload m.out m.answer).number ≡ 0) (b : Lent) (nine : length b.answer ≡ 9)
    (room : length payload ≤ length b.out) where
  abbrev SA : Result ℕ Refusal
  SA = sip004.seal_answer method (length key) (length salt) (length payload) (length m.out)

  abbrev whole2017 : List ℕ
  whole2017 = sip004.datagram key salt payload

  record Tells2017 (x : edition2017.AfterDatagram) : Type 0 where
    n : ℕ
    answered : SA ≡ Ok n
    nine_words : length m.answer ≡ 9
    leaves-out : x.out ≡ seal_leaves method key salt payload m.out
    leaves-answer : x.answer ≡ set m.answer 0 n

  abbrev SX : edition2017.AfterDatagram
  SX = edition2017.seals_datagram method key salt payload m.out m.answer

  by_answer : (c : Bool) (x : Result ℕ Refusal) → eqb (length m.answer) 9 ≡ c → SA ≡ x
      → SX ≡ cond c (edition2017.sealed_told x whole2017 m.out m.answer) (record { number = 1; out = m.out; answer = m.answer })
  unfolding edition2017.tells
  by_answer c x ec ex = λ i. cond (ec i) (edition2017.sealed_told (ex i) whole2017 m.out m.answer) (record { number = 1; out = m.out; answer = m.answer })

  tells2017 : Tells2017 SX
  tells2017 = go (eqb (length m.answer) 9) SA refl refl
    where
      go : (c : Bool) (x : Result ℕ Refusal) → eqb (length m.answer) 9 ≡ c → SA ≡ x → Tells2017 (edition2017.seals_datagram method key salt payload m.out m.answer)
      go true (Ok n) ec ex =
          let p = by_answer true (Ok n) ec ex in
          record {
            n = n;
            answered = ex;
            nine_words = eqb-true (length m.answer) 9 ec;
            leaves-out = ap (λ (y : edition2017.AfterDatagram). y.out) p ∙ sym (ap (λ (z : Result ℕ Refusal). sip004.seal_out z whole2017 m.out) ex);
            leaves-answer = ap (λ (y : edition2017.AfterDatagram). y.answer) p;
          }
      go true (Err r) ec ex =
          absurd (true≢false (sym (ap (λ (k : ℕ). eqb k 0) (sym (ap (λ (y : edition2017.AfterDatagram). y.number) (by_answer true (Err r) ec ex)) ∙ good)) ∙ not-zero r))
      go false x ec ex = absurd (let q = sym (ap (λ (y : edition2017.AfterDatagram). y.number) (by_answer false x ec ex)) ∙ good in omega (arith, q))

  abbrev bytes2017 : List ℕ
  bytes2017 = take (get_or SX.answer 0 0) SX.out

  bytes2017-are : bytes2017 ≡ take tells2017.n (seal_leaves method key salt payload m.out)
  bytes2017-are =
      let k = tells2017 in
      ap₂ take (ap (λ (a : List ℕ). get_or a 0 0) k.leaves-answer ∙ get_or-set_same m.answer 0 k.n 0 (let z = k.nine_words in omega (arith, z))) k.leaves-out

  opens2017 : OpensBack method key payload bytes2017 b.out
  opens2017 =
      subst (λ (s : List ℕ). OpensBack method key payload s b.out) (sym bytes2017-are)
      (sip004-back.datagrams method key salt payload m.out tells2017.n tells2017.answered b.out room)

  abbrev SY : edition2017.AfterDatagram
  SY = edition2017.opens_datagram method key bytes2017 b.out b.answer

  opened2017 : SY ≡ record { number = 0; out = open_leaves method key bytes2017 b.out; answer = set b.answer 0 (length payload) }
  unfolding edition2017.tells
  opened2017 =
      ap (λ (c : Bool). cond c (edition2017.opened_told (sip004.open_answer method key bytes2017 (length b.out)) (sip004.payload_of key bytes2017) b.out b.answer) (record { number = 1; out = b.out; answer = b.answer })) (eq-eqb (length b.answer) 9 nine)
      ∙ ap (λ (x : Result ℕ Refusal). edition2017.opened_told x (sip004.payload_of key bytes2017) b.out b.answer) opens2017.answer
      ∙ ap (λ (l : List ℕ). record { number = 0; out = l; answer = set b.answer 0 (length payload) })
      (sym (ap (λ (x : Result ℕ Refusal). sip004.open_out x (sip004.payload_of key bytes2017) b.out) opens2017.answer))

pub datagrams-back-2017 : DatagramsBack2017
unfolding step
datagrams-back-2017 m method key salt payload good b nine room =
    let o = opened2017 m method key salt payload good b nine room in
    let k = opens2017 m method key salt payload good b nine room in (
      ap (λ (y : edition2017.AfterDatagram). y.number) o,
      (
        ap (λ (y : edition2017.AfterDatagram). get_or y.answer 0 0) o ∙ get_or-set_same b.answer 0 (length payload) 0 (omega (arith, nine)),
        ap (λ (y : edition2017.AfterDatagram). take (length payload) y.out) o ∙ ap (take (length payload)) k.text
            ∙ take_at payload (drop (length payload) b.out) (length payload) refl,
      ),
    )
