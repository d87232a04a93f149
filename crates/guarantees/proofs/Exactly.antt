-- Accepted exactly when, of the exported openers.
-- Assumes nothing.
use Rattle.std.specs.Prelude.{Err, Ok, Result}
use mathlib.Core.Path.{◌≡◌, refl, sym, ap, ap₂, ◌∙◌, subst}
use mathlib.Core.Logic.{◌↔◌}
use mathlib.Core.Bool.{Bool, true, false, cond, not, ◌&&◌, true≢false, and-eq-true_iff}
use Prim.Native.Nat.{ℕ, ◌+◌, ◌-◌}
use native.Mathlib.Omega.{arith}
use lib.Dec.{eqb, leb}
use lib.ListN.{length}
use borrow.Author.Tests.{eqb-true, eqb-false, eq-eqb, leb-true}
use Rattle.protocol.specs.Method.{key_fits, salt_length, cipher_of}
use Rattle.protocol.specs.declared.Refusal.TheVariants.{Settings, Length as TooLong, Room}
use Rattle.protocol.specs.Refusal.{refusal_number}
use Rattle.datagram_parts.specs.Parts.{max_datagram}
use Rattle.sip004.specs.Method.{key_fits as sip004_fits}
use Rattle.session_book.specs.Call.{Answer, refused, opened}
use Rattle.datagram_read.specs.declared.Header.{Header}
use Rattle.datagram_open.specs.Deciding.{open_answer}
use Rattle.stream_open_request.specs.declared.Request.{Request}
use Rattle.stream_open_request.specs.Requests.{opened_request}
use Rattle.stream_open_response.specs.declared.Response.{Response}
use Rattle.stream_open_response.specs.Responses.{opened_response}
use Rattle.stream_open_variable.specs.declared.VariableHeader.{VariableHeader}
use Rattle.stream_open_variable.specs.Variable.{variable_answer}
use Rattle.stream_open.specs.declared.Receiver.{Receiver}
use Rattle.stream_open.specs.declared.Chunk.{Chunk}
use Rattle.stream_open.specs.Steps.{step_answer}
use Rattle.stream_pieces.specs.declared.Framing.{Framing}
use Rattle.stream_pieces.specs.Framing.{framing_of}
use Rattle.sip004_stream.specs.Streams as streams2017
use Rattle.sip004.specs.Datagram as sip004
use Rattle.stream_chunks.specs.Opens.{StepOpens, StepExactly}
use Rattle.stream_answers.specs.Chunks as chunks
use Rattle.stream_answers.specs.Chunks.{fits}
use Rattle.stream_answers.specs.Told.{request_number, variable_number, response_number, stepped_number}
use Rattle.words.specs.States.{receiver_in}
use Rattle.words.specs.Answers.{header_words}
use Rattle.octets.specs.Buffers.{put}
use Rattle.datagram_read.specs.Opening.{plain_of}
use Rattle.relay.specs.Datagrams.{AfterOpen, opened_number, opened_words, opens_datagram}
use Rattle.relay.specs.Streams as heads
use Rattle.relay.specs.Sip004 as edition2017
use Rattle.relay.proofs.DatagramLaws.{relays, untold}
use Rattle.demands.specs.Datagrams.{Lawful, Acceptable, Stage, before, after, Answered, accepts, refuses}
use Rattle.demands.specs.StreamsOpen.{RequestOpens, VariableOpens, ResponseOpens}
use Rattle.demands.proofs.DatagramDemands.{openers-keep, accepted-exactly-when}
use Rattle.demands.proofs.DatagramWays.{refused-same, not-both}
use Rattle.demands.proofs.StreamDemands.{streams-demand2}
use Rattle.sip004_demands.specs.Datagrams as sip004_lawful
use Rattle.sip004_demands.proofs.Sip004.{sip004-exactly}
use Rattle.guarantees.specs.Calls.{Call, Lent, Said, Role, Opening, opens-datagram, step, role_of, at}
use Rattle.guarantees.specs.Guarantees.{Exactly}
use mathlib.Core.List.{List, [], ◌∷◌, map}
use Rattle.protocol.specs.Orders.{Rule, first, gives}
use Rattle.protocol.specs.Orders.{Said as Said', refuses as refusing}
use Rattle.session_table.specs.Table.{session_place, free_place}
use Rattle.demands.specs.Orders.{said_opened, open_order}
use Rattle.demands.proofs.Orders.{orders}
use Rattle.guarantees.specs.DatagramOrder.{record_of, free_record, first_refusal, open_rules}
use Rattle.guarantees.proofs.Base.{length-nine}
use Rattle.guarantees.proofs.Roles.{on-table, OnTable}
use Rattle.guarantees.proofs.Deciding.{not-zero}
use Rattle.protocol.specs.declared.Refusal.{Refusal}

-- a number that is one of a test's two, the other of which is 1
tested : (b : Bool) (n : ℕ) → cond b n 1 ≡ 0 → (b ≡ true) × (n ≡ 0)
tested true n e = (refl, e)
tested false n e = absurd (omega (arith, e))

-- words of their lengths
pub fits-tells : (a b : ℕ) → fits a b ≡ true → (a ≡ 8) × (b ≡ 9)
fits-tells a b e = let q = (and-eq-true_iff (eqb a 8) _).0 e in (eqb-true a 8 q.0, eqb-true b 9 q.1)

pub fits-so : (a b : ℕ) → a ≡ 8 → b ≡ 9 → fits a b ≡ true
fits-so a b e f = ap₂ ◌&&◌ (eq-eqb a 8 e) (eq-eqb b 9 f)

-- ---- datagrams

module _ (o : Opening) (m : Lent) where
  abbrev a : Answer Header
  a = open_answer o.method o.key o.client o.clock o.peer o.datagram m.table m.out

  abbrev y : AfterOpen
  y = opens_datagram o.method o.key o.client o.clock o.peer o.datagram m.table m.out m.answer

  abbrev Good : Type 0
  Good = (h : Header) × ((length m.answer ≡ 9) × (Lawful o.method o.key o.datagram m.table m.out
      × Acceptable o.method o.key o.client o.clock o.datagram m.table h))

  lawful-by : (h : Header) → a ≡ opened h → Lawful o.method o.key o.datagram m.table m.out
  lawful-by h e = go (openers-keep o.method o.key o.client o.clock o.peer o.datagram m.table m.out).stage
    where
      go : Stage o.method o.key o.datagram m.table m.out → Lawful o.method o.key o.datagram m.table m.out
      go (before b) =
          absurd ((openers-keep o.method o.key o.client o.clock o.peer o.datagram m.table m.out).refused-before-tag b h e)
      go (after l g) = l

  opened-when : y.number ≡ 0 → Good
  opened-when e = go (eqb (length m.answer) 9) refl
    where
      told : length m.answer ≡ 9 → opened_number a ≡ 0
      told l = sym (ap (λ (z : AfterOpen). z.number) (relays o.method o.key o.client o.clock o.peer o.datagram m.table m.out m.answer l)) ∙ e

      by : length m.answer ≡ 9 → (x : Answer Header) → a ≡ x → Answered x → opened_number x ≡ 0 → Good
      by l (opened h) f k z =
          let w = lawful-by h f in
          (h, (l, (w, (accepted-exactly-when o.method o.key o.client o.clock o.peer o.datagram m.table m.out w h).only-when f)))
      by l (refused n) f (accepts h g) z = absurd (not-both n h (refused n) refl g)
      by l (refused n) f (refuses r p g) z =
          absurd (true≢false (sym (ap (λ (k : ℕ). eqb k 0) (sym (refused-same n (refusal_number r) g) ∙ z)) ∙ not-zero r))

      go : (b : Bool) → eqb (length m.answer) 9 ≡ b → Good
      go true f =
          let l = length-nine m.answer f in
          by l a refl (openers-keep o.method o.key o.client o.clock o.peer o.datagram m.table m.out).answered (told l)
      go false f =
          absurd (let z = ap (λ (v : AfterOpen). v.number) (untold o.method o.key o.client o.clock o.peer o.datagram m.table m.out m.answer (eqb-false (length m.answer) 9 f)) ∙ e in omega (arith, z))

  when-opened : Good → y.number ≡ 0
  when-opened g =
      ap (λ (z : AfterOpen). z.number) (relays o.method o.key o.client o.clock o.peer o.datagram m.table m.out m.answer g.1.0)
      ∙ ap opened_number
      ((accepted-exactly-when o.method o.key o.client o.clock o.peer o.datagram m.table m.out g.1.1.0 g.0).always-when g.1.1.1)

-- ---- the order

abbrev number_said : {A : Type 0} → Said' A → ℕ
number_said (refusing n a) = n
number_said (gives v) = 0

abbrev as_rule : Rule → ℕ × Bool
as_rule r = (r.number, r.when)

first-number : {A : Type 0} (rs : List Rule) (v : A) → number_said (first rs v) ≡ first_refusal (map as_rule rs)
unfolding first
first-number [] v = refl
first-number (r ∷ rs) v = go r.when (first-number rs v)
  where
    go : (b : Bool) → number_said (first rs v) ≡ first_refusal (map as_rule rs)
        → number_said (cond b (refusing r.number r.adds) (first rs v)) ≡ cond b r.number (first_refusal (map as_rule rs))
    go true e = refl
    go false e = e

module _ (o : Opening) (m : Lent) where
  said-number : (x : Answer Header) → opened_number x ≡ number_said (said_opened x)
  said-number (opened h) = refl
  said-number (refused n) = refl

  by_order : opened_number (a o m) ≡ first_refusal (map as_rule (open_order o.method o.key o.client o.clock o.datagram m.table m.out))
  by_order =
      said-number (a o m)
      ∙ ap number_said (orders.datagram-opened o.method o.key o.client o.clock o.peer o.datagram m.table m.out)
      ∙ first-number (open_order o.method o.key o.client o.clock o.datagram m.table m.out) _

  ordered : (y o m).number ≡ first_refusal (open_rules o m)
  unfolding session_place free_place record_of free_record
  ordered = go (eqb (length m.answer) 9) refl
    where
      go : (b : Bool) → eqb (length m.answer) 9 ≡ b
          → (opens_datagram o.method o.key o.client o.clock o.peer o.datagram m.table m.out m.answer).number ≡ first_refusal (open_rules o m)
      go true e =
          ap (λ (z : AfterOpen). z.number)
          (relays o.method o.key o.client o.clock o.peer o.datagram m.table m.out m.answer (length-nine m.answer e))
          ∙ by_order
          ∙ sym (ap (λ (b : Bool). cond (not b) 1 (first_refusal (map as_rule (open_order o.method o.key o.client o.clock o.datagram m.table m.out)))) e)
      go false e =
          sym (ap (λ (z : AfterOpen). z.number)
          (untold o.method o.key o.client o.clock o.peer o.datagram m.table m.out m.answer (eqb-false (length m.answer) 9 e)))
          ∙ sym (ap (λ (b : Bool). cond (not b) 1 (first_refusal (map as_rule (open_order o.method o.key o.client o.clock o.datagram m.table m.out)))) e)

datagram-order : (c : Call) (o : Opening) (m : Lent) → role_of c ≡ opens-datagram o → (step c m).number ≡ first_refusal (open_rules o m)
datagram-order c o m e =
    let x : OnTable (opens-datagram o) m (step c m) = subst (λ (r : Role). OnTable r m (step c m)) e (on-table c m) in
    ap (λ (z : Said). z.number) x ∙ ordered o m

datagram-words : (c : Call) (o : Opening) (m : Lent) → role_of c ≡ opens-datagram o → length m.answer ≡ 9
    → Lawful o.method o.key o.datagram m.table m.out
    → (h : Header) → Acceptable o.method o.key o.client o.clock o.datagram m.table h
    → ((step c m).left.answer ≡ header_words h) × ((step c m).left.out ≡ put m.out 0 (plain_of (cipher_of o.method) o.key o.datagram))
datagram-words c o m e l w h g =
    let x : OnTable (opens-datagram o) m (step c m) = subst (λ (r : Role). OnTable r m (step c m)) e (on-table c m) in
    let k = accepted-exactly-when o.method o.key o.client o.clock o.peer o.datagram m.table m.out w h in
    let r = relays o.method o.key o.client o.clock o.peer o.datagram m.table m.out m.answer l in (
      ap (λ (z : Said). z.left.answer) x ∙ ap (λ (z : AfterOpen). z.answer) r ∙ ap (λ (z : Answer Header). opened_words z m.answer) (k.always-when g),
      ap (λ (z : Said). z.left.out) x ∙ ap (λ (z : AfterOpen). z.out) r ∙ k.opened-text (k.always-when g),
    )

datagrams-exactly : (c : Call) (o : Opening) (m : Lent) → role_of c ≡ opens-datagram o → ((step c m).number ≡ 0) ↔ Good o m
datagrams-exactly c o m e =
    let x : OnTable (opens-datagram o) m (step c m) = subst (λ (r : Role). OnTable r m (step c m)) e (on-table c m) in
    let n = ap (λ (z : Said). z.number) x in
    ((λ z. opened-when o m (sym n ∙ z)), (λ g. n ∙ when-opened o m g))

-- ---- streams

module _ (f : Framing) (w s out answer : List ℕ) (exactly : (c : Chunk) → StepExactly f (receiver_in w) s out c) where
  abbrev PieceGood : Type 0
  PieceGood = (c : Chunk) × ((chunks.opens w answer ≡ true) × StepOpens f (receiver_in w) s (length out) c)

  number_is : (chunks.opens_chunk f w s out answer).number ≡ cond (chunks.opens w answer) (stepped_number (step_answer f (receiver_in w) s (length out))) 1
  unfolding chunks.opens_chunk
  number_is = go (chunks.opens w answer)
    where
      go : (b : Bool) → (cond b (chunks.step_told f (step_answer f (receiver_in w) s (length out)) (receiver_in w) s out w answer) (record { number = 1; out = out; stream = w; answer = answer })).number
          ≡ cond b (stepped_number (step_answer f (receiver_in w) s (length out))) 1
      go true = refl
      go false = refl

  by-step : (x : Result Chunk Refusal) → step_answer f (receiver_in w) s (length out) ≡ x → chunks.opens w answer ≡ true → stepped_number x ≡ 0 → PieceGood
  by-step (Ok c) e b z = (c, (b, (exactly c).only-when e))
  by-step (Err r) e b z = absurd (true≢false (sym (ap (λ (k : ℕ). eqb k 0) z) ∙ not-zero r))

  piece-exactly : ((chunks.opens_chunk f w s out answer).number ≡ 0) ↔ PieceGood
  piece-exactly = (
    (λ e. let t = tested (chunks.opens w answer) (stepped_number (step_answer f (receiver_in w) s (length out))) (sym number_is ∙ e) in
        by-step (step_answer f (receiver_in w) s (length out)) refl t.0 t.1),
    (λ g.
        number_is ∙ ap (λ (b : Bool). cond b (stepped_number (step_answer f (receiver_in w) s (length out))) 1) g.1.0
        ∙ ap stepped_number ((exactly g.0).always-when g.1.1)),
  )

module _ (method : ℕ) (key : List ℕ) (clock : ℕ) (s : List ℕ) (m : Lent) where
  abbrev front : Result (Request × Receiver) Refusal
  front = opened_request method key clock s m.pool

  abbrev fit : Bool
  fit = fits (length m.stream) (length m.answer)

  abbrev FrontGood : Type 0
  FrontGood = (h : Request) × ((st : Receiver) × ((length m.stream ≡ 8) × ((length m.answer ≡ 9) × RequestOpens method key clock s m.pool h st)))

  front-number : (heads.opens_request method key clock s m.pool m.stream m.answer).number ≡ cond fit (request_number front) 1
  unfolding heads.opens_request
  front-number = go fit
    where
      go : (b : Bool) → (cond b (heads.request_left method key clock s m.pool m.stream m.answer (opened_request method key clock s m.pool))
          (record { number = 1; pool = m.pool; stream = m.stream; answer = m.answer })).number
          ≡ cond b (request_number (opened_request method key clock s m.pool)) 1
      go true = refl
      go false = refl

  by_front : (x : Result (Request × Receiver) Refusal) → front ≡ x → fit ≡ true → request_number x ≡ 0 → FrontGood
  by_front (Ok (h, st)) e b z = let q = fits-tells (length m.stream) (length m.answer) b in (h, (st, (q.0, (q.1, (streams-demand2.requests-exactly method key clock s m.pool h st).only-when e))))
  by_front (Err r) e b z = absurd (true≢false (sym (ap (λ (k : ℕ). eqb k 0) z) ∙ not-zero r))

  front-exactly : ((heads.opens_request method key clock s m.pool m.stream m.answer).number ≡ 0) ↔ FrontGood
  front-exactly = (
    (λ e. let t = tested fit (request_number front) (sym front-number ∙ e) in by_front front refl t.0 t.1),
    (λ g.
        front-number ∙ ap (λ (b : Bool). cond b (request_number front) 1) (fits-so (length m.stream) (length m.answer) g.1.1.0 g.1.1.1.0)
        ∙ ap request_number ((streams-demand2.requests-exactly method key clock s m.pool g.0 g.1.0).always-when g.1.1.1.1)),
  )

module _ (method : ℕ) (key : List ℕ) (clock : ℕ) (request_salt s : List ℕ) (m : Lent) (fitting : key_fits method (length key) ≡ true)
    (sized : length request_salt ≡ salt_length method) where
  abbrev response : Result (Response × Receiver) Refusal
  response = opened_response method key clock request_salt s

  abbrev suits : Bool
  suits = fits (length m.stream) (length m.answer)

  abbrev ResponseGood : Type 0
  ResponseGood = (h : Response) × ((st : Receiver) × ((length m.stream ≡ 8) × ((length m.answer ≡ 9) × ResponseOpens method key clock request_salt s h st)))

  response-number : (heads.opens_response method key clock request_salt s m.stream m.answer).number ≡ cond suits (response_number response) 1
  unfolding heads.opens_response
  response-number = go suits
    where
      go : (b : Bool) → (cond b (heads.response_left (opened_response method key clock request_salt s) m.stream m.answer)
          (record { number = 1; stream = m.stream; answer = m.answer })).number
          ≡ cond b (response_number (opened_response method key clock request_salt s)) 1
      go true = refl
      go false = refl

  by-response : (x : Result (Response × Receiver) Refusal) → response ≡ x → suits ≡ true → response_number x ≡ 0 → ResponseGood
  by-response (Ok (h, st)) e b z = let q = fits-tells (length m.stream) (length m.answer) b in (h, (st, (q.0, (q.1, (streams-demand2.responses-exactly method key clock request_salt s fitting sized h st).only-when e))))
  by-response (Err r) e b z = absurd (true≢false (sym (ap (λ (k : ℕ). eqb k 0) z) ∙ not-zero r))

  response-exactly : ((heads.opens_response method key clock request_salt s m.stream m.answer).number ≡ 0) ↔ ResponseGood
  response-exactly = (
    (λ e. let t = tested suits (response_number response) (sym response-number ∙ e) in by-response response refl t.0 t.1),
    (λ g.
        response-number ∙ ap (λ (b : Bool). cond b (response_number response) 1) (fits-so (length m.stream) (length m.answer) g.1.1.0 g.1.1.1.0)
        ∙ ap response_number ((streams-demand2.responses-exactly method key clock request_salt s fitting sized g.0 g.1.0).always-when g.1.1.1.1)),
  )

responses-exactly : (method : ℕ) (key : List ℕ) (clock : ℕ) (request_salt s : List ℕ) (m : Lent)
    → ((heads.opens_response method key clock request_salt s m.stream m.answer).number ≡ 0)
    ↔ ((key_fits method (length key) ≡ true) × ((length request_salt ≡ salt_length method)
    × ((h : Response) × ((st : Receiver) × ((length m.stream ≡ 8) × ((length m.answer ≡ 9) × ResponseOpens method key clock request_salt s h st))))))
unfolding heads.opens_response opened_response
responses-exactly method key clock request_salt s m = (
  (λ e.
      let t = suited (fits (length m.stream) (length m.answer)) (key_fits method (length key) && eqb (length request_salt) (salt_length method)) _ e in
      let q = (and-eq-true_iff (key_fits method (length key)) _).0 t in
      let z = eqb-true (length request_salt) (salt_length method) q.1 in
      (q.0, (z, (response-exactly method key clock request_salt s m q.0 z).0 e))),
  (λ g. (response-exactly method key clock request_salt s m g.0 g.1.0).1 g.1.1),
)
  where
    suited : (p q : Bool) (x : Result (Response × Receiver) Refusal)
        → (cond {A = heads.AfterResponse} p (heads.response_left (cond q x (Err Settings)) m.stream m.answer) (record { number = 1; stream = m.stream; answer = m.answer })).number ≡ 0
        → q ≡ true
    suited true true x e = refl
    suited true false x e = absurd (omega (arith, e))
    suited false q x e = absurd (omega (arith, e))

module _ (s : List ℕ) (m : Lent) where
  abbrev variable : Result VariableHeader Refusal
  variable = variable_answer (receiver_in m.stream) s (length m.out)

  abbrev lent : Bool
  lent = chunks.opens m.stream m.answer

  abbrev VariableGood : Type 0
  VariableGood = (h : VariableHeader) × ((lent ≡ true) × VariableOpens (receiver_in m.stream) s (length m.out) h)

  variable-number : (heads.opens_variable m.stream s m.out m.answer).number ≡ cond lent (variable_number variable) 1
  unfolding heads.opens_variable
  variable-number = go lent
    where
      go : (b : Bool) → (cond b (heads.variable_left (variable_answer (receiver_in m.stream) s (length m.out)) (receiver_in m.stream) s m.out m.stream m.answer)
          (record { number = 1; out = m.out; stream = m.stream; answer = m.answer })).number
          ≡ cond b (variable_number (variable_answer (receiver_in m.stream) s (length m.out))) 1
      go true = refl
      go false = refl

  by-variable : (x : Result VariableHeader Refusal) → variable ≡ x → lent ≡ true → variable_number x ≡ 0 → VariableGood
  by-variable (Ok h) e b z = (h, (b, (streams-demand2.variable-headers-exactly (receiver_in m.stream) s m.out h).only-when e))
  by-variable (Err r) e b z = absurd (true≢false (sym (ap (λ (k : ℕ). eqb k 0) z) ∙ not-zero r))

  variable-exactly : ((heads.opens_variable m.stream s m.out m.answer).number ≡ 0) ↔ VariableGood
  variable-exactly = (
    (λ e. let t = tested lent (variable_number variable) (sym variable-number ∙ e) in by-variable variable refl t.0 t.1),
    (λ g.
        variable-number ∙ ap (λ (b : Bool). cond b (variable_number variable) 1) g.1.0
        ∙ ap variable_number ((streams-demand2.variable-headers-exactly (receiver_in m.stream) s m.out g.0).always-when g.1.1)),
  )

-- ---- the 2017 edition's datagrams

module _ (method : ℕ) (key s : List ℕ) (m : Lent) (l : sip004_lawful.Lawful method key s m.out) where
  abbrev text : Result ℕ Refusal
  text = sip004.open_answer method key s (length m.out)

  number2017 : Result ℕ Refusal → ℕ
  number2017 (Ok n) = 0
  number2017 (Err r) = refusal_number r

  text-number : (edition2017.opens_datagram method key s m.out m.answer).number ≡ cond (eqb (length m.answer) 9) (number2017 text) 1
  unfolding edition2017.tells number2017
  text-number = go (eqb (length m.answer) 9) (sip004.open_answer method key s (length m.out))
    where
      go : (b : Bool) (x : Result ℕ Refusal) → (cond b (edition2017.opened_told x (sip004.payload_of key s) m.out m.answer) (record { number = 1; out = m.out; answer = m.answer })).number
          ≡ cond b (number2017 x) 1
      go true (Ok n) = refl
      go true (Err r) = refl
      go false x = refl

  by-text : (x : Result ℕ Refusal) → text ≡ x → number2017 x ≡ 0 → sip004_lawful.TagGood key s
  unfolding number2017
  by-text (Ok n) e z = (((sip004-exactly.datagrams method key s m.out l).accepted n).0 e).1
  by-text (Err r) e z = absurd (true≢false (sym (ap (λ (k : ℕ). eqb k 0) z) ∙ not-zero r))

  text-exactly : ((edition2017.opens_datagram method key s m.out m.answer).number ≡ 0) ↔ ((length m.answer ≡ 9) × sip004_lawful.TagGood key s)
  unfolding number2017
  text-exactly = (
    (λ e. let t = tested (eqb (length m.answer) 9) (number2017 text) (sym text-number ∙ e) in (length-nine m.answer t.0, by-text text refl t.1)),
    (λ g.
        text-number ∙ ap (λ (b : Bool). cond b (number2017 text) 1) (eq-eqb (length m.answer) 9 g.0)
        ∙ ap number2017 (((sip004-exactly.datagrams method key s m.out l).accepted _).1 (refl, g.1))),
  )

lawful-2017 : (method : ℕ) (key s : List ℕ) (m : Lent) → (edition2017.opens_datagram method key s m.out m.answer).number ≡ 0 → sip004_lawful.Lawful method key s m.out
unfolding edition2017.tells sip004.open_answer sip004.lawful_answer sip004.due_answer
lawful-2017 method key s m e =
    let k = length key + 16 in
    let t = go (eqb (length m.answer) 9) (sip004_fits method (length key)) (leb k (length s) && leb (length s) max_datagram) (leb (length s - k) (length m.out)) (sip004.body_authentic key s) e in
    let q = (and-eq-true_iff (leb k (length s)) _).0 t.1.0 in
    record {
      settings = t.0;
      shortest = leb-true k (length s) q.0;
      longest = leb-true (length s) max_datagram q.1;
      room = leb-true (length s - k) (length m.out) t.1.1;
    }
  where
    go : (p a b c d : Bool)
        → (cond {A = edition2017.AfterDatagram} p
        (edition2017.opened_told (sip004.judged (cond a (cond b (cond c (Ok (length s - (length key + 16))) (Err Room)) (Err TooLong)) (Err Settings)) d) (sip004.payload_of key s) m.out m.answer)
        (record { number = 1; out = m.out; answer = m.answer })).number ≡ 0
        → (a ≡ true) × ((b ≡ true) × (c ≡ true))
    go true true true true d z = (refl, (refl, refl))
    go false a b c d z = absurd (omega (arith, z))
    go true false b c d z = absurd (omega (arith, z))
    go true true false c d z = absurd (omega (arith, z))
    go true true true false d z = absurd (omega (arith, z))

datagrams-exactly-2017 : (method : ℕ) (key s : List ℕ) (m : Lent)
    → ((edition2017.opens_datagram method key s m.out m.answer).number ≡ 0)
    ↔ (sip004_lawful.Lawful method key s m.out × ((length m.answer ≡ 9) × sip004_lawful.TagGood key s))
datagrams-exactly-2017 method key s m = (
  (λ e. let l = lawful-2017 method key s m e in (l, (text-exactly method key s m l).0 e)),
  (λ g. (text-exactly method key s m g.0).1 g.1),
)

pub exactly : Exactly
unfolding step
exactly = record {
  datagram-order = datagram-order;
  datagrams = datagrams-exactly;
  datagram-words = datagram-words;
  fronts = front-exactly;
  variable-headers = variable-exactly;
  pieces = λ s m. piece-exactly (framing_of (at m.stream 1)) m.stream s m.out m.answer (streams-demand2.steps-exactly (receiver_in m.stream) s m.out);
  pieces-2017 = λ s m.
      piece-exactly (streams2017.framing_of (at m.stream 1)) m.stream s m.out m.answer
      (sip004-exactly.streams.steps (receiver_in m.stream) s m.out);
  responses = responses-exactly;
  datagrams-2017 = datagrams-exactly-2017;
}
