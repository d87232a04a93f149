-- A report that goes out by a good plan is received. What the plain book does with the datagrams of one session, in order, is what the
-- table does.
-- Assumes nothing.
use Rattle.std.specs.Prelude.{Ok, None, Some}
use mathlib.Core.Path.{◌≡◌, refl, sym, ap, ap₂, subst, ◌∙◌}
use mathlib.Core.Bool.{Bool, true, false, cond, not, ◌&&◌, ◌||◌}
use mathlib.Core.List.{List, [], ◌∷◌, ◌++◌}
use Prim.Native.Nat.{ℕ, zero, suc, ◌+◌, ◌-◌, ◌^◌, ◌≤◌, ◌<◌}
use native.Mathlib.Omega.{arith}
use native.Mathlib.Nat.{max-eq_right}
use lib.Dec.{leb, ltb, eqb}
use lib.ListN.{length, take, drop, replicate, length-replicate, length-drop, take-append-drop}
use lib.Seq.{take_at, length-take-le}
use borrow.Author.Tests.{eq-eqb, lt-ltb}
use Rattle.octets.specs.Buffers.{Octets}
use Rattle.protocol.specs.declared.Cipher.{Cipher}
use Rattle.protocol.specs.Method.{key_fits, cipher_of}
use Rattle.socks5.proofs.PlaceLaws.{One}
use Rattle.session_record.specs.declared.Peer.{Peer}
use Rattle.session_book.specs.Call.{opened, Outcome, Decision, reaches, onto}
use Rattle.session_book.specs.Book.{Page, page_alive, member, fresh, accept, new_page, BookEntry, enters, judge_by, judge, turn, without, tell, outcome_by, next_by, book_outcomes}
use Rattle.session_book.specs.Demand3.{Each, clocks, Forward, PortFits}
use Rattle.session_book.proofs.First.{follows-book}
use Rattle.datagram_parts.specs.declared.Side.TheVariants.{Client}
use Rattle.datagram_parts.specs.Headers.{main_start, sealed_text}
use Rattle.datagram_parts.specs.Parts.{overhead, nonce_fits}
use Rattle.datagram_parts.proofs.LengthLaws.{length-sealed_text}
use Rattle.datagram_seal.specs.Sealing.{sealed_length, seal_answer, datagram}
use Rattle.datagram_seal.proofs.LengthLaws.{length-datagram}
use Rattle.datagram_read.specs.declared.Header.{Header}
use Rattle.datagram_read.specs.Opening.{plain_of, read_out}
use Rattle.datagram_open.specs.Deciding.{decided_by, decide}
use Rattle.demands.specs.Datagrams.{header_of}
use Rattle.demands.proofs.DatagramReadBack.{sent_back, payload-sent}
use Rattle.demands.proofs.DatagramSealing.{one-target, sealed-opens}
use Rattle.plan_pieces.specs.Plans.{Piece, total}
use Rattle.plan_demands.specs.Plans.{KnownMethod}
use Rattle.plan_demands.specs.Seals.{client_at, length_of, Seals, EachSeals}
use Rattle.plan_demands.specs.Received.{Trip, besides_text, InTime, call_for, calls_from, shown, Received, PlanReceived}
use Rattle.plan_demands.proofs.MethodLaws.{overhead-no-text, nonce-serves}
use Rattle.plan_demands.proofs.SealsLaws.{plan-seals}

-- ---- the book, of one session whose packet IDs rise

-- no page, or one of this session whose highest packet ID is below the next
data Before (id next : ℕ) (b : List Page) : Type 0 where
  empty : b ≡ [] → Before id next b
  single : (q : Page) → b ≡ q ∷ [] → q.id ≡ id → q.h < next → Before id next b

-- the packet enters, and then there is one page, whose highest is the packet's
record Enters (R : ℕ) (b : List Page) (clock : ℕ) (peer : Peer) (id packet : ℕ) : Type 0 where
  page-of : Page
  judged : judge R b clock peer id packet ≡ enters page-of
  alone : without id b ≡ []
  its-id : page-of.id ≡ id
  its-h : page-of.h ≡ packet

-- a packet ID above the highest is fresh
above : (q : Page) (packet : ℕ) → q.h < packet → fresh q packet ≡ true
above q packet l = ap (λ (b : Bool). b || (ltb (q.h - packet) 256 && not (member packet q.accepted))) (lt-ltb q.h packet l)

taken : (b : Bool) (x y : BookEntry) → b ≡ true → cond b x y ≡ x
taken b x y e = ap (λ (z : Bool). cond z x y) e

module _ (R clock : ℕ) (peer : Peer) (id packet : ℕ) where
  entered-new : Enters R [] clock peer id packet
  entered-new = record { page-of = new_page clock peer id packet; judged = refl; alone = refl; its-id = refl; its-h = refl }

  module _ (q : Page) (e : q.id ≡ id) (l : q.h < packet) where
    same : eqb q.id id ≡ true
    same = eq-eqb q.id id e

    removed : without id (q ∷ []) ≡ []
    removed = ap (λ (b : Bool). cond b [] (q ∷ [])) same

    by-page : (a : Bool) → page_alive R clock q ≡ a
        → judge_by (cond (true && a) (Some q) None) (leb 64 (cond a 1 0 + 0)) clock peer id packet ≡ judge R (q ∷ []) clock peer id packet
    by-page a f = λ i. judge_by (cond (sym same i && sym f i) (Some q) None) (leb 64 (cond (sym f i) 1 0 + 0)) clock peer id packet

    entered-alive : page_alive R clock q ≡ true → Enters R (q ∷ []) clock peer id packet
    entered-alive f = record {
      page-of = accept clock peer id packet q;
      judged =
          sym (by-page true f) ∙ taken (fresh q packet) _ _ (above q packet l);
      alone = removed;
      its-id = refl;
      its-h = max-eq_right (omega arith);
    }

    entered-dead : page_alive R clock q ≡ false → Enters R (q ∷ []) clock peer id packet
    entered-dead f = record {
      page-of = new_page clock peer id packet;
      judged = sym (by-page false f);
      alone = removed;
      its-id = refl;
      its-h = refl;
    }

  entered : (b : List Page) → Before id packet b → Enters R b clock peer id packet
  entered b (empty e) = subst (λ (z : List Page). Enters R z clock peer id packet) (sym e) entered-new
  entered b (single q e f l) =
      subst (λ (z : List Page). Enters R z clock peer id packet) (sym e) (go (page_alive R clock q) refl)
    where
      go : (a : Bool) → page_alive R clock q ≡ a → Enters R (q ∷ []) clock peer id packet
      go true g = entered-alive q f l g
      go false g = entered-dead q f l g

-- ---- one datagram

module _ (method : ℕ) (known : KnownMethod method) (address : List ℕ) (limit : ℕ) (key : List ℕ) (fits : key_fits method (length key) ≡ true)
    (bytes : Octets key) (id first : ℕ) (id-fits : id < 2 ^ 64) (trip : ℕ → Trip) (on : InTime method limit trip) where
  abbrev cipher : Cipher
  cipher = cipher_of method

  -- what a datagram has besides its plaintext is as written
  no_text : overhead cipher ≡ besides_text method
  no_text = overhead-no-text method known.0 known.1

  module _ (i : ℕ) (more : first + i < 2 ^ 64 - 1) (x : Piece) (s : Seals method address limit x) (payload : List ℕ)
      (e : length payload ≡ x.bytes) where
    abbrev packet : ℕ
    packet = first + i

    abbrev nonce : List ℕ
    nonce = (trip i).nonce

    abbrev sent : List ℕ
    sent = datagram cipher key nonce (client_at id packet) (trip i).time address x.padding payload

    abbrev text_of : List ℕ
    text_of = sealed_text cipher id packet Client (trip i).time x.padding address payload

    abbrev buffer : List ℕ
    buffer = replicate limit 0

    answered : seal_answer method (length key) (length nonce) (client_at id packet) address x.padding (length payload) (length buffer)
        ≡ Ok (length_of method address x)
    answered =
        (λ j. seal_answer method (length key) (length nonce) (client_at id packet) address x.padding (e j) (length-replicate {A = ℕ} limit 0 j))
        ∙ s.sealed (length key) (length nonce) id packet limit fits (on.nonce-serves i) (λ z. omega arith) (omega arith)

    nonce-fits : nonce_fits cipher (length nonce) ≡ true
    nonce-fits = nonce-serves method (length nonce) (on.nonce-serves i)

    one : One address
    one = one-target method key nonce (client_at id packet) (trip i).time address x.padding payload buffer (length_of method address x) answered

    abbrev header_of_lem : Header
    header_of_lem = header_of (main_start cipher) Client id packet (trip i).time x.padding (length address) one.address

    text-length : length text_of + besides_text method ≡ length sent
    unfolding sealed_length
    text-length =
        omega (
          arith,
          no_text,
          length-sealed_text cipher id packet Client (trip i).time x.padding address payload,
          length-datagram cipher key nonce (client_at id packet) (trip i).time address x.padding payload nonce-fits,
        )

    long-enough : length text_of ≤ length (trip i).out
    long-enough =
        let w = s.bytes-within key nonce (on.nonce-serves i) id packet (trip i).time payload e in
        let t = text-length in
        let r = on.room i in
        omega arith

    plain : plain_of cipher key sent ≡ text_of
    unfolding sealed_text
    plain =
        (sent_back method key bytes nonce nonce-fits (client_at id packet) (trip i).time address x.padding payload id-fits (omega arith)).text

    decided : decide method key (call_for method key address id first trip i x payload) ≡ reaches id packet header_of_lem text_of
    unfolding decide
    decided =
        let r =
        sealed-opens method key nonce (client_at id packet) (trip i).time address x.padding payload buffer (length_of method address x) answered bytes
        id-fits (omega arith) (omega arith) (on.time-fits i) one.address one.found (trip i).clock (on.valid i) (trip i).out long-enough in
        (λ j. decided_by (r.0 j) (read_out method key Client (trip i).clock sent (trip i).out) (plain j))

    shows : shown (opened header_of_lem) (length sent - besides_text method) (onto text_of (trip i).out) ≡ payload
    shows =
        let t = text-length in
        ap (drop header_of_lem.payload) (take_at text_of (drop (length text_of) (trip i).out) (length sent - besides_text method) (omega arith))
        ∙ payload-sent cipher id packet Client (trip i).time x.padding address payload

  -- what the server's call decides, and shows where it is opened
  record Opens (i : ℕ) (x : Piece) (payload : List ℕ) : Type 0 where
    header : Header
    text : List ℕ
    decided : decide method key (call_for method key address id first trip i x payload) ≡ reaches id (first + i) header text
    shows : shown (opened header) (length (call_for method key address id first trip i x payload).datagram - besides_text method)
        (onto text (trip i).out)
        ≡ payload

  datagram-opens : (i : ℕ) → first + i < 2 ^ 64 - 1 → (x : Piece) → Seals method address limit x → (payload : List ℕ) → length payload ≡ x.bytes
      → Opens i x payload
  datagram-opens i more x s payload e = record {
    header = header_of_lem i more x s payload e;
    text = text_of i more x s payload e;
    decided = decided i more x s payload e;
    shows = shows i more x s payload e;
  }

  -- ---- all of them, one after the other

  nothing : (r : List ℕ) → length r ≡ 0 → [] ≡ r
  nothing [] e = refl
  nothing (y ∷ r) e = absurd (omega arith)

  run : (p : List Piece) (i : ℕ) → first + i + length p < 2 ^ 64 → EachSeals method address limit p → (report : List ℕ)
      → length report ≡ total p → (R : ℕ) (b : List Page) → Before id (first + i) b
      → Received method (calls_from method key address id first trip i p report)
      (book_outcomes (decide method key) R b (calls_from method key address id first trip i p report)) report
  run [] i more s report e R b before = record { all-opened = tt; whole = nothing report e }
  run (x ∷ p) i more s report e R b before =
      let payload = take x.bytes report in
      let c = call_for method key address id first trip i x payload in
      let o = datagram-opens i (omega arith) x s.0 payload (length-take-le x.bytes report (omega arith)) in
      let n = entered R (trip i).clock (trip i).peer id (first + i) b before in
      let out =
      ap (λ (z : Decision Header). outcome_by z R b c) o.decided
      ∙ ap (λ (z : BookEntry). tell z c o.header o.text) n.judged in
      let next =
      ap (λ (z : Decision Header). next_by z R b c) o.decided ∙ ap (λ (z : BookEntry). turn z id b) n.judged
      ∙ ap (λ (z : List Page). n.page-of ∷ z) n.alone in
      let h = n.its-h in
      let ld = length-drop x.bytes report in
      let rest =
      run p (suc i) (omega arith) s.1 (drop x.bytes report) (omega arith) R (next_by (decide method key c) R b c)
      (single n.page-of next n.its-id (omega arith)) in
      record {
        all-opened = ((o.header, ap (λ (z : Outcome Header). z.answer) out), rest.all-opened);
        whole =
            ap₂ ◌++◌ (ap (λ (z : Outcome Header). shown z.answer (length c.datagram - besides_text method) z.output) out ∙ o.shows) rest.whole
            ∙ take-append-drop x.bytes report;
      }

  -- ---- what the calls bring

  clock-least : (i j : ℕ) → i ≤ j → (trip i).clock ≤ (trip j).clock
  clock-least i j l = subst (λ (k : ℕ). (trip i).clock ≤ (trip k).clock) (let q : i + (j - i) ≡ j = omega arith in q) (go (j - i))
    where
      go : (k : ℕ) → (trip i).clock ≤ (trip (i + k)).clock
      go zero = subst (λ (z : ℕ). (trip i).clock ≤ (trip z).clock) (let q : i ≡ i + 0 = omega arith in q) (omega arith)
      go (suc k) =
          let a = go k in
          let f = on.forward (i + k) in
          subst (λ (z : ℕ). (trip i).clock ≤ (trip z).clock) (let q : suc (i + k) ≡ i + suc k = omega arith in q) (omega arith)

  later : (p : List Piece) (i j : ℕ) → i ≤ j → (report : List ℕ)
      → Each (λ c. (trip i).clock ≤ c) (clocks (calls_from method key address id first trip j p report))
  later [] i j l report = tt
  later (x ∷ p) i j l report = (clock-least i j l, later p i (suc j) (omega arith) (drop x.bytes report))

  goes-forward : (p : List Piece) (i : ℕ) (report : List ℕ) → Forward (calls_from method key address id first trip i p report)
  goes-forward [] i report = tt
  goes-forward (x ∷ p) i report = (later p i (suc i) (omega arith) (drop x.bytes report), goes-forward p (suc i) (drop x.bytes report))

  ports : (p : List Piece) (i : ℕ) (report : List ℕ) → Each PortFits (calls_from method key address id first trip i p report)
  ports [] i report = tt
  ports (x ∷ p) i report = (on.port-fits i, ports p (suc i) (drop x.bytes report))

pub plan-received : PlanReceived
plan-received method address limit n l p g report e key fits bytes id first id-fits more trip on R least greatest =
    let cs = calls_from method key address id first trip 0 p report in
    let f = follows-book (decide method key) R least greatest cs (ports method l.0 address limit key fits bytes id first id-fits trip on p 0 report)
    (goes-forward method l.0 address limit key fits bytes id first id-fits trip on p 0 report) in
    let t = g.0.0 in
    subst (λ (os : List (Outcome Header)). Received method cs os report) (sym f.outcomes)
    (run method l.0 address limit key fits bytes id first id-fits trip on p 0 (omega arith) (plan-seals method address limit n l p g) report (omega arith) R []
    (empty refl))
