-- What is sealed as a datagram opens to what was given.
-- Assumes nothing.
use Rattle.std.specs.Prelude.{Err, Ok, Result, Some, None, Option}
use mathlib.Core.Path.{◌≡◌, refl, sym, ap, ap₂, ◌∙◌, subst}
use mathlib.Core.Logic.{◌≢◌}
use mathlib.Core.Bool.{Bool, true, false, cond, ◌&&◌, true≢false, and-eq-true_iff}
use mathlib.Core.List.{List, [], ◌∷◌, ◌++◌}
use Prim.Native.Nat.{ℕ, zero, suc, ◌+◌, ◌-◌, ◌^◌, ◌<◌}
use native.Mathlib.Omega.{arith}
use lib.Dec.{eqb, leb}
use lib.ListN.{length, set, take, drop}
use lib.Seq.{get_or-set_same, take_at}
use borrow.Author.Tests.{eqb-false, le-leb}
use Rattle.octets.specs.Buffers.{Octets, put}
use Rattle.octets.proofs.BufferLaws.{take_put}
use Rattle.protocol.specs.Orders.{among}
use Rattle.protocol.specs.declared.Cipher.{Cipher}
use Rattle.protocol.specs.Method.{cipher_of}
use Rattle.protocol.specs.Time.{time_valid}
use Rattle.protocol.specs.declared.Refusal.{Refusal}
use Rattle.protocol.specs.declared.Refusal.TheVariants.{Room, NotAuthentic, WrongType, WrongTime, Binding, Malformed, Length, Settings}
use Rattle.protocol.specs.Refusal.{refusal_number}
use Rattle.session_record.specs.declared.Peer.{Peer}
use Rattle.session_book.specs.Call.{Answer, refused, opened}
use Rattle.socks5.specs.declared.Address.{Address}
use Rattle.socks5.specs.declared.Target.{Target}
use Rattle.socks5.specs.declared.Target.TheVariants.{V4, V6, Name}
use Rattle.socks5.specs.Address.{parse_at, moved}
use Rattle.datagram_parts.specs.declared.Side.{Side}
use Rattle.datagram_parts.specs.declared.Side.TheVariants.{Client, Server}
use Rattle.datagram_parts.specs.Headers.{fixed_length, main_start, sealed_text}
use Rattle.datagram_parts.specs.Parts.{overhead}
use Rattle.datagram_seal.specs.declared.Sender.{Sender}
use Rattle.datagram_seal.specs.Sealing.{seal_answer, datagram}
use Rattle.datagram_seal.proofs.AnswerLaws.{sealable}
use Rattle.datagram_read.specs.declared.Header.{Header}
use Rattle.datagram_read.specs.Opening.{plain_of, time_of, read_main, read_text, read_answer}
use Rattle.datagram_read.proofs.ReadLaws.{Opens, answer-tells, answer-given}
use Rattle.datagram_open.specs.Deciding.{expected, open_answer, open_out, open_table}
use Rattle.words.specs.Answers.{header_words, kind_of, first_of, second_of}
use Rattle.words.specs.States.{session_lawful, session_in}
use Rattle.relay.specs.Datagrams as datagrams
use Rattle.relay.specs.Datagrams.{AfterSeal, AfterOpen, opened_number, opened_words, opens_datagram, caller_of}
use Rattle.demands.specs.Datagrams.{header_of, client_of, Answered, accepts, refuses}
use Rattle.demands.proofs.DatagramDemands.{openers-keep}
use Rattle.demands.proofs.DatagramReadBack.{payload-sent, sent_back}
use Rattle.demands.proofs.DatagramSealing.{answers-length, one-target, sealed-opens}
use Rattle.demands.proofs.DatagramWays.{Way, unlawful, early, late, taken, way, refused-same, not-both, not-read, read_same}
use Rattle.guarantees.specs.Calls.{Lent, Opening, opens, step, at, relay_datagram_seal, relay_datagram_open_server, relay_datagram_open_client, sent, other_side}
use Rattle.guarantees.specs.Guarantees.{DatagramBack, DatagramsBack}
use Rattle.guarantees.proofs.Base.{list-in, length-nine}
use Rattle.guarantees.proofs.Datagrams.{late-number}
use Rattle.guarantees.proofs.Deciding.{not-zero}
use Rattle.relay.proofs.DatagramLaws.{relays, untold}

-- ---- a part of what was written

pub part-behind : (k : ℕ) (s r payload : List ℕ) → drop k s ≡ payload → take (length payload) (drop k (s ++ r)) ≡ payload
part-behind zero s r payload e = ap (λ (l : List ℕ). take (length payload) (l ++ r)) e ∙ take_at payload r (length payload) refl
part-behind (suc k) [] r payload e =
    ap (λ (l : List ℕ). take (length l) (drop (suc k) r)) (sym e) ∙ e
part-behind (suc k) (x ∷ s) r payload e = part-behind k s r payload e

pub put_front : (out s : List ℕ) → put out 0 s ≡ s ++ drop (0 + length s) out
unfolding put
put_front out s = refl

-- ---- what is read of a datagram that would be read at another clock, into another buffer

module _ (method : ℕ) (key : List ℕ) (side : Side) (clock later : ℕ) (s out buffer : List ℕ) (h : Header) (d : Opens method key side clock s out h) where
  abbrev roomy : Bool
  roomy = leb (length s - overhead (cipher_of method)) (length buffer)

  abbrev timely : Bool
  timely = time_valid (time_of (main_start (cipher_of method)) (plain_of (cipher_of method) key s)) later

  pub read-later : read_answer method key side later s buffer ≡ cond roomy (cond timely (Ok h) (Err WrongTime)) (Err Room)
  unfolding read_answer read_text read_main
  read-later =
      let m = d.main in
      (λ i. cond (d.fits i)
      (cond (d.size i)
      (cond roomy
      (cond (d.authentic i)
      (cond (m.long i) (cond (m.kind i) (cond timely (cond (m.ours i) (m.address i) (Err Binding)) (Err WrongTime)) (Err WrongType)) (Err Malformed))
      (Err NotAuthentic)) (Err Room)) (Err Length)) (Err Settings))

-- ---- what a call of the sealer that returned 0 tells

pub record SealTells (w : List ℕ) (method : ℕ) (key nonce : List ℕ) (clock : ℕ) (address : List ℕ) (padding : ℕ) (payload out answer : List ℕ) (x : AfterSeal) : Type 0 where
  pub n : ℕ
  pub answered : seal_answer method (length key) (length nonce) (session_in w) address padding (length payload) (length out) ≡ Ok n
  pub nine : length answer ≡ 9
  pub leaves-out : x.out ≡ put out 0 (datagram (cipher_of method) key nonce (session_in w) clock address padding payload)
  pub leaves-answer : x.answer ≡ set answer 0 n

module _ (w : List ℕ) (method : ℕ) (key nonce : List ℕ) (clock : ℕ) (address : List ℕ) (padding : ℕ) (payload out answer : List ℕ) where
  abbrev S : AfterSeal
  S = datagrams.seals_datagram method key nonce w clock address padding payload out answer

  abbrev A : Result ℕ Refusal
  A = seal_answer method (length key) (length nonce) (session_in w) address padding (length payload) (length out)

  abbrev text : List ℕ
  text = datagram (cipher_of method) key nonce (session_in w) clock address padding payload

  by-test : (b : Bool) (x : Result ℕ Refusal) → eqb (length answer) 9 && session_lawful w ≡ b → A ≡ x
      → S ≡ cond b (datagrams.sealed x text w out answer) (record { number = 1; session = w; out = out; answer = answer })
  unfolding datagrams.seals_datagram
  by-test b x eb ex = λ i. cond (eb i) (datagrams.sealed (ex i) text w out answer) (record { number = 1; session = w; out = out; answer = answer })

  pub seal-tells : S.number ≡ 0 → SealTells w method key nonce clock address padding payload out answer S
  seal-tells e = go (eqb (length answer) 9 && session_lawful w) A refl refl
    where
      go : (b : Bool) (x : Result ℕ Refusal) → eqb (length answer) 9 && session_lawful w ≡ b
          → seal_answer method (length key) (length nonce) (session_in w) address padding (length payload) (length out) ≡ x
          → SealTells w method key nonce clock address padding payload out answer (datagrams.seals_datagram method key nonce w clock address padding payload out answer)
      go true (Ok n) eb ex =
          let p = by-test true (Ok n) eb ex in
          record {
            n = n;
            answered = ex;
            nine = length-nine answer ((and-eq-true_iff (eqb (length answer) 9) _).0 eb).0;
            leaves-out = ap (λ (y : AfterSeal). y.out) p;
            leaves-answer = ap (λ (y : AfterSeal). y.answer) p;
          }
      go true (Err r) eb ex =
          absurd (true≢false (sym (ap (λ (k : ℕ). eqb k 0) (sym (ap (λ (y : AfterSeal). y.number) (by-test true (Err r) eb ex)) ∙ e)) ∙ not-zero r))
      go false x eb ex = absurd (let z = sym (ap (λ (y : AfterSeal). y.number) (by-test false x eb ex)) ∙ e in omega (arith, z))

-- ---- the other side

-- a refusal's number is not 0
refused-number : {a : Answer Header} → Answered a → (k : ℕ) → a ≡ refused k → k ≢ 0
refused-number (accepts h e) k f z = not-both k h _ f e
refused-number (refuses r g e) k f z = true≢false (sym (ap (λ (j : ℕ). eqb j 0) (sym (refused-same k (refusal_number r) (sym f ∙ e)) ∙ z)) ∙ not-zero r)

same_kind : (k : ℕ) (t : Target) → kind_of (moved k t) ≡ kind_of t
same_kind k (V4 x) = refl
same_kind k (V6 x y) = refl
same_kind k (Name p n) = refl

same_second : (k : ℕ) (t : Target) → second_of (moved k t) ≡ second_of t
same_second k (V4 x) = refl
same_second k (V6 x y) = refl
same_second k (Name p n) = refl

at-itself : (clock : ℕ) → time_valid clock clock ≡ true
unfolding time_valid
at-itself clock = ap₂ ◌&&◌ (le-leb clock (clock + 30) (omega arith)) (le-leb clock (clock + 30) (omega arith))

module _ (w : List ℕ) (method : ℕ) (key nonce : List ℕ) (clock : ℕ) (address : List ℕ) (padding : ℕ) (payload space : List ℕ) (n : ℕ)
    (answered : seal_answer method (length key) (length nonce) (session_in w) address padding (length payload) (length space) ≡ Ok n)
    (bytes : Octets key) (fits : (i : ℕ) → at w i < 2 ^ 64) (clock-fits : clock < 2 ^ 64) where
  abbrev sender : Sender
  sender = session_in w

  abbrev side : Side
  side = sender.side

  abbrev cipher : Cipher
  cipher = cipher_of method

  abbrev s : List ℕ
  s = datagram cipher key nonce sender clock address padding payload

  abbrev plain_text : List ℕ
  plain_text = sealed_text cipher sender.id sender.packet side clock padding address payload

  client-fits : client_of side < 2 ^ 64
  client-fits = go (eqb (at w 0) 0)
    where
      go : (b : Bool) → client_of (cond b Client (Server (at w 2))) < 2 ^ 64
      go true = omega arith
      go false = fits 2

  abbrev target : Address
  target = (one-target method key nonce sender clock address padding payload space n answered).address

  found : parse_at address 0 ≡ Some target
  found = (one-target method key nonce sender clock address padding payload space n answered).found

  abbrev header : Header
  header = header_of (main_start cipher) side sender.id sender.packet clock padding (length address) target

  opens-there : Opens method key side clock s plain_text header
  opens-there =
      answer-tells method key side clock s plain_text header
      (sealed-opens method key nonce sender clock address padding payload space n answered bytes (fits 1) (fits 3) client-fits clock-fits target found clock
      (at-itself clock) plain_text (omega arith)).0

  plain-is : plain_of cipher key s ≡ plain_text
  unfolding sealed_text
  plain-is =
      (sent_back method key bytes nonce (sealable method (length key) (length nonce) sender address padding (length payload) (length space) n answered).nonce-fits
      sender clock address padding payload (fits 1) (fits 3)).text

  -- any call on it
  module _ (client : Option ℕ) (ours : expected client ≡ side) (later : ℕ) (peer : Peer) (t out : List ℕ) where
    abbrev a : Answer Header
    a = open_answer method key client later peer s t out

    pub data Outcome : Type 0 where
      refused-with : (k : ℕ) → among (0 ∷ 1 ∷ 3 ∷ 7 ∷ 8 ∷ 9 ∷ []) k ≡ true → a ≡ refused k → Outcome
      given : a ≡ opened header → open_out method key client later peer s t out ≡ put out 0 plain_text → Outcome

    abbrev has_room : Bool
    has_room = leb (length s - overhead cipher) (length out)

    abbrev in-time : Bool
    in-time = time_valid (time_of (main_start cipher) (plain_of cipher key s)) later

    read_here : read_answer method key (expected client) later s out ≡ cond has_room (cond in-time (Ok header) (Err WrongTime)) (Err Room)
    read_here =
        ap (λ (x : Side). read_answer method key x later s out) ours
        ∙ read-later method key side clock later s plain_text out header opens-there

    late-listed : (k : ℕ) → among (8 ∷ 9 ∷ []) k ≡ true → among (0 ∷ 1 ∷ 3 ∷ 7 ∷ 8 ∷ 9 ∷ []) k ≡ true
    late-listed k = list-in (8 ∷ 9 ∷ []) (0 ∷ 1 ∷ 3 ∷ 7 ∷ 8 ∷ 9 ∷ []) k refl

    number : Result Header Refusal → ℕ
    number (Ok h) = 0
    number (Err r) = refusal_number r

    -- by what is read
    early-listed : (p q : Bool) (r : Refusal) → cond p (cond q (Ok header) (Err WrongTime)) (Err Room) ≡ Err r
        → among (0 ∷ 1 ∷ 3 ∷ 7 ∷ 8 ∷ 9 ∷ []) (refusal_number r) ≡ true
    unfolding number
    early-listed true true r e = absurd (not-read r header (Ok header) e refl)
    early-listed true false r e = ap (among (0 ∷ 1 ∷ 3 ∷ 7 ∷ 8 ∷ 9 ∷ [])) (sym (ap number e))
    early-listed false q r e = ap (among (0 ∷ 1 ∷ 3 ∷ 7 ∷ 8 ∷ 9 ∷ [])) (sym (ap number e))

    taken-header : (p q : Bool) (h : Header) → cond p (cond q (Ok header) (Err WrongTime)) (Err Room) ≡ Ok h → h ≡ header
    taken-header true true h e = sym (read_same header h e)
    taken-header true false h e = absurd (not-read WrongTime h (Err WrongTime) refl e)
    taken-header false q h e = absurd (not-read Room h (Err Room) refl e)

    pub result : Outcome
    result = go (way method key client later peer s t out)
      where
        go : Way method key client later peer s t out → Outcome
        go (unlawful l ea eb et) = refused-with 1 refl ea
        go (early l r er ea eb et) = refused-with (refusal_number r) (early-listed has_room in-time r (sym read_here ∙ er)) ea
        go (late l h d x r o ea eb et) =
            refused-with (refusal_number r)
            (late-listed (refusal_number r)
            (late-number method key client later peer s t out l h (answer-given method key (expected client) later s out h d) (refusal_number r) ea)) ea
        go (taken l h d x ea eb) =
            let e = taken-header has_room in-time h (sym read_here ∙ answer-given method key (expected client) later s out h d) in
            given (ea ∙ ap opened e) (eb ∙ ap (put out 0) plain-is)

  -- ---- the exported call

  fixed-length : fixed_length side ≡ cond (eqb (at w 0) 0) 11 19
  fixed-length = go (eqb (at w 0) 0)
    where
      go : (b : Bool) → fixed_length (cond b Client (Server (at w 2))) ≡ cond b 11 19
      go true = refl
      go false = refl

  abbrev place : ℕ
  place = main_start cipher + fixed_length side + padding

  words_are : header_words header
      ≡ kind_of target.target ∷ first_of (moved place target.target) ∷ second_of target.target ∷ target.port
      ∷ at w 1 ∷ at w 3 ∷ clock ∷ padding ∷ (place + length address) ∷ []
  words_are =
      λ i. same_kind place target.target i ∷ first_of (moved place target.target) ∷ same_second place target.target i ∷ target.port
      ∷ at w 1 ∷ at w 3 ∷ clock ∷ padding ∷ (place + length address) ∷ []

  payload-in : (out : List ℕ) → take (length payload) (drop (place + length address) (put out 0 plain_text)) ≡ payload
  payload-in out =
      ap (λ (l : List ℕ). take (length payload) (drop (place + length address) l)) (put_front out plain_text)
      ∙ part-behind (place + length address) plain_text (drop (0 + length plain_text) out) payload
      (payload-sent cipher sender.id sender.packet side clock padding address payload)

  module _ (client : Option ℕ) (ours : expected client ≡ side) (later : ℕ) (peer : Peer) (b : Lent) where
    abbrev o : Opening
    o = record { method = method; key = key; client = client; clock = later; peer = peer; datagram = s }

    abbrev y : AfterOpen
    y = opens_datagram method key client later peer s b.table b.out b.answer

    abbrev told : Answer Header → AfterOpen
    told x = record {
      number = opened_number x;
      table = open_table method key client later peer s b.table b.out;
      out = open_out method key client later peer s b.table b.out;
      answer = opened_words x b.answer;
    }

    abbrev Back : AfterOpen → Type 0
    Back z = DatagramBack w method clock address padding payload (opens o z b)

    back-refused : (z : AfterOpen) → among (0 ∷ 1 ∷ 3 ∷ 7 ∷ 8 ∷ 9 ∷ []) z.number ≡ true → z.number ≢ 0 → Back z
    back-refused z e n = record {
      refused-so = e;
      target = target;
      target-given = found;
      place = place;
      place_is = ap (λ (k : ℕ). main_start cipher + k + padding) fixed-length;
      nine_words = λ f. absurd (n f);
      payload-there = λ f. absurd (n f);
    }

    back-given : open_out method key client later peer s b.table b.out ≡ put b.out 0 plain_text → Back (told (opened header))
    back-given e = record {
      refused-so = refl;
      target = target;
      target-given = found;
      place = place;
      place_is = ap (λ (k : ℕ). main_start cipher + k + padding) fixed-length;
      nine_words = λ f. words_are;
      payload-there = λ f. ap (λ (l : List ℕ). take (length payload) (drop (place + length address) l)) e ∙ payload-in b.out;
    }

    answers : Back (told (open_answer method key client later peer s b.table b.out))
    answers = go (result client ours later peer b.table b.out)
      where
        go : Outcome client ours later peer b.table b.out → Back (told (open_answer method key client later peer s b.table b.out))
        go (refused-with k e f) =
            subst (λ (x : Answer Header). Back (told x)) (sym f)
            (back-refused (told (refused k)) e
            (λ z. refused-number (openers-keep method key client later peer s b.table b.out).answered k f z))
        go (given f e) = subst (λ (x : Answer Header). Back (told x)) (sym f) (back-given e)

    pub back : Back y
    back = go (eqb (length b.answer) 9) refl
      where
        go : (c : Bool) → eqb (length b.answer) 9 ≡ c → Back (opens_datagram method key client later peer s b.table b.out b.answer)
        go true e = subst Back (sym (relays method key client later peer s b.table b.out b.answer (length-nine b.answer e))) answers
        go false e =
            subst Back (untold method key client later peer s b.table b.out b.answer (eqb-false (length b.answer) 9 e))
            (back-refused (record { number = 1; table = b.table; out = b.out; answer = b.answer }) refl (λ z. omega (arith, z)))

-- ---- the statement

module _ (m : Lent) (method : ℕ) (key nonce : List ℕ) (clock : ℕ) (address : List ℕ) (padding : ℕ) (payload : List ℕ)
    (e : (step (relay_datagram_seal method key nonce clock address padding payload) m).number ≡ 0) where
  tells : SealTells m.session method key nonce clock address padding payload m.out m.answer
      (datagrams.seals_datagram method key nonce m.session clock address padding payload m.out m.answer)
  unfolding step
  tells = seal-tells m.session method key nonce clock address padding payload m.out m.answer e

  abbrev datagram_bytes : List ℕ
  datagram_bytes = datagram (cipher_of method) key nonce (session_in m.session) clock address padding payload

  sent_is : sent (step (relay_datagram_seal method key nonce clock address padding payload) m) ≡ datagram_bytes
  unfolding step
  sent_is =
      let k = tells in
      let l = answers-length method key nonce (session_in m.session) clock address padding payload m.out k.n k.answered in
      let r = (sealable method (length key) (length nonce) (session_in m.session) address padding (length payload) (length m.out) k.n k.answered).space in
      let a = ap (λ (x : List ℕ). at x 0) k.leaves-answer ∙ get_or-set_same m.answer 0 k.n 0 (let z = k.nine in omega (arith, z)) in
      let z : k.n ≡ 0 + length datagram_bytes = omega (arith, l) in
      ap₂ take a k.leaves-out ∙ ap (λ (j : ℕ). take j (put m.out 0 datagram_bytes)) z ∙ take_put m.out 0 datagram_bytes (omega (arith, l, r))

pub datagrams-back : DatagramsBack
unfolding step
datagrams-back m method key nonce clock address padding payload e bytes fits clock-fits later first second port b =
    let k = tells m method key nonce clock address padding payload e in
    subst
    (λ (x : List ℕ). DatagramBack m.session method clock address padding payload (step (other_side m.session method key later first second port x) b))
    (sym (sent_is m method key nonce clock address padding payload e)) (go (eqb (at m.session 0) 0) refl k.n k.answered)
  where
    go : (c : Bool) → eqb (at m.session 0) 0 ≡ c → (n : ℕ)
        → seal_answer method (length key) (length nonce) (session_in m.session) address padding (length payload) (length m.out) ≡ Ok n
        → DatagramBack m.session method clock address padding payload
        (step (cond c (relay_datagram_open_server method key later first second port (datagram (cipher_of method) key nonce (session_in m.session) clock address padding payload))
        (relay_datagram_open_client method key later (at m.session 2) first second port (datagram (cipher_of method) key nonce (session_in m.session) clock address padding payload)))
        b)
    go true f n a =
        back m.session method key nonce clock address padding payload m.out n a bytes fits clock-fits None
        (sym (ap (λ (x : Bool). cond x Client (Server (at m.session 2))) f)) later (caller_of first second port) b
    go false f n a =
        back m.session method key nonce clock address padding payload m.out n a bytes fits clock-fits (Some (at m.session 2))
        (sym (ap (λ (x : Bool). cond x Client (Server (at m.session 2))) f)) later (caller_of first second port) b
