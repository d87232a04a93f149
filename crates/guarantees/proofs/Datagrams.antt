-- The calls that open datagrams.
-- Assumes nothing.
use Rattle.std.specs.Prelude.{Err, None, Ok, Option, Result, Some}
use mathlib.Core.Path.{◌≡◌, refl, sym, ap, ◌∙◌, subst}
use mathlib.Core.Bool.{Bool, true, false, cond, ◌&&◌, ◌||◌, true≢false}
use mathlib.Core.List.{List, [], ◌∷◌}
use Prim.Native.Nat.{ℕ, ◌+◌, ◌-◌, ◌*◌, ◌^◌, ◌≤◌, min}
use native.Mathlib.Omega.{arith}
use lib.Dec.{eqb, leb}
use lib.ListN.{length, get_or, set, replicate, length-replicate}
use borrow.Author.Tests.{leb-true, eqb-true}
use Rattle.octets.specs.Buffers.{put}
use Rattle.octets.proofs.BufferLaws.{put-again}
use Rattle.session_record.specs.declared.Peer.{Peer}
use Rattle.session_table.specs.Table.{lawful, session_place, Entry, stores, replay, full, meet}
use Rattle.session_book.specs.Call.{Answer, refused, opened, Call}
use Rattle.session_book.specs.Runs.{report, table_outcome_by}
use Rattle.protocol.specs.Orders.{among}
use Rattle.protocol.specs.Method.{key_fits, cipher_of}
use Rattle.protocol.specs.declared.Cipher.{Cipher}
use Rattle.protocol.specs.declared.Refusal.{Refusal}
use Rattle.protocol.specs.declared.Refusal.TheVariants.{Settings, Length, Room, NotAuthentic, Malformed, WrongType, WrongTime, Binding}
use Rattle.protocol.specs.Refusal.{refusal_number}
use Rattle.protocol.specs.Time.{time_valid}
use Rattle.socks5.specs.Address.{parse_at}
use Rattle.datagram_parts.specs.declared.Side.{Side}
use Rattle.datagram_parts.specs.Headers.{type_of, fixed_length, main_start}
use Rattle.datagram_parts.specs.Parts.{overhead}
use Rattle.datagram_read.specs.declared.Header.{Header}
use Rattle.datagram_read.specs.Opening.{datagram_authentic, plain_of, session_of, packet_of, time_of, padding_of, meant, header_with, read_address, read_main, length_lawful, read_text, read_answer, settled, text_out, read_out}
use Rattle.datagram_read.proofs.OpeningLaws.{length-plain}
use Rattle.datagram_read.proofs.ReadLaws.{answer-given}
use Rattle.datagram_open.specs.Deciding.{expected, decided_by, decide, call_of, open_answer, open_out, open_table}
use Rattle.relay.specs.Datagrams.{AfterOpen, opened_number, opened_words, opens_datagram, opens_told}
use Rattle.demands.specs.Datagrams as demands
use Rattle.demands.proofs.DatagramDemands.{openers-keep}
use Rattle.demands.proofs.DatagramWays.{Way, unlawful, early, late, taken, way, refused-same, not-both}
use Rattle.guarantees.specs.Calls.{Lent, Opening, opens, step, relay_datagram_open_server, relay_datagram_open_client}
use Rattle.guarantees.specs.DatagramOrder.{record_of}
use Rattle.guarantees.specs.Guarantees.{RepeatCounted, Ends}
use Rattle.guarantees.proofs.Base.{either, never}
use Rattle.socks5.specs.declared.Address.{Address}

abbrev behind : List ℕ
behind = 5 ∷ 6 ∷ 7 ∷ 13 ∷ 8 ∷ 9 ∷ []

abbrev all : List ℕ
all = 0 ∷ 1 ∷ 2 ∷ 3 ∷ 4 ∷ 5 ∷ 6 ∷ 7 ∷ 13 ∷ 8 ∷ 9 ∷ []

-- ---- a refusal of number n, and the buffer that it leaves

module _ (method : ℕ) (key s out : List ℕ) where
  abbrev cipher : Cipher
  cipher = cipher_of method

  abbrev due : ℕ
  due = length s - overhead cipher

  abbrev zeros : List ℕ
  zeros = replicate due 0

  pub record Left (n : ℕ) (o : List ℕ) : Type 0 where
    pub listed : among all n ≡ true
    pub out-left : o ≡ cond (among behind n) (put out 0 zeros) out
    pub behind-tag : among behind n ≡ true → (datagram_authentic cipher key s ≡ true) × (due ≤ length out)

  before-tag : (n : ℕ) → among all n ≡ true → among behind n ≡ false → Left n out
  before-tag n e f = record {
    listed = e;
    out-left = sym (ap (λ (b : Bool). cond b (put out 0 zeros) out) f);
    behind-tag = λ g. absurd (true≢false (sym g ∙ f));
  }

  after_tag : (n : ℕ) → among all n ≡ true → among behind n ≡ true → datagram_authentic cipher key s ≡ true → due ≤ length out → Left n (put out 0 zeros)
  after_tag n e f g h = record {
    listed = e;
    out-left = sym (ap (λ (b : Bool). cond b (put out 0 zeros) out) f);
    behind-tag = λ z. (g, h);
  }

  -- what the arguments decide
  abbrev Read : Result Header Refusal → List ℕ → Type 0
  Read (Ok h) o = Unit {0}
  Read (Err r) o = Left (refusal_number r) o

  module _ (side : Side) (clock : ℕ) where
    abbrev plain : List ℕ
    plain = plain_of cipher key s

    abbrev main : Result Header Refusal
    main = read_main (main_start cipher) side clock (session_of cipher key s) (packet_of cipher key s) plain

    module _ (room : due ≤ length out) (good : datagram_authentic cipher key s ≡ true) where
      cleared : put (put out 0 plain) 0 zeros ≡ put out 0 zeros
      cleared =
          let lp = length-plain cipher key s in
          let lz : length zeros ≡ due = length-replicate due 0 in
          put-again out plain zeros (omega (arith, lp, room)) (lz ∙ sym lp)

      abbrev Main : Result Header Refusal → Type 0
      Main x = Read x (settled x due (put out 0 plain))

      gone : (r : Refusal) → among all (refusal_number r) ≡ true → among behind (refusal_number r) ≡ true → Main (Err r)
      gone r e f = subst (Left (refusal_number r)) (sym cleared) (after_tag (refusal_number r) e f good room)

      by_address : (time padding : ℕ) (p : Option Address) → Main (header_with (session_of cipher key s) (packet_of cipher key s) time padding p)
      by_address time padding (Some a) = _
      by_address time padding None = gone Malformed refl refl

      by-main : Main main
      unfolding read_main read_address
      by-main =
          let start = main_start cipher in
          either Main (leb (start + fixed_length side) (length plain)) _ _
          (λ e. either Main (eqb (get_or plain start 0) (type_of side)) _ _
          (λ f. either Main (time_valid (time_of start plain) clock) _ _
          (λ g. either Main (meant start side plain) _ _
          (λ h. by_address (time_of start plain) (padding_of start side plain) (parse_at plain (start + fixed_length side + padding_of start side plain)))
          (λ h. gone Binding refl refl)) (λ g. gone WrongTime refl refl)) (λ f. gone WrongType refl refl)) (λ e. gone Malformed refl refl)

    pub by-reading : Read (read_answer method key side clock s out) (read_out method key side clock s out)
    unfolding read_answer read_text read_out text_out
    by-reading =
        go (key_fits method (length key)) (length_lawful cipher s) (leb due (length out)) (datagram_authentic cipher key s) refl refl
      where
        go : (a b c d : Bool) → leb due (length out) ≡ c → datagram_authentic cipher key s ≡ d
            → Read (cond a (cond b (cond c (cond d main (Err NotAuthentic)) (Err Room)) (Err Length)) (Err Settings))
            (cond (a && (b && c)) (cond d (settled main due (put out 0 plain)) out) out)
        go false b c d ec ed = before-tag 1 refl refl
        go true false c d ec ed = before-tag 2 refl refl
        go true true false d ec ed = before-tag 3 refl refl
        go true true true false ec ed = before-tag 4 refl refl
        go true true true true ec ed = by-main (leb-true due (length out) ec) ed

-- ---- what refuses behind the arguments is 8 or 9

module _ (method : ℕ) (key : List ℕ) (client : Option ℕ) (clock : ℕ) (peer : Peer) (s t out : List ℕ) where
  abbrev answer : Answer Header
  answer = open_answer method key client clock peer s t out

  abbrev c : Call
  c = call_of clock peer s out client

  met : (e : Entry) (h : Header) (plain : List ℕ) (n : ℕ) → (report e c h plain).answer ≡ refused n → among (8 ∷ 9 ∷ []) n ≡ true
  met (stores i r) h plain n e = absurd (not-both n h (opened h) e refl)
  met (replay i) h plain n e = sym (ap (among (8 ∷ 9 ∷ [])) (refused-same 8 n e))
  met full h plain n e = sym (ap (among (8 ∷ 9 ∷ [])) (refused-same 9 n e))

  pub late-number : lawful t ≡ true → (h : Header) → read_answer method key (expected client) clock s out ≡ Ok h
      → (n : ℕ) → answer ≡ refused n → among (8 ∷ 9 ∷ []) n ≡ true
  unfolding open_answer decide
  late-number l h e n f =
      let o = read_out method key (expected client) clock s out in
      let plain = plain_of (cipher_of method) key s in
      met (meet t clock peer h.session h.packet) h plain n
      (sym (λ i. (cond (l i) (table_outcome_by (decided_by (e i) o plain) t c) (record { answer = refused 1; output = out })).answer) ∙ f)

  pub left_by : (n : ℕ) → answer ≡ refused n → Left method key s out n (open_out method key client clock peer s t out)
  left_by n e = go (way method key client clock peer s t out)
    where
      at-number : (k : ℕ) (o : List ℕ) → answer ≡ refused k → open_out method key client clock peer s t out ≡ o → Left method key s out k o
          → Left method key s out n (open_out method key client clock peer s t out)
      at-number k o f g x =
          let z : k ≡ n = refused-same k n (sym f ∙ e) in
          subst (λ j. Left method key s out j (open_out method key client clock peer s t out)) z (subst (Left method key s out k) (sym g) x)

      late-list : (k : ℕ) → among (8 ∷ 9 ∷ []) k ≡ true → (among all k ≡ true) × (among behind k ≡ true)
      late-list k f = go (eqb k 8) (eqb k 9) refl refl f
        where
          go : (a b : Bool) → eqb k 8 ≡ a → eqb k 9 ≡ b → (a || (b || false)) ≡ true → (among all k ≡ true) × (among behind k ≡ true)
          go true b ea eb f = let z = eqb-true k 8 ea in (ap (among all) z, ap (among behind) z)
          go false true ea eb f = let z = eqb-true k 9 eb in (ap (among all) z, ap (among behind) z)
          go false false ea eb f = absurd (true≢false (sym f))

      go : Way method key client clock peer s t out → Left method key s out n (open_out method key client clock peer s t out)
      go (unlawful l ea eb et) = at-number 1 out ea eb (before-tag method key s out 1 refl refl)
      go (early l r er ea eb et) =
          at-number (refusal_number r) (read_out method key (expected client) clock s out) ea eb
          (subst (λ x. Read method key s out x (read_out method key (expected client) clock s out)) er (by-reading method key s out (expected client) clock))
      go (late l h d x r o ea eb et) =
          let w = late-list (refusal_number r) (late-number l h (answer-given method key (expected client) clock s out h d) (refusal_number r) ea) in
          at-number (refusal_number r) (put out 0 (replicate (length s - overhead (cipher_of method)) 0)) ea eb
          (after_tag method key s out (refusal_number r) w.0 w.1 d.authentic (leb-true (length s - overhead (cipher_of method)) (length out) d.room))
      go (taken l h d x ea eb) = absurd (not-both n h answer e ea)

-- ---- the words of a table

pub record-place : (t : List ℕ) (clock id : ℕ) → session_place t clock id ≡ record_of t clock id
unfolding session_place record_of
record-place t clock id = refl

counted : (clock id : ℕ) (t t' : List ℕ) → demands.RepeatCounted clock id t t' → RepeatCounted clock id t t'
counted clock id t t' x = record {
  place = x.place;
  its_own = sym (record-place t clock id) ∙ x.its_own;
  one_word =
      let e : 1 + 13 * x.place + 12 ≡ 1 + x.place * 13 + 12 = omega arith in
      x.one_word ∙ ap (λ (k : ℕ). set t k (min (get_or t k 0 + 1) (2 ^ 64 - 1))) e;
}

-- ---- the exported calls

module _ (m : Lent) (o : Opening) where
  abbrev peer : Peer
  peer = o.peer

  abbrev OpenEnds : AfterOpen → Type 0
  OpenEnds y = Ends m (opens o y m)

  abbrev given : Answer Header
  given = open_answer o.method o.key o.client o.clock peer o.datagram m.table m.out

  abbrev after : Answer Header → AfterOpen
  after a = record {
    number = opened_number a;
    table = open_table o.method o.key o.client o.clock peer o.datagram m.table m.out;
    out = open_out o.method o.key o.client o.clock peer o.datagram m.table m.out;
    answer = opened_words a m.answer;
  }

  by_answer : (a : Answer Header) → given ≡ a → OpenEnds (after a)
  by_answer (opened h) e =
      let k = openers-keep o.method o.key o.client o.clock peer o.datagram m.table m.out in
      record { listed = refl; refused = λ z. never z; past-due-kept = k.past-due-kept; length-kept = k.length-kept }
  by_answer (refused n) e =
      let k = openers-keep o.method o.key o.client o.clock peer o.datagram m.table m.out in
      let w = left_by o.method o.key o.client o.clock peer o.datagram m.table m.out n e in
      record {
        listed = w.listed;
        refused = λ z. record {
          table_kept = λ f. k.refused-keeps-table n f e;
          repeat-counted = λ f. counted o.clock _ m.table _ (k.repeat-counted (e ∙ ap refused f));
          pool-kept = refl;
          session-kept = refl;
          words-kept = refl;
          stream-left = refl;
          out-left = w.out-left;
          behind-tag = w.behind-tag;
          answer-kept = λ f g. refl;
          wanted-told = λ f. absurd (not-ten f);
          setting-told = λ f. absurd (not-fifteen f);
        };
        past-due-kept = k.past-due-kept;
        length-kept = k.length-kept;
      }
    where
      listed-n : among all n ≡ true
      listed-n = (left_by o.method o.key o.client o.clock peer o.datagram m.table m.out n e).listed

      not-ten : n ≡ 10 → ⊥
      not-ten f = true≢false (sym listed-n ∙ ap (among all) f)

      not-fifteen : n ≡ 15 → ⊥
      not-fifteen f = true≢false (sym listed-n ∙ ap (among all) f)

  unanswered : OpenEnds (record { number = 1; table = m.table; out = m.out; answer = m.answer })
  unanswered = record {
    listed = refl;
    refused = λ z. record {
      table_kept = λ f. refl;
      repeat-counted = λ f. absurd (omega (arith, f));
      pool-kept = refl;
      session-kept = refl;
      words-kept = refl;
      stream-left = refl;
      out-left = refl;
      behind-tag = λ f. absurd (true≢false (sym f));
      answer-kept = λ f g. refl;
      wanted-told = λ f. absurd (omega (arith, f));
      setting-told = λ f. absurd (omega (arith, f));
    };
    past-due-kept = refl;
    length-kept = refl;
  }

  opened-so : OpenEnds (opens_datagram o.method o.key o.client o.clock peer o.datagram m.table m.out m.answer)
  unfolding opens_datagram opens_told
  opened-so = either OpenEnds (eqb (length m.answer) 9) _ _ (λ e. by_answer given refl) (λ e. unanswered)

pub open-server : (m : Lent) (method : ℕ) (key : List ℕ) (clock first second port : ℕ) (s : List ℕ)
    → Ends m (step (relay_datagram_open_server method key clock first second port s) m)
unfolding step
open-server m method key clock first second port s = opened-so m _

pub open-client : (m : Lent) (method : ℕ) (key : List ℕ) (clock client first second port : ℕ) (s : List ℕ)
    → Ends m (step (relay_datagram_open_client method key clock client first second port s) m)
unfolding step
open-client m method key clock client first second port s = opened-so m _
