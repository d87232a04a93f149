-- The ways out of a call that opens a datagram, and what each leaves; and which refusals there are.
-- Assumes nothing.
use Rattle.std.specs.Prelude.{Err, None, Ok, Option, Result, Some}
use mathlib.Core.Path.{◌≡◌, refl, sym, ap, ap₂, ◌∙◌}
use mathlib.Core.Logic.{◌≢◌}
use mathlib.Core.Bool.{Bool, true, false, cond, not, ◌&&◌, ◌||◌, true≢false, and-eq-true_iff}
use mathlib.Core.List.{List}
use Prim.Native.Nat.{ℕ, ◌+◌, ◌-◌, ◌*◌, ◌^◌, min}
use native.Mathlib.Omega.{arith}
use lib.Dec.{eqb, leb}
use lib.ListN.{length, get_or, set, replicate, length-replicate}
use borrow.Author.Tests.{eq-eqb, not-true}
use Rattle.octets.specs.Buffers.{put}
use Rattle.octets.proofs.BufferLaws.{put-again}
use Rattle.session_record.specs.declared.Peer.{Peer}
use Rattle.session_record.specs.Record.{one_more}
use Rattle.session_table.specs.Table.{start, record_at, repeated, lawful, fresh_in, accept_in, session_place, free_place, Entry, stores, replay, full, meet_by, meet, keep, admitted}
use Rattle.session_book.specs.Call.{Answer, refused, opened}
use Rattle.protocol.specs.declared.Cipher.{Cipher}
use Rattle.protocol.specs.Method.{key_fits, cipher_of}
use Rattle.protocol.specs.declared.Refusal.{Refusal}
use Rattle.protocol.specs.declared.Refusal.TheVariants.{Settings, Length, Room, NotAuthentic, Malformed, WrongType, WrongTime, Replay, Full, Binding}
use Rattle.protocol.specs.Refusal.{refusal_number}
use Rattle.protocol.specs.Time.{time_valid}
use Rattle.socks5.specs.Address.{parse_at}
use Rattle.datagram_parts.specs.declared.Side.{Side}
use Rattle.datagram_parts.specs.Headers.{type_of, fixed_length, main_start}
use Rattle.datagram_parts.specs.Parts.{overhead}
use Rattle.datagram_read.specs.declared.Header.{Header}
use Rattle.datagram_read.specs.Opening.{plain_of, session_of, packet_of, time_of, padding_of, meant, header_with, read_address, read_main, length_lawful, read_text, read_answer, settled, read_out}
use Rattle.datagram_open.specs.Deciding.{expected, opener_of, answer_of, admitted_as, entered, open_answer, open_out, open_table}
use Rattle.demands.specs.Datagrams.{of_opener, tag_good, due, RepeatCounted, Enters, fresh, begins}
use Rattle.datagram_read.proofs.OpeningLaws.{length-plain}
use Rattle.datagram_read.proofs.ReadLaws.{Opens, answer-tells, opens-room, opened_out, header-session}
use Rattle.datagram_open.proofs.CallLaws.{unlawful-call, refused-call, entered-call}
use Rattle.socks5.specs.declared.Address.{Address}

-- ---- telling answers apart

abbrev header_in : Answer Header → Header → Header
header_in (opened h) other = h
header_in (refused n) other = other

abbrev is_opened : Answer Header → ℕ
is_opened (opened h) = 1
is_opened (refused n) = 0

pub opened-same : (g h : Header) → opened g ≡ opened h → g ≡ h
opened-same g h e = ap (λ (a : Answer Header). header_in a g) e

abbrev number_in : Answer Header → ℕ
number_in (opened h) = 0
number_in (refused n) = n

pub refused-same : (m n : ℕ) → ◌≡◌ {A = Answer Header} (refused m) (refused n) → m ≡ n
refused-same m n e = ap number_in e

pub not-both : (n : ℕ) (h : Header) (a : Answer Header) → a ≡ refused n → a ≡ opened h → ⊥
not-both n h a e f = let z : ◌≡◌ {A = ℕ} 0 1 = ap is_opened (sym e ∙ f) in omega arith

abbrev read : Result Header Refusal → Header → Header
read (Ok h) other = h
read (Err r) other = other

abbrev is_read : Result Header Refusal → ℕ
is_read (Ok h) = 1
is_read (Err r) = 0

pub read_same : (g h : Header) → ◌≡◌ {A = Result Header Refusal} (Ok g) (Ok h) → g ≡ h
read_same g h e = ap (λ (o : Result Header Refusal). read o g) e

pub not-read : (r : Refusal) (h : Header) (o : Result Header Refusal) → o ≡ Err r → o ≡ Ok h → ⊥
not-read r h o e f = let z : ◌≡◌ {A = ℕ} 0 1 = ap is_read (sym e ∙ f) in omega arith

-- ---- which refusals are given

-- those before 8: what the arguments alone decide
abbrev pub of_reader : Refusal → Bool
of_reader r = of_opener r && not (eqb (refusal_number r) 8 || eqb (refusal_number r) 9)

pub reader-opener : (r : Refusal) → of_reader r ≡ true → of_opener r ≡ true
reader-opener r e = ((and-eq-true_iff (of_opener r) _).0 e).0

pub early-not-eight : (r : Refusal) → of_reader r ≡ true → refusal_number r ≢ 8
early-not-eight r e f =
    let None = not-true _ ((and-eq-true_iff (of_opener r) _).0 e).1 in
    true≢false (sym (ap (λ (b : Bool). b || eqb (refusal_number r) 9) (eq-eqb (refusal_number r) 8 f)) ∙ None)

abbrev pub among : Result Header Refusal → Bool
among (Ok h) = true
among (Err r) = of_reader r

among-pick : (b : Bool) (x : Result Header Refusal) (r : Refusal) → among x ≡ true → of_reader r ≡ true → among (cond b x (Err r)) ≡ true
among-pick true x r e f = e
among-pick false x r e f = f

among-address : (id packet time padding : ℕ) (p : Option Address) → among (header_with id packet time padding p) ≡ true
among-address id packet time padding (Some a) = refl
among-address id packet time padding None = refl

among-main : (start : ℕ) (side : Side) (clock id packet : ℕ) (plain : List ℕ) → among (read_main start side clock id packet plain) ≡ true
unfolding read_main read_address
among-main start side clock id packet plain =
    among-pick (leb (start + fixed_length side) (length plain)) _ Malformed
    (among-pick (eqb (get_or plain start 0) (type_of side)) _ WrongType
    (among-pick (time_valid (time_of start plain) clock) _ WrongTime
    (among-pick (meant start side plain) _ Binding
    (among-address id packet (time_of start plain) (padding_of start side plain)
    (parse_at plain (start + fixed_length side + padding_of start side plain))) refl) refl) refl)
    refl

pub among-answer : (method : ℕ) (key : List ℕ) (side : Side) (clock : ℕ) (s out : List ℕ) → among (read_answer method key side clock s out) ≡ true
unfolding read_answer read_text
among-answer method key side clock s out =
    let cipher = cipher_of method in
    among-pick (key_fits method (length key)) _ Settings
    (among-pick (length_lawful cipher s) _ Length
    (among-pick (leb (due method s) (length out)) _ Room
    (among-pick (tag_good method key s) _ NotAuthentic
    (among-main (main_start cipher) side clock (session_of cipher key s) (packet_of cipher key s) (plain_of cipher key s)) refl) refl) refl)
    refl

-- ---- what the table has for a packet ID

abbrev is_stored : Entry → ℕ
is_stored (stores i r) = 1
is_stored (replay i) = 0
is_stored full = 0

abbrev is_full : Entry → ℕ
is_full (stores i r) = 0
is_full (replay i) = 0
is_full full = 1

abbrev replay_place : ℕ → Entry → ℕ
replay_place other (stores i r) = other
replay_place other (replay i) = i
replay_place other full = other

module _ (t : List ℕ) (clock : ℕ) (peer : Peer) (id p : ℕ) where
  enters-stored : Enters t clock id p → is_stored (meet t clock peer id p) ≡ 1
  unfolding meet
  enters-stored (fresh i e f) =
      ap (λ (x : Option ℕ). is_stored (meet_by x (free_place t clock) t clock peer id p)) e
      ∙ ap (λ (b : Bool). is_stored (cond b (stores i (accept_in clock peer p (record_at t i))) (replay i))) f
  enters-stored (begins i e f) = ap₂ (λ (x y : Option ℕ). is_stored (meet_by x y t clock peer id p)) e f

  stored-enters : is_stored (meet t clock peer id p) ≡ 1 → Enters t clock id p
  unfolding meet
  stored-enters e = go (session_place t clock id) (free_place t clock) refl refl e
    where
      alive : (i : ℕ) (b : Bool) → session_place t clock id ≡ Some i → fresh_in (record_at t i) p ≡ b
          → is_stored (cond b (stores i (accept_in clock peer p (record_at t i))) (replay i)) ≡ 1 → Enters t clock id p
      alive i true ex eb m = fresh i ex eb
      alive i false ex eb m = absurd (omega (arith, m))

      go : (x y : Option ℕ) → session_place t clock id ≡ x → free_place t clock ≡ y → is_stored (meet_by x y t clock peer id p) ≡ 1 → Enters t clock id p
      go (Some i) y ex ey m = alive i (fresh_in (record_at t i) p) ex refl m
      go None (Some i) ex ey m = begins i ex ey
      go None None ex ey m = absurd (omega (arith, m))

  -- a repeat is one in the session's own record
  replays-there : (i : ℕ) → meet t clock peer id p ≡ replay i → session_place t clock id ≡ Some i
  unfolding meet
  replays-there i e = go (session_place t clock id) (free_place t clock) refl e
    where
      alive : (j : ℕ) (b : Bool) → cond b (stores j (accept_in clock peer p (record_at t j))) (replay j) ≡ replay i → j ≡ i
      alive j true m = absurd (let z : ◌≡◌ {A = ℕ} 1 0 = ap is_stored m in omega arith)
      alive j false m = ap (replay_place j) m

      go : (x y : Option ℕ) → session_place t clock id ≡ x → meet_by x y t clock peer id p ≡ replay i → session_place t clock id ≡ Some i
      go (Some j) y ex m = ex ∙ ap Some (alive j (fresh_in (record_at t j) p) m)
      go None (Some j) ex m = absurd (let z : ◌≡◌ {A = ℕ} 1 0 = ap is_stored m in omega arith)
      go None None ex m = absurd (let z : ◌≡◌ {A = ℕ} 1 0 = ap is_full m in omega arith)

-- what a repeat writes, with its numbers written out
repeated-word : (t : List ℕ) (i : ℕ) → repeated t i ≡ set t (1 + 13 * i + 12) (min (get_or t (1 + 13 * i + 12) 0 + 1) (2 ^ 64 - 1))
unfolding one_more
repeated-word t i =
    let e : start i + 12 ≡ 1 + 13 * i + 12 = omega arith in
    ap (λ (k : ℕ). set t k (min (get_or t k 0 + 1) (2 ^ 64 - 1))) e

-- ---- the ways out of a call: the table is not lawful; refused by its arguments; refused by the table; accepted

opener-expected : (client : Option ℕ) → opener_of (expected client) ≡ client
opener-expected None = refl
opener-expected (Some id) = refl

module _ (method : ℕ) (key : List ℕ) (client : Option ℕ) (clock : ℕ) (peer : Peer) (s t out : List ℕ) where
  abbrev side : Side
  side = expected client

  abbrev answer : Answer Header
  answer = open_answer method key client clock peer s t out

  abbrev buffer : List ℕ
  buffer = open_out method key client clock peer s t out

  abbrev table : List ℕ
  table = open_table method key client clock peer s t out

  abbrev cipher : Cipher
  cipher = cipher_of method

  abbrev zeros : List ℕ
  zeros = replicate (due method s) 0

  -- the table that a refusal by the table leaves
  pub data TableLeft (n : ℕ) : Type 0 where
    kept : n ≢ 8 → table ≡ t → TableLeft n
    counted : n ≡ 8 → RepeatCounted clock (session_of cipher key s) t table → TableLeft n

  pub data Way : Type 0 where
    unlawful : lawful t ≡ false → answer ≡ refused 1 → buffer ≡ out → table ≡ t → Way
    early : lawful t ≡ true → (r : Refusal) → read_answer method key side clock s out ≡ Err r → answer ≡ refused (refusal_number r)
        → buffer ≡ read_out method key side clock s out → table ≡ t → Way
    late : lawful t ≡ true → (h : Header) → Opens method key side clock s out h → (Enters t clock h.session h.packet → ⊥)
        → (r : Refusal) → of_opener r ≡ true → answer ≡ refused (refusal_number r) → buffer ≡ put out 0 zeros → TableLeft (refusal_number r) → Way
    taken : lawful t ≡ true → (h : Header) → Opens method key side clock s out h → Enters t clock h.session h.packet
        → answer ≡ opened h → buffer ≡ put out 0 (plain_of cipher key s) → Way

  answer-there : open_answer method key (opener_of side) clock peer s t out ≡ answer
  answer-there = ap (λ (c : Option ℕ). open_answer method key c clock peer s t out) (opener-expected client)

  buffer-there : open_out method key (opener_of side) clock peer s t out ≡ buffer
  buffer-there = ap (λ (c : Option ℕ). open_out method key c clock peer s t out) (opener-expected client)

  table-there : open_table method key (opener_of side) clock peer s t out ≡ table
  table-there = ap (λ (c : Option ℕ). open_table method key c clock peer s t out) (opener-expected client)

  -- a header that was read, by what its packet ID meets
  module _ (l : lawful t ≡ true) (h : Header) (eh : read_answer method key side clock s out ≡ Ok h) where
    facts : Opens method key side clock s out h
    facts = answer-tells method key side clock s out h eh

    cleared : put (put out 0 (plain_of cipher key s)) 0 zeros ≡ put out 0 zeros
    cleared =
        let lp = length-plain cipher key s in
        let lz : length zeros ≡ due method s = length-replicate (due method s) 0 in
        let room = opens-room method key side clock s out h facts in
        put-again out (plain_of cipher key s) zeros (omega (arith, lp, room)) (lz ∙ sym lp)

    module _ (e : Entry) (em : meet t clock peer h.session h.packet ≡ e) where
      met : (answer ≡ answer_of (admitted_as h (admitted e)))
          × ((buffer ≡ settled (admitted_as h (admitted e)) (due method s) (put out 0 (plain_of cipher key s))) × (table ≡ keep e t))
      unfolding entered
      met =
          let o = read_out method key side clock s out in
          let q =
          entered-call method key side clock peer s t out l o refl h eh (overhead cipher) refl (settled (entered h t clock peer) (due method s) o)
          (keep (meet t clock peer h.session h.packet) t) refl refl in (
            sym (q.0 ∙ answer-there) ∙ ap (λ (x : Entry). answer_of (admitted_as h (admitted x))) em,
            (
              sym (q.1.0 ∙ buffer-there)
                  ∙ ap₂ (λ (x : Entry) (y : List ℕ). settled (admitted_as h (admitted x)) (due method s) y) em
                  (opened_out method key side clock s out h facts),
              sym (q.1.1 ∙ table-there) ∙ ap (λ (x : Entry). keep x t) em,
            ),
          )

      stays_out : is_stored e ≡ 0 → Enters t clock h.session h.packet → ⊥
      stays_out z n =
          let one = sym (ap is_stored em) ∙ enters-stored t clock peer h.session h.packet n in
          omega (arith, z, one)

      goes_in : is_stored e ≡ 1 → Enters t clock h.session h.packet
      goes_in one = stored-enters t clock peer h.session h.packet (ap is_stored em ∙ one)

    by-meeting : (e : Entry) → meet t clock peer h.session h.packet ≡ e → Way
    by-meeting (stores i r) em =
        let m = met (stores i r) em in taken l h facts (goes_in (stores i r) em refl) m.0 m.1.0
    by-meeting (replay i) em =
        let m = met (replay i) em in
        late l h facts (stays_out (replay i) em refl) Replay refl m.0 (m.1.0 ∙ cleared)
        (counted refl
        (record {
          place = i;
          its_own = ap (session_place t clock) (sym (header-session method key side clock s out h facts))
              ∙ replays-there t clock peer h.session h.packet i em;
          one_word = m.1.1 ∙ repeated-word t i;
        }))
    by-meeting full em =
        let m = met full em in
        late l h facts (stays_out full em refl) Full refl m.0 (m.1.0 ∙ cleared) (kept (omega arith) m.1.1)

  by_answer : lawful t ≡ true → (o : Result Header Refusal) → read_answer method key side clock s out ≡ o → Way
  by_answer l (Ok h) eo = by-meeting l h eo (meet t clock peer h.session h.packet) refl
  by_answer l (Err r) eo =
      let q = refused-call method key side clock peer s t out l (read_out method key side clock s out) refl (Err r) (sym eo) r refl in
      early l r eo (sym (q.0 ∙ answer-there)) (sym (q.1.0 ∙ buffer-there)) (sym (q.1.1 ∙ table-there))

  by-table : (b : Bool) → lawful t ≡ b → Way
  by-table true l = by_answer l (read_answer method key side clock s out) refl
  by-table false l =
      let q = unlawful-call method key side clock peer s t out l in
      unlawful l (sym (q.0 ∙ answer-there)) (sym (q.1.0 ∙ buffer-there)) (sym (q.1.1 ∙ table-there))

  pub way : Way
  way = by-table (lawful t) refl
