-- Demands 1 and 2 for opened datagrams.
-- Assumes nothing.
use Rattle.std.specs.Prelude.{Err, None, Ok, Option, Some}
use mathlib.Core.Path.{◌≡◌, refl, sym, ap, ap₂, ◌∙◌, subst}
use mathlib.Core.Logic.{◌≢◌}
use mathlib.Core.Bool.{Bool, true, false, cond, ◌&&◌, and-false, true≢false}
use mathlib.Core.List.{List}
use Prim.Native.Nat.{ℕ, ◌+◌, ◌≤◌}
use native.Mathlib.Nat.{zero-add}
use native.Mathlib.Omega.{arith}
use lib.Dec.{leb}
use lib.ListN.{length, get_or, drop, replicate, length-replicate}
use borrow.Author.Tests.{leb-true, leb-false, le-leb, lt-leb, eqb-true, eq-eqb}
use Rattle.octets.specs.Buffers.{put}
use Rattle.octets.specs.Numbers.{be}
use Rattle.octets.proofs.BufferLaws.{length-put, drop-put}
use Rattle.session_record.specs.declared.Peer.{Peer}
use Rattle.session_table.specs.Table.{retention, lawful, Entry, stores, replay, full, meet, keep}
use Rattle.session_book.specs.Call.{Answer, Decision, early as decided, reaches, refused, opened}
use Rattle.session_book.specs.Runs.{table_next_by}
use Rattle.session_book.proofs.Words.{retention-store, retention-repeated}
use Rattle.protocol.specs.declared.Cipher.{Cipher}
use Rattle.protocol.specs.Method.{key_fits, cipher_of}
use Rattle.protocol.specs.declared.Refusal.{Refusal}
use Rattle.protocol.specs.declared.Refusal.TheVariants.{Settings, Malformed}
use Rattle.protocol.specs.Refusal.{refusal_number}
use Rattle.protocol.specs.Time.{time_valid}
use Rattle.socks5.specs.Address.{parse_at}
use Rattle.datagram_parts.specs.declared.Side.{Side}
use Rattle.datagram_parts.specs.Headers.{type_of, fixed_length, main_start}
use Rattle.datagram_parts.specs.Parts.{overhead, max_datagram}
use Rattle.datagram_seal.specs.Sealing.{seal_answer, datagram}
use Rattle.datagram_read.specs.declared.Header.{Header}
use Rattle.datagram_read.specs.Opening.{plain_of, session_of, packet_of, time_of, padding_of, meant, header_with, read_address, length_lawful, read_answer, read_out}
use Rattle.datagram_open.specs.Deciding.{expected, opener_of, decide, call_of, open_answer, open_out, open_table}
use Rattle.demands.specs.Datagrams.{Answered, accepts, refuses, tag_good, due, Lawful, BeforeTag, unlawful-table, other_key, too_short, too_long, no_room, forged, Stage, before, after, RepeatCounted, Keeps, OpenersKeep, ValidHeader, Enters, ForUs, Acceptable, AcceptedExactlyWhen, SealedAccepted, Demand2}
use Rattle.demands.proofs.DatagramReadBack.{payload-sent}
use Rattle.demands.proofs.DatagramSealing.{one-target, sealed-opens}
use Rattle.datagram_read.proofs.OpeningLaws.{length-plain}
use Rattle.datagram_read.proofs.ReadLaws.{Reads, Opens, answer-given, opened_out, unlawful-out, forged-out, cleared-out}
use Rattle.datagram_open.proofs.CallLaws.{expected-opener}
use Rattle.demands.proofs.DatagramWays.{opened-same, refused-same, not-both, read_same, not-read, of_reader, reader-opener, early-not-eight, among, among-answer, TableLeft, kept, counted, Way, unlawful, early, late, taken, way as way_of}
use Rattle.socks5.specs.declared.Address.{Address}

-- ---- the tests of the arguments

module _ (method : ℕ) (key s t out : List ℕ) where
  abbrev cipher : Cipher
  cipher = cipher_of method

  abbrev least : ℕ
  least = overhead cipher

  abbrev settings : Bool
  settings = key_fits method (length key) && (length_lawful cipher s && leb (due method s) (length out))

  abbrev sizes : Bool
  sizes = leb least (length s) && leb (length s) max_datagram

  -- a reason to refuse before the tag, other than the table's, is one of two tests that fails
  data Stops : Type 0 where
    by-settings : settings ≡ false → Stops
    by-tag : tag_good method key s ≡ false → Stops

  stops : lawful t ≡ true → BeforeTag method key s t out → Stops
  unfolding length_lawful
  stops l (unlawful-table e) = absurd (true≢false (sym l ∙ e))
  stops l (other_key e) = by-settings (ap (λ (b : Bool). b && (sizes && leb (due method s) (length out))) e)
  stops l (too_short e) =
      by-settings
      (ap (λ (b : Bool). key_fits method (length key) && ((b && leb (length s) max_datagram) && leb (due method s) (length out)))
      (lt-leb least (length s) e)
      ∙ and-false (key_fits method (length key)))
  stops l (too_long e) =
      by-settings
      (ap (λ (b : Bool). key_fits method (length key) && (b && leb (due method s) (length out)))
      (ap (◌&&◌ (leb least (length s))) (lt-leb (length s) max_datagram e) ∙ and-false (leb least (length s)))
      ∙ and-false (key_fits method (length key)))
  stops l (no_room e) =
      by-settings
      (ap (λ (b : Bool). key_fits method (length key) && (sizes && b)) (lt-leb (due method s) (length out) e)
      ∙ ap (◌&&◌ (key_fits method (length key))) (and-false sizes) ∙ and-false (key_fits method (length key)))
  stops l (forged e) = by-tag e

  lawful-settings : Lawful method key s t out → settings ≡ true
  unfolding length_lawful
  lawful-settings w =
      let e₁ = le-leb least (length s) w.shortest in
      let e₂ = le-leb (length s) max_datagram w.longest in
      let e₃ = le-leb (due method s) (length out) w.room in
      (λ i. w.key_fits i && ((e₁ i && e₂ i) && e₃ i))

  lawful-size : Lawful method key s t out → length_lawful cipher s ≡ true
  unfolding length_lawful
  lawful-size w = ap₂ ◌&&◌ (le-leb least (length s) w.shortest) (le-leb (length s) max_datagram w.longest)

  stage : Stage method key s t out
  stage =
      go (lawful t) (key_fits method (length key)) (leb least (length s)) (leb (length s) max_datagram) (leb (due method s) (length out)) (tag_good method key s)
      refl refl refl refl refl refl
    where
      go : (a b c d e f : Bool) → lawful t ≡ a → key_fits method (length key) ≡ b → leb least (length s) ≡ c → leb (length s) max_datagram ≡ d
          → leb (due method s) (length out) ≡ e → tag_good method key s ≡ f → Stage method key s t out
      go false b c d e f ea eb ec ed ee ef = before (unlawful-table ea)
      go true false c d e f ea eb ec ed ee ef = before (other_key eb)
      go true true false d e f ea eb ec ed ee ef = before (too_short (leb-false least (length s) ec))
      go true true true false e f ea eb ec ed ee ef = before (too_long (leb-false (length s) max_datagram ed))
      go true true true true false f ea eb ec ed ee ef = before (no_room (leb-false (due method s) (length out) ee))
      go true true true true true false ea eb ec ed ee ef = before (forged ef)
      go true true true true true true ea eb ec ed ee ef =
          after
          (record {
            table = ea;
            key_fits = eb;
            shortest = leb-true least (length s) ec;
            longest = leb-true (length s) max_datagram ed;
            room = leb-true (due method s) (length out) ee;
          }) ef

-- ---- demand 1

module _ (method : ℕ) (key : List ℕ) (client : Option ℕ) (clock : ℕ) (peer : Peer) (s t out : List ℕ) where
  abbrev side : Side
  side = expected client

  abbrev answer : Answer Header
  answer = open_answer method key client clock peer s t out

  abbrev buffer : List ℕ
  buffer = open_out method key client clock peer s t out

  abbrev table : List ℕ
  table = open_table method key client clock peer s t out

  abbrev zeros : List ℕ
  zeros = replicate (due method s) 0

  abbrev Ways : Type 0
  Ways = Way method key client clock peer s t out

  way : Ways
  way = way_of method key client clock peer s t out

  not_stopped : (h : Header) → Opens method key side clock s out h → Stops method key s t out → ⊥
  not_stopped h d (by-settings e) = true≢false (sym (λ i. d.fits i && (d.size i && d.room i)) ∙ e)
  not_stopped h d (by-tag e) = true≢false (sym d.authentic ∙ e)

  -- a refusal that the arguments decide is one before 8
  of_reader_lem : (r : Refusal) → read_answer method key side clock s out ≡ Err r → of_reader r ≡ true
  of_reader_lem r er = ap among (sym er) ∙ among-answer method key side clock s out

  answered : Answered answer
  answered = go way
    where
      go : Ways → Answered answer
      go (unlawful l ea eb et) = refuses Settings refl ea
      go (early l r er ea eb et) = refuses r (reader-opener r (of_reader_lem r er)) ea
      go (late l h d n r o ea eb et) = refuses r o ea
      go (taken l h d n ea eb) = accepts h ea

  refused-keeps-table : (n : ℕ) → n ≢ 8 → answer ≡ refused n → table ≡ t
  refused-keeps-table n not8 e = go way
    where
      left_by : (r : Refusal) → answer ≡ refused (refusal_number r) → TableLeft method key client clock peer s t out (refusal_number r) → table ≡ t
      left_by r ea (kept n et) = et
      left_by r ea (counted m et) = absurd (not8 (refused-same n (refusal_number r) (sym e ∙ ea) ∙ m))

      go : Ways → table ≡ t
      go (unlawful l ea eb et) = et
      go (early l r er ea eb et) = et
      go (late l h d x r o ea eb et) = left_by r ea et
      go (taken l h d x ea eb) = absurd (not-both n h answer e ea)

  repeat-counted : answer ≡ refused 8 → RepeatCounted clock (session_of (cipher_of method) key s) t table
  repeat-counted e = go way
    where
      eight : (n : ℕ) → answer ≡ refused n → n ≡ 8
      eight n ea = refused-same n 8 (sym ea ∙ e)

      left_by : (r : Refusal) → answer ≡ refused (refusal_number r) → TableLeft method key client clock peer s t out (refusal_number r)
          → RepeatCounted clock (session_of (cipher_of method) key s) t table
      left_by r ea (kept n et) = absurd (n (eight (refusal_number r) ea))
      left_by r ea (counted m et) = et

      go : Ways → RepeatCounted clock (session_of (cipher_of method) key s) t table
      go (unlawful l ea eb et) = absurd (let z = eight 1 ea in omega arith)
      go (early l r er ea eb et) = absurd (early-not-eight r (of_reader_lem r er) (eight (refusal_number r) ea))
      go (late l h d x r o ea eb et) = left_by r ea et
      go (taken l h d x ea eb) = absurd (not-both 8 h answer e ea)

  retention-kept : retention table ≡ retention t
  unfolding open_table
  retention-kept = go (lawful t) (decide method key (call_of clock peer s out client))
    where
      kept_by : (e : Entry) → retention (keep e t) ≡ retention t
      kept_by (stores i r) = retention-store t i r
      kept_by (replay i) = retention-repeated t i
      kept_by full = refl

      go : (b : Bool) (d : Decision Header) → retention (cond b (table_next_by d t (call_of clock peer s out client)) t) ≡ retention t
      go false d = refl
      go true (decided n o) = refl
      go true (reaches id p h plain) = kept_by (meet t clock peer id p)

  untouched-before-tag : BeforeTag method key s t out → buffer ≡ out
  untouched-before-tag b = go way
    where
      read_out_lem : Stops method key s t out → read_out method key side clock s out ≡ out
      read_out_lem (by-settings e) = unlawful-out method key side clock s out e
      read_out_lem (by-tag e) = forged-out method key side clock s out e

      go : Ways → buffer ≡ out
      go (unlawful l ea eb et) = eb
      go (early l r er ea eb et) = eb ∙ read_out_lem (stops method key s t out l b)
      go (late l h d x r o ea eb et) = absurd (not_stopped h d (stops method key s t out l b))
      go (taken l h d x ea eb) = absurd (not_stopped h d (stops method key s t out l b))

  refused-before-tag : BeforeTag method key s t out → (h : Header) → answer ≡ opened h → ⊥
  refused-before-tag b h e = go way
    where
      go : Ways → ⊥
      go (unlawful l ea eb et) = not-both 1 h answer ea e
      go (early l r er ea eb et) = not-both (refusal_number r) h answer ea e
      go (late l g d x r o ea eb et) = not-both (refusal_number r) h answer ea e
      go (taken l g d x ea eb) = not_stopped g d (stops method key s t out l b)

  cleared-after-tag : Lawful method key s t out → tag_good method key s ≡ true → (n : ℕ) → answer ≡ refused n → buffer ≡ put out 0 zeros
  cleared-after-tag w a n e = go way
    where
      go : Ways → buffer ≡ put out 0 zeros
      go (unlawful l ea eb et) = absurd (true≢false (sym w.table ∙ l))
      go (early l r er ea eb et) = eb ∙ cleared-out method key side clock s out (lawful-settings method key s t out w) a r er w.room
      go (late l h d x r o ea eb et) = eb
      go (taken l h d x ea eb) = absurd (not-both n h answer e ea)

  -- what the buffer can hold: what it held, or as many bytes as are due at its front
  data Left : Type 0 where
    as-was : buffer ≡ out → Left
    written : (b : List ℕ) → length b ≡ due method s → due method s ≤ length out → buffer ≡ put out 0 b → Left

  left : Left
  left = go (stage method key s t out) answered
    where
      go : Stage method key s t out → Answered answer → Left
      go (before b) a = as-was (untouched-before-tag b)
      go (after w a) (refuses r o e) =
          written zeros (length-replicate (due method s) 0) w.room (cleared-after-tag w a (refusal_number r) e)
      go (after w a) (accepts h e) = plain way
        where
          plain : Ways → Left
          plain (unlawful l ea eb et) = absurd (not-both 1 h answer ea e)
          plain (early l r er ea eb et) = absurd (not-both (refusal_number r) h answer ea e)
          plain (late l g d x r o ea eb et) = absurd (not-both (refusal_number r) h answer ea e)
          plain (taken l g d x ea eb) = written (plain_of (cipher_of method) key s) (length-plain (cipher_of method) key s) w.room eb

  past-due-kept : drop (due method s) buffer ≡ drop (due method s) out
  past-due-kept = go left
    where
      go : Left → drop (due method s) buffer ≡ drop (due method s) out
      go (as-was e) = ap (drop (due method s)) e
      go (written b lb room e) =
          let n : 0 + length b ≡ due method s = zero-add (length b) ∙ lb in
          ap (drop (due method s)) e ∙ ap (λ (k : ℕ). drop k (put out 0 b)) (sym n) ∙ drop-put out 0 b (omega (arith, n, room))
          ∙ ap (λ (k : ℕ). drop k out) n

  length-kept : length buffer ≡ length out
  length-kept = go left
    where
      go : Left → length buffer ≡ length out
      go (as-was e) = ap length e
      go (written b lb room e) = ap length e ∙ length-put out 0 b (omega (arith, lb, room))

  keeps : Keeps method key client clock peer s t out
  keeps =
      record {
        answered = answered;
        stage = stage method key s t out;
        refused-keeps-table = refused-keeps-table;
        repeat-counted = repeat-counted;
        retention-kept = retention-kept;
        untouched-before-tag = untouched-before-tag;
        refused-before-tag = refused-before-tag;
        cleared-after-tag = cleared-after-tag;
        past-due-kept = past-due-kept;
        length-kept = length-kept;
      }

pub openers-keep : OpenersKeep
openers-keep method key client clock peer s t out = keeps method key client clock peer s t out

-- ---- demand 2

-- the main header, told by its tests and told plainly
module _ (start : ℕ) (side : Side) (clock id packet : ℕ) (plain : List ℕ) (h : Header) where
  valid-header : Reads start side clock id packet plain h → ValidHeader start side id packet plain h
  unfolding read_address
  valid-header d = go (parse_at plain (start + fixed_length side + padding_of start side plain)) refl d.address
    where
      go : (p : Option Address) → parse_at plain (start + fixed_length side + padding_of start side plain) ≡ p
          → header_with id packet (time_of start plain) (padding_of start side plain) p ≡ Ok h → ValidHeader start side id packet plain h
      go (Some a) ep e =
          record {
            long-enough = leb-true (start + fixed_length side) (length plain) d.long;
            right-type = eqb-true (get_or plain start 0) (type_of side) d.kind;
            address = a;
            address-found = ep;
            says = sym (read_same _ h e);
          }
      go None ep e = absurd (not-read Malformed h (Err Malformed) refl e)

  header-reads : ValidHeader start side id packet plain h → meant start side plain ≡ true → time_valid h.time clock ≡ true → Reads start side clock id packet plain h
  unfolding read_address
  header-reads v ours timely =
      record {
        long = le-leb (start + fixed_length side) (length plain) v.long-enough;
        kind = eq-eqb (get_or plain start 0) (type_of side) v.right-type;
        timely = ap (λ (g : Header). time_valid g.time clock) (sym v.says) ∙ timely;
        ours = ours;
        address = ap (header_with id packet (time_of start plain) (padding_of start side plain)) v.address-found ∙ ap Ok (sym v.says);
      }

-- meant for us, by its test and plainly
told-ours : (start : ℕ) (client : Option ℕ) (plain : List ℕ) → meant start (expected client) plain ≡ true → ForUs start client plain
told-ours start None plain e = tt
told-ours start (Some client) plain e = eqb-true (be 8 (drop (start + 9) plain)) client e

ours-told : (start : ℕ) (client : Option ℕ) (plain : List ℕ) → ForUs start client plain → meant start (expected client) plain ≡ true
ours-told start None plain u = refl
ours-told start (Some client) plain e = eq-eqb (be 8 (drop (start + 9) plain)) client e

module _ (method : ℕ) (key : List ℕ) (client : Option ℕ) (clock : ℕ) (peer : Peer) (s t out : List ℕ) where
  abbrev by : Cipher
  by = cipher_of method

  -- a header that was read is accepted where its packet ID enters
  pub enters-accepted : lawful t ≡ true → (h : Header) → read_answer method key (expected client) clock s out ≡ Ok h
      → Enters t clock h.session h.packet
      → (open_answer method key client clock peer s t out ≡ opened h)
      × (open_out method key client clock peer s t out ≡ read_out method key (expected client) clock s out)
  enters-accepted l h e n = go (way method key client clock peer s t out)
    where
      same : (g : Header) → Opens method key (expected client) clock s out g → g ≡ h
      same g d = read_same g h (sym (answer-given method key (expected client) clock s out g d) ∙ e)

      go : Way method key client clock peer s t out
          → (open_answer method key client clock peer s t out ≡ opened h)
          × (open_out method key client clock peer s t out ≡ read_out method key (expected client) clock s out)
      go (unlawful f ea eb et) = absurd (true≢false (sym l ∙ f))
      go (early l r er ea eb et) = absurd (not-read r h (read_answer method key (expected client) clock s out) er e)
      go (late l g d x r o ea eb et) =
          absurd (x (subst (λ (y : Header). Enters t clock y.session y.packet) (sym (same g d)) n))
      go (taken l g d x ea eb) = (ea ∙ ap opened (same g d), eb ∙ sym (opened_out method key (expected client) clock s out g d))

  module _ (w : Lawful method key s t out) (h : Header) where
    only-when : open_answer method key client clock peer s t out ≡ opened h → Acceptable method key client clock s t h
    only-when e = go (way method key client clock peer s t out)
      where
        given : (g : Header) → Opens method key (expected client) clock s out g → Enters t clock g.session g.packet → Acceptable method key client clock s t g
        given g d n =
            let v = valid-header (main_start by) (expected client) clock (session_of by key s) (packet_of by key s) (plain_of by key s) g d.main in
            record {
              authentic = d.authentic;
              header-valid = v;
              for-us = told-ours (main_start by) client (plain_of by key s) d.main.ours;
              time-valid = ap (λ (y : Header). time_valid y.time clock) v.says ∙ d.main.timely;
              enters = n;
            }

        go : Way method key client clock peer s t out → Acceptable method key client clock s t h
        go (unlawful f ea eb et) = absurd (not-both 1 h _ ea e)
        go (early l r er ea eb et) = absurd (not-both (refusal_number r) h _ ea e)
        go (late l g d x r o ea eb et) = absurd (not-both (refusal_number r) h _ ea e)
        go (taken l g d x ea eb) = subst (Acceptable method key client clock s t) (opened-same g h (sym ea ∙ e)) (given g d x)

    always-when : Acceptable method key client clock s t h → open_answer method key client clock peer s t out ≡ opened h
    always-when a =
        (enters-accepted w.table h
        (answer-given method key (expected client) clock s out h
        (record {
          fits = w.key_fits;
          size = lawful-size method key s t out w;
          room = le-leb (due method s) (length out) w.room;
          authentic = a.authentic;
          main =
              header-reads (main_start by) (expected client) clock (session_of by key s) (packet_of by key s) (plain_of by key s) h
              a.header-valid (ours-told (main_start by) client (plain_of by key s) a.for-us) a.time-valid;
        })) a.enters
        ).0

    opened-text : open_answer method key client clock peer s t out ≡ opened h → open_out method key client clock peer s t out ≡ put out 0 (plain_of by key s)
    opened-text e = go (way method key client clock peer s t out)
      where
        go : Way method key client clock peer s t out → open_out method key client clock peer s t out ≡ put out 0 (plain_of by key s)
        go (unlawful f ea eb et) = absurd (not-both 1 h _ ea e)
        go (early l r er ea eb et) = absurd (not-both (refusal_number r) h _ ea e)
        go (late l g d x r o ea eb et) = absurd (not-both (refusal_number r) h _ ea e)
        go (taken l g d x ea eb) = eb

pub accepted-exactly-when : AcceptedExactlyWhen
accepted-exactly-when method key client clock peer s t out w h =
    record {
      only-when = only-when method key client clock peer s t out w h;
      always-when = always-when method key client clock peer s t out w h;
      opened-text = opened-text method key client clock peer s t out w h;
    }

pub sealed-accepted : SealedAccepted
sealed-accepted method key nonce sender time address padding payload space n sealed fit later valid peer t out l enters room =
    let buffer = replicate {A = ℕ} space 0 in
    let sent = datagram (cipher_of method) key nonce sender time address padding payload in
    let side = sender.side in
    let answered-there =
    ap (seal_answer method (length key) (length nonce) sender address padding (length payload)) (length-replicate {A = ℕ} space 0) ∙ sealed in
    let one = one-target method key nonce sender time address padding payload buffer n answered-there in
    let read =
    sealed-opens method key nonce sender time address padding payload buffer n answered-there fit.key-bytes fit.id-fits fit.packet-fits
    fit.client-fits fit.time-fits one.address one.found later valid out room in
    let here =
    enters-accepted method key (opener_of side) later peer sent t out l _
    (ap (λ (x : Side). read_answer method key x later sent out) (expected-opener side) ∙ read.0) enters in
    record {
      target = one.address;
      target-sealed = one.found;
      fields = here.0;
      text = here.1 ∙ ap (λ (x : Side). read_out method key x later sent out) (expected-opener side) ∙ read.1;
      payload-there = payload-sent (cipher_of method) sender.id sender.packet side time padding address payload;
    }

pub demand2 : Demand2
demand2 = record { exactly = accepted-exactly-when; given_back = sealed-accepted }
