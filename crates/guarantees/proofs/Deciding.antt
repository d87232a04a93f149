-- What the arguments of a call decide is what the exported opener answers on a table just made; and what it answers on any table follows
-- from that.
-- Assumes nothing.
use Rattle.std.specs.Prelude.{Err, Ok, Result, None, Option, Some}
use mathlib.Core.Path.{◌≡◌, refl, ap, ◌∙◌}
use mathlib.Core.Bool.{Bool, false, cond}
use mathlib.Core.List.{List}
use Prim.Native.Nat.{ℕ, ◌-◌}
use native.Mathlib.Omega.{arith}
use lib.Dec.{eqb}
use lib.ListN.{length, take, drop, replicate}
use lib.Seq.{take_at}
use Rattle.session_record.specs.declared.Peer.{Peer}
use Rattle.session_table.specs.Table as table
use Rattle.session_table.specs.Table.{Entry, stores, replay, full, meet}
use Rattle.session_book.specs.Call as book
use Rattle.session_book.specs.Call.{Answer, Outcome, Decision, refused, opened, early, reaches}
use Rattle.session_book.specs.Runs.{report, table_outcome_by, table_next_by, table_outcome, table_next}
use Rattle.protocol.specs.Method.{cipher_of}
use Rattle.protocol.specs.declared.Refusal.{Refusal}
use Rattle.protocol.specs.declared.Refusal.TheVariants.{Settings, Length, Room, NotAuthentic, Malformed, WrongType, WrongTime, Replay, Full, More, Counter, Argument, Binding, Empty, UnknownSetting}
use Rattle.protocol.specs.Refusal.{refusal_number}
use Rattle.datagram_parts.specs.Parts.{overhead}
use Rattle.datagram_read.specs.declared.Header.{Header}
use Rattle.datagram_read.specs.Opening.{plain_of, read_answer, read_out}
use Rattle.datagram_read.proofs.OpeningLaws.{length-plain}
use Rattle.datagram_open.specs.Deciding.{expected, decided_by, decide, call_of, open_answer, open_out, open_table}
use Rattle.words.specs.Answers.{header_words}
use Rattle.relay.specs.Datagrams.{AfterOpen, opened_number, opened_words, opens_datagram}
use Rattle.relay.proofs.DatagramLaws.{relays}
use Rattle.demands.specs.Datagrams.{Answered, accepts, refuses}
use Rattle.demands.proofs.DatagramDemands.{openers-keep}
use Rattle.guarantees.specs.Calls.{Lent, Said, Opening, opens, step, new_table, exported, lent_alone, alone, decides, outcome, at}

-- ---- words in place of headers

abbrev pub in_words : Decision Header → Decision (List ℕ)
in_words (early n o) = early n o
in_words (reaches id p h plain) = reaches id p (header_words h) plain

abbrev pub answer_in_words : Answer Header → Answer (List ℕ)
answer_in_words (refused n) = refused n
answer_in_words (opened h) = opened (header_words h)

abbrev pub outcome_in_words : Outcome Header → Outcome (List ℕ)
outcome_in_words o = record { answer = answer_in_words o.answer; output = o.output }

pub outcome-by : (d : Decision Header) (t : List ℕ) (c : book.Call) → table_outcome_by (in_words d) t c ≡ outcome_in_words (table_outcome_by d t c)
outcome-by (early n o) t c = refl
outcome-by (reaches id p h plain) t c = go (meet t c.clock c.peer id p)
  where
    go : (e : Entry) → report e c (header_words h) plain ≡ outcome_in_words (report e c h plain)
    go (stores i r) = refl
    go (replay i) = refl
    go full = refl

pub next-by : (d : Decision Header) (t : List ℕ) (c : book.Call) → table_next_by (in_words d) t c ≡ table_next_by d t c
next-by (early n o) t c = refl
next-by (reaches id p h plain) t c = refl

-- ---- a refusal's number is not 0

pub not-zero : (r : Refusal) → eqb (refusal_number r) 0 ≡ false
not-zero Settings = refl
not-zero Length = refl
not-zero Room = refl
not-zero NotAuthentic = refl
not-zero Malformed = refl
not-zero WrongType = refl
not-zero WrongTime = refl
not-zero Replay = refl
not-zero Full = refl
not-zero (More n) = refl
not-zero Counter = refl
not-zero Argument = refl
not-zero Binding = refl
not-zero Empty = refl
not-zero (UnknownSetting n) = refl

-- ---- what is said of an opener, by its answer

module _ (m : Lent) (o : Opening) (l : length m.answer ≡ 9) where
  abbrev answer : Answer Header
  answer = open_answer o.method o.key o.client o.clock o.peer o.datagram m.table m.out

  abbrev exported_after : AfterOpen
  exported_after = opens_datagram o.method o.key o.client o.clock o.peer o.datagram m.table m.out m.answer

  abbrev told_after : Answer Header → AfterOpen
  told_after a = record {
    number = opened_number a;
    table = open_table o.method o.key o.client o.clock o.peer o.datagram m.table m.out;
    out = open_out o.method o.key o.client o.clock o.peer o.datagram m.table m.out;
    answer = opened_words a m.answer;
  }

  told : exported_after ≡ told_after answer
  told = relays o.method o.key o.client o.clock o.peer o.datagram m.table m.out m.answer l

  abbrev call : book.Call
  call = call_of o.clock o.peer o.datagram m.out o.client

  in-words : (a : Answer Header) → Answered a
      → cond (eqb (opened_number a) 0) (opened (opened_words a m.answer)) (refused (opened_number a)) ≡ answer_in_words a
  in-words (opened h) x = refl
  in-words (refused n) (accepts h e) = absurd (let z : ◌≡◌ {A = ℕ} 0 1 = ap is_opened e in omega arith)
    where
      is_opened : Answer Header → ℕ
      is_opened (opened h) = 1
      is_opened (refused n) = 0
  in-words (refused n) (refuses r g e) =
      let z : n ≡ refusal_number r = ap number e in
      ap (λ (b : Bool). cond b (opened m.answer) (refused n)) (ap (λ (k : ℕ). eqb k 0) z ∙ not-zero r)
    where
      number : Answer Header → ℕ
      number (opened h) = 0
      number (refused n) = n

  answered : Answered answer
  answered = (openers-keep o.method o.key o.client o.clock o.peer o.datagram m.table m.out).answered

  -- outcome and table are those of what the arguments decide
  pub outcome-so : outcome (opens o exported_after m) ≡ outcome_in_words (table_outcome (decide o.method o.key) m.table call)
  unfolding open_answer open_out
  outcome-so = ap (λ (y : AfterOpen). outcome (opens o y m)) told ∙ (λ i. record { answer = in-words answer answered i; output = (told_after answer).out })

  pub table-so : (opens o exported_after m).left.table ≡ table_next (decide o.method o.key) m.table call
  unfolding open_table
  table-so = ap (λ (y : AfterOpen). y.table) told

-- ---- on a table just made

new_is : new_table ≡ table.new_table 60
unfolding step
new_is = refl

new_meets : (clock : ℕ) (peer : Peer) (id p : ℕ) → meet (table.new_table 60) clock peer id p ≡ stores 0 (table.new_record clock peer id p)
unfolding meet table.session_place table.free_place
new_meets clock peer id p = refl

module _ (method : ℕ) (key : List ℕ) (c : book.Call) where
  abbrev nine : List ℕ
  nine = replicate 9 0

  abbrev due : ℕ
  due = length c.datagram - overhead (cipher_of method)

  abbrev plain : List ℕ
  plain = plain_of (cipher_of method) key c.datagram

  -- what is decided, by what stands behind the call
  abbrev by : (number : ℕ) → (answer out : List ℕ) → Decision (List ℕ)
  by n a o = cond (eqb n 0) (reaches (at a 4) (at a 5) a (take due o)) (early n o)

  abbrev by_outcome : Outcome Header → Decision (List ℕ)
  by_outcome x = by (opened_number x.answer) (opened_words x.answer nine) x.output

  by-reading : (x : Result Header Refusal) (o : List ℕ)
      → by_outcome (table_outcome_by (decided_by x o plain) (table.new_table 60) c) ≡ in_words (decided_by x o plain)
  by-reading (Err r) o = ap (λ (b : Bool). cond b (reaches 0 0 nine (take due o)) (early (refusal_number r) o)) (not-zero r)
  by-reading (Ok h) o =
      ap (λ (e : Entry). by_outcome (report e c h plain)) (new_meets c.clock c.peer h.session h.packet)
      ∙ ap (reaches h.session h.packet (header_words h)) (take_at plain (drop (length plain) c.output) due (length-plain (cipher_of method) key c.datagram))

  decided-on-new : by_outcome (table_outcome (decide method key) (table.new_table 60) c) ≡ in_words (decide method key c)
  unfolding decide
  decided-on-new =
      by-reading (read_answer method key (expected c.client) c.clock c.datagram c.output)
      (read_out method key (expected c.client) c.clock c.datagram c.output)

  abbrev opening : Opening
  opening = record { method = method; key = key; client = c.client; clock = c.clock; peer = c.peer; datagram = c.datagram }

  abbrev lent : Lent
  lent = lent_alone new_table c.output nine

  abbrev decided_by_said : Said → Decision (List ℕ)
  decided_by_said x = cond (eqb x.number 0) (reaches (at x.left.answer 4) (at x.left.answer 5) x.left.answer (take x.due x.left.out)) (early x.number x.left.out)

  alone-is : alone method key c ≡ opens opening (exported_after lent opening refl) lent
  unfolding step
  alone-is = go c.client refl
    where
      go : (o : Option ℕ) → c.client ≡ o → step (exported method key o c) lent
          ≡ opens (record { method = method; key = key; client = o; clock = c.clock; peer = c.peer; datagram = c.datagram })
          (opens_datagram method key o c.clock c.peer c.datagram new_table c.output nine) lent
      go None e = refl
      go (Some id) e = refl

  pub decides-so : decides method key c ≡ in_words (decide method key c)
  unfolding open_answer open_out
  decides-so =
      ap decided_by_said (alone-is ∙ ap (λ (y : AfterOpen). opens opening y lent) (told lent opening refl))
      ∙ ap (λ (t : List ℕ). by_outcome (table_outcome (decide method key) t c)) new_is
      ∙ decided-on-new
