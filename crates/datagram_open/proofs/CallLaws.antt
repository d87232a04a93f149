-- A call of an opener is a step of the table with what its arguments decide; a law for each way out.
-- Assumes nothing.
use Rattle.std.specs.Prelude.{Err, Ok, Result}
use mathlib.Core.Path.{◌≡◌, refl, sym, ap, ◌∙◌}
use mathlib.Core.Bool.{true, false, cond}
use mathlib.Core.List.{List, ◌++◌}
use Prim.Native.Nat.{ℕ, ◌-◌, ◌≤◌}
use native.Mathlib.Nat.{zero-add}
use native.Mathlib.Omega.{arith}
use lib.ListN.{length, drop, replicate, length-replicate}
use Rattle.octets.specs.Buffers.{put}
use Rattle.octets.proofs.BufferLaws.{put-again}
use Rattle.session_record.specs.declared.Peer.{Peer}
use Rattle.session_table.specs.Table.{Admitted, lawful, Entry, stores, replay, full, meet, keep, admitted}
use Rattle.session_book.specs.Call.{Call, Decision, early, reaches, refused, onto}
use Rattle.session_book.specs.Runs.{report, table_outcome_by, table_next_by}
use Rattle.protocol.specs.Method.{cipher_of}
use Rattle.protocol.specs.declared.Refusal.{Refusal}
use Rattle.protocol.specs.Refusal.{refusal_number}
use Rattle.datagram_parts.specs.declared.Side.{Side}
use Rattle.datagram_parts.specs.declared.Side.TheVariants.{Client, Server}
use Rattle.datagram_parts.specs.Parts.{overhead}
use Rattle.datagram_read.specs.declared.Header.{Header}
use Rattle.datagram_read.specs.Opening.{plain_of, read_answer, settled, read_out}
use Rattle.datagram_open.specs.Deciding.{expected, opener_of, decided_by, decide, answer_of, call_of, admitted_as, entered, open_answer, open_out, open_table}
use Rattle.datagram_read.proofs.OpeningLaws.{length-plain}
use Rattle.datagram_read.proofs.ReadLaws.{answer-tells, opens-room, opened_out}

pub expected-opener : (side : Side) → expected (opener_of side) ≡ side
expected-opener Client = refl
expected-opener (Server client) = refl

-- a buffer settled by an equal answer
pub settled-as : (a b : Result Header Refusal) → a ≡ b → (due : ℕ) (out o : List ℕ) → o ≡ settled a due out → o ≡ settled b due out
settled-as a b e due out o eo = eo ∙ ap (λ (x : Result Header Refusal). settled x due out) e

-- the front of a buffer, written
onto-put : (out s : List ℕ) → put out 0 s ≡ onto s out
unfolding put
onto-put out s = ap (λ (n : ℕ). s ++ drop n out) (zero-add (length s))

-- and cleared again
onto-cleared : (out plain : List ℕ) (due : ℕ) → length plain ≡ due → due ≤ length out
    → put (put out 0 plain) 0 (replicate due 0) ≡ onto (replicate (length plain) 0) out
onto-cleared out plain due e room =
    let l : length (replicate {A = ℕ} due 0) ≡ length plain = length-replicate due 0 ∙ sym e in
    put-again out plain (replicate due 0) (omega (arith, e)) l ∙ onto-put out (replicate due 0)
    ∙ ap (λ (n : ℕ). onto (replicate n 0) out) (sym e)

-- by what the packet ID met
met : (h : Header) (c : Call) (due : ℕ) (plain : List ℕ) → length plain ≡ due → due ≤ length c.output → (e : Entry)
    → (answer_of (admitted_as h (admitted e)) ≡ (report e c h plain).answer)
    × (settled (admitted_as h (admitted e)) due (put c.output 0 plain) ≡ (report e c h plain).output)
met h c due plain l room (stores i r) = (refl, onto-put c.output plain)
met h c due plain l room (replay i) = (refl, onto-cleared c.output plain due l room)
met h c due plain l room full = (refl, onto-cleared c.output plain due l room)

module _ (method : ℕ) (key : List ℕ) (side : Side) (clock : ℕ) (peer : Peer) (s t out : List ℕ) where
  abbrev call : Call
  call = call_of clock peer s out (opener_of side)

  abbrev answer : Result Header Refusal
  answer = read_answer method key side clock s out

  abbrev plain : List ℕ
  plain = plain_of (cipher_of method) key s

  decided : decide method key call ≡ decided_by answer (read_out method key side clock s out) plain
  unfolding decide
  decided =
      ap (λ (x : Side). decided_by (read_answer method key x clock s out) (read_out method key x clock s out) plain) (expected-opener side)

  -- a call on a lawful table
  step : lawful t ≡ true → (d : Decision Header) → decide method key call ≡ d
      → ((table_outcome_by d t call).answer ≡ open_answer method key (opener_of side) clock peer s t out)
      × (((table_outcome_by d t call).output ≡ open_out method key (opener_of side) clock peer s t out)
      × (table_next_by d t call ≡ open_table method key (opener_of side) clock peer s t out))
  unfolding open_answer open_out open_table
  step l d e = (
    λ i. (cond (sym l i) (table_outcome_by (sym e i) t call) (record { answer = refused 1; output = out })).answer,
    (
      λ i. (cond (sym l i) (table_outcome_by (sym e i) t call) (record { answer = refused 1; output = out })).output,
      λ i. cond (sym l i) (table_next_by (sym e i) t call) t,
    ),
  )

  pub unlawful-call : lawful t ≡ false
      → (refused 1 ≡ open_answer method key (opener_of side) clock peer s t out)
      × ((out ≡ open_out method key (opener_of side) clock peer s t out) × (t ≡ open_table method key (opener_of side) clock peer s t out))
  unfolding open_answer open_out open_table
  unlawful-call l = (
    λ i. (cond (sym l i) (table_outcome_by (decide method key call) t call) (record { answer = refused 1; output = out })).answer,
    (
      λ i. (cond (sym l i) (table_outcome_by (decide method key call) t call) (record { answer = refused 1; output = out })).output,
      λ i. cond (sym l i) (table_next_by (decide method key call) t call) t,
    ),
  )

  module _ (l : lawful t ≡ true) (o : List ℕ) (eo : o ≡ read_out method key side clock s out) where
    -- refused before a session was looked at
    pub refused-call : (a : Result Header Refusal) → a ≡ answer → (r : Refusal) → a ≡ Err r
        → (answer_of a ≡ open_answer method key (opener_of side) clock peer s t out)
        × ((o ≡ open_out method key (opener_of side) clock peer s t out) × (t ≡ open_table method key (opener_of side) clock peer s t out))
    refused-call a ea r er =
        let q =
        step l (early (refusal_number r) (read_out method key side clock s out))
        (decided ∙ ap (λ (x : Result Header Refusal). decided_by x (read_out method key side clock s out) plain) (sym ea ∙ er)) in
        (ap answer_of er ∙ q.0, (eo ∙ q.1.0, q.1.1))

    -- taken to its session
    pub entered-call : (h : Header) → answer ≡ Ok h → (f : ℕ) → f ≡ overhead (cipher_of method) → (u w : List ℕ)
        → u ≡ settled (entered h t clock peer) (length s - f) o
        → w ≡ keep (meet t clock peer h.session h.packet) t
        → (answer_of (entered h t clock peer) ≡ open_answer method key (opener_of side) clock peer s t out)
        × ((u ≡ open_out method key (opener_of side) clock peer s t out) × (w ≡ open_table method key (opener_of side) clock peer s t out))
    unfolding entered
    entered-call h eh f ef u w eu ew =
        let d = answer-tells method key side clock s out h eh in
        let due = length s - overhead (cipher_of method) in
        let lp = length-plain (cipher_of method) key s in
        let eu = eu ∙ ap (λ (n : ℕ). settled (entered h t clock peer) (length s - n) o) ef in
        let room = opens-room method key side clock s out h d in
        let written : o ≡ put out 0 plain = eo ∙ opened_out method key side clock s out h d in
        let q =
        step l (reaches h.session h.packet h plain)
        (decided ∙ ap (λ (x : Result Header Refusal). decided_by x (read_out method key side clock s out) plain) eh) in
        let m = met h call due plain lp room (meet t clock peer h.session h.packet) in
        (m.0 ∙ q.0, (eu ∙ ap (settled (entered h t clock peer) due) written ∙ m.1 ∙ q.1.0, ew ∙ q.1.1))
