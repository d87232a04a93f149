-- Calls on the session table: the outcome of one, the table after it, and a list of calls one after the other.
-- Assumes nothing.
use Rattle.std.specs.Prelude.{ℕ, cond, List, [], ◌∷◌}
use Rattle.session_table.specs.Table.{Entry, stores, replay, full, meet, keep, lawful}
use Rattle.session_book.specs.Call.{Call, Outcome, refused, Decision, early, reaches, opened_outcome, refused_outcome}

abbrev pub report : {H : Type 0} → Entry → Call → H → List ℕ → Outcome H
report (stores i r) c header plaintext = opened_outcome c header plaintext
report (replay i) c header plaintext = refused_outcome c 8 plaintext
report full c header plaintext = refused_outcome c 9 plaintext

abbrev pub table_outcome_by : {H : Type 0} → Decision H → List ℕ → Call → Outcome H
table_outcome_by (early number output) t c = record { answer = refused number; output = output }
table_outcome_by (reaches id p header plaintext) t c = report (meet t c.clock c.peer id p) c header plaintext

abbrev pub table_next_by : {H : Type 0} → Decision H → List ℕ → Call → List ℕ
table_next_by (early number output) t c = t
table_next_by (reaches id p header plaintext) t c = keep (meet t c.clock c.peer id p) t

module _ {H : Type 0} (decide : Call → Decision H) where
  -- a table that is not lawful is refusal 1, whatever the datagram is
  abbrev pub table_outcome : List ℕ → Call → Outcome H
  table_outcome t c = cond (lawful t) (table_outcome_by (decide c) t c) (record { answer = refused 1; output = c.output })

  abbrev pub table_next : List ℕ → Call → List ℕ
  table_next t c = cond (lawful t) (table_next_by (decide c) t c) t

  abbrev pub table_outcomes : List ℕ → List Call → List (Outcome H)
  table_outcomes t [] = []
  table_outcomes t (c ∷ cs) = table_outcome t c ∷ table_outcomes (table_next t c) cs

  abbrev pub table_after : List ℕ → List Call → List ℕ
  table_after t [] = t
  table_after t (c ∷ cs) = table_after (table_next t c) cs
