-- The third part of demand 3: the counts of a session that is alive are those of its calls since it began. Table and book count by
-- one rule, so that each alone could be wrong with the other; this counts the answers themselves.
-- Assumes nothing.
use Rattle.std.specs.Prelude.{◌≡◌, ◌≢◌, Bool, true, false, ◌&&◌, List, [], ◌∷◌, ◌++◌, ℕ, ◌+◌, ◌-◌, ◌^◌, ◌≤◌, min, eqb, None, Option, Some}
use Rattle.session_table.specs.Table.{new_table}
use Rattle.session_book.specs.Call.{Call, Answer, refused, opened, Outcome, Decision, early}
use Rattle.session_book.specs.Book.{one}
use Rattle.session_book.specs.Runs.{table_outcome, table_outcomes, table_after}
use Rattle.session_book.specs.Demand3.{Each, Forward, PortFits, last_reading, View, table_session}

-- ---- answers

abbrev pub is_opened : {H : Type 0} → Answer H → Bool
is_opened (refused n) = false
is_opened (opened h) = true

abbrev pub is_repeat : {H : Type 0} → Answer H → Bool
is_repeat (refused n) = eqb n 8
is_repeat (opened h) = false

-- whether a call is of the session of an ID
abbrev pub names : Option ℕ → ℕ → Bool
names None id = false
names (Some i) id = eqb i id

-- how many calls of a session were answered so
abbrev pub answered_so : {H : Type 0} → (Answer H → Bool) → (Call → Option ℕ) → (id : ℕ) → List Call → List (Outcome H) → ℕ
answered_so so belongs id [] os = 0
answered_so so belongs id (c ∷ cs) [] = 0
answered_so so belongs id (c ∷ cs) (o ∷ os) = one (names (belongs c) id && so o.answer) + answered_so so belongs id cs os

-- ---- the statement

module _ {H : Type 0} (decide : Call → Decision H) (belongs : Call → Option ℕ) (R : ℕ) where
  -- the table behind calls from a new one on
  abbrev pub table_behind : List Call → List ℕ
  table_behind cs = table_after decide (new_table R) cs

  -- behind the calls `before`, the call c begins the session of an ID: none is alive at its clock, and it is accepted
  pub record Begins (before : List Call) (c : Call) (id : ℕ) : Type 0 where
    pub its_own : belongs c ≡ Some id
    pub none-alive : table_session (table_behind before) c.clock id ≡ None
    pub accepted : is_opened (table_outcome decide (table_behind before) c).answer ≡ true

  -- the outcomes of the calls since then
  abbrev pub outcomes_since : List Call → Call → List Call → List (Outcome H)
  outcomes_since before first since = table_outcomes decide (table_behind (before ++ first ∷ [])) since

  -- The run is the calls before, the one that began the session, and those since, in which it did not begin again. It accepted that
  -- one and those since that were accepted, and its repeats are those since that were answered 8. Counts stop at 2^64 - 1.
  pub record CountsCalls (cs : List Call) (id accepted repeats : ℕ) : Type 0 where
    pub before : List Call
    pub first : Call
    pub since : List Call
    pub split : cs ≡ before ++ first ∷ since
    pub begins : Begins before first id
    pub not-again : (s₁ s₂ : List Call) (d : Call) → since ≡ s₁ ++ d ∷ s₂ → Begins (before ++ first ∷ s₁) d id → ⊥
    pub accepted-so : accepted ≡ min (1 + answered_so is_opened belongs id since (outcomes_since before first since)) (2 ^ 64 - 1)
    pub repeated-so : repeats ≡ min (answered_so is_repeat belongs id since (outcomes_since before first since)) (2 ^ 64 - 1)

-- no refusal that the arguments decide has the number 8
abbrev pub NoEarlyEight : {H : Type 0} → (Call → Decision H) → Type 0
NoEarlyEight decide = (c : Call) (n : ℕ) (output : List ℕ) → decide c ≡ early n output → n ≢ 8

-- every list of calls whose clock never goes back, from a table just made, and every session alive at its last reading
abbrev pub CallsCounted : {H : Type 0} → (Call → Decision H) → (Call → Option ℕ) → Type 0
CallsCounted decide belongs =
    (R : ℕ) → 60 ≤ R → R ≤ 3600 → (cs : List Call) → Each PortFits cs → Forward cs → (id : ℕ) (v : View)
    → table_session (table_after decide (new_table R) cs) (last_reading cs) id ≡ Some v
    → CountsCalls decide belongs R cs id v.accepted v.repeats
