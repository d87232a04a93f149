-- No byte string is accepted twice, though its session may have been forgotten and begun again between: over what a call's arguments
-- decide. And the run that breaks it, were a retention of 59 not refused. The numbers 60 and 30 are written out: they meet here.
-- Assumes nothing.
use Rattle.std.specs.Prelude.{◌≡◌, ◌≢◌, cond, List, [], ◌∷◌, ℕ, ◌+◌, ◌≤◌}
use Rattle.session_table.specs.Table.{new_table}
use Rattle.session_book.specs.Call.{Call, refused, Outcome, Decision, reaches, opened_outcome, refused_outcome}
use Rattle.session_book.specs.Book.{book_outcomes}
use Rattle.session_book.specs.Runs.{table_outcome_by, table_next_by, table_outcomes}
use Rattle.session_book.specs.Demand3.{Each, Pairs, clocks, Forward, PortFits}
use Rattle.session_book.specs.Counts.{is_opened}

-- ---- what is accepted

-- the datagrams of the calls that were accepted, in order
abbrev pub accepted : {H : Type 0} → List Call → List (Outcome H) → List (List ℕ)
accepted [] os = []
accepted (c ∷ cs) [] = []
accepted (c ∷ cs) (o ∷ os) = cond (is_opened o.answer) (c.datagram ∷ accepted cs os) (accepted cs os)

-- no two of them are equal
abbrev pub Once : {H : Type 0} → List Call → List (Outcome H) → Type 0
Once cs os = Pairs (λ a b. a ≢ b) (accepted cs os)

-- ---- what it rests on

-- the most seconds between a datagram's time and the clock that accepts it
abbrev pub apart : ℕ
apart = 30

-- A call that reaches the window with a session ID and a packet ID: these are what its bytes give under the key, and so is a time that
-- is valid at its clock.
pub record StampedAs (id_of packet_of stamp_of : List ℕ → ℕ) (c : Call) (id packet : ℕ) : Type 0 where
  pub its-id : id ≡ id_of c.datagram
  pub its-packet : packet ≡ packet_of c.datagram
  pub not-ahead : stamp_of c.datagram ≤ c.clock + apart
  pub not_behind : c.clock ≤ stamp_of c.datagram + apart

pub record Stamped {H : Type 0} (decide : Call → Decision H) : Type 0 where
  pub id_of : List ℕ → ℕ
  pub packet_of : List ℕ → ℕ
  pub stamp_of : List ℕ → ℕ
  pub reaching : (c : Call) (id p : ℕ) (header : H) (plaintext : List ℕ) → decide c ≡ reaches id p header plaintext
      → StampedAs id_of packet_of stamp_of c id p

-- a session is remembered for as long as a datagram of it can be timely: 30 seconds before its time to 30 seconds after it
abbrev pub LongEnough : ℕ → Type 0
LongEnough R = 60 ≤ R

-- a later call's clock is not before an earlier one's
abbrev pub NotBefore : ℕ → ℕ → Type 0
NotBefore a b = a ≤ b

-- ---- the statements

abbrev pub BookOnce : {H : Type 0} → (Call → Decision H) → Type 0
BookOnce decide = (R : ℕ) → LongEnough R → (cs : List Call) → Pairs NotBefore (clocks cs) → Once cs (book_outcomes decide R [] cs)

abbrev pub TableOnce : {H : Type 0} → (Call → Decision H) → Type 0
TableOnce decide =
    (R : ℕ) → 60 ≤ R → R ≤ 3600 → (cs : List Call) → Each PortFits cs → Forward cs → Once cs (table_outcomes decide (new_table R) cs)

-- ---- why not 59

abbrev pub too_short : ℕ
too_short = 59

module _ {H : Type 0} (decide : Call → Decision H) where
  -- calls on the table without the test that refuses its R
  abbrev pub untested_outcomes : List ℕ → List Call → List (Outcome H)
  untested_outcomes t [] = []
  untested_outcomes t (c ∷ cs) = table_outcome_by (decide c) t c ∷ untested_outcomes (table_next_by (decide c) t c) cs

  -- it follows the book for every R, lawful or not
  abbrev pub UntestedFollowsBook : Type 0
  UntestedFollowsBook = (R : ℕ) (cs : List Call) → Each PortFits cs → Forward cs → untested_outcomes (new_table R) cs ≡ book_outcomes decide R [] cs

  -- the outcomes of two calls where both are accepted, where the second is a repeat, and where both are refused for their R
  abbrev pub both_accepted : (first again : Call) → H → List ℕ → List (Outcome H)
  both_accepted first again header plaintext = opened_outcome first header plaintext ∷ opened_outcome again header plaintext ∷ []

  abbrev pub second_repeats : (first again : Call) → H → List ℕ → List (Outcome H)
  second_repeats first again header plaintext = opened_outcome first header plaintext ∷ refused_outcome again 8 plaintext ∷ []

  abbrev pub both_unlawful : (first again : Call) → List (Outcome H)
  both_unlawful first again = record { answer = refused 1; output = first.output } ∷ record { answer = refused 1; output = again.output } ∷ []

  -- One datagram, at clock 1,000 and again at 1,060, with a retention that is too short and with the shortest that is lawful.
  pub record Breaks (first again : Call) (header : H) (plaintext : List ℕ) : Type 0 where
    -- the book accepts it twice, and so would the table
    pub book-59 : book_outcomes decide too_short [] (first ∷ again ∷ []) ≡ both_accepted first again header plaintext
    pub table-59 : untested_outcomes (new_table too_short) (first ∷ again ∷ []) ≡ both_accepted first again header plaintext
    pub not-once : Once (first ∷ again ∷ []) (book_outcomes decide too_short [] (first ∷ again ∷ [])) → ⊥
    -- so the table refuses 59
    pub refused-59 : table_outcomes decide (new_table 59) (first ∷ again ∷ []) ≡ both_unlawful first again
    -- with 60 the second call is a repeat
    pub book-60 : book_outcomes decide 60 [] (first ∷ again ∷ []) ≡ second_repeats first again header plaintext
    pub table-60 : table_outcomes decide (new_table 60) (first ∷ again ∷ []) ≡ second_repeats first again header plaintext

  abbrev pub BreaksAt59 : Type 0
  BreaksAt59 =
      (first again : Call) (id p : ℕ) (header : H) (plaintext : List ℕ) → first.clock ≡ 1000 → again.clock ≡ 1060
      → first.datagram ≡ again.datagram → decide first ≡ reaches id p header plaintext → decide again ≡ reaches id p header plaintext
      → PortFits first → PortFits again → Breaks first again header plaintext
