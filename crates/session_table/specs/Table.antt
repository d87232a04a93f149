-- The session table as words, and what a packet ID meets there. Any words have a meaning; past the end a word reads as 0.
use Rattle.std.specs.Prelude.{Result, Ok, Err, ℕ, ◌+◌, ◌*◌, ◌/◌, ◌%◌, ◌^◌, Bool, true, false, cond, not, ◌&&◌, List, [], ◌∷◌, eqb, length, get_or, set, replicate, None, Option, Some}
use Rattle.std.proofs.lemmas.List.Edits.{sets}
use Rattle.records.specs.Records.{current, lowest_from}
use Rattle.session_window.specs.Window.{join4}
use Rattle.session_record.specs.declared.Peer.{Peer}
use Rattle.records.specs.declared.admission.NotAdmitted.{NotAdmitted}
pub use Rattle.records.specs.declared.admission.NotAdmitted.TheVariants.{Replay, Full}
pub use Rattle.retention.specs.Retention.{in_range, made_retention, lawful_retention}
use Rattle.session_table.specs.Sizes.{capacity}
use Rattle.session_record.specs.Record.{one_more}
pub use Rattle.session_record.specs.Record.{Record, fresh_in, marked_with, accept_in, new_record}

-- ---- the layout: R, then a record of `record_words` words for each session

abbrev pub record_words : ℕ
record_words = 13

abbrev pub table_words : ℕ
table_words = 1 + capacity * record_words

-- where record i begins
abbrev pub start : ℕ → ℕ
start i = 1 + i * record_words

abbrev pub retention : List ℕ → ℕ
retention t = get_or t 0 0

-- a table of the right length, its R in range
abbrev pub lawful : List ℕ → Bool
lawful t = eqb (length t) table_words && in_range (retention t)

-- ---- making: R and zeros; 0 stands for the default

abbrev pub new_table : ℕ → List ℕ
new_table R = R ∷ replicate (capacity * record_words) 0

abbrev pub make_lawful : ℕ → List ℕ → Bool
make_lawful R t = eqb (length t) table_words && lawful_retention R

abbrev pub made : ℕ → List ℕ → List ℕ
made R t = cond (make_lawful R t) (new_table (made_retention R)) t

-- ---- a record

abbrev pub record_at : List ℕ → ℕ → Record
record_at t i =
    record {
      used = get_or t (start i) 0;
      id = get_or t (start i + 1) 0;
      h = get_or t (start i + 2) 0;
      last = get_or t (start i + 3) 0;
      marks = join4 (get_or t (start i + 4) 0) (get_or t (start i + 5) 0) (get_or t (start i + 6) 0) (get_or t (start i + 7) 0);
      peer = record { first = get_or t (start i + 8) 0; second = get_or t (start i + 9) 0; port = get_or t (start i + 10) 0 % 2 ^ 16 };
      accepted = get_or t (start i + 11) 0;
      repeats = get_or t (start i + 12) 0;
    }

abbrev pub words_of : Record → List ℕ
words_of r =
    r.used ∷ r.id ∷ r.h ∷ r.last
    ∷ r.marks % 2 ^ 64 ∷ r.marks / 2 ^ 64 % 2 ^ 64 ∷ r.marks / 2 ^ 64 / 2 ^ 64 % 2 ^ 64 ∷ r.marks / 2 ^ 64 / 2 ^ 64 / 2 ^ 64 % 2 ^ 64
    ∷ r.peer.first ∷ r.peer.second ∷ r.peer.port ∷ r.accepted ∷ r.repeats ∷ []

-- the table with a record in place i, every other word as it was
abbrev pub store : List ℕ → ℕ → Record → List ℕ
store t i r = sets t (start i) (words_of r)

-- the table with one repeat more in record i: that word alone, every other one as it was
abbrev pub repeated : List ℕ → ℕ → List ℕ
repeated t i = set t (start i + 12) (one_more (get_or t (start i + 12) 0))

-- ---- the search

abbrev pub lowest : (ℕ → Bool) → Option ℕ
lowest f = lowest_from f 0 capacity

abbrev pub live : (R clock : ℕ) → Record → Bool
live R clock r = current R clock r.used r.last

abbrev pub holds : (R clock id : ℕ) → Record → Bool
holds R clock id r = live R clock r && eqb r.id id

-- the place of the record for an ID, and of the record that a new session takes
unfoldable pub session_place : List ℕ → (clock id : ℕ) → Option ℕ
session_place t clock id = lowest (λ i. holds (retention t) clock id (record_at t i))

unfoldable pub free_place : List ℕ → (clock : ℕ) → Option ℕ
free_place t clock = lowest (λ i. not (live (retention t) clock (record_at t i)))

-- whether a session of an ID is alive
abbrev pub is_place : Option ℕ → Bool
is_place (Some i) = true
is_place None = false

unfoldable pub taken : List ℕ → (clock id : ℕ) → Bool
taken t clock id = is_place (session_place t clock id)

-- ---- what a packet ID meets: the record that it leaves, a repeat in a session's record, or no room

pub data Entry : Type 0 where
  stores : (i : ℕ) → Record → Entry
  replay : (i : ℕ) → Entry
  full : Entry

abbrev pub meet_by : Option ℕ → Option ℕ → List ℕ → (clock : ℕ) → Peer → (id p : ℕ) → Entry
meet_by (Some i) free t clock a id p = cond (fresh_in (record_at t i) p) (stores i (accept_in clock a p (record_at t i))) (replay i)
meet_by None (Some i) t clock a id p = stores i (new_record clock a id p)
meet_by None None t clock a id p = full

unfoldable pub meet : List ℕ → (clock : ℕ) → Peer → (id p : ℕ) → Entry
meet t clock a id p = meet_by (session_place t clock id) (free_place t clock) t clock a id p

-- what becomes of the table, and the answer
abbrev pub keep : Entry → List ℕ → List ℕ
keep (stores i r) t = store t i r
keep (replay i) t = repeated t i
keep full t = t

abbrev pub Admitted : Type 0
Admitted = Result (Unit {0}) NotAdmitted

abbrev pub admitted : Entry → Admitted
admitted (stores i r) = Ok tt
admitted (replay i) = Err Replay
admitted full = Err Full
