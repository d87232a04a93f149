-- What mending changed: each field whose number is another one afterwards, in file order.
-- Assumes nothing.
use Rattle.std.specs.Prelude.{◌≡◌, cond, List, [], ◌∷◌, ◌++◌, ◌⊎◌, ℕ, zero, suc, ◌+◌, ◌*◌, ◌≤◌, ◌<◌, leb, eqb, length}
use Rattle.recording.specs.Format.{count, entry}
use Rattle.mending.specs.Mend.{mended_at, mended}
-- what crate `mending_report` has of this, passed on
pub use Rattle.mending_report.specs.Changes.{Change}
unfoldable pub use Rattle.mending_report.specs.Changes.{changed, entry_changes, words}

-- the count's entry, as it is reported
abbrev pub of_count : ℕ
of_count = 4096

-- of n entries from number i on, of the file s that is t now
unfoldable pub changes_from : ℕ → (s t : List ℕ) → ℕ → List Change
changes_from zero s t i = []
changes_from (suc n) s t i = entry_changes i (entry s i) (entry t i) ++ changes_from n s t (i + 1)

-- of the file s that is t now: the count, then the entries that t has
unfoldable pub changes : (s t : List ℕ) → List Change
changes s t = changed of_count 0 (count s) (count t) ++ changes_from (count t) s t 0

abbrev pub report : List ℕ → List Change
report s = changes s (mended s)

-- 2 for a file under 4 bytes, then 3 for a report of fewer words than are due, and 0 where the file is mended
unfoldable pub refusal : List ℕ → ℕ → ℕ
refusal s room = cond (leb 4 (length s)) (cond (leb (length (words (report s))) room) 0 3) 2

-- ---- what the report says

-- the number of a field in a file
abbrev pub number_of : List ℕ → (i field : ℕ) → ℕ
number_of s i zero = count s
number_of s i (suc zero) = (entry s i).offset
number_of s i (suc (suc zero)) = (entry s i).len
number_of s i (suc (suc (suc field))) = (entry s i).direction

-- a field of a file of n entries: the count, or offset, length or direction of an entry
abbrev pub IsField : (n i field : ℕ) → Type 0
IsField n i field = ((i ≡ of_count) × (field ≡ 0)) ⊎ ((i < n) × (1 ≤ field) × (field ≤ 3))

-- a change is among those of a list
abbrev pub In : Change → List Change → Type 0
In c [] = ⊥
In c (b ∷ bs) = (c ≡ b) ⊎ In c bs

-- c tells truly of a field whose number is another one in t than in s
pub record IsChange (s t : List ℕ) (c : Change) : Type 0 where
  pub is_field : IsField (count t) c.entry c.field
  pub was : c.old ≡ number_of s c.entry c.field
  pub is : c.new ≡ number_of t c.entry c.field
  pub differs : c.old ≡ c.new → ⊥

-- a field's place in file order: the count, then the fields of each entry
abbrev pub order_of : Change → ℕ
order_of c = cond (eqb c.field 0) 0 (3 * c.entry + c.field)

-- each stands behind the one before it
abbrev pub Rising : ℕ → List Change → Type 0
Rising k [] = Unit {0}
Rising k (c ∷ cs) = (k ≤ order_of c) × Rising (order_of c + 1) cs

-- a change is reported exactly where a field's number is another one in the mended file; each field once, in file order
pub record ReportExactly (s : List ℕ) : Type 0 where
  pub exactly : (c : Change) → (In c (report s) → IsChange s (mended s) c) × (IsChange s (mended s) c → In c (report s))
  pub in_order : Rising 0 (report s)

-- ---- the same as it is found while mending

-- of n entries from number i on, the first one's body to begin at a place
unfoldable pub report_from : ℕ → List ℕ → (i place : ℕ) → List Change
report_from zero s i place = []
report_from (suc n) s i place =
    entry_changes i (entry s i) (mended_at s i place) ++ report_from n s (i + 1) (place + (mended_at s i place).len)
