-- The salt pool as words: the method, then a record for each salt. Any words have a meaning; past the end a word reads as 0.
use Rattle.std.specs.Prelude.{Result, Ok, Err, ℕ, ◌+◌, ◌*◌, Bool, true, false, cond, not, ◌&&◌, ◌||◌, List, [], ◌∷◌, leb, eqb, length, get_or, drop, replicate, None, Option, Some}
use Rattle.std.proofs.lemmas.List.Edits.{sets}
use Rattle.octets.specs.Numbers.{be}
use Rattle.protocol.specs.Method.{method_of}
use Rattle.records.specs.Records.{current, lowest_from}
use Rattle.records.specs.declared.admission.NotAdmitted.{NotAdmitted}
use Rattle.protocol.specs.declared.Method.{Method}
pub use Rattle.records.specs.declared.admission.NotAdmitted.TheVariants.{Replay, Full}

-- the most salts that are kept at a time
abbrev pub capacity : ℕ
capacity = 256

-- a salt is kept while the clock is not past its time, or past it by at most so many seconds
abbrev pub keep_time : ℕ
keep_time = 60

-- ---- the layout: the method, then records of: in use, time, and the salt in four words

abbrev pub record_words : ℕ
record_words = 6

abbrev pub pool_words : ℕ
pool_words = 1 + capacity * record_words

-- where record i begins
abbrev pub start : ℕ → ℕ
start i = 1 + i * record_words

-- a pool of the right length, made for the method
abbrev pub lawful : List ℕ → ℕ → Bool
lawful t method = eqb (length t) pool_words && eqb (get_or t 0 0) method

-- ---- making: the method and zeros

abbrev pub known : Option Method → Bool
known (Some m) = true
known None = false

abbrev pub make_lawful : ℕ → List ℕ → Bool
make_lawful method t = eqb (length t) pool_words && known (method_of method)

abbrev pub new_pool : ℕ → List ℕ
new_pool method = method ∷ replicate (capacity * record_words) 0

abbrev pub made : ℕ → List ℕ → List ℕ
made method t = cond (make_lawful method t) (new_pool method) t

-- ---- a salt in words

-- word k of a salt: its bytes from 8 k on, big-endian; a salt of 16 bytes has zeros for the last two
abbrev pub salt_word : List ℕ → ℕ → ℕ
salt_word salt k = be 8 (drop (8 * k) salt)

abbrev pub salt_words : List ℕ → List ℕ
salt_words salt = salt_word salt 0 ∷ salt_word salt 1 ∷ salt_word salt 2 ∷ salt_word salt 3 ∷ []

-- ---- the records

unfoldable pub kept : List ℕ → (clock i : ℕ) → Bool
kept t clock i = current keep_time clock (get_or t (start i) 0) (get_or t (start i + 1) 0)

-- whether record i has the salt of these words: the last two are read only for a salt of more than 16 bytes
unfoldable pub same_salt : List ℕ → (n : ℕ) → List ℕ → ℕ → Bool
same_salt w n t i =
    (eqb (get_or t (start i + 2) 0) (get_or w 0 0) && eqb (get_or t (start i + 3) 0) (get_or w 1 0))
    && (leb n 16 || (eqb (get_or t (start i + 4) 0) (get_or w 2 0) && eqb (get_or t (start i + 5) 0) (get_or w 3 0)))

-- the place of a salt of n bytes that is kept, by its words, and of the record that a new salt takes
unfoldable pub salt_place : List ℕ → (clock : ℕ) → List ℕ → ℕ → Option ℕ
salt_place t clock w n = lowest_from (λ i. kept t clock i && same_salt w n t i) 0 capacity

unfoldable pub free_place : List ℕ → (clock : ℕ) → Option ℕ
free_place t clock = lowest_from (λ i. not (kept t clock i)) 0 capacity

-- ---- what a salt meets

-- room for it in a record, itself, or no room
abbrev pub Met : Type 0
Met = Result ℕ NotAdmitted

abbrev pub meet_by : Option ℕ → Option ℕ → Met
meet_by (Some i) free = Err Replay
meet_by None (Some i) = Ok i
meet_by None None = Err Full

unfoldable pub meet : List ℕ → (clock : ℕ) → List ℕ → Met
meet t clock salt = meet_by (salt_place t clock (salt_words salt) (length salt)) (free_place t clock)

-- the pool with a salt in place i, every other word as it was
unfoldable pub store : List ℕ → ℕ → (clock : ℕ) → List ℕ → List ℕ
store t i clock salt = sets t (start i) (1 ∷ clock ∷ salt_words salt)
