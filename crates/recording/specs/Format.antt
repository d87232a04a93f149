-- A recording of datagrams: a count (4 bytes), for each entry 15 bytes of contents (offset 4, length 2, direction 1, clock 8),
-- all big-endian, then the bodies back to back. Bytes behind the last body are no part of it.
-- Assumes nothing.
use Rattle.std.specs.Prelude.{◌≡◌, Bool, true, false, cond, List, ℕ, zero, suc, ◌+◌, ◌*◌, ◌≤◌, ◌<◌, leb, eqb, length, get_or, take, drop}
use Rattle.octets.specs.Numbers.{be}
use Rattle.recording.specs.declared.Entry.{Entry}

-- the most entries, the most bytes of a body, and the highest direction, which is unknown
abbrev pub max_entries : ℕ
max_entries = 4096

abbrev pub max_body : ℕ
max_body = 65507

abbrev pub unknown : ℕ
unknown = 2

-- ---- what stands in it

-- the entry whose 15 bytes begin at a place
unfoldable pub entry_at : List ℕ → ℕ → Entry
entry_at s at =
    record {
      offset = be 4 (drop at s);
      len = be 2 (drop (at + 4) s);
      direction = get_or s (at + 6) 0;
      clock = be 8 (drop (at + 7) s);
    }

-- how many entries the recording says it has
abbrev pub count : List ℕ → ℕ
count s = be 4 s

-- the place of entry i; of the count, the end of the contents
abbrev pub place_of : ℕ → ℕ
place_of i = 4 + 15 * i

abbrev pub entry : List ℕ → ℕ → Entry
entry s i = entry_at s (place_of i)

-- the body of entry i
unfoldable pub body : List ℕ → ℕ → List ℕ
body s i = take (entry s i).len (drop (entry s i).offset s)

-- ---- what a well-formed recording is

-- where the body of entry i is to begin: behind the contents and the bodies before it
unfoldable pub start : List ℕ → ℕ → ℕ
start s zero = place_of (count s)
start s (suc i) = start s i + (entry s i).len

-- an entry whose body is to begin at a place
pub record Good (e : Entry) (place : ℕ) : Type 0 where
  pub back-to-back : e.offset ≡ place
  pub short : e.len ≤ max_body
  pub known : e.direction ≤ unknown

pub record WellFormed (s : List ℕ) : Type 0 where
  pub counted : 4 ≤ length s
  pub few : count s ≤ max_entries
  pub contents : place_of (count s) ≤ length s
  pub good : (i : ℕ) → i < count s → Good (entry s i) (start s i)
  pub bodies : start s (count s) ≤ length s

-- ---- the same as a test

unfoldable pub is_good : Entry → ℕ → Bool
is_good e place = cond (eqb e.offset place) (cond (leb e.len max_body) (leb e.direction unknown) false) false

-- n entries from number i on, whose bodies begin at a place, end within the recording
unfoldable pub are_good : List ℕ → ℕ → ℕ → ℕ → Bool
are_good s zero i place = leb place (length s)
are_good s (suc n) i place = elim (is_good (entry s i) place) [ true ↦ are_good s n (i + 1) (place + (entry s i).len) | false ↦ false ]

unfoldable pub is_well_formed : List ℕ → Bool
is_well_formed s =
    cond (leb 4 (length s))
    (cond (leb (count s) max_entries)
    (cond (leb (place_of (count s)) (length s)) (are_good s (count s) 0 (place_of (count s))) false) false) false
