-- A file of settings: edition and count (2 bytes each), for each setting 6 bytes of contents (number, offset in the file and length, 2
-- each), all big-endian, then the bodies back to back, and 32 bytes of hash.
use Rattle.std.specs.Prelude.{◌≡◌, Bool, true, false, ◌&&◌, List, ℕ, zero, suc, ◌+◌, ◌-◌, ◌*◌, ◌≤◌, ◌<◌, leb, eqb, length, take, drop}
use Rattle.octets.specs.Numbers.{be}
use Rattle.settings_rules.specs.Contents.{Contents, Lawful, all_lawful}
use Rattle.settings_file.specs.declared.Entry.{Entry}

abbrev pub hash_length : ℕ
hash_length = 32

-- the shortest and the longest file
abbrev pub min_file : ℕ
min_file = 36

abbrev pub max_file : ℕ
max_file = 65535

-- ---- what stands in it

abbrev pub edition : List ℕ → ℕ
edition s = be 2 s

-- how many settings the file says it has
abbrev pub count : List ℕ → ℕ
count s = be 2 (drop 2 s)

-- the place of entry i; of the count, the end of the contents
abbrev pub place_of : ℕ → ℕ
place_of i = 4 + 6 * i

-- the entry whose 6 bytes begin at a place
unfoldable pub entry_at : List ℕ → ℕ → Entry
entry_at s at = record { number = be 2 (drop at s); offset = be 2 (drop (at + 2) s); len = be 2 (drop (at + 4) s) }

abbrev pub entry : List ℕ → ℕ → Entry
entry s i = entry_at s (place_of i)

-- the body of entry i
unfoldable pub body : List ℕ → ℕ → List ℕ
body s i = take (entry s i).len (drop (entry s i).offset s)

abbrev pub contents_of : List ℕ → Contents
contents_of s = record { size = count s; number = λ i. (entry s i).number; body = body s }

-- where the hash begins
abbrev pub hash_place : List ℕ → ℕ
hash_place s = length s - hash_length

-- ---- what a well-made file is

-- where the body of entry i is to begin: behind the contents and the bodies before it
unfoldable pub start : List ℕ → ℕ → ℕ
start s zero = place_of (count s)
start s (suc i) = start s i + (entry s i).len

-- the contents end before the hash, and the bodies stand back to back from there up to it
pub record InRow (s : List ℕ) : Type 0 where
  pub contents : place_of (count s) ≤ hash_place s
  pub back-to-back : (i : ℕ) → i < count s → (entry s i).offset ≡ start s i
  pub ends : start s (count s) ≡ hash_place s

pub record WellMade (s : List ℕ) : Type 0 where
  pub in_row : InRow s
  pub lawful : Lawful (contents_of s)

-- ---- the same as a test

-- n bodies from number i on begin at a place and follow each other up to the hash
unfoldable pub follow : List ℕ → (n i place : ℕ) → Bool
follow s zero i place = eqb place (hash_place s)
follow s (suc n) i place = elim (eqb (entry s i).offset place) [ true ↦ follow s n (i + 1) (place + (entry s i).len) | false ↦ false ]

unfoldable pub is_in_row : List ℕ → Bool
is_in_row s = leb (place_of (count s)) (hash_place s) && follow s (count s) 0 (place_of (count s))

unfoldable pub is_well_made : List ℕ → Bool
is_well_made s = is_in_row s && all_lawful (contents_of s)
