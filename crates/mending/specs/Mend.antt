-- A damaged recording, mended: as many entries as fit, each with a lawful direction and length, and offsets that put the bodies back
-- to back. Clocks and bodies stay as they are.
-- Assumes nothing.
use Rattle.std.specs.Prelude.{List, [], ◌∷◌, ◌++◌, ℕ, zero, suc, ◌+◌, ◌-◌, ◌/◌, min, length}
use Rattle.octets.specs.Buffers.{put}
use Rattle.octets.specs.Numbers.{to_be}
use Rattle.recording.specs.declared.Entry.{Entry}
use Rattle.recording.specs.Format.{max_entries, max_body, unknown, count, place_of, entry}

-- the count: what stands there, or the most whole entries that fit behind it, and 4,096 at most
unfoldable pub mended_count : List ℕ → ℕ
mended_count s = min (count s) (min max_entries ((length s - 4) / 15))

-- an entry whose body is to begin at a place of a file of so many bytes
unfoldable pub mended_entry : Entry → (place size : ℕ) → Entry
mended_entry e place size =
    record {
      offset = place;
      len = min (min e.len max_body) (size - place);
      direction = min e.direction unknown;
      clock = e.clock;
    }

-- the file with an entry's offset, length and direction at a place; its clock is not written
unfoldable pub put_entry : List ℕ → ℕ → Entry → List ℕ
put_entry s at e = put s at (to_be 4 e.offset ++ (to_be 2 e.len ++ (e.direction ∷ [])))

-- the file with its count written
abbrev pub put_count : List ℕ → ℕ → List ℕ
put_count s n = put s 0 (to_be 4 n)

-- entry i of the file, mended
abbrev pub mended_at : List ℕ → (i place : ℕ) → Entry
mended_at s i place = mended_entry (entry s i) place (length s)

-- n entries mended from number i on, the first one's body to begin at a place
unfoldable pub mended_from : ℕ → List ℕ → (i place : ℕ) → List ℕ
mended_from zero s i place = s
mended_from (suc n) s i place =
    mended_from n (put_entry s (place_of i) (mended_at s i place)) (i + 1) (place + (mended_at s i place).len)

-- the mended recording, of a file of 4 bytes at least
unfoldable pub mended : List ℕ → List ℕ
mended s = mended_from (mended_count s) (put_count s (mended_count s)) 0 (place_of (mended_count s))
