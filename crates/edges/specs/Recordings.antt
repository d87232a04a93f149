-- Recordings: the scope's numbers, the layout of a file, the example of a comparison and a mended file as computed facts, and the
-- orders in which a comparison and mending are refused. Numbers are written out as the scope has them.
-- Assumes nothing.
use Rattle.std.specs.Prelude.{◌≡◌, true, false, List, [], ◌∷◌, ◌++◌, ◌⊎◌, ℕ, ◌≤◌, ◌<◌, T, length, replicate}
use Rattle.recording.specs.declared.Entry.{Entry}
use Rattle.recording.specs.Format.{max_entries, max_body, unknown, entry_at, count, place_of, WellFormed, is_good, is_well_formed}
use Rattle.comparison_text.specs.Text.{max_file, text, printed}
use Rattle.mending.specs.Mend.{mended_entry, mended}
use Rattle.mending.specs.Report.{report, words}
use Rattle.relay.specs.Recordings.{compares_recordings, mends_recording}
use Rattle.edges.specs.Numbers.{Fact, fact, bits, every}

-- ---- a file's layout

abbrev pub fields_of : Entry → List ℕ
fields_of e = e.offset ∷ e.len ∷ e.direction ∷ e.clock ∷ []

-- the contents of an entry whose offset and length have one byte: direction, clock 7
abbrev pub contents : (offset len direction : ℕ) → List ℕ
contents offset len direction = 0 ∷ 0 ∷ 0 ∷ offset ∷ 0 ∷ len ∷ direction ∷ 0 ∷ 0 ∷ 0 ∷ 0 ∷ 0 ∷ 0 ∷ 0 ∷ 7 ∷ []

abbrev pub counted : ℕ → List ℕ
counted n = 0 ∷ 0 ∷ 0 ∷ n ∷ []

-- two entries, of two bytes and of one
abbrev pub two : List ℕ
two = counted 2 ++ (contents 34 2 0 ++ (contents 36 1 2 ++ (97 ∷ 98 ∷ 99 ∷ [])))

abbrev pub entry_of : (offset len direction : ℕ) → Entry
entry_of offset len direction = record { offset = offset; len = len; direction = direction; clock = 7 }

unfoldable pub layout_facts : List Fact
layout_facts =
    fact (max_entries ∷ max_body ∷ unknown ∷ max_file ∷ []) (4096 ∷ 65507 ∷ 2 ∷ 32768 ∷ [])
    ∷ fact (place_of 0 ∷ place_of 2 ∷ []) (4 ∷ 34 ∷ [])
    ∷ fact (count (0 ∷ 0 ∷ 1 ∷ 2 ∷ 255 ∷ []) ∷ []) (258 ∷ [])
    -- offset 4, length 2, direction 1, clock 8 bytes, the first byte highest
    ∷ fact (fields_of (entry_at (9 ∷ 1 ∷ 2 ∷ 3 ∷ 4 ∷ 5 ∷ 6 ∷ 7 ∷ 8 ∷ 9 ∷ 10 ∷ 11 ∷ 12 ∷ 13 ∷ 14 ∷ 15 ∷ []) 1))
    (16909060 ∷ 1286 ∷ 7 ∷ 579005069656919567 ∷ [])
    -- 65,507 and not 65,508; direction 2 and not 3; neither a gap nor an overlap
    ∷ fact (bits (is_good (entry_of 34 65507 2) 34 ∷ is_good (entry_of 34 65508 2) 34 ∷ is_good (entry_of 34 65507 3) 34
    ∷ is_good (entry_of 35 65507 2) 34 ∷ is_good (entry_of 33 65507 2) 34 ∷ [])) (1 ∷ 0 ∷ 0 ∷ 0 ∷ 0 ∷ [])
    -- under 4 bytes; no entries; with bytes behind; whole; one byte short; contents cut; a gap before the first body
    ∷ fact (bits (is_well_formed (0 ∷ 0 ∷ 0 ∷ []) ∷ is_well_formed (counted 0) ∷ is_well_formed (counted 0 ++ (9 ∷ [])) ∷ is_well_formed two
    ∷ is_well_formed (counted 1 ++ (contents 19 1 0)) ∷ is_well_formed (counted 1 ++ (0 ∷ 0 ∷ []))
    ∷ is_well_formed (counted 1 ++ (contents 20 1 0 ++ (9 ∷ 97 ∷ []))) ∷ [])) (0 ∷ 1 ∷ 1 ∷ 1 ∷ 0 ∷ 0 ∷ 0 ∷ [])
    ∷ []

-- ---- the example: two entries against three, the second differing at byte 17

abbrev pub body : ℕ → List ℕ
body x = replicate 17 5 ++ (x ∷ 6 ∷ [])

abbrev pub first : List ℕ
first = counted 2 ++ (contents 34 1 0 ++ (contents 35 19 1 ++ (97 ∷ body 1)))

abbrev pub second : List ℕ
second = counted 3 ++ (contents 49 1 0 ++ (contents 50 19 1 ++ (contents 69 0 2 ++ (97 ∷ body 2))))

unfoldable pub text_facts : List Fact
text_facts =
    -- "entries 2 3", "differ 1 byte 17", "second-only 2", a line each
    fact (printed true first second)
    (101 ∷ 110 ∷ 116 ∷ 114 ∷ 105 ∷ 101 ∷ 115 ∷ 32 ∷ 50 ∷ 32 ∷ 51 ∷ 10
    ∷ 100 ∷ 105 ∷ 102 ∷ 102 ∷ 101 ∷ 114 ∷ 32 ∷ 49 ∷ 32 ∷ 98 ∷ 121 ∷ 116 ∷ 101 ∷ 32 ∷ 49 ∷ 55 ∷ 10
    ∷ 115 ∷ 101 ∷ 99 ∷ 111 ∷ 110 ∷ 100 ∷ 45 ∷ 111 ∷ 110 ∷ 108 ∷ 121 ∷ 32 ∷ 50 ∷ 10 ∷ [])
    -- "entries 2 2", "length 0 1 2", "meta 1"
    ∷ fact (printed true (counted 2 ++ (contents 34 1 0 ++ (contents 35 1 0 ++ (97 ∷ 98 ∷ [])))) two)
    (101 ∷ 110 ∷ 116 ∷ 114 ∷ 105 ∷ 101 ∷ 115 ∷ 32 ∷ 50 ∷ 32 ∷ 50 ∷ 10
    ∷ 108 ∷ 101 ∷ 110 ∷ 103 ∷ 116 ∷ 104 ∷ 32 ∷ 48 ∷ 32 ∷ 49 ∷ 32 ∷ 50 ∷ 10
    ∷ 109 ∷ 101 ∷ 116 ∷ 97 ∷ 32 ∷ 49 ∷ 10 ∷ [])
    -- "entries 1 0", "first-only 0"
    ∷ fact (printed true (counted 1 ++ contents 19 0 0) (counted 0))
    (101 ∷ 110 ∷ 116 ∷ 114 ∷ 105 ∷ 101 ∷ 115 ∷ 32 ∷ 49 ∷ 32 ∷ 48 ∷ 10
    ∷ 102 ∷ 105 ∷ 114 ∷ 115 ∷ 116 ∷ 45 ∷ 111 ∷ 110 ∷ 108 ∷ 121 ∷ 32 ∷ 48 ∷ 10 ∷ [])
    -- "refused 2" of a file that cannot be read, "refused 5" of an ill-formed one
    ∷ fact (printed false first second) (114 ∷ 101 ∷ 102 ∷ 117 ∷ 115 ∷ 101 ∷ 100 ∷ 32 ∷ 50 ∷ 10 ∷ [])
    ∷ fact (printed true first []) (114 ∷ 101 ∷ 102 ∷ 117 ∷ 115 ∷ 101 ∷ 100 ∷ 32 ∷ 53 ∷ 10 ∷ [])
    ∷ []

-- ---- the order of refusals of a comparison: 1, 2, 5, 3

module _ (a b out answer : List ℕ) where
  abbrev pub said : ℕ
  said = (compares_recordings a b out answer).number

  pub record CompareOrder : Type 0 where
    pub settings : (length answer ≡ 9 → ⊥) → said ≡ 1
    pub too_long : length answer ≡ 9 → (32768 < length a) ⊎ (32768 < length b) → said ≡ 2
    pub ill-formed : length answer ≡ 9 → length a ≤ 32768 → length b ≤ 32768 → (WellFormed a → ⊥) ⊎ (WellFormed b → ⊥) → said ≡ 5
    pub no_room : length answer ≡ 9 → length a ≤ 32768 → length b ≤ 32768 → WellFormed a → WellFormed b
        → length out < length (text a b) → said ≡ 3
    pub compared : length answer ≡ 9 → length a ≤ 32768 → length b ≤ 32768 → WellFormed a → WellFormed b
        → length (text a b) ≤ length out → said ≡ 0

-- ---- a mended file: a count of 3 where two fit, an offset, a length past the file and a direction that are none

abbrev pub scrambled : List ℕ
scrambled = counted 3 ++ (contents 9 255 3 ++ (contents 34 2 1 ++ (97 ∷ 98 ∷ [])))

unfoldable pub mend_facts : List Fact
mend_facts =
    fact (mended scrambled) (counted 2 ++ (contents 34 2 2 ++ (contents 36 0 1 ++ (97 ∷ 98 ∷ []))))
    -- entry, field, old and new: the count is entry 4,096 and field 0, then offset 1, length 2 and direction 3
    ∷ fact (words (report scrambled))
    (4096 ∷ 0 ∷ 3 ∷ 2 ∷ 0 ∷ 1 ∷ 9 ∷ 34 ∷ 0 ∷ 2 ∷ 255 ∷ 2 ∷ 0 ∷ 3 ∷ 3 ∷ 2 ∷ 1 ∷ 1 ∷ 34 ∷ 36 ∷ 1 ∷ 2 ∷ 2 ∷ 0 ∷ [])
    -- a file of 4 bytes, and one that is well formed
    ∷ fact (mended (255 ∷ 255 ∷ 255 ∷ 255 ∷ [])) (counted 0)
    ∷ fact (words (report (255 ∷ 255 ∷ 255 ∷ 255 ∷ []))) (4096 ∷ 0 ∷ 4294967295 ∷ 0 ∷ [])
    ∷ fact (mended two ++ words (report two)) two
    -- 65,507 and 4,096 are the most
    ∷ fact ((mended_entry (entry_of 9 65535 255) 19 100000).len ∷ (mended_entry (entry_of 9 65535 255) 19 100000).direction ∷ []) (65507 ∷ 2 ∷ [])
    ∷ []

-- ---- the order of refusals of mending: 1, 2, 3

module _ (file lent answer : List ℕ) where
  abbrev pub told : ℕ
  told = (mends_recording file lent answer).number

  pub record MendOrder : Type 0 where
    pub settings : (length answer ≡ 9 → ⊥) → told ≡ 1
    pub too_short : length answer ≡ 9 → length file < 4 → told ≡ 2
    pub no_room : length answer ≡ 9 → 4 ≤ length file → length lent < length (words (report file)) → told ≡ 3
    pub mends : length answer ≡ 9 → 4 ≤ length file → length (words (report file)) ≤ length lent → told ≡ 0
    -- a refusal changes nothing
    pub kept : (told ≡ 0 → ⊥)
        → mends_recording file lent answer ≡ record { number = told; file = file; report = lent; answer = answer }

pub record Recordings : Type 0 where
  pub layout : T (every layout_facts)
  pub texts : T (every text_facts)
  pub compare-order : (a b out answer : List ℕ) → CompareOrder a b out answer
  pub mending : T (every mend_facts)
  pub mend-order : (file lent answer : List ℕ) → MendOrder file lent answer
