-- The settings of a file, or those that one is to have: how many, and the number and the body of each. What they have to be, and
-- where one stands.
use Rattle.std.specs.Prelude.{◌≡◌, Bool, true, false, ◌&&◌, List, ℕ, zero, suc, ◌+◌, ◌<◌, eqb, leb, Option}
use Rattle.records.specs.Records.{lowest_from}
use Rattle.settings_rules.specs.Rules.{is_unknown, lawful}

pub record Contents : Type 0 where
  pub size : ℕ
  pub number : ℕ → ℕ
  pub body : ℕ → List ℕ

-- numbers rise, and the body of each that is known is lawful
pub record Lawful (t : Contents) : Type 0 where
  pub rising : (i : ℕ) → i + 1 < t.size → t.number i < t.number (i + 1)
  pub bodies : (i : ℕ) → i < t.size → lawful (t.number i) (t.body i) ≡ true

-- ---- the same as a test

-- setting i, whose number is to be at least `least`
abbrev pub is_lawful : Contents → (i least : ℕ) → Bool
is_lawful t i least = leb least (t.number i) && lawful (t.number i) (t.body i)

-- n settings from i on
unfoldable pub are_lawful : Contents → (n i least : ℕ) → Bool
are_lawful t zero i least = true
are_lawful t (suc n) i least = elim (is_lawful t i least) [ true ↦ are_lawful t n (i + 1) (t.number i + 1) | false ↦ false ]

abbrev pub all_lawful : Contents → Bool
all_lawful t = are_lawful t t.size 0 0

-- ---- where one stands

-- the setting of a number
unfoldable pub index_of : Contents → ℕ → Option ℕ
index_of t k = lowest_from (λ i. eqb (t.number i) k) 0 t.size

-- the first whose number is unknown; where numbers rise, that is the lowest
unfoldable pub first_unknown : Contents → Option ℕ
first_unknown t = lowest_from (λ i. is_unknown (t.number i)) 0 t.size
