-- What a difference says of two recordings at an index: `Says a b i d` is what d claims of a and b at index i. What is told of
-- well-formed recordings is true (`real`), and nothing is told exactly of equal entries (`same-exactly`).
-- Assumes nothing.
use Rattle.std.specs.Prelude.{◌≡◌, List, ◌⊎◌, ℕ, ◌≤◌, ◌<◌, get_or}
use Rattle.recording.specs.Format.{count, entry, body}
use Rattle.comparison.specs.declared.Difference.{Difference}
use Rattle.comparison.specs.declared.Difference.TheVariants.{Same, Length, Meta, Byte, FirstOnly, SecondOnly}

-- both have an entry there
pub record Both (a b : List ℕ) (i : ℕ) : Type 0 where
  pub first : i < count a
  pub second : i < count b

-- of one length
pub record SameLength (a b : List ℕ) (i : ℕ) : Type 0 where
  pub both : Both a b i
  pub len : (entry a i).len ≡ (entry b i).len

-- and of one direction and clock
pub record SameMeta (a b : List ℕ) (i : ℕ) : Type 0 where
  pub lengths : SameLength a b i
  pub direction : (entry a i).direction ≡ (entry b i).direction
  pub clock : (entry a i).clock ≡ (entry b i).clock

-- the first byte that differs is at p
pub record FirstByte (a b : List ℕ) (i p : ℕ) : Type 0 where
  pub meta : SameMeta a b i
  pub inside : p < (entry a i).len
  pub before : (k : ℕ) → k < p → get_or (body a i) k 0 ≡ get_or (body b i) k 0
  pub differs : get_or (body a i) p 0 ≡ get_or (body b i) p 0 → ⊥

-- equal in length, direction, clock and body
pub record Equal (a b : List ℕ) (i : ℕ) : Type 0 where
  pub meta : SameMeta a b i
  pub bytes : body a i ≡ body b i

abbrev pub Says : List ℕ → List ℕ → ℕ → Difference → Type 0
Says a b i Same = Equal a b i ⊎ ((count a ≤ i) × (count b ≤ i))
Says a b i (Length x y) = Both a b i × (x ≡ (entry a i).len) × (y ≡ (entry b i).len) × (x ≡ y → ⊥)
Says a b i Meta = SameLength a b i × (SameMeta a b i → ⊥)
Says a b i (Byte p) = FirstByte a b i p
Says a b i FirstOnly = (i < count a) × (count b ≤ i)
Says a b i SecondOnly = (count a ≤ i) × (i < count b)
