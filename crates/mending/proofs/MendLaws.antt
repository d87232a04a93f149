-- A file whose entries are mended one after another: what stays, what each entry is then, and that it is good.
-- Assumes nothing.
use mathlib.Core.Path.{◌≡◌, refl, ap, ◌∙◌}
use mathlib.Core.Bool.{true}
use mathlib.Core.List.{List}
use mathlib.Core.Logic.{inl}
use Prim.Native.Nat.{ℕ, zero, suc, ◌+◌, ◌-◌, ◌*◌, ◌/◌, ◌≤◌, ◌<◌, min}
use native.Mathlib.Omega.{arith}
use lib.ListN.{length, get_or}
use borrow.Author.Tests.{le-leb}
use Rattle.recording.specs.declared.Entry.{Entry}
use Rattle.recording.specs.Format.{count, place_of, entry, is_good, are_good}
use Rattle.recording.proofs.EntryLaws.{step}
use Rattle.recording.proofs.WellFormedLaws.{passes}
use Rattle.mending.specs.Mend.{mended_count, mended_entry, put_entry, mended_at, mended_from}
use Rattle.mending.proofs.PutLaws.{Outside, entry-same, length-entry, entry-else, entry-back}

-- the file after one entry
abbrev pub next : List ℕ → (i place : ℕ) → List ℕ
next s i place = put_entry s (place_of i) (mended_at s i place)

-- ---- one entry

module _ (e : Entry) (place size : ℕ) where
  pub len-small : ((mended_entry e place size).len ≤ 65507) × ((mended_entry e place size).len ≤ size - place)
  unfolding mended_entry
  len-small = (least e.len (size - place), least' e.len (size - place))
    where
      least : (a b : ℕ) → min (min a 65507) b ≤ 65507
      least a b = omega arith

      least' : (a b : ℕ) → min (min a 65507) b ≤ b
      least' a b = omega arith

  direction-small : (mended_entry e place size).direction ≤ 2
  unfolding mended_entry
  direction-small = least e.direction
    where
      least : (a : ℕ) → min a 2 ≤ 2
      least a = omega arith

  pub offset-is : (mended_entry e place size).offset ≡ place
  unfolding mended_entry
  offset-is = refl

  pub clock-is : e.clock ≡ (mended_entry e place size).clock
  unfolding mended_entry
  clock-is = refl

  pub mended-good : is_good (mended_entry e place size) place ≡ true
  mended-good =
      passes (mended_entry e place size) place (record { back-to-back = offset-is; short = len-small.0; known = direction-small })

-- ---- what stays

pub length_from : (n : ℕ) (s : List ℕ) (i place : ℕ) → place_of (i + n) ≤ length s → length (mended_from n s i place) ≡ length s
unfolding mended_from
length_from zero s i place h = refl
length_from (suc n) s i place h =
    let z = length-entry s (place_of i) (mended_at s i place) (omega arith) in
    length_from n (next s i place) (i + 1) (place + (mended_at s i place).len) (omega arith) ∙ z

-- a byte outside the seven of each entry
pub stays : (n : ℕ) (s : List ℕ) (i place p : ℕ) → place_of (i + n) ≤ length s → ((j : ℕ) → i ≤ j → j < i + n → Outside p (place_of j) 7)
    → get_or (mended_from n s i place) p 0 ≡ get_or s p 0
unfolding mended_from
stays zero s i place p h f = refl
stays (suc n) s i place p h f =
    let z = length-entry s (place_of i) (mended_at s i place) (omega arith) in
    stays n (next s i place) (i + 1) (place + (mended_at s i place).len) p (omega arith) (λ j a b. f j (omega arith) (omega arith))
    ∙ entry-else s (place_of i) (mended_at s i place) (omega arith) p (f i (omega arith) (omega arith))

-- ---- what an entry is then

module _ (s : List ℕ) (n i place : ℕ) (fits : place_of (i + suc n) ≤ length s) (low : place < 4294967296) where
  abbrev then : List ℕ
  then = mended_from n (next s i place) (i + 1) (place + (mended_at s i place).len)

  pub entry-is : entry then i ≡ mended_at s i place
  entry-is =
      let z = length-entry s (place_of i) (mended_at s i place) (omega arith) in
      entry-same (next s i place) then (place_of i)
      (λ p a b. stays n (next s i place) (i + 1) (place + (mended_at s i place).len) p (omega arith) (λ j c d. inl (omega arith)))
      ∙ entry-back s (place_of i) (mended_at s i place) (omega arith)
      (omega (arith, offset-is (entry s i) place (length s)))
      (omega (arith, (len-small (entry s i) place (length s)).0))
      (clock-is (entry s i) place (length s))

pub all-good : (n : ℕ) (s : List ℕ) (i place : ℕ) → i + n ≤ 4096 → place_of (i + n) ≤ length s → place ≤ length s → place ≤ 61444 + 65507 * i
    → are_good (mended_from n s i place) n i place ≡ true
unfolding are_good mended_from
all-good zero s i place f c h g = le-leb place (length s) h
all-good (suc n) s i place f c h g =
    let t = mended_from n (next s i place) (i + 1) (place + (mended_at s i place).len) in
    let e : entry t i ≡ mended_at s i place = entry-is s n i place c (omega arith) in
    let z = length-entry s (place_of i) (mended_at s i place) (omega arith) in
    let small = len-small (entry s i) place (length s) in
    step t n i place true (ap (λ (x : Entry). is_good x place) e ∙ mended-good (entry s i) place (length s))
    ∙ ap (λ (x : Entry). are_good t n (i + 1) (place + x.len)) e
    ∙ all-good n (next s i place) (i + 1) (place + (mended_at s i place).len) (omega arith) (omega arith)
    (omega (arith, z, small.1)) (omega (arith, small.0))

pub count_small : (s : List ℕ) → 4 ≤ length s → (mended_count s ≤ 4096) × (place_of (mended_count s) ≤ length s)
unfolding mended_count
count_small s h = (least (count s) (length s), fit (count s) (length s) h)
  where
    least : (a l : ℕ) → min a (min 4096 ((l - 4) / 15)) ≤ 4096
    least a l = omega arith

    fit : (a l : ℕ) → 4 ≤ l → 4 + 15 * min a (min 4096 ((l - 4) / 15)) ≤ l
    fit a l h = omega arith
