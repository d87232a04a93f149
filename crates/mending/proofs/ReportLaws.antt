-- The report: what is found while mending is what differs between the file before and after.
-- Assumes nothing.
use mathlib.Core.Path.{◌≡◌, refl, sym, ap, ◌∙◌}
use mathlib.Core.List.{List, [], ◌++◌}
use mathlib.Core.Logic.{inr}
use Prim.Native.Nat.{ℕ, zero, suc, ◌+◌, ◌*◌, ◌-◌, ◌≤◌, ◌<◌}
use native.Mathlib.Omega.{arith}
use lib.ListN.{length, get_or}
use Rattle.recording.specs.Format.{count, place_of, entry}
use Rattle.mending.specs.Mend.{mended_count, mended_entry, mended_at, put_count, mended_from, mended}
use Rattle.mending.specs.Report.{Change, of_count, changed, entry_changes, changes_from, changes, report, report_from}
use Rattle.mending.proofs.PutLaws.{entry-same, length-entry, entry-else, length-count, count-else}
use Rattle.mending.proofs.MendLaws.{next, len-small, entry-is, count_small}
use Rattle.mending.proofs.Theorems.{count-mended}
-- what crate `mending_report` has of this, passed on
pub use Rattle.mending_report.proofs.ChangeLaws.{words_append, length-words, unchanged, is-changed, as_many, entry_length}

-- ---- files of the same entries

module _ (s s' : List ℕ) where
  entry-alike : (i : ℕ) → ((p : ℕ) → place_of i ≤ p → get_or s' p 0 ≡ get_or s p 0) → entry s' i ≡ entry s i
  entry-alike i h = entry-same s s' (place_of i) (λ p a b. h p a)

  changes-alike : (n : ℕ) (t : List ℕ) (i : ℕ) → ((p : ℕ) → place_of i ≤ p → get_or s' p 0 ≡ get_or s p 0)
      → changes_from n s' t i ≡ changes_from n s t i
  unfolding changes_from
  changes-alike zero t i h = refl
  changes-alike (suc n) t i h =
      λ k. entry_changes i (entry-alike i h k) (entry t i) ++ changes-alike n t (i + 1) (λ p a. h p (omega arith)) k

  pub report-alike : (n i place : ℕ) → length s' ≡ length s → ((p : ℕ) → place_of i ≤ p → get_or s' p 0 ≡ get_or s p 0)
      → report_from n s' i place ≡ report_from n s i place
  unfolding report_from
  report-alike zero i place l h = refl
  report-alike (suc n) i place l h =
      let e : mended_at s' i place ≡ mended_at s i place = λ k. mended_entry (entry-alike i h k) place (l k) in
      (λ k. entry_changes i (entry-alike i h k) (e k) ++ report_from n s' (i + 1) (place + (e k).len))
      ∙ ap (λ (x : List Change). entry_changes i (entry s i) (mended_at s i place) ++ x)
      (report-alike n (i + 1) (place + (mended_at s i place).len) l (λ p a. h p (omega arith)))

-- an entry that was written leaves those behind it
module _ (s : List ℕ) (i place : ℕ) (h : place_of i + 15 ≤ length s) where
  behind : (p : ℕ) → place_of (i + 1) ≤ p → get_or (next s i place) p 0 ≡ get_or s p 0
  behind p a = entry-else s (place_of i) (mended_at s i place) h p (inr (omega arith))

  pub rest-alike : (n at : ℕ) → report_from n (next s i place) (i + 1) at ≡ report_from n s (i + 1) at
  rest-alike n at =
      report-alike s (next s i place) n (i + 1) at (length-entry s (place_of i) (mended_at s i place) h) behind

-- ---- what is found is what differs

found : (n : ℕ) (s : List ℕ) (i place : ℕ) → i + n ≤ 4096 → place_of (i + n) ≤ length s → place ≤ 61444 + 65507 * i
    → changes_from n s (mended_from n s i place) i ≡ report_from n s i place
unfolding changes_from mended_from report_from
found zero s i place f c g = refl
found (suc n) s i place f c g =
    let at = place + (mended_at s i place).len in
    let t = mended_from n (next s i place) (i + 1) at in
    let fits : place_of i + 15 ≤ length s = omega arith in
    let z = length-entry s (place_of i) (mended_at s i place) fits in
    let rest : changes_from n s t (i + 1) ≡ report_from n s (i + 1) at =
    sym (changes-alike s (next s i place) n t (i + 1) (behind s i place fits))
    ∙ found n (next s i place) (i + 1) at (omega arith) (omega (arith, z))
    (omega (arith, (len-small (entry s i) place (length s)).0))
    ∙ rest-alike s i place fits n at in
    λ k. entry_changes i (entry s i) (entry-is s n i place c (omega arith) k) ++ rest k

module _ (s : List ℕ) (h : 4 ≤ length s) where
  abbrev n : ℕ
  n = mended_count s

  begun-alike : (p : ℕ) → 4 ≤ p → get_or (put_count s n) p 0 ≡ get_or s p 0
  begun-alike p a = count-else s n h p a

  entries-found : changes_from n s (mended s) 0 ≡ report_from n s 0 (place_of n)
  unfolding mended
  entries-found =
      let small = count_small s h in
      sym (changes-alike s (put_count s n) n (mended_from n (put_count s n) 0 (place_of n)) 0 (λ p a. begun-alike p (omega arith)))
      ∙ found n (put_count s n) 0 (place_of n) (omega (arith, small.0)) (omega (arith, small.1, length-count s n h)) (omega (arith, small.0))
      ∙ report-alike s (put_count s n) n 0 (place_of n) (length-count s n h) (λ p a. begun-alike p (omega arith))

  pub report-found : report s ≡ changed of_count 0 (count s) n ++ report_from n s 0 (place_of n)
  unfolding changes
  report-found =
      (λ k. changed of_count 0 (count s) (count-mended s h k) ++ changes_from (count-mended s h k) s (mended s) 0)
      ∙ ap (λ (x : List Change). changed of_count 0 (count s) n ++ x) entries-found

  -- of the file whose count is written already
  pub counted-report : report_from n (put_count s n) 0 (place_of n) ≡ report_from n s 0 (place_of n)
  counted-report = report-alike s (put_count s n) n 0 (place_of n) (length-count s n h) (λ p a. begun-alike p (omega arith))

-- ---- one entry further

pub report-more : (n : ℕ) (s : List ℕ) (i place : ℕ) → i < n
    → report_from (n - i) s i place
    ≡ entry_changes i (entry s i) (mended_at s i place) ++ report_from (n - (i + 1)) s (i + 1) (place + (mended_at s i place).len)
unfolding report_from
report-more n s i place h =
    let e : n - i ≡ suc (n - (i + 1)) = omega arith in
    ap (λ (m : ℕ). report_from m s i place) e

pub none_left : (n : ℕ) (s : List ℕ) (i place : ℕ) → n ≤ i → report_from (n - i) s i place ≡ []
unfolding report_from
none_left n s i place h = let e : n - i ≡ zero = omega arith in ap (λ (m : ℕ). report_from m s i place) e
