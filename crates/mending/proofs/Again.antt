-- A well-formed recording needs no mending: its report is empty, and no byte of it changes. So mending again reports nothing.
-- Assumes nothing.
use mathlib.Core.Path.{◌≡◌, refl, sym, ap, subst, ◌∙◌}
use mathlib.Core.List.{List, [], ◌∷◌, ◌++◌}
use Prim.Native.Nat.{ℕ, zero, suc, ◌+◌, ◌-◌, ◌*◌, ◌/◌, ◌≤◌, ◌<◌, min}
use native.Mathlib.Omega.{arith}
use lib.ListN.{length, get_or, take, drop, take-append-drop, length-drop}
use lib.Seq.{take-add, set-get_or, length-take-le}
use Rattle.octets.specs.Buffers.{Octets, put}
use Rattle.octets.specs.Numbers.{be, to_be}
use Rattle.octets.proofs.BufferLaws.{octets-take, octets-drop, put-put, put_one}
use Rattle.octets.proofs.NumberLaws.{be-take, to_be-be, length-to_be}
use Rattle.recording.specs.declared.Entry.{Entry}
use Rattle.recording.specs.Format.{count, place_of, entry_at, entry, start, WellFormed}
use Rattle.recording.proofs.WellFormedLaws.{next_start, first-start, body-within, well-formed-exactly}
use Rattle.mending.specs.Mend.{mended_count, mended_entry, mended_at, put_entry, put_count, mended_from, mended}
use Rattle.mending.specs.Report.{of_count, entry_changes, report, report_from}
use Rattle.mending.proofs.Theorems.{mended-well-formed}
use Rattle.mending.proofs.ReportLaws.{report-found, unchanged}

-- ---- what mending finds in a well-formed recording

module _ (t : List ℕ) (w : WellFormed t) where
  count-stays : mended_count t ≡ count t
  unfolding mended_count
  count-stays = least (count t) (length t) w.few w.contents
    where
      least : (c l : ℕ) → c ≤ 4096 → 4 + 15 * c ≤ l → min c (min 4096 ((l - 4) / 15)) ≡ c
      least c l h g = omega arith

  -- an entry whose body begins where it has to
  entry-stays : (i : ℕ) → i < count t → mended_at t i (start t i) ≡ entry t i
  unfolding mended_entry
  entry-stays i h =
      let g = w.good i h in
      let b = body-within t i ((well-formed-exactly t).1 w) h in
      λ k.
      record {
        offset = sym g.back-to-back k;
        len = len (entry t i).len (length t) g.short (subst (λ (x : ℕ). x + (entry t i).len ≤ length t) g.back-to-back b) k;
        direction = direction (entry t i).direction g.known k;
        clock = (entry t i).clock;
      }
    where
      len : (x l : ℕ) → x ≤ 65507 → start t i + x ≤ l → min (min x 65507) (l - start t i) ≡ x
      len x l h g = omega arith

      direction : (x : ℕ) → x ≤ 2 → min x 2 ≡ x
      direction x h = omega arith

  no-changes : (i : ℕ) (e : Entry) → entry_changes i e e ≡ []
  unfolding entry_changes
  no-changes i e =
      λ k. unchanged i 1 e.offset e.offset refl k ++ (unchanged i 2 e.len e.len refl k ++ unchanged i 3 e.direction e.direction refl k)

  none_from : (n i : ℕ) → i + n ≤ count t → report_from n t i (start t i) ≡ []
  unfolding report_from
  none_from zero i h = refl
  none_from (suc n) i h =
      let e = entry-stays i (omega arith) in
      (λ k. entry_changes i (entry t i) (e k) ++ report_from n t (i + 1) (start t i + (e k).len))
      ∙ (λ k. no-changes i (entry t i) k ++ report_from n t (i + 1) (sym (next_start t i) k))
      ∙ none_from n (i + 1) (omega arith)

  pub nothing-to-mend : report t ≡ []
  nothing-to-mend =
      report-found t w.counted
      ∙ (λ k. unchanged of_count 0 (count t) (mended_count t) (sym count-stays) k ++ report_from (count-stays k) t 0 (place_of (count-stays k)))
      ∙ ap (report_from (count t) t 0) (sym (first-start t)) ∙ none_from (count t) 0 (omega arith)

-- mending again reports nothing
pub mended-again : (s : List ℕ) → 4 ≤ length s → report (mended s) ≡ []
mended-again s h = nothing-to-mend (mended s) (mended-well-formed s h)

-- ---- what it writes there

module _ (t : List ℕ) (o : Octets t) where
  -- a number that is written where it stands
  number-stays : (k at : ℕ) → at + k ≤ length t → put t at (to_be k (be k (drop at t))) ≡ t
  unfolding put
  number-stays k at h =
      let part = take k (drop at t) in
      let size : length part ≡ k = length-take-le k (drop at t) (omega (arith, length-drop at t)) in
      let same : to_be k (be k (drop at t)) ≡ part =
      ap (to_be k) (sym (be-take k (drop at t))) ∙ to_be-be (octets-take k (drop at t) (octets-drop at o)) size in
      (λ i. (take at t ++ same i) ++ drop (at + length (same i)) t)
      ∙ ap (λ (m : ℕ). (take at t ++ part) ++ drop (at + m) t) size
      ∙ ap (λ (l : List ℕ). l ++ drop (at + k) t) (sym (take-add at k t)) ∙ take-append-drop (at + k) t

  entry-written : (at : ℕ) → at + 15 ≤ length t → put_entry t at (entry_at t at) ≡ t
  unfolding put_entry entry_at
  entry-written at h =
      let a = to_be 4 (be 4 (drop at t)) in
      let b = to_be 2 (be 2 (drop (at + 4) t)) in
      let d : List ℕ = get_or t (at + 6) 0 ∷ [] in
      let la : length a ≡ 4 = length-to_be 4 (be 4 (drop at t)) in
      let lb : length b ≡ 2 = length-to_be 2 (be 2 (drop (at + 4) t)) in
      let e : at + 4 + 2 ≡ at + 6 = omega arith in
      sym (put-put t at a (omega arith) (b ++ d))
      ∙ (λ i. put (number-stays 4 at (omega arith) i) (at + la i) (b ++ d))
      ∙ sym (put-put t (at + 4) b (omega arith) d)
      ∙ (λ i. put (number-stays 2 (at + 4) (omega arith) i) (at + 4 + lb i) d)
      ∙ ap (λ (m : ℕ). put t m d) e ∙ put_one t (at + 6) (get_or t (at + 6) 0) (omega arith) ∙ set-get_or t (at + 6) 0

  module _ (w : WellFormed t) where
    written_from : (n i : ℕ) → i + n ≤ count t → mended_from n t i (start t i) ≡ t
    unfolding mended_from
    written_from zero i h = refl
    written_from (suc n) i h =
        let e = entry-stays t w i (omega arith) in
        (λ k. mended_from n (put_entry t (place_of i) (e k)) (i + 1) (start t i + (e k).len))
        ∙ (λ k. mended_from n (entry-written (place_of i) (omega (arith, w.contents)) k) (i + 1) (sym (next_start t i) k))
        ∙ written_from n (i + 1) (omega arith)

    file-stays : mended t ≡ t
    unfolding mended
    file-stays =
        let c = count-stays t w in
        (λ k. mended_from (c k) (put_count t (c k)) 0 (place_of (c k)))
        ∙ (λ k. mended_from (count t) (number-stays 4 0 (omega (arith, w.counted)) k) 0 (sym (first-start t) k))
        ∙ written_from (count t) 0 (omega arith)

-- a well-formed file of bytes is unchanged, and its report is empty
pub well-formed-stays : (s : List ℕ) → Octets s → WellFormed s → (mended s ≡ s) × (report s ≡ [])
well-formed-stays s o w = (file-stays s o w, nothing-to-mend s w)
