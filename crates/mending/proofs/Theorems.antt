-- What mending makes is well formed, and mending it again changes nothing and reports nothing; bodies and clocks stay, and so does
-- a file that is well formed.
-- Assumes nothing.
use mathlib.Core.Path.{◌≡◌, sym, ap, ◌∙◌}
use mathlib.Core.Bool.{true}
use mathlib.Core.List.{List}
use mathlib.Core.Logic.{inl, inr}
use Prim.Native.Nat.{ℕ, ◌+◌, ◌≤◌, ◌<◌}
use native.Mathlib.Decide.{dec_le}
use native.Mathlib.Omega.{arith}
use lib.ListN.{length, get_or}
use Rattle.recording.specs.Format.{count, place_of, WellFormed, are_good, is_well_formed}
use Rattle.recording.proofs.EntryLaws.{by_entries}
use Rattle.recording.proofs.WellFormedLaws.{well-formed-exactly}
use Rattle.octets.proofs.NumberLaws.{be-same}
use Rattle.mending.specs.Mend.{mended_count, put_count, mended_from, mended}
use Rattle.mending.proofs.PutLaws.{Outside, length-count, count-else, count-back}
use Rattle.mending.proofs.MendLaws.{length_from, stays, all-good, count_small}

module _ (s : List ℕ) (h : 4 ≤ length s) where
  abbrev n : ℕ
  n = mended_count s

  abbrev begun : List ℕ
  begun = put_count s n

  small : (n ≤ 4096) × (place_of n ≤ length s)
  small = count_small s h

  fits : place_of (0 + n) ≤ length begun
  fits = omega (arith, small.1, length-count s n h)

  pub length-mended : length (mended s) ≡ length s
  unfolding mended
  length-mended = length_from n begun 0 (place_of n) fits ∙ length-count s n h

  pub count-mended : count (mended s) ≡ n
  unfolding mended
  count-mended =
      be-same 4 (mended_from n begun 0 (place_of n)) begun (λ p a. stays n begun 0 (place_of n) p fits (λ j b c. inl (omega arith)))
      ∙ count-back s n h (omega (arith, small.0))

  entries-good : are_good (mended s) n 0 (place_of n) ≡ true
  unfolding mended
  entries-good =
      all-good n begun 0 (place_of n) (omega (arith, small.0)) fits (omega (arith, small.1, length-count s n h)) (omega (arith, small.0))

  passes-mended : is_well_formed (mended s) ≡ true
  passes-mended =
      sym (by_entries (mended s) (omega (arith, length-mended)) (omega (arith, count-mended, small.0))
      (omega (arith, count-mended, length-mended, small.1)))
      ∙ ap (λ (m : ℕ). are_good (mended s) m 0 (place_of m)) count-mended ∙ entries-good

  -- the outcome is well formed
  pub mended-well-formed : WellFormed (mended s)
  mended-well-formed = (well-formed-exactly (mended s)).0 passes-mended

  -- no byte behind the contents is written, so no body is
  pub bodies_stay : (p : ℕ) → place_of n ≤ p → get_or (mended s) p 0 ≡ get_or s p 0
  unfolding mended
  bodies_stay p g = stays n begun 0 (place_of n) p fits (λ j a b. inr (omega arith)) ∙ count-else s n h p (omega arith)

  -- no byte of a clock is written: the last 8 of an entry's 15
  pub clocks-stay : (i p : ℕ) → place_of i + 7 ≤ p → p < place_of (i + 1) → get_or (mended s) p 0 ≡ get_or s p 0
  unfolding mended
  clocks-stay i p g k = stays n begun 0 (place_of n) p fits (λ j a b. apart j (dec_le (i + 1) j)) ∙ count-else s n h p (omega arith)
    where
      apart : (j : ℕ) → Dec (i + 1 ≤ j) → Outside p (place_of j) 7
      apart j (yes l) = inl (omega arith)
      apart j (no f) = inr (omega arith)
