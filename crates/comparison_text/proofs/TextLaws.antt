-- The whole text: one index further, how long it is, and the cases of a refusal.
-- Assumes nothing.
use mathlib.Core.Path.{◌≡◌, refl, sym, ap, subst, ◌∙◌}
use mathlib.Core.Bool.{true, false}
use mathlib.Core.List.{List, [], ◌++◌}
use Prim.Native.Nat.{ℕ, zero, suc, ◌+◌, ◌-◌, ◌≤◌, ◌<◌}
use native.Mathlib.Numerals.{add-one}
use native.Mathlib.Omega.{arith}
use lib.ListN.{length, length-append}
use borrow.Author.Tests.{le-leb, lt-leb}
use Rattle.recording.specs.Format.{is_well_formed}
use Rattle.comparison.specs.declared.Difference.{Difference}
use Rattle.comparison.specs.Differences.{difference_at}
use Rattle.comparison_text.specs.Text.{line_of, lines, refusal}
use Rattle.recording.specs.Written.{Written}
use Rattle.recording.proofs.WrittenLaws.{also, room-behind}

-- ---- lines, one index further

module _ (a b : List ℕ) where
  next-lines : (i : ℕ) → lines a b (i + 1) ≡ lines a b i ++ line_of i (difference_at a b i)
  unfolding lines
  next-lines i = rw add-one

  pub no_lines : lines a b 0 ≡ []
  unfolding lines
  no_lines = refl

  pub length-next : (i : ℕ) (d : Difference) → d ≡ difference_at a b i
      → length (lines a b i) + length (line_of i d) ≡ length (lines a b (i + 1))
  length-next i d e =
      ap (λ (x : Difference). length (lines a b i) + length (line_of i x)) e
      ∙ sym (ap length (next-lines i) ∙ length-append (lines a b i) (line_of i (difference_at a b i)))

  grow : (i k : ℕ) → length (lines a b i) ≤ length (lines a b (i + k))
  grow i zero = let e : i + zero ≡ i = omega arith in rw e (omega arith)
  grow i (suc k) =
      let e : i + suc k ≡ i + k + 1 = omega arith in
      let f : length (lines a b (i + suc k)) ≡ length (lines a b (i + k + 1)) = ap (λ (j : ℕ). length (lines a b j)) e in
      omega (arith, f, grow i k, length-next (i + k) (difference_at a b (i + k)) refl)

  -- the room that the line of an index has
  module _ (d₀ d : List ℕ) (at end i : ℕ) (x : Difference) (e : x ≡ difference_at a b i) (p : Written d₀ at d end (lines a b i)) where
    pub room-line : (n : ℕ) → i < n → at + length (lines a b n) ≤ length d₀ → end + length (line_of i x) ≤ length d
    room-line n h k =
        let f : i + 1 + (n - (i + 1)) ≡ n = omega arith in
        let g : length (lines a b (i + 1)) ≤ length (lines a b n) = rw f at (grow (i + 1) (n - (i + 1))) in
        room-behind (line_of i x) p (omega (arith, g, k, length-next i x e, length-append (lines a b i) (line_of i x)))

    pub line-behind : (d₁ : List ℕ) (r : ℕ) → Written d end d₁ r (line_of i x) → Written d₀ at d₁ r (lines a b (i + 1))
    line-behind d₁ r q =
        subst (Written d₀ at d₁ r) (ap (λ (y : Difference). lines a b i ++ line_of i y) e ∙ sym (next-lines i)) (also p q)

-- ---- refusals, in the order of the code

module _ (a b : List ℕ) where
  pub first-long : 32768 < length a → 2 ≡ refusal a b
  unfolding refusal
  first-long h = rw (lt-leb (length a) 32768 h)

  pub second-long : length a ≤ 32768 → 32768 < length b → 2 ≡ refusal a b
  unfolding refusal
  second-long h k = rw (le-leb (length a) 32768 h, lt-leb (length b) 32768 k)

  pub first-ill : length a ≤ 32768 → length b ≤ 32768 → is_well_formed a ≡ false → 5 ≡ refusal a b
  unfolding refusal
  first-ill h k e = rw (le-leb (length a) 32768 h, le-leb (length b) 32768 k, e)

  pub second-ill : length a ≤ 32768 → length b ≤ 32768 → is_well_formed a ≡ true → is_well_formed b ≡ false → 5 ≡ refusal a b
  unfolding refusal
  second-ill h k e f = rw (le-leb (length a) 32768 h, le-leb (length b) 32768 k, e, f)

  pub compared : length a ≤ 32768 → length b ≤ 32768 → is_well_formed a ≡ true → is_well_formed b ≡ true → 0 ≡ refusal a b
  unfolding refusal
  compared h k e f = rw (le-leb (length a) 32768 h, le-leb (length b) 32768 k, e, f)
