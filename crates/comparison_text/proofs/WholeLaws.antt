-- The whole text: header and lines, how long it is, and what is printed.
-- Assumes nothing.
use mathlib.Core.Path.{◌≡◌, refl, sym, ap, subst, ◌∙◌}
use mathlib.Core.Bool.{Bool, true, false, cond}
use mathlib.Core.List.{List, ◌++◌}
use Prim.Native.Nat.{ℕ, zero, suc, ◌+◌, ◌*◌, ◌≤◌, ◌<◌, max}
use native.Mathlib.Omega.{arith}
use lib.Dec.{leb}
use lib.ListN.{length, length-append}
use borrow.Author.Tests.{leb-true}
use Rattle.recording.specs.Format.{count, is_well_formed}
use Rattle.recording.proofs.WellFormedLaws.{well-formed}
use Rattle.comparison.specs.Differences.{difference_at}
use Rattle.comparison_text.specs.Text.{header, lines, text, refused_line, refusal, printed_by, printed}
use Rattle.recording.specs.Written.{Written}
use Rattle.recording.proofs.WrittenLaws.{also, room-behind}
use Rattle.comparison_text.proofs.LineLaws.{header-short, line-short}
use Rattle.comparison_text.proofs.TextLaws.{no_lines, length-next}

-- ---- header and lines

module _ (a b : List ℕ) (m n k : ℕ) (em : m ≡ count a) (en : n ≡ count b) (ek : k ≡ max m n) where
  parts : header m n ++ lines a b k ≡ text a b
  unfolding text
  parts = ap (λ (x : ℕ). header m n ++ lines a b x) ek ∙ (λ i. header (em i) (en i) ++ lines a b (max (em i) (en i)))

  pub whole_length : length (header m n) + length (lines a b k) ≡ length (text a b)
  whole_length = sym (length-append (header m n) (lines a b k)) ∙ ap length parts

  pub room-header : (l : ℕ) → length (text a b) ≤ l → 0 + length (header m n) ≤ l
  room-header l h = omega (arith, whole_length)

  pub room-lines : (d d₁ : List ℕ) (r : ℕ) → Written d 0 d₁ r (header m n) → length (text a b) ≤ length d → r + length (lines a b k) ≤ length d₁
  room-lines d d₁ r p h =
      room-behind (lines a b k) p (omega (arith, whole_length, length-append (header m n) (lines a b k)))

  pub whole : {d d₁ d₂ : List ℕ} {r r₂ : ℕ} → Written d 0 d₁ r (header m n) → Written d₁ r d₂ r₂ (lines a b k) → Written d 0 d₂ r₂ (text a b)
  whole {d} {d₁} {d₂} {r} {r₂} p q = subst (Written d 0 d₂ r₂) parts (also p q)

-- ---- two files that are compared

pub record Comparable (a b : List ℕ) : Type 0 where
  pub first_fits : length a ≤ 32768
  pub second_fits : length b ≤ 32768
  pub first_good : is_well_formed a ≡ true
  pub second-good : is_well_formed b ≡ true

pub not-refused : (a b : List ℕ) → 0 ≡ refusal a b → Comparable a b
unfolding refusal
not-refused a b h = go (leb (length a) 32768) (leb (length b) 32768) (is_well_formed a) (is_well_formed b) refl refl refl refl h
  where
    go : (x y z w : Bool) → leb (length a) 32768 ≡ x → leb (length b) 32768 ≡ y → is_well_formed a ≡ z → is_well_formed b ≡ w
        → ◌≡◌ {A = ℕ} 0 (cond x (cond y (cond z (cond w 0 5) 5) 2) 2) → Comparable a b
    go true true true true e f g k l =
        record { first_fits = leb-true _ _ e; second_fits = leb-true _ _ f; first_good = g; second-good = k }
    go true true true false e f g k l = absurd (omega arith)
    go true true false w e f g k l = absurd (omega arith)
    go true false z w e f g k l = absurd (omega arith)
    go false y z w e f g k l = absurd (omega arith)

pub refusal-small : (a b : List ℕ) → refusal a b ≤ 5
unfolding refusal
refusal-small a b = go (leb (length a) 32768) (leb (length b) 32768) (is_well_formed a) (is_well_formed b)
  where
    go : (x y z w : Bool) → cond x (cond y (cond z (cond w 0 5) 5) 2) 2 ≤ 5
    go true true true true = omega arith
    go true true true false = omega arith
    go true true false w = omega arith
    go true false z w = omega arith
    go false y z w = omega arith

-- ---- how long the text is

few : (s : List ℕ) → is_well_formed s ≡ true → length s ≤ 32768 → count s ≤ 2184
few s w h = let g = well-formed s w in omega (arith, g.contents)

lines-short : (a b : List ℕ) → is_well_formed a ≡ true → is_well_formed b ≡ true → (n : ℕ) → n < 65536 → length (lines a b n) ≤ 25 * n
lines-short a b wa wb zero h = omega (arith, ap length (no_lines a b))
lines-short a b wa wb (suc n) h =
    let e : length (lines a b (n + 1)) ≡ length (lines a b (suc n)) = (let f : n + 1 ≡ suc n = omega arith in ap (λ (k : ℕ). length (lines a b k)) f) in
    omega (arith, e, lines-short a b wa wb n (omega arith), length-next a b n (difference_at a b n) refl, line-short a b n wa wb (omega arith) (difference_at a b n) refl)

pub text-short : (a b : List ℕ) → Comparable a b → length (text a b) ≤ 65536
text-short a b c =
    let m = few a c.first_good c.first_fits in
    let n = few b c.second-good c.second_fits in
    omega (
      arith,
      m,
      n,
      whole_length a b (count a) (count b) (max (count a) (count b)) refl refl refl,
      header-short (count a) (count b) (omega arith) (omega arith),
      lines-short a b c.first_good c.second-good (max (count a) (count b)) (omega arith),
    )

-- ---- what is printed, in the order of the code

module _ (readable : Bool) (a b d d₁ : List ℕ) (r : ℕ) where
  pub unreadable : readable ≡ false → Written d 0 d₁ r (refused_line 2) → Written d 0 d₁ r (printed readable a b)
  unfolding printed
  unreadable e p = rw e p

  pub refused : readable ≡ true → (x : ℕ) → x ≡ refusal a b → (x ≡ 0 → ⊥) → Written d 0 d₁ r (refused_line x) → Written d 0 d₁ r (printed readable a b)
  unfolding printed
  refused e x f g p = rw e (subst (λ (y : ℕ). Written d 0 d₁ r (printed_by y a b)) f (go x g p))
    where
      go : (y : ℕ) → (y ≡ 0 → ⊥) → Written d 0 d₁ r (refused_line y) → Written d 0 d₁ r (printed_by y a b)
      go zero h q = absurd (h refl)
      go (suc y) h q = q

  pub compared : readable ≡ true → 0 ≡ refusal a b → Written d 0 d₁ r (text a b) → Written d 0 d₁ r (printed readable a b)
  unfolding printed
  compared e f p = rw e (subst (λ (y : ℕ). Written d 0 d₁ r (printed_by y a b)) f p)
