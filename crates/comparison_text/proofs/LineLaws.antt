-- The line of a difference: of the case that it is, and how long it is.
-- Assumes nothing.
use mathlib.Core.Path.{◌≡◌, sym, subst}
use mathlib.Core.Bool.{true}
use mathlib.Core.List.{List, [], ◌∷◌, ◌++◌}
use Prim.Native.Nat.{ℕ, ◌+◌, ◌≤◌, ◌<◌}
use native.Mathlib.Omega.{arith}
use lib.ListN.{length, length-append}
use Rattle.recording.specs.Format.{count, entry, is_well_formed}
use Rattle.recording.proofs.WellFormedLaws.{well-formed}
use Rattle.comparison.specs.declared.Difference.{Difference}
use Rattle.comparison.specs.declared.Difference.TheVariants.{Same, Length, Meta, Byte, FirstOnly, SecondOnly}
use Rattle.comparison.specs.Differences.{difference_at}
use Rattle.comparison.specs.Meaning.{Says}
use Rattle.comparison.proofs.Real.{real}
use Rattle.comparison_text.specs.Decimal.{decimal}
use Rattle.recording.specs.Written.{Written}
use Rattle.comparison_text.specs.Text.{numbered, ended, header, line_of}
use Rattle.comparison_text.proofs.DecimalLaws.{five}

-- ---- of a case

pub room_of : (at n i : ℕ) (x y : Difference) → x ≡ y → at + length (line_of i x) ≤ n → at + length (line_of i y) ≤ n
room_of at n i x y e h = subst (λ (z : Difference). at + length (line_of i z) ≤ n) e h

pub line-of : (d : List ℕ) (at : ℕ) (d₁ : List ℕ) (r i : ℕ) (x y : Difference) → x ≡ y → Written d at d₁ r (line_of i y) → Written d at d₁ r (line_of i x)
line-of d at d₁ r i x y e p = subst (λ (z : Difference). Written d at d₁ r (line_of i z)) (sym e) p

-- ---- how long

length-numbered : (w : List ℕ) (n : ℕ) → n < 65536 → length (numbered w n) ≤ length w + 5
length-numbered w n h = omega (arith, length-append w (decimal n), five n h)

pub length-ended : (w : List ℕ) (n : ℕ) → n < 65536 → length (ended w n) ≤ length w + 6
length-ended w n h = omega (arith, length-append (numbered w n) (10 ∷ []), length-numbered w n h)

pub header-short : (m n : ℕ) → m < 65536 → n < 65536 → length (header m n) ≤ 20
unfolding header
header-short m n h k =
    let w : List ℕ = 101 ∷ 110 ∷ 116 ∷ 114 ∷ 105 ∷ 101 ∷ 115 ∷ 32 ∷ [] in
    omega (arith, length-append (numbered w m) (ended (32 ∷ []) n), length-numbered w m h, length-ended (32 ∷ []) n k)

-- what is told of two well-formed recordings has small numbers
abbrev Small : Difference → Type 0
Small Same = Unit {0}
Small (Length x y) = (x < 65536) × (y < 65536)
Small Meta = Unit {0}
Small (Byte p) = p < 65536
Small FirstOnly = Unit {0}
Small SecondOnly = Unit {0}

short : (s : List ℕ) (i : ℕ) → is_well_formed s ≡ true → i < count s → (entry s i).len < 65536
short s i w h = let g = (well-formed s w).good i h in omega (arith, g.short)

said-small : (a b : List ℕ) (i : ℕ) → is_well_formed a ≡ true → is_well_formed b ≡ true → (d : Difference) → Says a b i d → Small d
said-small a b i wa wb Same s = tt
said-small a b i wa wb (Length x y) s =
    (omega (arith, s.1, short a i wa s.0.first), omega (arith, s.2, short b i wb s.0.second))
said-small a b i wa wb Meta s = tt
said-small a b i wa wb (Byte p) s = omega (arith, s.inside, short a i wa s.meta.lengths.both.first)
said-small a b i wa wb FirstOnly s = tt
said-small a b i wa wb SecondOnly s = tt

small-short : (i : ℕ) → i < 65536 → (d : Difference) → Small d → length (line_of i d) ≤ 25
unfolding line_of
small-short i h Same s = omega arith
small-short i h (Length x y) s =
    let w : List ℕ = 108 ∷ 101 ∷ 110 ∷ 103 ∷ 116 ∷ 104 ∷ 32 ∷ [] in
    omega (
      arith,
      length-append (numbered w i) (numbered (32 ∷ []) x ++ ended (32 ∷ []) y),
      length-append (numbered (32 ∷ []) x) (ended (32 ∷ []) y),
      length-numbered w i h,
      length-numbered (32 ∷ []) x s.0,
      length-ended (32 ∷ []) y s.1,
    )
small-short i h Meta s = omega (arith, length-ended (109 ∷ 101 ∷ 116 ∷ 97 ∷ 32 ∷ []) i h)
small-short i h (Byte p) s =
    let w : List ℕ = 100 ∷ 105 ∷ 102 ∷ 102 ∷ 101 ∷ 114 ∷ 32 ∷ [] in
    let v : List ℕ = 32 ∷ 98 ∷ 121 ∷ 116 ∷ 101 ∷ 32 ∷ [] in
    omega (arith, length-append (numbered w i) (ended v p), length-numbered w i h, length-ended v p s)
small-short i h FirstOnly s = omega (arith, length-ended (102 ∷ 105 ∷ 114 ∷ 115 ∷ 116 ∷ 45 ∷ 111 ∷ 110 ∷ 108 ∷ 121 ∷ 32 ∷ []) i h)
small-short i h SecondOnly s =
    omega (arith, length-ended (115 ∷ 101 ∷ 99 ∷ 111 ∷ 110 ∷ 100 ∷ 45 ∷ 111 ∷ 110 ∷ 108 ∷ 121 ∷ 32 ∷ []) i h)

pub line-short : (a b : List ℕ) (i : ℕ) → is_well_formed a ≡ true → is_well_formed b ≡ true → i < 65536
    → (d : Difference) → d ≡ difference_at a b i → length (line_of i d) ≤ 25
line-short a b i wa wb h d e = small-short i h d (subst Small (sym e) (said-small a b i wa wb (difference_at a b i) (real a b i wa wb)))
