-- No difference is left out: below the larger count an index has no line exactly where the two entries are equal in length,
-- direction, clock and body. (That what a line says is true is `real` of `comparison`.)
-- Assumes nothing.
use mathlib.Core.Path.{◌≡◌, refl, ap, ◌∙◌}
use mathlib.Core.Bool.{true}
use mathlib.Core.List.{List, []}
use Prim.Native.Nat.{ℕ, ◌<◌, max}
use native.Mathlib.Omega.{arith}
use lib.ListN.{length}
use Rattle.recording.specs.Format.{count, is_well_formed}
use Rattle.comparison.specs.declared.Difference.{Difference}
use Rattle.comparison.specs.declared.Difference.TheVariants.{Same, Length, Meta, Byte, FirstOnly, SecondOnly}
use Rattle.comparison.specs.Differences.{difference_at}
use Rattle.comparison.specs.Meaning.{Equal}
use Rattle.comparison.proofs.Real.{same-exactly}
use Rattle.comparison_text.specs.Text.{line_of}

no_line : (i : ℕ) (d : Difference) → line_of i d ≡ [] → d ≡ Same
unfolding line_of
no_line i Same e = refl
no_line i (Length x y) e = absurd (omega (arith, ap length e))
no_line i Meta e = absurd (omega (arith, ap length e))
no_line i (Byte p) e = absurd (omega (arith, ap length e))
no_line i FirstOnly e = absurd (omega (arith, ap length e))
no_line i SecondOnly e = absurd (omega (arith, ap length e))

of-same : (i : ℕ) → line_of i Same ≡ []
unfolding line_of
of-same i = refl

pub listed-exactly : (a b : List ℕ) (i : ℕ) → is_well_formed a ≡ true → is_well_formed b ≡ true → i < max (count a) (count b)
    → (line_of i (difference_at a b i) ≡ [] → Equal a b i) × (Equal a b i → line_of i (difference_at a b i) ≡ [])
listed-exactly a b i wa wb h =
    let s = same-exactly a b i wa wb h in
    (λ e. s.0 (no_line i (difference_at a b i) e), λ q. ap (line_of i) (s.1 q) ∙ of-same i)
