-- The cases of a refusal, in the order of the code, and what a file that is mended has.
-- Assumes nothing.
use mathlib.Core.Path.{◌≡◌, refl}
use mathlib.Core.Bool.{Bool, true, false, cond}
use mathlib.Core.List.{List}
use Prim.Native.Nat.{ℕ, ◌≤◌, ◌<◌}
use native.Mathlib.Omega.{arith}
use lib.Dec.{leb}
use lib.ListN.{length}
use borrow.Author.Tests.{le-leb, lt-leb, leb-true}
use Rattle.mending.specs.Report.{report, words, refusal}

module _ (s : List ℕ) (room : ℕ) where
  pub too_short : length s < 4 → 2 ≡ refusal s room
  unfolding refusal
  too_short h = rw (lt-leb 4 (length s) h)

  pub no_room : 4 ≤ length s → room < length (words (report s)) → 3 ≡ refusal s room
  unfolding refusal
  no_room h k = rw (le-leb 4 (length s) h, lt-leb (length (words (report s))) room k)

  pub has_room : 4 ≤ length s → length (words (report s)) ≤ room → 0 ≡ refusal s room
  unfolding refusal
  has_room h k = rw (le-leb 4 (length s) h, le-leb (length (words (report s))) room k)

  pub not-refused : 0 ≡ refusal s room → (4 ≤ length s) × (length (words (report s)) ≤ room)
  unfolding refusal
  not-refused h = go (leb 4 (length s)) (leb (length (words (report s))) room) refl refl h
    where
      go : (x y : Bool) → leb 4 (length s) ≡ x → leb (length (words (report s))) room ≡ y → ◌≡◌ {A = ℕ} 0 (cond x (cond y 0 3) 2)
          → (4 ≤ length s) × (length (words (report s)) ≤ room)
      go true true e f g = (leb-true _ _ e, leb-true _ _ f)
      go true false e f g = absurd (omega arith)
      go false y e f g = absurd (omega arith)
