-- Lent words of the right length or not, and words that fill what was lent. Assumes nothing.
use Prim.Native.Nat.{ℕ, ◌+◌, ◌≤◌}
use mathlib.Core.Bool.{Bool, true, false, ◌&&◌, and-eq-true_iff}
use mathlib.Core.List.{List, ◌++◌, append-nil}
use mathlib.Core.Path.{◌≡◌, sym, ap, ◌∙◌}
use native.Mathlib.Omega.{arith}
use lib.Dec.{eqb}
use lib.ListN.{length, drop_of_length-le}
use lib.Seq.{sets, sets-eq}
use borrow.Author.Tests.{eq-eqb, ne_eqb, eqb-true}

-- ---- a test behind that of a length

module _ (n k : ℕ) (b : Bool) where
  pub unsized : (n ≡ k → ⊥) → false ≡ (eqb n k && b)
  unsized e = sym (ap (λ (x : Bool). x && b) (ne_eqb n k e))

  pub sized : n ≡ k → b ≡ (eqb n k && b)
  sized e = sym (ap (λ (x : Bool). x && b) (eq-eqb n k e))

  pub its-size : true ≡ (eqb n k && b) → n ≡ k
  its-size e = eqb-true n k ((and-eq-true_iff (eqb n k) b).0 (sym e)).0

-- ---- words that fill what was lent

pub filled : (w vs : List ℕ) → length w ≡ length vs → sets w 0 vs ≡ vs
filled w vs e =
    let l : 0 + length vs ≤ length w = omega arith in
    let n : length w ≤ 0 + length vs = omega arith in
    sets-eq vs w 0 l ∙ ap (λ (x : List ℕ). vs ++ x) (drop_of_length-le w n) ∙ append-nil vs
