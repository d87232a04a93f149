-- A run of words that was written: every word before it and behind it stays. Assumes nothing.
use Prim.Native.Nat.{ℕ, zero, suc, ◌+◌, ◌≤◌, ◌<◌}
use native.Mathlib.Nat.{le_of_suc-le-suc, add-zero}
use native.Mathlib.Omega.{arith}
use mathlib.Core.List.{List, [], ◌∷◌}
use mathlib.Core.Path.{◌≡◌, refl, ap, ◌∙◌}
use lib.ListN.{length, get_or, set, length-set}
use lib.Seq.{sets, get_or-set_same, get_or-set_other}

pub sets-before : (vs l : List ℕ) (i k : ℕ) → k < i → get_or (sets l i vs) k 0 ≡ get_or l k 0
sets-before [] l i k h = refl
sets-before (a ∷ vs) l i k h = sets-before vs (set l i a) (suc i) k (omega arith) ∙ get_or-set_other l i k a 0 (omega arith)

pub sets-after : (vs l : List ℕ) (i k : ℕ) → i + length vs ≤ k → get_or (sets l i vs) k 0 ≡ get_or l k 0
sets-after [] l i k h = refl
sets-after (a ∷ vs) l i k h = sets-after vs (set l i a) (suc i) k (omega arith) ∙ get_or-set_other l i k a 0 (omega arith)

pub sets-in : (vs l : List ℕ) (i k : ℕ) → k < length vs → i + length vs ≤ length l → get_or (sets l i vs) (i + k) 0 ≡ get_or vs k 0
sets-in [] l i k h b = absurd (omega arith)
sets-in (a ∷ vs) l i zero h b =
    ap (λ (n : ℕ). get_or (sets (set l i a) (suc i) vs) n 0) (add-zero i) ∙ sets-before vs (set l i a) (suc i) i (omega arith)
    ∙ get_or-set_same l i a 0 (omega arith)
sets-in (a ∷ vs) l i (suc k) h b =
    ap (λ (n : ℕ). get_or (sets (set l i a) (suc i) vs) n 0) (let e : i + suc k ≡ suc i + k = omega arith in e)
    ∙ sets-in vs (set l i a) (suc i) k (le_of_suc-le-suc h) (omega (arith, length-set l i a))
