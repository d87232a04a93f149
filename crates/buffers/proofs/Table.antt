-- The rule of a table: one test that antt computes at each entry, and the rule at every entry.
-- Assumes nothing.
use mathlib.Core.Path.{◌≡◌, ◌∙◌, subst, sym}
use mathlib.Core.Bool.{Bool, true, false, ◌&&◌}
use mathlib.Core.List.{List, [], ◌∷◌}
use Prim.Native.Nat.{ℕ, zero, suc, ◌+◌, ◌<◌}
use native.Mathlib.Nat.{add-zero, zero-add, add-suc, suc-add, le_of_suc-le-suc, not-suc-le-zero}
use lib.Dec.{T, eqb, eqb→eq}
use lib.ListN.{length, get_or}

both_left : (a b : Bool) → T (a && b) → T a
both_left true b t = tt
both_left false b t = t

both_right : (a b : Bool) → T (a && b) → T b
both_right true b t = t
both_right false b t = absurd t

-- ---- a rule of the numbers below n

-- the test f passes at each of the n numbers from i on
abbrev pub passes : (ℕ → Bool) → ℕ → ℕ → Bool
passes f zero i = true
passes f (suc n) i = f i && passes f n (suc i)

passes-from : (f : ℕ → Bool) (n i : ℕ) → T (passes f n i) → (k : ℕ) → k < n → T (f (i + k))
passes-from f zero i t k h = absurd (not-suc-le-zero h)
passes-from f (suc n) i t zero h = subst (λ (m : ℕ). T (f m)) (sym (add-zero i)) (both_left (f i) (passes f n (suc i)) t)
passes-from f (suc n) i t (suc k) h =
    subst (λ (m : ℕ). T (f m)) (suc-add i k ∙ sym (add-suc i k))
    (passes-from f n (suc i) (both_right (f i) (passes f n (suc i)) t) k (le_of_suc-le-suc h))

pub at_each : (n : ℕ) (f : ℕ → Bool) → T (passes f n 0) → (k : ℕ) → k < n → T (f k)
at_each n f t k h = subst (λ (m : ℕ). T (f m)) (zero-add k) (passes-from f n 0 t k h)

-- ---- a rule of a list's entries

-- each entry is what f says of its place, counted from i
abbrev pub holds : (ℕ → ℕ) → ℕ → List ℕ → Bool
holds f i [] = true
holds f i (x ∷ xs) = eqb x (f i) && holds f (suc i) xs

holds-from : (f : ℕ → ℕ) (xs : List ℕ) (i : ℕ) → T (holds f i xs) → (k : ℕ) → k < length xs → get_or xs k 0 ≡ f (i + k)
holds-from f [] i t k h = absurd (not-suc-le-zero h)
holds-from f (x ∷ xs) i t zero h =
    subst (λ (m : ℕ). x ≡ f m) (sym (add-zero i)) (eqb→eq x (f i) (both_left (eqb x (f i)) (holds f (suc i) xs) t))
holds-from f (x ∷ xs) i t (suc k) h =
    subst (λ (m : ℕ). get_or xs k 0 ≡ f m) (suc-add i k ∙ sym (add-suc i k))
    (holds-from f xs (suc i) (both_right (eqb x (f i)) (holds f (suc i) xs) t) k (le_of_suc-le-suc h))

pub at_entry : (f : ℕ → ℕ) (xs : List ℕ) → T (holds f 0 xs) → (k : ℕ) → k < length xs → get_or xs k 0 ≡ f k
at_entry f xs t k h = subst (λ (m : ℕ). get_or xs k 0 ≡ f m) (zero-add k) (holds-from f xs 0 t k h)
