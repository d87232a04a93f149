-- How many numbers pass a test. Assumes nothing.
use Rattle.std.specs.Prelude.{None, Some}
use Rattle.std.proofs.lemmas.Option.{none-some}
use mathlib.Core.Path.{◌≡◌, refl, ap, ap₂, sym, subst}
use mathlib.Core.Logic.{◌≢◌}
use mathlib.Core.Bool.{Bool, true, false, cond, not}
use Prim.Native.Nat.{ℕ, zero, suc, ◌+◌, ◌≤◌, ◌<◌, zero-le}
use native.Mathlib.Omega.{arith}
use lib.Dec.{eqb}
use Rattle.records.specs.Records.{lowest_from}
use Rattle.session_book.specs.Book.{one}
use borrow.Author.Tests.{eqb-true, eqb-false}

-- how many of the numbers from, .., from + n - 1 pass
abbrev pub tally : (ℕ → Bool) → (from n : ℕ) → ℕ
tally f i zero = 0
tally f i (suc n) = one (f i) + tally f (suc i) n

one-le : (x : Bool) → one x ≤ 1
one-le true = omega arith
one-le false = omega arith

pub tally-le : (f : ℕ → Bool) (i n : ℕ) → tally f i n ≤ n
tally-le f i zero = zero-le
tally-le f i (suc n) = omega (arith, one-le (f i), tally-le f (suc i) n)

-- all pass exactly where the search for one that fails finds nothing
pub tally-all : (f : ℕ → Bool) (i n : ℕ) → lowest_from (λ k. not (f k)) i n ≡ None → tally f i n ≡ n
tally-all f i zero e = refl
tally-all f i (suc n) e = go (tally-all f (suc i) n) (f i) e
  where
    go : (lowest_from (λ k. not (f k)) (suc i) n ≡ None → tally f (suc i) n ≡ n) → (x : Bool)
        → cond (not x) (Some i) (lowest_from (λ k. not (f k)) (suc i) n) ≡ None → one x + tally f (suc i) n ≡ suc n
    go ih true h = omega (arith, ih h)
    go ih false h = absurd (none-some _ (sym h))

pub tally-some : (f : ℕ → Bool) (i n k : ℕ) → lowest_from (λ k. not (f k)) i n ≡ Some k → tally f i n < n
tally-some f i zero k e = absurd (none-some _ e)
tally-some f i (suc n) k e = go (tally-some f (suc i) n k) (f i) e
  where
    go : (lowest_from (λ k. not (f k)) (suc i) n ≡ Some k → tally f (suc i) n < n) → (x : Bool)
        → cond (not x) (Some i) (lowest_from (λ k. not (f k)) (suc i) n) ≡ Some k → one x + tally f (suc i) n < suc n
    go ih true h = omega (arith, ih h)
    go ih false h = omega (arith, tally-le f (suc i) n)

-- tests that agree give one count
pub tally-same : (f g : ℕ → Bool) (i n : ℕ) → ((k : ℕ) → i ≤ k → k < i + n → f k ≡ g k) → tally f i n ≡ tally g i n
tally-same f g i zero h = refl
tally-same f g i (suc n) h =
    ap₂ (λ (x : Bool) (m : ℕ). one x + m) (h i (omega arith) (omega arith)) (tally-same f g (suc i) n (λ k l u. h k (omega arith) (omega arith)))

-- tests that agree but at k
pub tally-but : (f g : ℕ → Bool) (i n k : ℕ) → i ≤ k → k < i + n → ((j : ℕ) → i ≤ j → j < i + n → j ≢ k → f j ≡ g j)
    → tally f i n + one (g k) ≡ tally g i n + one (f k)
tally-but f g i zero k l u h = absurd (omega arith)
tally-but f g i (suc n) k l u h = go (tally-but f g (suc i) n k) (eqb i k) refl
  where
    go : (suc i ≤ k → k < suc i + n → ((j : ℕ) → suc i ≤ j → j < suc i + n → j ≢ k → f j ≡ g j)
        → tally f (suc i) n + one (g k) ≡ tally g (suc i) n + one (f k)) → (x : Bool) → eqb i k ≡ x
        → (one (f i) + tally f (suc i) n) + one (g k) ≡ (one (g i) + tally g (suc i) n) + one (f k)
    go ih true e =
        let s : i ≡ k = eqb-true i k e in
        let same = tally-same f g (suc i) n (λ j a b. h j (omega arith) (omega arith) (omega arith)) in
        subst (λ (m : ℕ). (one (f i) + tally f (suc i) n) + one (g m) ≡ (one (g i) + tally g (suc i) n) + one (f m)) s (omega arith)
    go ih false e =
        let s : i ≢ k = eqb-false i k e in
        let r = ih (omega arith) (omega arith) (λ j a b d. h j (omega arith) (omega arith) d) in
        let head : one (f i) ≡ one (g i) = ap one (h i (omega arith) (omega arith) s) in omega arith
