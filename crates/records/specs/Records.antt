-- Records in lent words: when one is current, and the lowest that passes a test.
use Rattle.std.specs.Prelude.{◌≡◌, ℕ, zero, suc, ◌+◌, ◌<◌, Bool, cond, not, ◌&&◌, leb, eqb, MatchOption, None, Option, Some}

-- a record is current if it is in use, and the clock is not past its time, or past it by at most the span
abbrev pub current : (span clock used time : ℕ) → Bool
current span clock used time = not (eqb used 0) && leb clock (time + span)

-- the lowest i at least `from` and below `from + n` that passes the test
abbrev pub lowest_from : (ℕ → Bool) → (from n : ℕ) → Option ℕ
lowest_from f i zero = None
lowest_from f i (suc n) = let r = lowest_from f (suc i) n in cond (f i) (Some i) r

-- what the code answers for a place below n: Some of it, or None
abbrev pub Finds : (n : ℕ) → Option ℕ → Option ℕ → Type 0
Finds n place r = MatchOption r (place ≡ None) (λ i. (i < n) × (place ≡ Some i))
