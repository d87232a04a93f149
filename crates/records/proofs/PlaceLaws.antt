-- What a search below n answers is the place that it finds. Assumes nothing.
use Rattle.std.proofs.Common.{◌≡◌, ℕ, ◌+◌, ◌<◌, ◌≤◌, Bool, true, false, Option, None, Some, MatchOption, arith}
use Rattle.records.specs.Records.{lowest_from, Finds}
use Rattle.records.proofs.SearchLaws.{from_at, from-none}

pub finds-lowest : (test : ℕ → Bool) (n : ℕ) (r : Option ℕ)
    → MatchOption r ((k : ℕ) → 0 ≤ k → k < n → test k ≡ false)
    (λ i. (0 ≤ i) × (i < n) × (test i ≡ true) × ((k : ℕ) → 0 ≤ k → k < i → test k ≡ false))
    → Finds n (lowest_from test 0 n) r
finds-lowest test n None h = from-none test 0 n (λ k a b. h k a (omega arith))
finds-lowest test n (Some i) h = (h.1, from_at test 0 n i h.0 (omega (arith, h.1)) (λ k a b. h.3 k a b) h.2)
