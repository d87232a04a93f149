-- Numbers in decimal, in ASCII.
-- Assumes nothing.
use Rattle.std.specs.Prelude.{◌≡◌, true, false, List, [], ◌∷◌, ◌++◌, ℕ, zero, suc, ◌+◌, ◌-◌, ◌*◌, ◌/◌, ◌%◌, ◌≤◌, ◌<◌, ltb, length, get_or}

-- the last k digits of a number, fewer where it has fewer
unfoldable pub digits : ℕ → ℕ → List ℕ
digits zero n = []
digits (suc k) n = elim (ltb n 10) [ true ↦ (48 + n) ∷ [] | false ↦ digits k (n / 10) ++ ((48 + n % 10) ∷ []) ]

-- all of them: no number has more digits than one more than itself
unfoldable pub decimal : ℕ → List ℕ
decimal n = digits (suc n) n

-- what digits are read as, behind a number v
unfoldable pub read_behind : ℕ → List ℕ → ℕ
read_behind v [] = v
read_behind v (c ∷ s) = read_behind (v * 10 + (c - 48)) s

-- the digits of n read back to n; each is one; and the first is 0 for the number 0 alone, which has no other
pub record DecimalValue (n : ℕ) : Type 0 where
  pub reads-back : read_behind 0 (decimal n) ≡ n
  pub each-digit : (i : ℕ) → i < length (decimal n) → (48 ≤ get_or (decimal n) i 0) × (get_or (decimal n) i 0 ≤ 57)
  pub no-leading-zero : 0 < n → 49 ≤ get_or (decimal n) 0 0
  pub of_zero : n ≡ 0 → decimal n ≡ 48 ∷ []
