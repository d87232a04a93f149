-- The rounds, one by one.
-- Assumes nothing.
use mathlib.Core.Path.{◌≡◌, refl, sym, ap₂, ◌∙◌}
use mathlib.Core.List.{List}
use Prim.Native.Nat.{ℕ, zero, suc, ◌+◌, ◌-◌, ◌<◌, ◌≤◌}
use native.Mathlib.Nat.{not-suc-le-zero}
use native.Mathlib.Numerals.{sub-one}
use native.Mathlib.Omega.{arith}
use Rattle.blake3_compression.specs.Compression.{rounds, one_round, columns, diagonals, permuted}
use Rattle.blake3_compression.specs.Columns.{sixteen}

rounds-step : (n : ℕ) (v m : List ℕ) → 0 < n → rounds n v m ≡ rounds (n - 1) (one_round v m) (permuted m)
unfolding rounds
rounds-step zero v m h = absurd (not-suc-le-zero h)
rounds-step (suc n) v m h = rw sub-one

rounds-none : (n : ℕ) (v m : List ℕ) → n ≤ 0 → rounds n v m ≡ v
unfolding rounds
rounds-none zero v m h = refl
rounds-none (suc n) v m h = absurd (not-suc-le-zero h)

-- of n rounds, i are done: one more, and all
module _ (n i : ℕ) (v m : List ℕ) where
  pub rounds-more : i < n → rounds (n - (i + 1)) (one_round v m) (permuted m) ≡ rounds (n - i) v m
  rounds-more h =
      let e : n - i - 1 ≡ n - (i + 1) = omega arith in
      rw (← e) (sym (rounds-step (n - i) v m (omega arith)))

  pub rounds-done : n ≤ i → rounds (n - i) v m ≡ v
  rounds-done h = rounds-none (n - i) v m (omega arith)

-- a round before n others, and the last
pub round-before :
    (n : ℕ) (v m a b w : List ℕ) → a ≡ one_round v m → b ≡ permuted m → w ≡ rounds n a b → w ≡ rounds (suc n) v m
unfolding rounds
round-before n v m a b w r p h = h ∙ ap₂ (rounds n) r p

pub last-round : (v m w : List ℕ) → w ≡ one_round v m → w ≡ rounds 1 v m
unfolding rounds
last-round v m w r = r

-- of a message the first sixteen words count
sixteen-round : (v m : List ℕ) → one_round v (sixteen m) ≡ one_round v m
unfolding one_round columns diagonals sixteen
sixteen-round v m = refl

sixteen-permuted : (m : List ℕ) → permuted (sixteen m) ≡ permuted m
unfolding permuted sixteen
sixteen-permuted m = refl

pub sixteen-rounds : (v m : List ℕ) → rounds 7 v (sixteen m) ≡ rounds 7 v m
unfolding rounds
sixteen-rounds v m = ap₂ (rounds 6) (sixteen-round v m) (sixteen-permuted m)
