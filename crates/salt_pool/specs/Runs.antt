-- What the pool's answers mean, and salts one after the other: a salt that was stored is a replay as long as it is kept.
-- Assumes nothing.
use Rattle.std.specs.Prelude.{ℕ, ◌+◌, ◌<◌, ◌≤◌, Bool, true, false, cond, List, [], ◌∷◌, ◌++◌, ◌↔◌, ◌≡◌, length}
use Rattle.salt_pool.specs.Pool.{Met}
use Rattle.std.specs.Prelude.{Ok, Err}
use Rattle.salt_pool.specs.Pool.{Replay, Full}
use Rattle.salt_pool.specs.Pool.{capacity, keep_time, pool_words, salt_words, kept, same_salt, meet, store}

-- ---- the answers

-- record i keeps the salt
abbrev pub Keeps : List ℕ → (clock : ℕ) → (salt : List ℕ) → ℕ → Type 0
Keeps t clock salt i = (i < capacity) × (kept t clock i ≡ true) × (same_salt (salt_words salt) (length salt) t i ≡ true)

-- no record keeps it
abbrev pub Unkept : List ℕ → (clock : ℕ) → (salt : List ℕ) → Type 0
Unkept t clock salt = (i : ℕ) → Keeps t clock salt i → ⊥

-- record i is the lowest that keeps no salt
abbrev pub LowestFree : List ℕ → (clock : ℕ) → ℕ → Type 0
LowestFree t clock i = (i < capacity) × (kept t clock i ≡ false) × ((k : ℕ) → k < i → kept t clock k ≡ true)

abbrev pub AllKept : List ℕ → (clock : ℕ) → Type 0
AllKept t clock = (i : ℕ) → i < capacity → kept t clock i ≡ true

-- when a salt meets each of the three
pub record MeetsExactly (t : List ℕ) (clock : ℕ) (salt : List ℕ) : Type 0 where
  pub replay : (meet t clock salt ≡ Err Replay) ↔ ((i : ℕ) × Keeps t clock salt i)
  pub room : (i : ℕ) → (meet t clock salt ≡ Ok i) ↔ (Unkept t clock salt × LowestFree t clock i)
  pub full : (meet t clock salt ≡ Err Full) ↔ (Unkept t clock salt × AllKept t clock)

-- ---- runs

-- A salt that arrives. Where there is room for it, the caller stores it or, for a reason of its own, does not.
pub record Item : Type 0 where
  pub clock : ℕ
  pub salt : List ℕ
  pub stored : Bool

-- the pool after one
abbrev pub next_by : Met → List ℕ → Item → List ℕ
next_by (Ok i) t x = cond x.stored (store t i x.clock x.salt) t
next_by (Err Replay) t x = t
next_by (Err Full) t x = t

unfoldable pub next : List ℕ → Item → List ℕ
next t x = next_by (meet t x.clock x.salt) t x

-- the pool after many
abbrev pub run : List ℕ → List Item → List ℕ
run t [] = t
run t (x ∷ xs) = run (next t x) xs

-- no clock is past c
abbrev pub Until : (c : ℕ) → List Item → Type 0
Until c [] = Unit {0}
Until c (x ∷ xs) = (x.clock ≤ c) × Until c xs

-- from c on the clock never goes back
abbrev pub Forward : (c : ℕ) → List Item → Type 0
Forward c [] = Unit {0}
Forward c (x ∷ xs) = (c ≤ x.clock) × Forward x.clock xs

-- ---- the statements

-- A salt x that was stored is a replay up to `keep_time` past its clock, from whatever pool the run began and whatever came
-- before it and since.
abbrev pub NeverTwice : Type 0
NeverTwice =
    (t : List ℕ) (before between : List Item) (x : Item) (i c : ℕ) → length t ≡ pool_words
    → meet (run t before) x.clock x.salt ≡ Ok i → x.stored ≡ true → Until c between → c ≤ x.clock + keep_time
    → meet (run t (before ++ x ∷ between)) c x.salt ≡ Err Replay

-- The same where y arrives with the salt of x, and the clock never went back in between.
abbrev pub NeverTwiceForward : Type 0
NeverTwiceForward =
    (t : List ℕ) (before between : List Item) (x y : Item) (i : ℕ) → length t ≡ pool_words
    → meet (run t before) x.clock x.salt ≡ Ok i → x.stored ≡ true → Forward x.clock (between ++ y ∷ [])
    → y.salt ≡ x.salt → y.clock ≤ x.clock + keep_time
    → meet (run t (before ++ x ∷ between)) y.clock y.salt ≡ Err Replay
