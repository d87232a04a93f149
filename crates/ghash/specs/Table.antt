-- The product sixteen bits at a time, from four parts of 16 entries for the hash key.
use Rattle.std.specs.Prelude.{◌≡◌, List, ℕ, zero, suc, ◌+◌, ◌*◌, ◌/◌, ◌%◌, ◌^◌, ◌<◌, length, get_or}
use Rattle.std.specs.Int.Bits.{bit_xor}
use Rattle.ghash.specs.Field.{next, mul}
use Rattle.ghash.specs.Words.{words}

-- m steps of V
unfoldable pub steps : ℕ → ℕ → ℕ
steps zero v = v
steps (suc m) v = steps m (next v)

-- the entry for the four bits n: the block n || 0^124, times h
abbrev pub entry : ℕ → ℕ → ℕ
entry h n = mul (n * 2 ^ 124) h

-- the block at entry n of a table, two words for each
abbrev pub entry_in : List ℕ → ℕ → ℕ
entry_in t n = words (get_or t (2 * n) 0) (get_or t (2 * n + 1) 0)

-- t holds the 16 entries for h, and behind them those for its next 4, 8 and 12 steps
pub record TableFor (t : List ℕ) (h : ℕ) : Type 0 where
  pub size : length t ≡ 128
  pub at : (j : ℕ) → j < 4 → (n : ℕ) → n < 16 → entry_in t (16 * j + n) ≡ entry (steps (4 * j) h) n

-- the hash key that a table is for: its entry for the block 1 || 0^127, the field's 1
unfoldable pub key_in : List ℕ → ℕ
key_in t = entry_in t 8

-- k lookups, from the last four bits of x on
unfoldable pub lookups : ℕ → ℕ → ℕ → ℕ
lookups h x zero = 0
lookups h x (suc k) = bit_xor (steps 4 (lookups h x k)) (entry h (x / 2 ^ (4 * k) % 16))

-- four at a time, 64 places up, where nothing that is shifted out by 16 lookups is lost, and without reduction
unfoldable pub gather : ℕ → ℕ → ℕ → ℕ
gather h x zero = 0
gather h x (suc k) = bit_xor (gather h x k / 2 ^ 16) (lookups h (x / 2 ^ (16 * k)) 4 * 2 ^ 64)

-- u is t with the entries from at + m to at + 2m - 1 made anew: each of the m before them, and v
pub record Doubled (t u : List ℕ) (at m v : ℕ) : Type 0 where
  pub size : length u ≡ length t
  pub below : (n : ℕ) → n < at + m → entry_in u n ≡ entry_in t n
  pub above : (n : ℕ) → n < m → entry_in u (at + m + n) ≡ bit_xor (entry_in t (at + n)) v

-- the first k parts are made
pub record Made (t : List ℕ) (h k : ℕ) : Type 0 where
  pub size : length t ≡ 128
  pub at : (j : ℕ) → j < k → (n : ℕ) → n < 16 → entry_in t (16 * j + n) ≡ entry (steps (4 * j) h) n
