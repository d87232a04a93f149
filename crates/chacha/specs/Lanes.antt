-- Four states side by side in one array: word i of the state j stands at 4 i + j. A state by itself is four columns.
use Rattle.std.specs.Prelude.{◌≡◌, ℕ, ◌+◌, ◌*◌, ◌%◌, ◌^◌, ◌<◌, List, [], ◌∷◌, map, length, slice_index, slice_set}
use Rattle.chacha.specs.declared.rounds.Quad.{Quad}
use Rattle.chacha.specs.declared.rounds.State.{State}
use Rattle.chacha.specs.Words.{to_fifteen, bytes}
use Rattle.chacha.specs.ChaCha.{summed, block_of, joined}

-- the sixteen words of four columns
unfoldable pub words : State → List ℕ
words t =
    t.p.a ∷ t.q.a ∷ t.r.a ∷ t.s.a ∷ t.p.b ∷ t.q.b ∷ t.r.b ∷ t.s.b
    ∷ t.p.c ∷ t.q.c ∷ t.r.c ∷ t.s.c ∷ t.p.d ∷ t.q.d ∷ t.r.d ∷ t.s.d ∷ []

-- the words of four columns on a diagonal
abbrev pub diagonal : Quad → Quad → Quad → Quad → Quad
diagonal a b c d = record { a = a.a; b = b.b; c = c.c; d = d.d }

-- the state j of an array
unfoldable pub lane : List ℕ → ℕ → List ℕ
lane v j = map (λ (i : ℕ). slice_index v (4 * i + j)) to_fifteen

-- its column i, and the array with that column, or the whole state, replaced
unfoldable pub column : List ℕ → ℕ → ℕ → Quad
column v i j =
    record { a = slice_index v (4 * i + j); b = slice_index v (4 * (i + 4) + j); c = slice_index v (4 * (i + 8) + j); d = slice_index v (4 * (i + 12) + j) }

unfoldable pub set_column : List ℕ → ℕ → ℕ → Quad → List ℕ
set_column v i j q =
    slice_set (slice_set (slice_set (slice_set v (4 * i + j) q.a) (4 * (i + 4) + j) q.b) (4 * (i + 8) + j) q.c) (4 * (i + 12) + j) q.d

unfoldable pub set_lane : List ℕ → ℕ → State → List ℕ
set_lane v j t = set_column (set_column (set_column (set_column v 0 j t.p) 1 j t.q) 2 j t.r) 3 j t.s

-- each of the first m states of w is f of that of v
pub record Each (m : ℕ) (f : List ℕ → List ℕ) (v w : List ℕ) : Type 0 where
  pub size : length w ≡ 64
  pub at : (j : ℕ) → j < m → lane w j ≡ f (lane v j)

-- the state s with the counter c, modulo 2^32
unfoldable pub numbered : List ℕ → ℕ → List ℕ
numbered s c = slice_set s 12 (c % 2 ^ 32)

-- the states of v are s with the counters from c on
pub record Spread (s : List ℕ) (c : ℕ) (v : List ℕ) : Type 0 where
  pub size : length v ≡ 64
  pub at : (j : ℕ) → j < 4 → lane v j ≡ numbered s (c + j)

-- the sum of the state j of v and the state t, in bytes
unfoldable pub sum_of : List ℕ → ℕ → List ℕ → List ℕ
sum_of v j t = bytes (summed (lane v j) t)

-- the sums of the first m states of v and s with the counters from c on, one behind the other
abbrev pub sums : List ℕ → List ℕ → ℕ → ℕ → List ℕ
sums v s c m = joined (λ (j : ℕ). sum_of v j (numbered s (c + j))) 0 m

-- m blocks, from that with the counter c on
abbrev pub blocks_of : ℕ → List ℕ → ℕ → ℕ → List ℕ
blocks_of n s c m = joined (λ (x : ℕ). block_of n (numbered s x)) c m
