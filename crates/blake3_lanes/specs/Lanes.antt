-- Four states side by side in one array, and four messages behind them: word i of the state j stands at 4 i + j, that of its
-- message at 4 (i + 16) + j. A state or a message by itself is four columns.
use Rattle.std.specs.Prelude.{List, [], ◌∷◌, ◌++◌, map, ◌≡◌, ℕ, ◌+◌, ◌*◌, ◌<◌, length, get_or, set, take, drop, replicate}
use Rattle.blake3_mixing.specs.declared.Quad.{Quad}
use Rattle.blake3_mixing.specs.Mixing.{xor}
use Rattle.blake3_compression.specs.Compression.{first_eight, one_round, permuted, rounds, initial, compressed, iv}
use Rattle.blake3.specs.Words.{block_words}
use Rattle.blake3.specs.Tree.{chunk, chaining_value}
use Rattle.blake3_compression.specs.declared.State.{State}

-- the last state, its upper half added to the lower; and one column of it
unfoldable pub folded : List ℕ → List ℕ
folded v =
    map (λ (i : ℕ). xor (get_or v i 0) (get_or v (i + 8) 0)) (0 ∷ 1 ∷ 2 ∷ 3 ∷ 4 ∷ 5 ∷ 6 ∷ 7 ∷ [])
    ++ map (λ (i : ℕ). get_or v i 0) (8 ∷ 9 ∷ 10 ∷ 11 ∷ 12 ∷ 13 ∷ 14 ∷ 15 ∷ [])

unfoldable pub folded_column : Quad → Quad
folded_column q = record { a = xor q.a q.c; b = xor q.b q.d; c = q.c; d = q.d }

abbrev pub to_thirty_one : List ℕ
to_thirty_one =
    0 ∷ 1 ∷ 2 ∷ 3 ∷ 4 ∷ 5 ∷ 6 ∷ 7 ∷ 8 ∷ 9 ∷ 10 ∷ 11 ∷ 12 ∷ 13 ∷ 14 ∷ 15
    ∷ 16 ∷ 17 ∷ 18 ∷ 19 ∷ 20 ∷ 21 ∷ 22 ∷ 23 ∷ 24 ∷ 25 ∷ 26 ∷ 27 ∷ 28 ∷ 29 ∷ 30 ∷ 31 ∷ []

-- the words of a state and its message, and each alone
unfoldable pub lane : List ℕ → ℕ → List ℕ
lane v j = map (λ (i : ℕ). get_or v (4 * i + j) 0) to_thirty_one

unfoldable pub state : List ℕ → ℕ → List ℕ
state v j = take 16 (lane v j)

unfoldable pub message : List ℕ → ℕ → List ℕ
message v j = drop 16 (lane v j)

-- column i of a lane, and the array with it, or with four columns from i on, replaced
unfoldable pub column : List ℕ → ℕ → ℕ → Quad
column v i j =
    record { a = get_or v (4 * i + j) 0; b = get_or v (4 * (i + 4) + j) 0; c = get_or v (4 * (i + 8) + j) 0; d = get_or v (4 * (i + 12) + j) 0 }

unfoldable pub set_column : List ℕ → ℕ → ℕ → Quad → List ℕ
set_column v i j q =
    set (set (set (set v (4 * i + j) q.a) (4 * (i + 4) + j) q.b) (4 * (i + 8) + j) q.c) (4 * (i + 12) + j) q.d

unfoldable pub set_columns : List ℕ → ℕ → ℕ → State → List ℕ
set_columns v i j t =
    set_column (set_column (set_column (set_column v i j t.p) (i + 1) j t.q) (i + 2) j t.r) (i + 3) j t.s

unfoldable pub columns_at : List ℕ → ℕ → ℕ → State
columns_at v i j = record { p = column v i j; q = column v (i + 1) j; r = column v (i + 2) j; s = column v (i + 3) j }

-- states and messages of w, each made of the state and the message of v with the same number
pub record Each (f g : ℕ → List ℕ → List ℕ → List ℕ) (v w : List ℕ) : Type 0 where
  pub size : length w ≡ 128
  pub states : (j : ℕ) → j < 4 → state w j ≡ f j (state v j) (message v j)
  pub messages : (j : ℕ) → j < 4 → message w j ≡ g j (state v j) (message v j)

-- what the loops over the lanes make of a state, and of a message
abbrev pub same : ℕ → List ℕ → List ℕ → List ℕ
same j s m = s

abbrev pub same_message : ℕ → List ℕ → List ℕ → List ℕ
same_message j s m = m

abbrev pub firsts : ℕ → List ℕ → List ℕ → List ℕ
firsts j s m = iv ++ replicate 8 0

abbrev pub loaded : List ℕ → ℕ → ℕ → List ℕ → List ℕ → List ℕ
loaded b at j s m = block_words (take 64 (drop (at + 1024 * j) b))

abbrev pub started : ℕ → ℕ → ℕ → List ℕ → List ℕ → List ℕ
started t d j s m = initial s (t + j) 64 d

abbrev pub mixed : ℕ → List ℕ → List ℕ → List ℕ
mixed j s m = one_round s m

abbrev pub reordered : ℕ → List ℕ → List ℕ → List ℕ
reordered j s m = permuted m

abbrev pub folded_states : ℕ → List ℕ → List ℕ → List ℕ
folded_states j s m = folded s

-- the states of w are those of v after seven rounds
pub record Rounded (v w : List ℕ) : Type 0 where
  pub size : length w ≡ 128
  pub states : (j : ℕ) → j < 4 → state w j ≡ rounds 7 (state v j) (message v j)

-- the chaining values of w, behind the blocks at `at` of four chunks, the first of which has the number t
pub record Blocks (b : List ℕ) (at t d : ℕ) (v w : List ℕ) : Type 0 where
  pub size : length w ≡ 128
  pub values : (j : ℕ) → j < 4
      → first_eight (state w j) ≡ first_eight (compressed (first_eight (state v j)) (block_words (take 64 (drop (at + 1024 * j) b))) (t + j) 64 d)

-- chunk j of four
abbrev pub chunk_at : List ℕ → ℕ → List ℕ
chunk_at b j = take 1024 (drop (1024 * j) b)

-- the chaining values of four chunks
pub record Chunks (b : List ℕ) (t : ℕ) (w : List ℕ) : Type 0 where
  pub size : length w ≡ 128
  pub values : (j : ℕ) → j < 4 → first_eight (state w j) ≡ chaining_value (chunk iv 0 (t + j) (chunk_at b j))
