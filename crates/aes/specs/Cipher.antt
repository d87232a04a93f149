-- FIPS 197, section 5.1: the cipher. A block, a state and a round key are 16 bytes, a state column by column (3.4); a word is
-- 4 bytes; w is the expanded key, a list of words.
use Rattle.std.specs.Prelude.{◌≡◌, List, [], ◌∷◌, ◌++◌, map, ℕ, zero, suc, ◌+◌, ◌-◌, ◌*◌, ◌%◌, length, get_or}
use Rattle.octets.specs.Buffers.{Octets, ◌⊞◌}
use Rattle.aes_tables.specs.Field.{◌⊕◌, ◌•◌}
use Rattle.aes_tables.specs.SBox.{s_box}

-- 3.4: s[r, c], the byte of a state in row r and column c; and the state whose bytes are f r c
unfoldable pub at : List ℕ → ℕ → ℕ → ℕ
at s r c = get_or s (r + 4 * c) 0

unfoldable pub state : (ℕ → ℕ → ℕ) → List ℕ
state f =
    f 0 0 ∷ f 1 0 ∷ f 2 0 ∷ f 3 0
    ∷ f 0 1 ∷ f 1 1 ∷ f 2 1 ∷ f 3 1
    ∷ f 0 2 ∷ f 1 2 ∷ f 2 2 ∷ f 3 2
    ∷ f 0 3 ∷ f 1 3 ∷ f 2 3 ∷ f 3 3 ∷ []

-- a map of columns, at each column of a state
unfoldable pub by_column : (ℕ → ℕ → ℕ → ℕ → List ℕ) → List ℕ → List ℕ
by_column f s =
    f (at s 0 0) (at s 1 0) (at s 2 0) (at s 3 0)
    ++ (f (at s 0 1) (at s 1 1) (at s 2 1) (at s 3 1)
    ++ (f (at s 0 2) (at s 1 2) (at s 2 2) (at s 3 2)
    ++ f (at s 0 3) (at s 1 3) (at s 2 3) (at s 3 3)))

-- 5.1.1
unfoldable pub sub_bytes : List ℕ → List ℕ
sub_bytes = map s_box

-- 5.1.2
unfoldable pub shift_rows : List ℕ → List ℕ
shift_rows s = state (λ r c. at s r ((c + r) % 4))

-- 5.1.3
unfoldable pub mix_column : ℕ → ℕ → ℕ → ℕ → List ℕ
mix_column a b c d =
    2 • a ⊕ 3 • b ⊕ c ⊕ d
    ∷ a ⊕ 2 • b ⊕ 3 • c ⊕ d
    ∷ a ⊕ b ⊕ 2 • c ⊕ 3 • d
    ∷ 3 • a ⊕ b ⊕ c ⊕ 2 • d ∷ []

unfoldable pub mix_columns : List ℕ → List ℕ
mix_columns = by_column mix_column

-- word i of the expanded key
unfoldable pub word : List (List ℕ) → ℕ → List ℕ
word w i = get_or w i (0 ∷ 0 ∷ 0 ∷ 0 ∷ [])

-- 5.1.4: the four words of round r, added to the state
unfoldable pub round_key : List (List ℕ) → ℕ → List ℕ
round_key w r = word w (4 * r) ++ (word w (4 * r + 1) ++ (word w (4 * r + 2) ++ word w (4 * r + 3)))

unfoldable pub add_round_key : List (List ℕ) → ℕ → List ℕ → List ℕ
add_round_key w r s = s ⊞ round_key w r

-- the state after round n, of those before the last
unfoldable pub rounds : List (List ℕ) → ℕ → List ℕ → List ℕ
rounds w zero s = s
rounds w (suc n) s = add_round_key w (suc n) (mix_columns (shift_rows (sub_bytes (rounds w n s))))

-- CIPHER(in, Nr, w)
unfoldable pub cipher : ℕ → List (List ℕ) → List ℕ → List ℕ
cipher nr w s = add_round_key w nr (shift_rows (sub_bytes (rounds w (nr - 1) (add_round_key w 0 s))))

-- a block: 16 bytes
pub record IsBlock (s : List ℕ) : Type 0 where
  pub size : length s ≡ 16
  pub bytes : Octets s
