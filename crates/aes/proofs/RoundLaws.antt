-- What the functions on words do to the bytes: a column, a round, the cipher.
-- Assumes nothing.
use mathlib.Core.Path.{◌≡◌, sym, ap, ◌∙◌}
use mathlib.Core.List.{List, [], ◌∷◌, ◌++◌, map}
use Prim.Native.Nat.{ℕ, zero, suc, ◌+◌, ◌-◌, ◌*◌, ◌<◌}
use native.Mathlib.Omega.{arith}
use lib.Bits.{bit_xor}
use lib.ListN.{get_or, get_or-map}
use Rattle.octets.specs.Buffers.{◌⊞◌}
use Rattle.aes_tables.specs.Field.{◌•◌}
use Rattle.aes_tables.specs.SBox.{s_box}
use Rattle.aes_tables.specs.Tables.{IsTable, mix_entry}
use Rattle.aes_tables.proofs.Substitution.{s_box-lt}
use Rattle.aes_tables.proofs.Products.{product_lt}
use Rattle.aes.specs.Cipher.{mix_column, mix_columns, shift_rows, sub_bytes, add_round_key, word, round_key, rounds, cipher}
use Rattle.aes.specs.Words.{bytes, turned, entries, column_sum}
use Rattle.aes.proofs.WordLaws.{bytes-column, bytes-xor}

-- ---- a column

mix-bytes : (x : ℕ) → x < 256 → bytes (mix_entry x) ≡ 2 • s_box x ∷ s_box x ∷ s_box x ∷ 3 • s_box x ∷ []
unfolding mix_entry
mix-bytes x h =
    let s = s_box-lt x h in
    bytes-column _ _ _ _ (product_lt 2 (s_box x) s) s s (product_lt 3 (s_box x) s)

module _ (t : List ℕ) (x y z v : ℕ) (lx : x < 256) (ly : y < 256) (lz : z < 256) (lv : v < 256) where
  pub mixed-law : IsTable mix_entry t → column_sum t x y z v ≡ mix_column (s_box x) (s_box y) (s_box z) (s_box v)
  unfolding column_sum turned mix_column ◌⊞◌
  mixed-law p = λ i. at x lx i ⊞ turned 1 (at y ly i) ⊞ turned 2 (at z lz i) ⊞ turned 3 (at v lv i)
    where
      at : (n : ℕ) → n < 256 → bytes (get_or t n 0) ≡ 2 • s_box n ∷ s_box n ∷ s_box n ∷ 3 • s_box n ∷ []
      at n l = ap bytes (p.entry n l) ∙ mix-bytes n l

  -- four entries of a table of bytes
  pub substituted-law : (f : ℕ → ℕ) → IsTable f t → entries t x y z v ≡ f x ∷ f y ∷ f z ∷ f v ∷ []
  unfolding entries
  substituted-law f p = λ i. p.entry x lx i ∷ p.entry y ly i ∷ p.entry z lz i ∷ p.entry v lv i ∷ []

-- ---- sums of words

pub sum-law : (a b c d : ℕ) (p q r : List ℕ) → bytes b ≡ p → bytes c ≡ q → bytes d ≡ r
    → bytes (bit_xor (bit_xor (bit_xor a b) c) d) ≡ bytes a ⊞ p ⊞ q ⊞ r
sum-law a b c d p q r eb ec ed =
    bytes-xor (bit_xor (bit_xor a b) c) d
    ∙ (λ i. (bytes-xor (bit_xor a b) c ∙ (λ j. (bytes-xor a b ∙ ap (λ (l : List ℕ). bytes a ⊞ l) eb) j ⊞ ec j)) i ⊞ ed i)

pub add-law : (a b c d e f g h : ℕ)
    → bytes (bit_xor a e) ++ (bytes (bit_xor b f) ++ (bytes (bit_xor c g) ++ bytes (bit_xor d h)))
    ≡ (bytes a ++ (bytes b ++ (bytes c ++ bytes d))) ⊞ (bytes e ++ (bytes f ++ (bytes g ++ bytes h)))
unfolding ◌⊞◌
add-law a b c d e f g h = λ i. bytes-xor a e i ++ (bytes-xor b f i ++ (bytes-xor c g i ++ bytes-xor d h i))

-- ---- round keys

pub word-law : (l : List ℕ) (i : ℕ) → word (map bytes l) i ≡ bytes (get_or l i 0)
unfolding word
word-law l i = get_or-map bytes l i 0

pub round-key-law : (l : List ℕ) (r : ℕ)
    → bytes (get_or l (4 * r) 0) ++ (bytes (get_or l (4 * r + 1) 0) ++ (bytes (get_or l (4 * r + 2) 0) ++ bytes (get_or l (4 * r + 3) 0)))
    ≡ round_key (map bytes l) r
unfolding round_key
round-key-law l r =
    λ j. sym (word-law l (4 * r)) j ++ (sym (word-law l (4 * r + 1)) j ++ (sym (word-law l (4 * r + 2)) j ++ sym (word-law l (4 * r + 3)) j))

-- ---- the cipher

-- round i, after those before it
pub round-law : (w : List (List ℕ)) (i : ℕ) (s₀ s k r : List ℕ) → 0 < i → s ≡ rounds w (i - 1) s₀ → k ≡ round_key w i
    → r ≡ mix_columns (shift_rows (sub_bytes s)) ⊞ k → r ≡ rounds w (i + 1 - 1) s₀
unfolding rounds add_round_key
round-law w zero s₀ s k r h es ek er = absurd (omega arith)
round-law w (suc n) s₀ s k r h es ek er =
    let here : suc n + 1 - 1 ≡ suc n = omega arith in
    let before : suc n - 1 ≡ n = omega arith in
    let es' = rw before at es in
    rw here (er ∙ (λ i. mix_columns (shift_rows (sub_bytes (es' i))) ⊞ ek i))

-- the last round
pub cipher-law : (w : List (List ℕ)) (nr n : ℕ) (x k₀ s₀ s k r : List ℕ) → k₀ ≡ round_key w 0 → s₀ ≡ x ⊞ k₀ → n ≡ nr - 1 → s ≡ rounds w n s₀
    → k ≡ round_key w nr → r ≡ shift_rows (sub_bytes s) ⊞ k → r ≡ cipher nr w x
unfolding cipher add_round_key
cipher-law w nr n x k₀ s₀ s k r e₀ es₀ en es ek er =
    er ∙ (λ i. shift_rows (sub_bytes (es i)) ⊞ ek i)
    ∙ (λ i. shift_rows (sub_bytes (rounds w (en i) ((es₀ ∙ ap (λ (l : List ℕ). x ⊞ l) e₀) i))) ⊞ round_key w nr)
