-- InvMixColumns undoes MixColumns, column by column. Each row of a column is row 0 of the column turned, so one row is enough.
-- Assumes nothing.
use mathlib.Core.Path.{◌≡◌, sym, ap, ◌∙◌}
use mathlib.Core.List.{[], ◌∷◌}
use Prim.Native.Nat.{ℕ, ◌<◌}
use lib.Bits.{xor_comm, xor_lt, xor_zero_r}
use lib.Dec.{eqb, eqb→eq}
use Rattle.octets.proofs.Table.{at_each}
use Rattle.octets.proofs.XorLaws.{xor_assoc, xor-medial}
use Rattle.aes_tables.specs.Field.{◌⊕◌, x_times, times, ◌•◌}
use Rattle.aes_tables.proofs.Products.{product_lt, product-linear}
use Rattle.aes_inverse.specs.InvCipher.{inv_mix_column}

-- ---- sums of four

turn : (a b c d : ℕ) → a ⊕ b ⊕ c ⊕ d ≡ b ⊕ c ⊕ d ⊕ a
turn a b c d =
    ap (λ (x : ℕ). x ⊕ d) (xor_assoc a b c) ∙ xor_assoc a (b ⊕ c) d ∙ xor_comm a (b ⊕ c ⊕ d)

pair : (a b c d a' b' c' d' : ℕ) → (a ⊕ b ⊕ c ⊕ d) ⊕ (a' ⊕ b' ⊕ c' ⊕ d') ≡ (a ⊕ a') ⊕ (b ⊕ b') ⊕ (c ⊕ c') ⊕ (d ⊕ d')
pair a b c d a' b' c' d' =
    xor-medial (a ⊕ b ⊕ c) d (a' ⊕ b' ⊕ c') d'
    ∙ ap (λ (x : ℕ). x ⊕ (d ⊕ d')) (xor-medial (a ⊕ b) c (a' ⊕ b') c' ∙ ap (λ (x : ℕ). x ⊕ (c ⊕ c')) (xor-medial a b a' b'))

-- four sums of four, by rows and by columns
transposed : (a b c d e f g h i j k l m n o p : ℕ)
    → (a ⊕ b ⊕ c ⊕ d) ⊕ (e ⊕ f ⊕ g ⊕ h) ⊕ (i ⊕ j ⊕ k ⊕ l) ⊕ (m ⊕ n ⊕ o ⊕ p)
    ≡ (a ⊕ e ⊕ i ⊕ m) ⊕ (b ⊕ f ⊕ j ⊕ n) ⊕ (c ⊕ g ⊕ k ⊕ o) ⊕ (d ⊕ h ⊕ l ⊕ p)
transposed a b c d e f g h i j k l m n o p =
    ap (λ (x : ℕ). x ⊕ (i ⊕ j ⊕ k ⊕ l) ⊕ (m ⊕ n ⊕ o ⊕ p)) (pair a b c d e f g h)
    ∙ ap (λ (x : ℕ). x ⊕ (m ⊕ n ⊕ o ⊕ p)) (pair (a ⊕ e) (b ⊕ f) (c ⊕ g) (d ⊕ h) i j k l)
    ∙ pair (a ⊕ e ⊕ i) (b ⊕ f ⊕ j) (c ⊕ g ⊕ k) (d ⊕ h ⊕ l) m n o p

linear4 : (k p q r s : ℕ) → p < 256 → q < 256 → r < 256 → s < 256 → k • (p ⊕ q ⊕ r ⊕ s) ≡ k • p ⊕ k • q ⊕ k • r ⊕ k • s
linear4 k p q r s hp hq hr hs =
    let pq : p ⊕ q < 256 = xor_lt 8 p q hp hq in
    product-linear k (p ⊕ q ⊕ r) s (xor_lt 8 (p ⊕ q) r pq hr) hs
    ∙ ap (λ (x : ℕ). x ⊕ k • s) (product-linear k (p ⊕ q) r pq hr ∙ ap (λ (x : ℕ). x ⊕ k • r) (product-linear k p q hp hq))

-- ---- what the coefficients come to, tested at each byte

coefficient-a : (x : ℕ) → x < 256 → 14 • (2 • x) ⊕ 11 • x ⊕ 13 • x ⊕ 9 • (3 • x) ≡ x
unfolding x_times times ◌•◌
coefficient-a x h = eqb→eq _ _ (at_each 256 (λ y. eqb (14 • (2 • y) ⊕ 11 • y ⊕ 13 • y ⊕ 9 • (3 • y)) y) tt x h)

coefficient-b : (x : ℕ) → x < 256 → 14 • (3 • x) ⊕ 11 • (2 • x) ⊕ 13 • x ⊕ 9 • x ≡ 0
unfolding x_times times ◌•◌
coefficient-b x h = eqb→eq _ _ (at_each 256 (λ y. eqb (14 • (3 • y) ⊕ 11 • (2 • y) ⊕ 13 • y ⊕ 9 • y) 0) tt x h)

coefficient-c : (x : ℕ) → x < 256 → 14 • x ⊕ 11 • (3 • x) ⊕ 13 • (2 • x) ⊕ 9 • x ≡ 0
unfolding x_times times ◌•◌
coefficient-c x h = eqb→eq _ _ (at_each 256 (λ y. eqb (14 • y ⊕ 11 • (3 • y) ⊕ 13 • (2 • y) ⊕ 9 • y) 0) tt x h)

coefficient-d : (x : ℕ) → x < 256 → 14 • x ⊕ 11 • x ⊕ 13 • (3 • x) ⊕ 9 • (2 • x) ≡ 0
unfolding x_times times ◌•◌
coefficient-d x h = eqb→eq _ _ (at_each 256 (λ y. eqb (14 • y ⊕ 11 • y ⊕ 13 • (3 • y) ⊕ 9 • (2 • y)) 0) tt x h)

-- ---- a column

-- row 0 of a mixed column, and of an unmixed one
mix0 : ℕ → ℕ → ℕ → ℕ → ℕ
mix0 a b c d = 2 • a ⊕ 3 • b ⊕ c ⊕ d

inv0 : ℕ → ℕ → ℕ → ℕ → ℕ
inv0 a b c d = 14 • a ⊕ 11 • b ⊕ 13 • c ⊕ 9 • d

inv-rows : (a b c d : ℕ) → inv_mix_column a b c d ≡ inv0 a b c d ∷ inv0 b c d a ∷ inv0 c d a b ∷ inv0 d a b c ∷ []
unfolding inv_mix_column inv0
inv-rows a b c d =
    λ i. inv0 a b c d ∷ turn (9 • a) (14 • b) (11 • c) (13 • d) i
    ∷ (turn (13 • a) (9 • b) (14 • c) (11 • d) ∙ turn (9 • b) (14 • c) (11 • d) (13 • a)) i
    ∷ sym (turn (14 • d) (11 • a) (13 • b) (9 • c)) i ∷ []

-- row 0 comes back
back : (a b c d : ℕ) → a < 256 → b < 256 → c < 256 → d < 256
    → inv0 (mix0 a b c d) (mix0 b c d a) (mix0 c d a b) (mix0 d a b c) ≡ a
unfolding mix0 inv0
back a b c d ha hb hc hd =
    let by : (k x : ℕ) → x < 256 → k • x < 256 = product_lt in
    (λ i. 14 • mix0 a b c d ⊕ 11 • sym (turn a (2 • b) (3 • c) d) i
    ⊕ 13 • sym (turn a b (2 • c) (3 • d) ∙ turn b (2 • c) (3 • d) a) i ⊕ 9 • turn (2 • d) (3 • a) b c i)
    ∙ (λ i. linear4 14 (2 • a) (3 • b) c d (by 2 a ha) (by 3 b hb) hc hd i
    ⊕ linear4 11 a (2 • b) (3 • c) d ha (by 2 b hb) (by 3 c hc) hd i
    ⊕ linear4 13 a b (2 • c) (3 • d) ha hb (by 2 c hc) (by 3 d hd) i
    ⊕ linear4 9 (3 • a) b c (2 • d) (by 3 a ha) hb hc (by 2 d hd) i)
    ∙ transposed (14 • (2 • a)) (14 • (3 • b)) (14 • c) (14 • d) (11 • a) (11 • (2 • b)) (11 • (3 • c)) (11 • d)
    (13 • a) (13 • b) (13 • (2 • c)) (13 • (3 • d)) (9 • (3 • a)) (9 • b) (9 • c) (9 • (2 • d))
    ∙ (λ i. coefficient-a a ha i ⊕ coefficient-b b hb i ⊕ coefficient-c c hc i ⊕ coefficient-d d hd i)
    ∙ xor_zero_r (a ⊕ 0 ⊕ 0) ∙ xor_zero_r (a ⊕ 0) ∙ xor_zero_r a

-- the whole column comes back
pub unmixed : (a b c d : ℕ) → a < 256 → b < 256 → c < 256 → d < 256
    → inv_mix_column (2 • a ⊕ 3 • b ⊕ c ⊕ d) (a ⊕ 2 • b ⊕ 3 • c ⊕ d) (a ⊕ b ⊕ 2 • c ⊕ 3 • d) (3 • a ⊕ b ⊕ c ⊕ 2 • d)
    ≡ a ∷ b ∷ c ∷ d ∷ []
unfolding mix0
unmixed a b c d ha hb hc hd =
    (λ i. inv_mix_column (mix0 a b c d) (turn a (2 • b) (3 • c) d i) ((turn a b (2 • c) (3 • d) ∙ turn b (2 • c) (3 • d) a) i)
    (sym (turn (2 • d) (3 • a) b c) i))
    ∙ inv-rows (mix0 a b c d) (mix0 b c d a) (mix0 c d a b) (mix0 d a b c)
    ∙ (λ i. back a b c d ha hb hc hd i ∷ back b c d a hb hc hd ha i ∷ back c d a b hc hd ha hb i ∷ back d a b c hd ha hb hc i ∷ [])
