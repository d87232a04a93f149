-- One turn of each loop.
-- Assumes nothing.
use mathlib.Core.Path.{◌≡◌, sym, ap, ◌∙◌}
use mathlib.Core.List.{List}
use Prim.Native.Nat.{ℕ, ◌+◌, ◌*◌}
use native.Mathlib.Numerals.{add-one}
use Rattle.aes_planes.specs.Mix.{sums_of, both_of, row_of, key_row_of, set_row, sum_row, bit_of, low_of, high_of, lane_of, columns_of, last_bit_of, last_of}
use Rattle.aes_planes.specs.declared.mix.Quad.{Quad}

module _ (s₀ t k : List ℕ) (n : ℕ) {s s' : List ℕ} where
  pub columns-step : (j : ℕ) → s ≡ columns_of s₀ t k n j → s' ≡ lane_of s t k n j → s' ≡ columns_of s₀ t k n (j + 1)
  unfolding columns_of
  columns-step j e f = f ∙ ap (λ (x : List ℕ). lane_of x t k n j) e ∙ sym (ap (columns_of s₀ t k n) (add-one j))

  pub last-bit-step : (b j : ℕ) → s ≡ last_bit_of s₀ t k n b j
      → s' ≡ set_row s (4 * b + j) (both_of (row_of t (8 * b + j)) (key_row_of k (60 * b + n + j))) → s' ≡ last_bit_of s₀ t k n b (j + 1)
  unfolding last_bit_of
  last-bit-step b j e f =
      f ∙ ap (λ (x : List ℕ). set_row x (4 * b + j) (both_of (row_of t (8 * b + j)) (key_row_of k (60 * b + n + j)))) e
      ∙ sym (ap (last_bit_of s₀ t k n b) (add-one j))

  pub last_step : (b : ℕ) → s ≡ last_of s₀ t k n b → s' ≡ last_bit_of s t k n b 4 → s' ≡ last_of s₀ t k n (b + 1)
  unfolding last_of
  last_step b e f = f ∙ ap (λ (x : List ℕ). last_bit_of x t k n b 4) e ∙ sym (ap (last_of s₀ t k n) (add-one b))

-- ---- the bits of one column, one behind the other

module _ (s t k : List ℕ) (n j : ℕ) {s0 s1 s2 s3 : List ℕ} {x0 x1 x2 : Quad} where
  pub low-law : {d1 d3 : Quad} (x7 : Quad) → s0 ≡ set_row s (4 * 0 + j) (bit_of t k n j 0 x7) → x0 ≡ sum_row t j 0 → d1 ≡ both_of x0 x7
      → s1 ≡ set_row s0 (4 * 1 + j) (bit_of t k n j 1 d1) → x1 ≡ sum_row t j 1
      → s2 ≡ set_row s1 (4 * 2 + j) (bit_of t k n j 2 x1) → x2 ≡ sum_row t j 2 → d3 ≡ both_of x2 x7
      → s3 ≡ set_row s2 (4 * 3 + j) (bit_of t k n j 3 d3) → s3 ≡ low_of s t k n j x7
  unfolding low_of
  low-law x7 e0 f0 g1 e1 f1 e2 f2 g3 e3 =
      e3 ∙ (λ i.
      set_row ((e2 ∙ (λ i. set_row ((e1 ∙ (λ i. set_row (e0 i) (4 * 1 + j) (bit_of t k n j 1 ((g1 ∙ (λ i. both_of (f0 i) x7)) i)))) i) (4 * 2 + j) (bit_of t k n j 2 (f1 i)))) i)
      (4 * 3 + j) (bit_of t k n j 3 ((g3 ∙ (λ i. both_of (f2 i) x7)) i)))

  pub high-law : (d : Quad) → s0 ≡ set_row s (4 * 4 + j) (bit_of t k n j 4 d) → x0 ≡ sum_row t j 4
      → s1 ≡ set_row s0 (4 * 5 + j) (bit_of t k n j 5 x0) → x1 ≡ sum_row t j 5
      → s2 ≡ set_row s1 (4 * 6 + j) (bit_of t k n j 6 x1) → x2 ≡ sum_row t j 6
      → s3 ≡ set_row s2 (4 * 7 + j) (bit_of t k n j 7 x2) → s3 ≡ high_of s t k n j d
  unfolding high_of
  high-law d e0 f0 e1 f1 e2 f2 e3 =
      e3 ∙ (λ i.
      set_row ((e2 ∙ (λ i. set_row ((e1 ∙ (λ i. set_row (e0 i) (4 * 5 + j) (bit_of t k n j 5 (f0 i)))) i) (4 * 6 + j) (bit_of t k n j 6 (f1 i)))) i)
      (4 * 7 + j) (bit_of t k n j 7 (f2 i)))

pub lane-law : (s t k : List ℕ) (n j : ℕ) {s0 s1 : List ℕ} {r x7 x3 d : Quad} → r ≡ row_of t (56 + j) → x7 ≡ sums_of r
    → s0 ≡ low_of s t k n j x7 → x3 ≡ sum_row t j 3 → d ≡ both_of x3 x7 → s1 ≡ high_of s0 t k n j d → s1 ≡ lane_of s t k n j
unfolding lane_of sum_row
lane-law s t k n j e f g h l m =
    let x = f ∙ ap sums_of e in
    m ∙ (λ i. high_of ((g ∙ ap (low_of s t k n j) x) i) t k n j ((l ∙ (λ i. both_of (h i) (x i))) i))
