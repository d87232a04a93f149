-- Where the words of a round stand: each bit of each column, once all are written.
-- Assumes nothing.
use mathlib.Core.Path.{◌≡◌, refl, sym, ap, ◌∙◌, subst}
use mathlib.Core.Logic.{⊎_elim}
use mathlib.Core.List.{List}
use Prim.Native.Nat.{ℕ, zero, suc, ◌+◌, ◌*◌, ◌<◌, ◌≤◌}
use native.Mathlib.Nat.{not-suc-le-zero}
use native.Mathlib.Omega.{arith}
use lib.ListN.{length, get_or, set, length-set}
use lib.Seq.{get_or-set_same, get_or-set_other}
use Rattle.aes_circuit.proofs.Digits.{below}
use Rattle.aes_planes.specs.Mix.{both_of, row_of, key_row_of, set_row, sum_row, bit_of, low_of, high_of, lane_of, columns_of, last_bit_of, last_of}
use Rattle.aes_planes.specs.Rows.{Holds}
use Rattle.aes_planes.specs.declared.mix.Quad.{Quad}

-- ---- one row of four words

pub length-set_row : (s : List ℕ) (at : ℕ) (x : Quad) → length s ≡ 128 → length (set_row s at x) ≡ 128
unfolding set_row
length-set_row s at x l = simp length-set (omega arith)

module _ (s : List ℕ) (at : ℕ) (x : Quad) where
  -- four words, at four places
  pub set_row-other : (q : ℕ) → (q ≡ at → ⊥) → (q ≡ at + 32 → ⊥) → (q ≡ at + 64 → ⊥) → (q ≡ at + 96 → ⊥)
      → get_or (set_row s at x) q 0 ≡ get_or s q 0
  unfolding set_row
  set_row-other q na nb nc ne =
      get_or-set_other (set (set (set s at x.a) (at + 32) x.b) (at + 64) x.c) (at + 96) q x.e 0 ne
      ∙ get_or-set_other (set (set s at x.a) (at + 32) x.b) (at + 64) q x.c 0 nc
      ∙ get_or-set_other (set s at x.a) (at + 32) q x.b 0 nb
      ∙ get_or-set_other s at q x.a 0 na

  pub set_row-holds : length s ≡ 128 → at < 32 → Holds (set_row s at x) at x
  unfolding set_row
  set_row-holds l h =
      let s0 = set s at x.a in
      let s1 = set s0 (at + 32) x.b in
      let s2 = set s1 (at + 64) x.c in
      let l0 : length s0 ≡ 128 = simp length-set (omega arith) in
      let l1 : length s1 ≡ 128 = simp length-set (omega arith) in
      let l2 : length s2 ≡ 128 = simp length-set (omega arith) in
      record {
        in-a = get_or-set_other s2 (at + 96) at x.e 0 (λ e. omega arith) ∙ get_or-set_other s1 (at + 64) at x.c 0 (λ e. omega arith)
            ∙ get_or-set_other s0 (at + 32) at x.b 0 (λ e. omega arith) ∙ get_or-set_same s at x.a 0 (omega arith);
        in_b = get_or-set_other s2 (at + 96) (at + 32) x.e 0 (λ e. omega arith) ∙ get_or-set_other s1 (at + 64) (at + 32) x.c 0 (λ e. omega arith)
            ∙ get_or-set_same s0 (at + 32) x.b 0 (omega arith);
        in_c = get_or-set_other s2 (at + 96) (at + 64) x.e 0 (λ e. omega arith) ∙ get_or-set_same s1 (at + 64) x.c 0 (omega arith);
        in_e = get_or-set_same s2 (at + 96) x.e 0 (omega arith);
      }

  -- at another place it stays
  pub set_row-kept : (p : ℕ) (y : Quad) → at < 32 → p < 32 → (p ≡ at → ⊥) → Holds s p y → Holds (set_row s at x) p y
  set_row-kept p y ha hp n r =
      record {
        in-a = set_row-other p n (λ e. omega arith) (λ e. omega arith) (λ e. omega arith) ∙ r.in-a;
        in_b = set_row-other (p + 32) (λ e. omega arith) (λ e. n (omega arith)) (λ e. omega arith) (λ e. omega arith) ∙ r.in_b;
        in_c = set_row-other (p + 64) (λ e. omega arith) (λ e. omega arith) (λ e. n (omega arith)) (λ e. omega arith) ∙ r.in_c;
        in_e = set_row-other (p + 96) (λ e. omega arith) (λ e. omega arith) (λ e. omega arith) (λ e. n (omega arith)) ∙ r.in_e;
      }

-- ---- a column, bit by bit

unfoldable lane : List ℕ → ℕ → (ℕ → Quad) → ℕ → List ℕ
lane s j q zero = s
lane s j q (suc n) = set_row (lane s j q n) (4 * n + j) (q n)

length-lane : (s : List ℕ) (j : ℕ) (q : ℕ → Quad) (n : ℕ) → length s ≡ 128 → length (lane s j q n) ≡ 128
unfolding lane
length-lane s j q zero l = l
length-lane s j q (suc n) l = length-set_row (lane s j q n) (4 * n + j) (q n) (length-lane s j q n l)

lane-holds : (s : List ℕ) (j : ℕ) (q : ℕ → Quad) → length s ≡ 128 → j < 4 → (n : ℕ) → n ≤ 8 → (i : ℕ) → i < n
    → Holds (lane s j q n) (4 * i + j) (q i)
unfolding lane
lane-holds s j q l hj zero hn i h = absurd (not-suc-le-zero h)
lane-holds s j q l hj (suc n) hn i h =
    ⊎_elim
    (λ e. subst (λ (m : ℕ). Holds (lane s j q (suc n)) (4 * m + j) (q m)) (sym e)
    (set_row-holds (lane s j q n) (4 * n + j) (q n) (length-lane s j q n l) (omega arith)))
    (λ b. set_row-kept (lane s j q n) (4 * n + j) (q n) (4 * i + j) (q i) (omega arith) (omega arith) (λ e. omega arith)
    (lane-holds s j q l hj n (omega arith) i b))
    (below i n h)

lane-kept : (s : List ℕ) (j : ℕ) (q : ℕ → Quad) (n i c : ℕ) (y : Quad) → j < 4 → n ≤ 8 → i < 8 → c < 4 → (c ≡ j → ⊥)
    → Holds s (4 * i + c) y → Holds (lane s j q n) (4 * i + c) y
unfolding lane
lane-kept s j q zero i c y hj hn hi hc ne r = r
lane-kept s j q (suc n) i c y hj hn hi hc ne r =
    set_row-kept (lane s j q n) (4 * n + j) (q n) (4 * i + c) y (omega arith) (omega arith) (λ e. ne (omega arith))
    (lane-kept s j q n i c y hj (omega arith) hi hc ne r)

-- ---- all columns

-- what is doubled for bit b
unfoldable pub doubled_of : List ℕ → ℕ → ℕ → Quad
doubled_of t j zero = sum_row t j 7
doubled_of t j (suc zero) = both_of (sum_row t j 0) (sum_row t j 7)
doubled_of t j (suc (suc zero)) = sum_row t j 1
doubled_of t j (suc (suc (suc zero))) = both_of (sum_row t j 2) (sum_row t j 7)
doubled_of t j (suc (suc (suc (suc zero)))) = both_of (sum_row t j 3) (sum_row t j 7)
doubled_of t j (suc (suc (suc (suc (suc b))))) = sum_row t j (suc (suc (suc (suc b))))

unfoldable pub quad_of : List ℕ → List ℕ → ℕ → ℕ → ℕ → Quad
quad_of t k n j b = bit_of t k n j b (doubled_of t j b)

module _ (s t k : List ℕ) (n : ℕ) where
  lane-of : (j : ℕ) → lane_of s t k n j ≡ lane s j (quad_of t k n j) 8
  unfolding lane lane_of low_of high_of quad_of doubled_of
  lane-of j = refl

module _ (s t k : List ℕ) (n : ℕ) (l : length s ≡ 128) where
  pub length-columns : (j : ℕ) → length (columns_of s t k n j) ≡ 128
  unfolding columns_of
  length-columns zero = l
  length-columns (suc j) =
      ap length (lane-of (columns_of s t k n j) t k n j) ∙ length-lane (columns_of s t k n j) j (quad_of t k n j) 8 (length-columns j)

  pub columns-hold : (j : ℕ) → j ≤ 4 → (c i : ℕ) → c < j → i < 8 → Holds (columns_of s t k n j) (4 * i + c) (quad_of t k n c i)
  unfolding columns_of
  columns-hold zero hj c i hc hi = absurd (not-suc-le-zero hc)
  columns-hold (suc j) hj c i hc hi =
      let u = columns_of s t k n j in
      subst (λ (v : List ℕ). Holds v (4 * i + c) (quad_of t k n c i)) (sym (lane-of u t k n j))
      (⊎_elim
      (λ e. subst (λ (m : ℕ). Holds (lane u j (quad_of t k n j) 8) (4 * i + m) (quad_of t k n m i)) (sym e)
      (lane-holds u j (quad_of t k n j) (length-columns j) (omega arith) 8 (omega arith) i hi))
      (λ b. lane-kept u j (quad_of t k n j) 8 i c (quad_of t k n c i) (omega arith) (omega arith) hi (omega arith) (λ e. omega arith)
      (columns-hold j (omega arith) c i b hi))
      (below c j hc))

-- ---- the last round

unfoldable pub last_quad : List ℕ → List ℕ → ℕ → ℕ → ℕ → Quad
last_quad t k n j b = both_of (row_of t (8 * b + j)) (key_row_of k (60 * b + n + j))

module _ (t k : List ℕ) (n b : ℕ) (hb : b < 8) where
  length-last_bit : (s : List ℕ) → length s ≡ 128 → (j : ℕ) → length (last_bit_of s t k n b j) ≡ 128
  unfolding last_bit_of
  length-last_bit s l zero = l
  length-last_bit s l (suc j) = length-set_row (last_bit_of s t k n b j) (4 * b + j) _ (length-last_bit s l j)

  last_bit-holds : (s : List ℕ) → length s ≡ 128 → (j : ℕ) → j ≤ 4 → (c : ℕ) → c < j → Holds (last_bit_of s t k n b j) (4 * b + c) (last_quad t k n c b)
  unfolding last_bit_of last_quad
  last_bit-holds s l zero hj c hc = absurd (not-suc-le-zero hc)
  last_bit-holds s l (suc j) hj c hc =
      ⊎_elim
      (λ e. subst (λ (m : ℕ). Holds (last_bit_of s t k n b (suc j)) (4 * b + m) (last_quad t k n m b)) (sym e)
      (set_row-holds (last_bit_of s t k n b j) (4 * b + j) (last_quad t k n j b) (length-last_bit s l j) (omega arith)))
      (λ h. set_row-kept (last_bit_of s t k n b j) (4 * b + j) (last_quad t k n j b) (4 * b + c) (last_quad t k n c b) (omega arith) (omega arith) (λ e. omega arith)
      (last_bit-holds s l j (omega arith) c h))
      (below c j hc)

  last_bit-kept : (s : List ℕ) (j : ℕ) → j ≤ 4 → (i c : ℕ) (y : Quad) → i < 8 → c < 4 → (i ≡ b → ⊥)
      → Holds s (4 * i + c) y → Holds (last_bit_of s t k n b j) (4 * i + c) y
  unfolding last_bit_of
  last_bit-kept s zero hj i c y hi hc ne r = r
  last_bit-kept s (suc j) hj i c y hi hc ne r =
      set_row-kept (last_bit_of s t k n b j) (4 * b + j) _ (4 * i + c) y (omega arith) (omega arith) (λ e. ne (omega arith))
      (last_bit-kept s j (omega arith) i c y hi hc ne r)

module _ (s t k : List ℕ) (n : ℕ) (l : length s ≡ 128) where
  pub length_last : (b : ℕ) → b ≤ 8 → length (last_of s t k n b) ≡ 128
  unfolding last_of
  length_last zero h = l
  length_last (suc b) h = length-last_bit t k n b h (last_of s t k n b) (length_last b (omega arith)) 4

  pub last-hold : (b : ℕ) → b ≤ 8 → (i c : ℕ) → i < b → c < 4 → Holds (last_of s t k n b) (4 * i + c) (last_quad t k n c i)
  unfolding last_of
  last-hold zero h i c hi hc = absurd (not-suc-le-zero hi)
  last-hold (suc b) h i c hi hc =
      let u = last_of s t k n b in
      ⊎_elim
      (λ e. subst (λ (m : ℕ). Holds (last_bit_of u t k n b 4) (4 * m + c) (last_quad t k n c m)) (sym e)
      (last_bit-holds t k n b h u (length_last b (omega arith)) 4 (omega arith) c hc))
      (λ hb. last_bit-kept t k n b h u 4 (omega arith) i c (last_quad t k n c i) (omega arith) hc (λ e. omega arith)
      (last-hold b (omega arith) i c hb hc))
      (below i b hi)
