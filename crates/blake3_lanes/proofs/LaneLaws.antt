-- Four states and their messages side by side in one array: what a lane is after a store.
-- Assumes nothing.
use mathlib.Core.Path.{◌≡◌, refl, sym, ap, ◌∙◌, subst}
use mathlib.Core.List.{List, [], ◌∷◌, map}
use Prim.Native.Nat.{ℕ, zero, suc, ◌+◌, ◌*◌, ◌≤◌, ◌<◌}
use native.Mathlib.Nat.{le_of_suc-le-suc, not-suc-le-zero}
use native.Mathlib.Decide.{ℕ_discrete}
use native.Mathlib.Omega.{arith}
use lib.ListN.{length, get_or, set, take, drop, length-set}
use lib.Seq.{ext_get_or, get_or-set_same, get_or-set_other}
use Rattle.octets.proofs.Table.{at_entry}
use Rattle.blake3_mixing.specs.declared.Quad.{Quad}
use Rattle.blake3_compression.specs.Compression.{first_eight, initial, set_at}
use Rattle.blake3_compression.specs.declared.State.{State}
use Rattle.blake3_compression.specs.Columns.{words, sixteen}
use Rattle.blake3.specs.Words.{block_words}
use Rattle.blake3_lanes.specs.Lanes.{to_thirty_one, lane, state, message, column, columns_at, set_column, set_columns}

-- ---- what is loaded

pub state-loaded : (v : List ℕ) (j : ℕ) → words (columns_at v 0 j) ≡ state v j
unfolding words columns_at column state lane
state-loaded v j = refl

pub message-loaded : (v : List ℕ) (j : ℕ) → words (columns_at v 16 j) ≡ message v j
unfolding words columns_at column message lane
message-loaded v j = refl

pub sixteen-block : (s : List ℕ) → sixteen (block_words s) ≡ block_words s
unfolding sixteen block_words
sixteen-block s = refl

-- of a chaining value the first eight words count
pub initial-first : (s : List ℕ) (t b d : ℕ) → initial (first_eight s) t b d ≡ initial s t b d
unfolding initial first_eight
initial-first s t b d = refl

-- ---- one word

get_d_map : (f : ℕ → ℕ) (l : List ℕ) (i : ℕ) → i < length l → get_or (map f l) i 0 ≡ f (get_or l i 0)
get_d_map f [] i h = absurd (not-suc-le-zero h)
get_d_map f (a ∷ l) zero h = refl
get_d_map f (a ∷ l) (suc i) h = get_d_map f l i (le_of_suc-le-suc h)

place : (i : ℕ) → i < 32 → get_or to_thirty_one i 0 ≡ i
place i h = at_entry (λ (k : ℕ). k) to_thirty_one tt i h

get_or-lane : (v : List ℕ) (j i : ℕ) → i < 32 → get_or (lane v j) i 0 ≡ get_or v (4 * i + j) 0
unfolding lane
get_or-lane v j i h = get_d_map (λ (k : ℕ). get_or v (4 * k + j) 0) to_thirty_one i h ∙ ap (λ (k : ℕ). get_or v (4 * k + j) 0) (place i h)

length-lane : (v : List ℕ) (j : ℕ) → length (lane v j) ≡ 32
unfolding lane
length-lane v j = refl

-- ---- one word stored: in the lane's own place, and in another lane

lane-set : (v : List ℕ) (a j x : ℕ) → a < 32 → 4 * a + j < length v → lane (set v (4 * a + j) x) j ≡ set (lane v j) a x
lane-set v a j x h l =
    ext_get_or 0 (lane (set v (4 * a + j) x) j) (set (lane v j) a x)
    (length-lane (set v (4 * a + j) x) j ∙ sym (length-set (lane v j) a x ∙ length-lane v j))
    (λ i m. at i (subst (λ (n : ℕ). i < n) (length-lane (set v (4 * a + j) x) j) m) (ℕ_discrete i a))
  where
    at : (i : ℕ) → i < 32 → Dec (i ≡ a) → get_or (lane (set v (4 * a + j) x) j) i 0 ≡ get_or (set (lane v j) a x) i 0
    at i m (yes e) =
        get_or-lane (set v (4 * a + j) x) j i m
        ∙ ap (λ (k : ℕ). get_or (set v (4 * a + j) x) (4 * k + j) 0) e
        ∙ get_or-set_same v (4 * a + j) x 0 l
        ∙ sym (ap (λ (k : ℕ). get_or (set (lane v j) a x) k 0) e ∙ get_or-set_same (lane v j) a x 0 (subst (λ (n : ℕ). a < n) (sym (length-lane v j)) h))
    at i m (no f) =
        get_or-lane (set v (4 * a + j) x) j i m
        ∙ get_or-set_other v (4 * a + j) (4 * i + j) x 0 (λ e. f (omega arith))
        ∙ sym (get_or-set_other (lane v j) a i x 0 f ∙ get_or-lane v j i m)

lane-other : (v : List ℕ) (a j k x : ℕ) → j < 4 → k < 4 → (k ≡ j → ⊥) → lane (set v (4 * a + j) x) k ≡ lane v k
unfolding lane
lane-other v a j k x hj hk f = λ t. map (λ (i : ℕ). get_or-set_other v (4 * a + j) (4 * i + k) x 0 (λ e. f (omega arith)) t) to_thirty_one

-- ---- a column

length-column : (v : List ℕ) (i j : ℕ) (q : Quad) → length (set_column v i j q) ≡ length v
unfolding set_column
length-column v i j q = simp length-set

pub column-size : (v x : List ℕ) (i j : ℕ) (q : Quad) → length v ≡ 128 → x ≡ set_column v i j q → length x ≡ 128
column-size v x i j q l e = ap length e ∙ length-column v i j q ∙ l

module _ (v : List ℕ) (i j : ℕ) (q : Quad) (hj : j < 4) where
  column-set : i < 20 → length v ≡ 128 → lane (set_column v i j q) j ≡ set_at (lane v j) i (i + 4) (i + 8) (i + 12) q
  unfolding set_column set_at
  column-set h l =
      let v1 = set v (4 * i + j) q.a in
      let v2 = set v1 (4 * (i + 4) + j) q.b in
      let v3 = set v2 (4 * (i + 8) + j) q.c in
      let l1 = length-set v (4 * i + j) q.a ∙ l in
      let l2 = length-set v1 (4 * (i + 4) + j) q.b ∙ l1 in
      let l3 = length-set v2 (4 * (i + 8) + j) q.c ∙ l2 in
      lane-set v3 (i + 12) j q.d (omega arith) (omega (arith, l3))
      ∙ ap (λ (s : List ℕ). set s (i + 12) q.d)
      (lane-set v2 (i + 8) j q.c (omega arith) (omega (arith, l2))
      ∙ ap (λ (s : List ℕ). set s (i + 8) q.c)
      (lane-set v1 (i + 4) j q.b (omega arith) (omega (arith, l1))
      ∙ ap (λ (s : List ℕ). set s (i + 4) q.b) (lane-set v i j q.a (omega arith) (omega (arith, l)))))

  column-other : (k : ℕ) → k < 4 → (k ≡ j → ⊥) → lane (set_column v i j q) k ≡ lane v k
  unfolding set_column
  column-other k hk f =
      lane-other _ (i + 12) j k q.d hj hk f
      ∙ lane-other _ (i + 8) j k q.c hj hk f
      ∙ lane-other _ (i + 4) j k q.b hj hk f
      ∙ lane-other v i j k q.a hj hk f

-- ---- four columns: a state, or a message

module _ (v : List ℕ) (j : ℕ) (t : State) (hj : j < 4) where
  length-columns : (i : ℕ) → length (set_columns v i j t) ≡ length v
  unfolding set_columns
  length-columns i =
      length-column _ (i + 3) j t.s ∙ length-column _ (i + 2) j t.r ∙ length-column _ (i + 1) j t.q ∙ length-column v i j t.p

  columns-set : (i : ℕ) → i ≤ 16 → length v ≡ 128
      → lane (set_columns v i j t) j
      ≡ set_at (set_at (set_at (set_at (lane v j) i (i + 4) (i + 8) (i + 12) t.p) (i + 1) (i + 1 + 4) (i + 1 + 8) (i + 1 + 12) t.q)
      (i + 2) (i + 2 + 4) (i + 2 + 8) (i + 2 + 12) t.r)
      (i + 3) (i + 3 + 4) (i + 3 + 8) (i + 3 + 12) t.s
  unfolding set_columns
  columns-set i h l =
      let v1 = set_column v i j t.p in
      let v2 = set_column v1 (i + 1) j t.q in
      let v3 = set_column v2 (i + 2) j t.r in
      let l1 = length-column v i j t.p ∙ l in
      let l2 = length-column v1 (i + 1) j t.q ∙ l1 in
      let l3 = length-column v2 (i + 2) j t.r ∙ l2 in
      column-set v3 (i + 3) j t.s hj (omega arith) l3
      ∙ ap (λ (s : List ℕ). set_at s (i + 3) (i + 3 + 4) (i + 3 + 8) (i + 3 + 12) t.s)
      (column-set v2 (i + 2) j t.r hj (omega arith) l2
      ∙ ap (λ (s : List ℕ). set_at s (i + 2) (i + 2 + 4) (i + 2 + 8) (i + 2 + 12) t.r)
      (column-set v1 (i + 1) j t.q hj (omega arith) l1
      ∙ ap (λ (s : List ℕ). set_at s (i + 1) (i + 1 + 4) (i + 1 + 8) (i + 1 + 12) t.q) (column-set v i j t.p hj (omega arith) l)))

  pub columns-kept : (i k : ℕ) → k < 4 → (k ≡ j → ⊥) → lane (set_columns v i j t) k ≡ lane v k
  unfolding set_columns
  columns-kept i k hk f =
      column-other _ (i + 3) j t.s hj k hk f
      ∙ column-other _ (i + 2) j t.r hj k hk f
      ∙ column-other _ (i + 1) j t.q hj k hk f
      ∙ column-other v i j t.p hj k hk f

  module _ (l : length v ≡ 128) where
    pub state-stored : state (set_columns v 0 j t) j ≡ words t
    unfolding state words lane set_at
    state-stored = ap (take 16) (columns-set 0 (omega arith) l)

    pub message-beside : message (set_columns v 0 j t) j ≡ message v j
    unfolding message lane set_at
    message-beside = ap (drop 16) (columns-set 0 (omega arith) l)

    pub message-stored : message (set_columns v 16 j t) j ≡ words t
    unfolding message words lane set_at
    message-stored = ap (drop 16) (columns-set 16 (omega arith) l)

    pub state-beside : state (set_columns v 16 j t) j ≡ state v j
    unfolding state lane set_at
    state-beside = ap (take 16) (columns-set 16 (omega arith) l)

pub columns-size : (v x : List ℕ) (i j : ℕ) (t : State) → j < 4 → length v ≡ 128 → x ≡ set_columns v i j t → length x ≡ 128
columns-size v x i j t h l e = ap length e ∙ length-columns v j t h i ∙ l
