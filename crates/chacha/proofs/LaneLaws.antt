-- Four states side by side in one array: what one of them is after a store, and loops over the states.
-- Assumes nothing.
use Rattle.std.proofs.Common.{◌≡◌, ℕ, zero, suc, ◌+◌, ◌*◌, ◌/◌, ◌%◌, ◌^◌, ◌<◌, ◌≤◌, List, [], ◌∷◌, map, length, get_or, set, sym, refl, ap, ◌∙◌, subst, le_of_suc-le-suc, not-suc-le-zero, arith, length-set, get_or-set_other, get_or-set_same, ext_get_or}
use native.Mathlib.Decide.{ℕ_discrete}
use Rattle.octets.proofs.Table.{at_entry}
use Rattle.chacha.specs.declared.rounds.Quad.{Quad}
use Rattle.chacha.specs.declared.rounds.State.{State}
use Rattle.chacha.specs.Words.{to_fifteen, add32}
use Rattle.chacha.specs.ChaCha.{set_at, summed}
use Rattle.chacha.specs.Lanes.{words, lane, set_column, set_lane, Each, numbered, Spread}

-- ---- one word

get_d_map : (f : ℕ → ℕ) (l : List ℕ) (i : ℕ) → i < length l → get_or (map f l) i 0 ≡ f (get_or l i 0)
get_d_map f [] i h = absurd (not-suc-le-zero h)
get_d_map f (a ∷ l) zero h = refl
get_d_map f (a ∷ l) (suc i) h = get_d_map f l i (le_of_suc-le-suc h)

place : (i : ℕ) → i < 16 → get_or to_fifteen i 0 ≡ i
place i h = at_entry (λ (k : ℕ). k) to_fifteen tt i h

get_or-lane : (v : List ℕ) (j i : ℕ) → i < 16 → get_or (lane v j) i 0 ≡ get_or v (4 * i + j) 0
unfolding lane
get_or-lane v j i h = get_d_map (λ (k : ℕ). get_or v (4 * k + j) 0) to_fifteen i h ∙ ap (λ (k : ℕ). get_or v (4 * k + j) 0) (place i h)

get_or-summed : (v w : List ℕ) (i : ℕ) → i < 16 → get_or (summed v w) i 0 ≡ add32 (get_or v i 0) (get_or w i 0)
unfolding summed
get_or-summed v w i h =
    get_d_map (λ (k : ℕ). add32 (get_or v k 0) (get_or w k 0)) to_fifteen i h ∙ ap (λ (k : ℕ). add32 (get_or v k 0) (get_or w k 0)) (place i h)

-- a word of the sum of a state of v and another
pub sum-word : (v t : List ℕ) (j i : ℕ) → i < 16 → add32 (get_or v (4 * i + j) 0) (get_or t i 0) ≡ get_or (summed (lane v j) t) i 0
sum-word v t j i h = sym (get_or-summed (lane v j) t i h ∙ ap (λ (x : ℕ). add32 x (get_or t i 0)) (get_or-lane v j i h))

pub length-summed : (v w : List ℕ) → length (summed v w) ≡ 16
unfolding summed
length-summed v w = refl

length-lane : (v : List ℕ) (j : ℕ) → length (lane v j) ≡ 16
unfolding lane
length-lane v j = refl

-- ---- one word stored: in the state's own place, and in another state

lane-set : (v : List ℕ) (a j x : ℕ) → a < 16 → 4 * a + j < length v → lane (set v (4 * a + j) x) j ≡ set (lane v j) a x
lane-set v a j x h l =
    ext_get_or 0 (lane (set v (4 * a + j) x) j) (set (lane v j) a x)
    (length-lane (set v (4 * a + j) x) j ∙ sym (length-set (lane v j) a x ∙ length-lane v j))
    (λ i m. at i (subst (λ (n : ℕ). i < n) (length-lane (set v (4 * a + j) x) j) m) (ℕ_discrete i a))
  where
    at : (i : ℕ) → i < 16 → Dec (i ≡ a) → get_or (lane (set v (4 * a + j) x) j) i 0 ≡ get_or (set (lane v j) a x) i 0
    at i m (yes e) =
        get_or-lane (set v (4 * a + j) x) j i m
        ∙ ap (λ (k : ℕ). get_or (set v (4 * a + j) x) (4 * k + j) 0) e
        ∙ get_or-set_same v (4 * a + j) x 0 l
        ∙ sym (ap (λ (k : ℕ). get_or (set (lane v j) a x) k 0) e ∙ get_or-set_same (lane v j) a x 0 (subst (λ (n : ℕ). a < n) (sym (length-lane v j)) h))
    at i m (no f) =
        get_or-lane (set v (4 * a + j) x) j i m
        ∙ get_or-set_other v (4 * a + j) (4 * i + j) x 0 (λ e. f (omega arith))
        ∙ sym (get_or-set_other (lane v j) a i x 0 f ∙ get_or-lane v j i m)

lane-other : (v : List ℕ) (a j k x : ℕ) → j < 4 → k < 4 → (k ≡ j → ⊥) → lane (set v (4 * a + j) x) k ≡ lane v k
unfolding lane
lane-other v a j k x hj hk f = λ t. map (λ (i : ℕ). get_or-set_other v (4 * a + j) (4 * i + k) x 0 (λ e. f (omega arith)) t) to_fifteen

-- ---- a column, and a whole state

length-column : (v : List ℕ) (i j : ℕ) (q : Quad) → length (set_column v i j q) ≡ length v
unfolding set_column
length-column v i j q = simp length-set

pub column-size : (v x : List ℕ) (i j : ℕ) (q : Quad) → length v ≡ 64 → x ≡ set_column v i j q → length x ≡ 64
column-size v x i j q l e = ap length e ∙ length-column v i j q ∙ l

module _ (v : List ℕ) (i j : ℕ) (q : Quad) (hj : j < 4) where
  column-set : i < 4 → length v ≡ 64 → lane (set_column v i j q) j ≡ set_at (lane v j) i (i + 4) (i + 8) (i + 12) q
  unfolding set_column set_at
  column-set h l =
      let v1 = set v (4 * i + j) q.a in
      let v2 = set v1 (4 * (i + 4) + j) q.b in
      let v3 = set v2 (4 * (i + 8) + j) q.c in
      let l1 = length-set v (4 * i + j) q.a ∙ l in
      let l2 = length-set v1 (4 * (i + 4) + j) q.b ∙ l1 in
      let l3 = length-set v2 (4 * (i + 8) + j) q.c ∙ l2 in
      lane-set v3 (i + 12) j q.d (omega arith) (omega (arith, l3))
      ∙ ap (λ (s : List ℕ). set s (i + 12) q.d)
      (lane-set v2 (i + 8) j q.c (omega arith) (omega (arith, l2))
      ∙ ap (λ (s : List ℕ). set s (i + 8) q.c)
      (lane-set v1 (i + 4) j q.b (omega arith) (omega (arith, l1))
      ∙ ap (λ (s : List ℕ). set s (i + 4) q.b) (lane-set v i j q.a (omega arith) (omega (arith, l)))))

  column-other : (k : ℕ) → k < 4 → (k ≡ j → ⊥) → lane (set_column v i j q) k ≡ lane v k
  unfolding set_column
  column-other k hk f =
      lane-other _ (i + 12) j k q.d hj hk f
      ∙ lane-other _ (i + 8) j k q.c hj hk f
      ∙ lane-other _ (i + 4) j k q.b hj hk f
      ∙ lane-other v i j k q.a hj hk f

module _ (v : List ℕ) (j : ℕ) (t : State) (hj : j < 4) where
  length-set_lane : length (set_lane v j t) ≡ length v
  unfolding set_lane
  length-set_lane =
      length-column _ 3 j t.s ∙ length-column _ 2 j t.r ∙ length-column _ 1 j t.q ∙ length-column v 0 j t.p

  lane-stored : length v ≡ 64 → lane (set_lane v j t) j ≡ words t
  unfolding set_lane words lane set_at
  lane-stored l =
      let v1 = set_column v 0 j t.p in
      let v2 = set_column v1 1 j t.q in
      let v3 = set_column v2 2 j t.r in
      let l1 = length-column v 0 j t.p ∙ l in
      let l2 = length-column v1 1 j t.q ∙ l1 in
      let l3 = length-column v2 2 j t.r ∙ l2 in
      column-set v3 3 j t.s hj (omega arith) l3
      ∙ ap (λ (s : List ℕ). set_at s 3 7 11 15 t.s)
      (column-set v2 2 j t.r hj (omega arith) l2
      ∙ ap (λ (s : List ℕ). set_at s 2 6 10 14 t.r)
      (column-set v1 1 j t.q hj (omega arith) l1
      ∙ ap (λ (s : List ℕ). set_at s 1 5 9 13 t.q) (column-set v 0 j t.p hj (omega arith) l)))

  lane-kept : (k : ℕ) → k < 4 → (k ≡ j → ⊥) → lane (set_lane v j t) k ≡ lane v k
  unfolding set_lane
  lane-kept k hk f =
      column-other _ 3 j t.s hj k hk f
      ∙ column-other _ 2 j t.r hj k hk f
      ∙ column-other _ 1 j t.q hj k hk f
      ∙ column-other v 0 j t.p hj k hk f

-- ---- one state after another

-- the first j states of w are f of those of v, and the others as they were
pub record Changed (f : List ℕ → List ℕ) (v w : List ℕ) (j : ℕ) : Type 0 where
  pub size : length w ≡ 64
  pub done : (k : ℕ) → k < j → lane w k ≡ f (lane v k)
  pub left : (k : ℕ) → j ≤ k → k < 4 → lane w k ≡ lane v k

module _ (f : List ℕ → List ℕ) (v : List ℕ) where
  pub changed-none : length v ≡ 64 → Changed f v v 0
  changed-none l = record { size = l; done = λ k h. absurd (not-suc-le-zero h); left = λ k h m. refl }

  pub changed-more : (w x : List ℕ) (j : ℕ) (t : State) → j < 4 → Changed f v w j → words t ≡ f (lane w j) → x ≡ set_lane w j t → Changed f v x (j + 1)
  changed-more w x j t h c et ex =
      record {
        size = ap length ex ∙ length-set_lane w j t h ∙ c.size;
        done = λ k l. ap (λ (y : List ℕ). lane y k) ex ∙ at k l (ℕ_discrete k j);
        left = λ k l m. ap (λ (y : List ℕ). lane y k) ex ∙ lane-kept w j t h k m (λ e. omega arith) ∙ c.left k (omega arith) m;
      }
    where
      at : (k : ℕ) → k < j + 1 → Dec (k ≡ j) → lane (set_lane w j t) k ≡ f (lane v k)
      at k l (yes e) =
          ap (lane (set_lane w j t)) e ∙ lane-stored w j t h c.size ∙ et
          ∙ ap f (ap (lane w) (sym e) ∙ c.left k (omega (arith, e)) (omega (arith, e)))
      at k l (no n) = lane-kept w j t h k (omega arith) n ∙ c.done k (omega arith)

  pub changed-all : (w : List ℕ) (j m : ℕ) → m ≤ j → Changed f v w j → Each m f v w
  changed-all w j m h c = record { size = c.size; at = λ k l. c.done k (omega arith) }

-- ---- one state four times

-- the first k words of v are those of s, each four times
pub record Filled (s v : List ℕ) (k : ℕ) : Type 0 where
  pub size : length v ≡ 64
  pub at : (x : ℕ) → x < k → get_or v x 0 ≡ get_or s (x / 4) 0

-- the same of all words of v, but the first j counters, from c on
pub record Counting (s : List ℕ) (c : ℕ) (v : List ℕ) (j : ℕ) : Type 0 where
  pub size : length v ≡ 64
  pub rest : (x : ℕ) → x < 64 → (48 ≤ x → x < 48 + j → ⊥) → get_or v x 0 ≡ get_or s (x / 4) 0
  pub counter : (k : ℕ) → k < j → get_or v (48 + k) 0 ≡ (c + k) % 2 ^ 32

module _ (s : List ℕ) where
  pub filled_none : (v : List ℕ) → length v ≡ 64 → Filled s v 0
  filled_none v l = record { size = l; at = λ x h. absurd (not-suc-le-zero h) }

  pub filled_more : (v : List ℕ) (k : ℕ) → k < 64 → Filled s v k → Filled s (set v k (get_or s (k / 4) 0)) (k + 1)
  filled_more v k h p =
      record { size = length-set v k (get_or s (k / 4) 0) ∙ p.size; at = λ x l. go x l (ℕ_discrete x k) }
    where
      go : (x : ℕ) → x < k + 1 → Dec (x ≡ k) → get_or (set v k (get_or s (k / 4) 0)) x 0 ≡ get_or s (x / 4) 0
      go x l (yes e) =
          ap (λ (y : ℕ). get_or (set v k (get_or s (k / 4) 0)) y 0) e
          ∙ get_or-set_same v k (get_or s (k / 4) 0) 0 (subst (λ (n : ℕ). k < n) (sym p.size) h)
          ∙ ap (λ (y : ℕ). get_or s (y / 4) 0) (sym e)
      go x l (no f) = get_or-set_other v k x (get_or s (k / 4) 0) 0 f ∙ p.at x (omega arith)

  module _ (c : ℕ) where
    pub counting-none : (v : List ℕ) (k : ℕ) → 64 ≤ k → Filled s v k → Counting s c v 0
    counting-none v k h p =
        record { size = p.size; rest = λ x l f. p.at x (omega arith); counter = λ k l. absurd (not-suc-le-zero l) }

    pub counting_more : (v : List ℕ) (j y : ℕ) → j < 4 → Counting s c v j → y ≡ (c + j) % 2 ^ 32 → Counting s c (set v (48 + j) y) (j + 1)
    counting_more v j y h p e =
        record {
          size = length-set v (48 + j) y ∙ p.size;
          rest = λ x l f. get_or-set_other v (48 + j) x y 0 (λ q. f (omega arith) (omega arith)) ∙ p.rest x l (λ a b. f a (omega arith));
          counter = λ k l. go k l (ℕ_discrete k j);
        }
      where
        go : (k : ℕ) → k < j + 1 → Dec (k ≡ j) → get_or (set v (48 + j) y) (48 + k) 0 ≡ (c + k) % 2 ^ 32
        go k l (yes q) =
            ap (λ (z : ℕ). get_or (set v (48 + j) y) (48 + z) 0) q
            ∙ get_or-set_same v (48 + j) y 0 (omega (arith, p.size))
            ∙ e ∙ ap (λ (z : ℕ). (c + z) % 2 ^ 32) (sym q)
        go k l (no f) = get_or-set_other v (48 + j) (48 + k) y 0 (λ q. f (omega arith)) ∙ p.counter k (omega arith)

    pub counting-all : (v : List ℕ) (j : ℕ) → j ≡ 4 → length s ≡ 16 → Counting s c v j → Spread s c v
    unfolding numbered
    counting-all v j h l p = record { size = p.size; at = each }
      where
        word : (k i : ℕ) → k < 4 → i < 16 → Dec (i ≡ 12) → get_or (lane v k) i 0 ≡ get_or (set s 12 ((c + k) % 2 ^ 32)) i 0
        word k i hk hi (yes e) =
            let q : 4 * i + k ≡ 48 + k = omega arith in
            get_or-lane v k i hi ∙ ap (λ (x : ℕ). get_or v x 0) q ∙ p.counter k (omega arith)
            ∙ sym (ap (λ (x : ℕ). get_or (set s 12 ((c + k) % 2 ^ 32)) x 0) e ∙ get_or-set_same s 12 ((c + k) % 2 ^ 32) 0 (omega arith))
        word k i hk hi (no f) =
            let q : (4 * i + k) / 4 ≡ i = omega arith in
            get_or-lane v k i hi ∙ p.rest (4 * i + k) (omega arith) (λ a b. f (omega arith)) ∙ ap (λ (x : ℕ). get_or s x 0) q
            ∙ sym (get_or-set_other s 12 i ((c + k) % 2 ^ 32) 0 f)

        each : (k : ℕ) → k < 4 → lane v k ≡ set s 12 ((c + k) % 2 ^ 32)
        each k hk =
            ext_get_or 0 (lane v k) (set s 12 ((c + k) % 2 ^ 32)) (length-lane v k ∙ sym (length-set s 12 ((c + k) % 2 ^ 32) ∙ l))
            (λ i m. let hi = subst (λ (n : ℕ). i < n) (length-lane v k) m in word k i hk hi (ℕ_discrete i 12))
