-- What the stages leave is the matrix turned.
-- Assumes nothing.
use mathlib.Core.Path.{◌≡◌, sym, ap, ◌∙◌, subst}
use mathlib.Core.Logic.{⊎_elim}
use mathlib.Core.List.{List}
use Prim.Native.Nat.{ℕ, suc, ◌+◌, ◌*◌, ◌-◌, ◌/◌, ◌%◌, ◌^◌, ◌<◌, ◌≤◌}
use native.Mathlib.Nat.{eq-zero-or-pos}
use native.Mathlib.Omega.{arith}
use lib.Dec.{lit≤, eqb, eqb→eq}
use lib.ListN.{length, get_or}
use Rattle.octets.proofs.Table.{passes, at_each}
use Rattle.aes_tables.specs.SBox.{bit}
use Rattle.aes_turn.specs.Turn.{low_word, high_word, stage_of, turn_of}
use Rattle.aes_turn.proofs.WordLaws.{high-moves, high-stays, low-moves, low-stays, low_below}
use Rattle.aes_turn.proofs.RowLaws.{length-stage, stage-holds}

-- p with its digit of weight d replaced by that of k
unfoldable swapped : ℕ → ℕ → ℕ → ℕ
swapped d p k = p - p / d % 2 * d + k / d % 2 * d

-- what is asked of d, the mask and the number of pairs
record Stage (d m n : ℕ) : Type 0 where
  size : 8 * d * n ≤ 128
  clear : (p : ℕ) → p < 32 → p / d % 2 ≡ 0 → p ≡ 2 * d * (p / (2 * d)) + p % d
  isset : (p : ℕ) → p < 32 → 0 < p / d % 2 → (p ≡ 2 * d * (p / (2 * d)) + d + p % d) × (p / d % 2 ≡ 1)
  pair : (p : ℕ) → p < 32 → (p / (2 * d) < n) × (p % d < d)
  ones : (k : ℕ) → k < 32 → k / d % 2 ≡ 0 → bit m k ≡ 1
  zeros : (k : ℕ) → k < 32 → 0 < k / d % 2 → bit m k ≡ 0
  up : (k : ℕ) → k < 32 → 0 < k / d % 2 → (d ≤ k) × ((k - d) / d % 2 ≡ 0)
  down : (k : ℕ) → k < 32 → k / d % 2 ≡ 0 → d ≤ k → 0 < (k - d) / d % 2

module _ (d m n : ℕ) (z : Stage d m n) (s : List ℕ) (l : length s ≡ 128) where
  -- the place of a row, in the first or the second of its pair
  first : (p j : ℕ) → p < 32 → p / d % 2 ≡ 0 → 4 * p + j ≡ 8 * d * (p / (2 * d)) + (4 * (p % d) + j)
  first p j h e = let c = z.clear p h e in omega (arith, ap (λ (x : ℕ). 4 * x) c)

  second : (p j : ℕ) → p < 32 → 0 < p / d % 2 → 4 * p + j ≡ 8 * d * (p / (2 * d)) + 4 * d + (4 * (p % d) + j)
  second p j h e = let c = (z.isset p h e).0 in omega (arith, ap (λ (x : ℕ). 4 * x) c)

  module _ (p k j : ℕ) (hp : p < 32) (hk : k < 32) (hj : j < 4) where
    -- the words of the pair
    α : ℕ
    α = get_or s (8 * d * (p / (2 * d)) + (4 * (p % d) + j)) 0

    β : ℕ
    β = get_or s (8 * d * (p / (2 * d)) + 4 * d + (4 * (p % d) + j)) 0

    both : (get_or (stage_of s d m n) (8 * d * (p / (2 * d)) + (4 * (p % d) + j)) 0 ≡ low_word d m α β)
        × (get_or (stage_of s d m n) (8 * d * (p / (2 * d)) + 4 * d + (4 * (p % d) + j)) 0 ≡ high_word d m α β)
    unfolding α β
    both =
        let r = (z.pair p hp).1 in
        stage-holds s d m l n z.size (p / (2 * d)) (4 * (p % d) + j) (z.pair p hp).0 (omega (arith, r))

    target : (a b q r : ℕ) → p / d % 2 ≡ a → k / d % 2 ≡ b → 4 * (p - a * d + b * d) + j ≡ q → k - b * d + a * d ≡ r
        → bit (get_or s q 0) r ≡ bit (get_or s (4 * swapped d p k + j) 0) (swapped d k p)
    unfolding swapped
    target a b q r ea eb eq er =
        sym ((λ i. bit (get_or s (4 * (p - ea i * d + eb i * d) + j) 0) (k - eb i * d + ea i * d)) ∙ (λ i. bit (get_or s (eq i) 0) (er i)))

    low-low : p / d % 2 ≡ 0 → k / d % 2 ≡ 0 → bit (low_word d m α β) k ≡ bit α k
    low-low ep ek =
        ⊎_elim
        (λ e. low_below d m α β k (omega arith) hk)
        (λ g. let h : d ≤ k = omega arith in
        let e : d + (k - d) ≡ k = omega arith in
        subst (λ (x : ℕ). bit (low_word d m α β) x ≡ bit α x) e
        (low-stays d m α β (k - d) (omega arith) (z.zeros (k - d) (omega arith) (z.down k hk ek h))))
        (eq-zero-or-pos (suc k - d))

    stage-low : p / d % 2 ≡ 0 → bit (low_word d m α β) k ≡ bit (get_or s (4 * swapped d p k + j) 0) (swapped d k p)
    unfolding α β
    stage-low ep =
        let f = first p j hp ep in
        ⊎_elim
        (λ ek. low-low ep ek ∙ target 0 0 (8 * d * (p / (2 * d)) + (4 * (p % d) + j)) k ep ek (omega (arith, f)) (omega arith))
        (λ g. let ek = (z.isset k hk g).1 in
        let u = z.up k hk g in
        let e : d + (k - d) ≡ k = omega (arith, u.0) in
        ap (bit (low_word d m α β)) (sym e)
        ∙ low-moves d m α β (k - d) (omega (arith, u.0)) (z.ones (k - d) (omega arith) u.1)
        ∙ target 0 1 (8 * d * (p / (2 * d)) + 4 * d + (4 * (p % d) + j)) (k - d) ep ek (omega (arith, f)) (omega arith))
        (eq-zero-or-pos (k / d % 2))

    stage-high : 0 < p / d % 2 → bit (high_word d m α β) k ≡ bit (get_or s (4 * swapped d p k + j) 0) (swapped d k p)
    unfolding α β
    stage-high g =
        let f = second p j hp g in
        let ep = (z.isset p hp g).1 in
        let up = (z.up p hp g).0 in
        ⊎_elim
        (λ ek. high-moves d m α β k (z.ones k hk ek) ∙ target 1 0 (8 * d * (p / (2 * d)) + (4 * (p % d) + j)) (d + k) ep ek (omega (arith, f, up)) (omega arith))
        (λ gk. let ek = (z.isset k hk gk).1 in
        let u = (z.up k hk gk).0 in
        high-stays d m α β k (z.zeros k hk gk) ∙ target 1 1 (8 * d * (p / (2 * d)) + 4 * d + (4 * (p % d) + j)) k ep ek (omega (arith, f, up)) (omega (arith, u)))
        (eq-zero-or-pos (k / d % 2))

    stage-turns : bit (get_or (stage_of s d m n) (4 * p + j) 0) k ≡ bit (get_or s (4 * swapped d p k + j) 0) (swapped d k p)
    stage-turns =
        ⊎_elim
        (λ ep. ap (λ (q : ℕ). bit (get_or (stage_of s d m n) q 0) k) (first p j hp ep) ∙ ap (λ (w : ℕ). bit w k) both.0 ∙ stage-low ep)
        (λ g. ap (λ (q : ℕ). bit (get_or (stage_of s d m n) q 0) k) (second p j hp g) ∙ ap (λ (w : ℕ). bit w k) both.1 ∙ stage-high g)
        (eq-zero-or-pos (p / d % 2))

-- ---- the five stages

stage16 : Stage 16 0xffff 1
unfolding bit
stage16 =
    record {
      size = lit≤ tt;
      clear = λ p h e. omega arith;
      isset = λ p h e. (omega arith, omega arith);
      pair = λ p h. (omega arith, omega arith);
      ones = λ k h e. eqb→eq _ _ (at_each 32 (λ n. eqb (0xffff / 2 ^ n % 2) (1 - n / 16 % 2)) tt k h) ∙ ap (λ (x : ℕ). 1 - x) e;
      zeros = λ k h e. let f : k / 16 % 2 ≡ 1 = omega arith in eqb→eq _ _ (at_each 32 (λ n. eqb (0xffff / 2 ^ n % 2) (1 - n / 16 % 2)) tt k h) ∙ ap (λ (x : ℕ). 1 - x) f;
      up = λ k h e. (omega arith, omega arith);
      down = λ k h e g. omega arith;
    }

below16 : (p k : ℕ) → p < 32 → k < 32 → swapped 16 p k < 32
unfolding swapped
below16 p k hp hk = omega arith

stage8 : Stage 8 0xff00ff 2
unfolding bit
stage8 =
    record {
      size = lit≤ tt;
      clear = λ p h e. omega arith;
      isset = λ p h e. (omega arith, omega arith);
      pair = λ p h. (omega arith, omega arith);
      ones = λ k h e. eqb→eq _ _ (at_each 32 (λ n. eqb (0xff00ff / 2 ^ n % 2) (1 - n / 8 % 2)) tt k h) ∙ ap (λ (x : ℕ). 1 - x) e;
      zeros = λ k h e. let f : k / 8 % 2 ≡ 1 = omega arith in eqb→eq _ _ (at_each 32 (λ n. eqb (0xff00ff / 2 ^ n % 2) (1 - n / 8 % 2)) tt k h) ∙ ap (λ (x : ℕ). 1 - x) f;
      up = λ k h e. (omega arith, omega arith);
      down = λ k h e g. omega arith;
    }

below8 : (p k : ℕ) → p < 32 → k < 32 → swapped 8 p k < 32
unfolding swapped
below8 p k hp hk = omega arith

stage4 : Stage 4 0xf0f0f0f 4
unfolding bit
stage4 =
    record {
      size = lit≤ tt;
      clear = λ p h e. omega arith;
      isset = λ p h e. (omega arith, omega arith);
      pair = λ p h. (omega arith, omega arith);
      ones = λ k h e. eqb→eq _ _ (at_each 32 (λ n. eqb (0xf0f0f0f / 2 ^ n % 2) (1 - n / 4 % 2)) tt k h) ∙ ap (λ (x : ℕ). 1 - x) e;
      zeros = λ k h e. let f : k / 4 % 2 ≡ 1 = omega arith in eqb→eq _ _ (at_each 32 (λ n. eqb (0xf0f0f0f / 2 ^ n % 2) (1 - n / 4 % 2)) tt k h) ∙ ap (λ (x : ℕ). 1 - x) f;
      up = λ k h e. (omega arith, omega arith);
      down = λ k h e g. omega arith;
    }

below4 : (p k : ℕ) → p < 32 → k < 32 → swapped 4 p k < 32
unfolding swapped
below4 p k hp hk = omega arith

stage2 : Stage 2 0x33333333 8
unfolding bit
stage2 =
    record {
      size = lit≤ tt;
      clear = λ p h e. omega arith;
      isset = λ p h e. (omega arith, omega arith);
      pair = λ p h. (omega arith, omega arith);
      ones = λ k h e. eqb→eq _ _ (at_each 32 (λ n. eqb (0x33333333 / 2 ^ n % 2) (1 - n / 2 % 2)) tt k h) ∙ ap (λ (x : ℕ). 1 - x) e;
      zeros = λ k h e. let f : k / 2 % 2 ≡ 1 = omega arith in eqb→eq _ _ (at_each 32 (λ n. eqb (0x33333333 / 2 ^ n % 2) (1 - n / 2 % 2)) tt k h) ∙ ap (λ (x : ℕ). 1 - x) f;
      up = λ k h e. (omega arith, omega arith);
      down = λ k h e g. omega arith;
    }

below2 : (p k : ℕ) → p < 32 → k < 32 → swapped 2 p k < 32
unfolding swapped
below2 p k hp hk = omega arith

stage1 : Stage 1 0x55555555 16
unfolding bit
stage1 =
    record {
      size = lit≤ tt;
      clear = λ p h e. omega arith;
      isset = λ p h e. (omega arith, omega arith);
      pair = λ p h. (omega arith, omega arith);
      ones = λ k h e. eqb→eq _ _ (at_each 32 (λ n. eqb (0x55555555 / 2 ^ n % 2) (1 - n / 1 % 2)) tt k h) ∙ ap (λ (x : ℕ). 1 - x) e;
      zeros = λ k h e. let f : k / 1 % 2 ≡ 1 = omega arith in eqb→eq _ _ (at_each 32 (λ n. eqb (0x55555555 / 2 ^ n % 2) (1 - n / 1 % 2)) tt k h) ∙ ap (λ (x : ℕ). 1 - x) f;
      up = λ k h e. (omega arith, omega arith);
      down = λ k h e g. omega arith;
    }

below1 : (p k : ℕ) → p < 32 → k < 32 → swapped 1 p k < 32
unfolding swapped
below1 p k hp hk = omega arith

-- where a digit comes from, through all stages
row : ℕ → ℕ → ℕ
row p k =
    let p1 = swapped 1 p k in
    let k1 = swapped 1 k p in
    let p2 = swapped 2 p1 k1 in
    let k2 = swapped 2 k1 p1 in
    let p4 = swapped 4 p2 k2 in
    let k4 = swapped 4 k2 p2 in
    let p8 = swapped 8 p4 k4 in
    let k8 = swapped 8 k4 p4 in
    swapped 16 p8 k8

row_is : (p k : ℕ) → p < 32 → k < 32 → row p k ≡ k
unfolding row swapped
row_is p k hp hk = eqb→eq _ _ (at_each 32 (λ y. eqb (row p y) y) (at_each 32 (λ x. passes (λ y. eqb (row x y) y) 32 0) tt p hp) k hk)

pub turn-digit : (s : List ℕ) → length s ≡ 128 → (p k j : ℕ) → p < 32 → k < 32 → j < 4
    → bit (get_or (turn_of s) (4 * p + j) 0) k ≡ bit (get_or s (4 * k + j) 0) p
unfolding turn_of row
turn-digit s l p k j hp hk hj =
    let s16 = stage_of s 16 0xffff 1 in
    let s8 = stage_of s16 8 0xff00ff 2 in
    let s4 = stage_of s8 4 0xf0f0f0f 4 in
    let s2 = stage_of s4 2 0x33333333 8 in
    let l16 = length-stage s 16 0xffff l 1 in
    let l8 = length-stage s16 8 0xff00ff l16 2 in
    let l4 = length-stage s8 4 0xf0f0f0f l8 4 in
    let l2 = length-stage s4 2 0x33333333 l4 8 in
    let p1 = swapped 1 p k in
    let k1 = swapped 1 k p in
    let p2 = swapped 2 p1 k1 in
    let k2 = swapped 2 k1 p1 in
    let p4 = swapped 4 p2 k2 in
    let k4 = swapped 4 k2 p2 in
    let p8 = swapped 8 p4 k4 in
    let k8 = swapped 8 k4 p4 in
    let hp1 = below1 p k hp hk in
    let hk1 = below1 k p hk hp in
    let hp2 = below2 p1 k1 hp1 hk1 in
    let hk2 = below2 k1 p1 hk1 hp1 in
    let hp4 = below4 p2 k2 hp2 hk2 in
    let hk4 = below4 k2 p2 hk2 hp2 in
    let hp8 = below8 p4 k4 hp4 hk4 in
    let hk8 = below8 k4 p4 hk4 hp4 in
    stage-turns 1 0x55555555 16 stage1 s2 l2 p k j hp hk hj
    ∙ stage-turns 2 0x33333333 8 stage2 s4 l4 p1 k1 j hp1 hk1 hj
    ∙ stage-turns 4 0xf0f0f0f 4 stage4 s8 l8 p2 k2 j hp2 hk2 hj
    ∙ stage-turns 8 0xff00ff 2 stage8 s16 l16 p4 k4 j hp4 hk4 hj
    ∙ stage-turns 16 0xffff 1 stage16 s l p8 k8 j hp8 hk8 hj
    ∙ (λ i. bit (get_or s (4 * row_is p k hp hk i + j) 0) (row_is k p hk hp i))
