-- Blocks one behind the other: those that four states give, and those of the key stream.
-- Assumes nothing.
use Rattle.std.proofs.Common.{◌≡◌, ℕ, zero, suc, ◌+◌, ◌*◌, ◌%◌, ◌^◌, ◌<◌, ◌≤◌, List, ◌++◌, length, set, sym, refl, ap, ◌∙◌, ap₂, append_assoc, append-nil, add-zero, suc-add, zero-add, arith, length-append}
use Rattle.octets.specs.Buffers.{put}
use Rattle.octets.proofs.BufferLaws.{length-put, put-behind}
use Rattle.chacha.specs.Words.{bytes}
use Rattle.chacha.specs.ChaCha.{doubles, summed, block_of, joined}
use Rattle.chacha.specs.Lanes.{lane, Each, sum_of, sums, numbered, Spread, blocks_of}
use Rattle.chacha.proofs.WordLaws.{length-bytes}

pub length-block_of : (n : ℕ) (s : List ℕ) → length (block_of n s) ≡ 64
unfolding block_of summed
length-block_of n s = length-bytes (summed (doubles n s) s)

-- ---- strings joined

pub length-joined : (f : ℕ → List ℕ) → ((c : ℕ) → length (f c) ≡ 64) → (c m : ℕ) → length (joined f c m) ≡ 64 * m
unfolding joined
length-joined f h c zero = refl
length-joined f h c (suc m) = length-append (f c) (joined f (suc c) m) ∙ omega (arith, h c, length-joined f h (suc c) m)

-- a + b of them are a, and b from there on
pub joined-add : (f : ℕ → List ℕ) (c a b : ℕ) → joined f c (a + b) ≡ joined f c a ++ joined f (c + a) b
unfolding joined
joined-add f c zero b = ap₂ (joined f) (sym (add-zero c)) (zero-add b)
joined-add f c (suc a) b =
    let e : suc c + a ≡ c + suc a = omega arith in
    ap (joined f c) (suc-add a b)
    ∙ ap (λ (t : List ℕ). f c ++ t) (joined-add f (suc c) a b ∙ ap (λ (d : ℕ). joined f (suc c) a ++ joined f d b) e)
    ∙ sym (append_assoc (f c) (joined f (suc c) a) (joined f (c + suc a) b))

pub joined-one : (f : ℕ → List ℕ) (c : ℕ) → joined f c 1 ≡ f c
unfolding joined
joined-one f c = append-nil (f c)

-- one more
joined-next : (f : ℕ → List ℕ) (c m : ℕ) → joined f c m ++ f (c + m) ≡ joined f c (m + 1)
joined-next f c m = ap (λ (t : List ℕ). joined f c m ++ t) (sym (joined-one f (c + m))) ∙ sym (joined-add f c m 1)

pub joined_same : (f g : ℕ → List ℕ) (c d m : ℕ) → ((j : ℕ) → j < m → f (c + j) ≡ g (d + j)) → joined f c m ≡ joined g d m
unfolding joined
joined_same f g c d zero e = refl
joined_same f g c d (suc m) e =
    let first = ap f (sym (add-zero c)) ∙ e 0 (omega arith) ∙ ap g (add-zero d) in
    ap₂ (λ (x y : List ℕ). x ++ y) first (joined_same f g (suc c) (suc d) m (λ j h. next j h))
  where
    next : (j : ℕ) → j < m → f (suc c + j) ≡ g (suc d + j)
    next j h =
        let p : suc c + j ≡ c + suc j = omega arith in
        let q : d + suc j ≡ suc d + j = omega arith in
        ap f p ∙ e (suc j) (omega arith) ∙ ap g q

-- ---- the sums of states, one behind the other in a buffer

module _ (d o v s : List ℕ) (c j : ℕ) where
  length-sums : length (sums v s c j) ≡ 64 * j
  unfolding sum_of summed
  length-sums = length-joined (λ (i : ℕ). sum_of v i (numbered s (c + i))) (λ i. length-bytes (summed (lane v i) (numbered s (c + i)))) 0 j

  pub sums-size : 64 * j ≤ length d → o ≡ put d 0 (sums v s c j) → length o ≡ length d
  sums-size h e = ap length e ∙ length-put d 0 (sums v s c j) (omega (arith, length-sums))

  pub sums_next : (p t : List ℕ) (x : ℕ) → 64 * (j + 1) ≤ length d → o ≡ put d 0 (sums v s c j) → x ≡ (c + j) % 2 ^ 32 → t ≡ set s 12 x
      → p ≡ put o (64 * j) (sum_of v j t) → p ≡ put d 0 (sums v s c (j + 1))
  unfolding numbered
  sums_next p t x h e ex et f =
      let n = length-sums in
      let next : ℕ → List ℕ = λ i. sum_of v i (numbered s (c + i)) in
      put-behind d (sums v s c j) (next j) o p 0 (64 * j) (omega (arith, n)) (omega (arith, n)) e
      (f ∙ ap (λ (y : List ℕ). put o (64 * j) (sum_of v j y)) (et ∙ ap (set s 12) ex))
      ∙ ap (put d 0) (ap (λ (k : ℕ). sums v s c j ++ next k) (sym (zero-add j)) ∙ joined-next next 0 j)

-- v is w after n double rounds, and w is s with the counters: the sums are the blocks
pub sums-blocks : (n : ℕ) (s : List ℕ) (c m : ℕ) (v w : List ℕ) → m ≤ 4 → Spread s c w → Each m (doubles n) w v → sums v s c m ≡ blocks_of n s c m
unfolding sum_of block_of
sums-blocks n s c m v w h p e =
    joined_same (λ (j : ℕ). sum_of v j (numbered s (c + j))) (λ (x : ℕ). block_of n (numbered s x)) 0 c m (λ j l. at j l)
  where
    at : (j : ℕ) → j < m → sum_of v (0 + j) (numbered s (c + (0 + j))) ≡ block_of n (numbered s (c + j))
    at j l =
        ap (λ (k : ℕ). sum_of v k (numbered s (c + k))) (zero-add j)
        ∙ ap (λ (t : List ℕ). bytes (summed t (numbered s (c + j)))) (e.at j l ∙ ap (doubles n) (p.at j (omega arith)))
