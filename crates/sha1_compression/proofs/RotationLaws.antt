-- Rotations and exclusive or; the schedule's words from W₃₂ on from words that lie further back.
-- Assumes nothing.
use Rattle.std.proofs.Common.{◌≡◌, ℕ, ◌+◌, ◌*◌, ◌/◌, ◌%◌, ◌^◌, ◌<◌, sym, refl, ap, ◌∙◌, ap₂, mod-lt, arith, pow_pos, shr-shr}
use lib.Pow.{low, high, mod-pow-add}
use lib.Bits.{bit_xor, bit_or, or_shifted, xor_block, xor_mod, xor_shr, xor_lt, xor_self, xor_zero_l}
use Rattle.octets.proofs.XorLaws.{xor_assoc, xor-medial}
use Rattle.sha1_compression.specs.Functions.{ROTL}

shl1 : (x : ℕ) → x * 2 ^ 1 % 2 ^ 32 ≡ x % 2 ^ 31 * 2 ^ 1
shl1 x = omega arith

shl2 : (x : ℕ) → x * 2 ^ 2 % 2 ^ 32 ≡ x % 2 ^ 30 * 2 ^ 2
shl2 x = omega arith

low1 : (x : ℕ) → x < 2 ^ 32 → x / 2 ^ 31 < 2 ^ 1
low1 x h = omega arith

low2 : (x : ℕ) → x < 2 ^ 32 → x / 2 ^ 30 < 2 ^ 2
low2 x h = omega arith

-- as sums
rotl1 : (x : ℕ) → x < 2 ^ 32 → ROTL 1 x ≡ x % 2 ^ 31 * 2 ^ 1 + x / 2 ^ 31
unfolding ROTL
rotl1 x h = ap (λ (y : ℕ). bit_or y (x / 2 ^ 31)) (shl1 x) ∙ or_shifted (x % 2 ^ 31) 1 (x / 2 ^ 31) (low1 x h)

rotl2 : (x : ℕ) → x < 2 ^ 32 → ROTL 2 x ≡ x % 2 ^ 30 * 2 ^ 2 + x / 2 ^ 30
unfolding ROTL
rotl2 x h = ap (λ (y : ℕ). bit_or y (x / 2 ^ 30)) (shl2 x) ∙ or_shifted (x % 2 ^ 30) 2 (x / 2 ^ 30) (low2 x h)

sum_lt : (x : ℕ) → x < 2 ^ 32 → x % 2 ^ 31 * 2 ^ 1 + x / 2 ^ 31 < 2 ^ 32
sum_lt x h = omega arith

-- p and q the highest digits of a word, r the others
twice_of : (y p q r : ℕ) → r < 2 ^ 30 → p < 2 → y ≡ q * 2 ^ 31 + (r * 2 + p) → y % 2 ^ 31 * 2 ^ 1 + y / 2 ^ 31 ≡ r * 2 ^ 2 + (p * 2 + q)
twice_of y p q r hr hp e =
    let l : r * 2 + p < 2 ^ 31 = omega arith in
    let lo : y % 2 ^ 31 ≡ r * 2 + p = ap (λ (n : ℕ). n % 2 ^ 31) e ∙ low q 31 l in
    let hi : y / 2 ^ 31 ≡ q = ap (λ (n : ℕ). n / 2 ^ 31) e ∙ high q 31 l in
    let s : (r * 2 + p) * 2 ^ 1 + q ≡ r * 2 ^ 2 + (p * 2 + q) = omega arith in
    ap₂ (λ (a b : ℕ). a * 2 ^ 1 + b) lo hi ∙ s

halves : (n : ℕ) → n / 2 * 2 + n % 2 ≡ n
halves n = omega arith

first-sum : (q r p : ℕ) → (q * 2 ^ 30 + r) * 2 ^ 1 + p ≡ q * 2 ^ 31 + (r * 2 + p)
first-sum q r p = omega arith

p-lt : (x : ℕ) → x < 2 ^ 32 → x / 2 ^ 30 / 2 < 2
p-lt x h = omega arith

sum_twice : (x y : ℕ) → x < 2 ^ 32 → y ≡ x % 2 ^ 31 * 2 ^ 1 + x / 2 ^ 31 → y % 2 ^ 31 * 2 ^ 1 + y / 2 ^ 31 ≡ x % 2 ^ 30 * 2 ^ 2 + x / 2 ^ 30
sum_twice x y h e =
    let n = x / 2 ^ 30 in
    twice_of y (n / 2) (n % 2) (x % 2 ^ 30) (mod-lt x (pow_pos 30)) (p-lt x h)
    (e ∙ ap₂ (λ (a b : ℕ). a * 2 ^ 1 + b) (mod-pow-add x 1 30) (sym (shr-shr x 30 1)) ∙ first-sum (n % 2) (x % 2 ^ 30) (n / 2))
    ∙ ap (λ (k : ℕ). x % 2 ^ 30 * 2 ^ 2 + k) (halves n)

-- ROTL¹(ROTL¹(x)) = ROTL²(x)
rotl-twice : (x : ℕ) → x < 2 ^ 32 → ROTL 1 (ROTL 1 x) ≡ ROTL 2 x
rotl-twice x h =
    let y = x % 2 ^ 31 * 2 ^ 1 + x / 2 ^ 31 in
    ap (ROTL 1) (rotl1 x h) ∙ rotl1 y (sum_lt x h) ∙ sum_twice x y h refl ∙ sym (rotl2 x h)

-- ROTL¹(x ⊕ y) = ROTL¹(x) ⊕ ROTL¹(y)
rotl-xor : (x y : ℕ) → x < 2 ^ 32 → y < 2 ^ 32 → bit_xor (ROTL 1 x) (ROTL 1 y) ≡ ROTL 1 (bit_xor x y)
rotl-xor x y h k =
    ap₂ bit_xor (rotl1 x h) (rotl1 y k)
    ∙ xor_block 1 (x % 2 ^ 31) (y % 2 ^ 31) (x / 2 ^ 31) (y / 2 ^ 31) (low1 x h) (low1 y k)
    ∙ ap₂ (λ (a b : ℕ). a * 2 ^ 1 + b) (sym (xor_mod x y 31)) (sym (xor_shr x y 31))
    ∙ sym (rotl1 (bit_xor x y) (xor_lt 32 x y h k))

-- (x ⊕ y) ⊕ (y ⊕ z) = x ⊕ z
xor-between : (x y z : ℕ) → bit_xor (bit_xor x y) (bit_xor y z) ≡ bit_xor x z
xor-between x y z =
    xor_assoc x y (bit_xor y z)
    ∙ ap (bit_xor x) (sym (xor_assoc y y z) ∙ ap (λ (o : ℕ). bit_xor o z) (xor_self y) ∙ xor_zero_l z)

xor4 : ℕ → ℕ → ℕ → ℕ → ℕ
xor4 a b c d = bit_xor (bit_xor (bit_xor a b) c) d

module _ (a b c d e f g h i j : ℕ) where
  four : (a b c d : ℕ) → xor4 a b c d ≡ bit_xor (bit_xor a b) (bit_xor c d)
  unfolding xor4
  four a b c d = xor_assoc (bit_xor a b) c d

  -- what stands twice goes out
  xor-sixteen : xor4 (xor4 a b c d) (xor4 b e f g) (xor4 c f h i) (xor4 d g i j) ≡ xor4 a e h j
  xor-sixteen =
      let y = bit_xor (bit_xor c f) (bit_xor d g) in
      four (xor4 a b c d) (xor4 b e f g) (xor4 c f h i) (xor4 d g i j)
      ∙ ap₂ bit_xor
      (ap₂ bit_xor (four a b c d) (four b e f g)
      ∙ xor-medial (bit_xor a b) (bit_xor c d) (bit_xor b e) (bit_xor f g)
      ∙ ap₂ bit_xor (xor-between a b e) (xor-medial c d f g))
      (ap₂ bit_xor (four c f h i) (four d g i j)
      ∙ xor-medial (bit_xor c f) (bit_xor h i) (bit_xor d g) (bit_xor i j)
      ∙ ap (bit_xor y) (xor-between h i j))
      ∙ xor-between (bit_xor a e) y (bit_xor h j)
      ∙ sym (four a e h j)

-- ---- Wₜ from sixteen words further back, of which six stand twice

module _ (a b c d e f g h i j : ℕ) (ha : a < 2 ^ 32) (hb : b < 2 ^ 32) (hc : c < 2 ^ 32) (hd : d < 2 ^ 32) (he : e < 2 ^ 32)
    (hf : f < 2 ^ 32) (hg : g < 2 ^ 32) (hh : h < 2 ^ 32) (hi : i < 2 ^ 32) (hj : j < 2 ^ 32) where
  xor4-lt : (x y z w : ℕ) → x < 2 ^ 32 → y < 2 ^ 32 → z < 2 ^ 32 → w < 2 ^ 32 → xor4 x y z w < 2 ^ 32
  unfolding xor4
  xor4-lt x y z w hx hy hz hw = xor_lt 32 (bit_xor (bit_xor x y) z) w (xor_lt 32 (bit_xor x y) z (xor_lt 32 x y hx hy) hz) hw

  rotl-four : (x y z w : ℕ) → x < 2 ^ 32 → y < 2 ^ 32 → z < 2 ^ 32 → w < 2 ^ 32
      → xor4 (ROTL 1 x) (ROTL 1 y) (ROTL 1 z) (ROTL 1 w) ≡ ROTL 1 (xor4 x y z w)
  unfolding xor4
  rotl-four x y z w hx hy hz hw =
      let xy = xor_lt 32 x y hx hy in
      ap (λ (n : ℕ). bit_xor (bit_xor n (ROTL 1 z)) (ROTL 1 w)) (rotl-xor x y hx hy)
      ∙ ap (λ (n : ℕ). bit_xor n (ROTL 1 w)) (rotl-xor (bit_xor x y) z xy hz)
      ∙ rotl-xor (bit_xor (bit_xor x y) z) w (xor_lt 32 (bit_xor x y) z xy hz) hw

  pub further : {p q r s : ℕ} → p ≡ ROTL 1 (bit_xor (bit_xor (bit_xor a b) c) d) → q ≡ ROTL 1 (bit_xor (bit_xor (bit_xor b e) f) g)
      → r ≡ ROTL 1 (bit_xor (bit_xor (bit_xor c f) h) i) → s ≡ ROTL 1 (bit_xor (bit_xor (bit_xor d g) i) j)
      → ROTL 2 (bit_xor (bit_xor (bit_xor a e) h) j) ≡ ROTL 1 (bit_xor (bit_xor (bit_xor p q) r) s)
  unfolding xor4
  further ep eq er es =
      sym (rotl-twice (xor4 a e h j) (xor4-lt a e h j ha he hh hj))
      ∙ ap (λ (n : ℕ). ROTL 1 (ROTL 1 n)) (sym (xor-sixteen a b c d e f g h i j))
      ∙ ap (ROTL 1)
      (sym (rotl-four (xor4 a b c d) (xor4 b e f g) (xor4 c f h i) (xor4 d g i j)
      (xor4-lt a b c d ha hb hc hd) (xor4-lt b e f g hb he hf hg) (xor4-lt c f h i hc hf hh hi) (xor4-lt d g i j hd hg hi hj)))
      ∙ ap (ROTL 1) (λ k. xor4 (sym ep k) (sym eq k) (sym er k) (sym es k))
