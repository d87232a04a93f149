-- m steps of V at once, for every m up to 121: v >> m, and what was shifted out times R. On two words for 64 steps.
-- Assumes nothing.
use mathlib.Core.Path.{◌≡◌, refl, sym, ap, ap₂, ◌∙◌, subst}
use Prim.Native.Nat.{ℕ, zero, suc, ◌+◌, ◌*◌, ◌/◌, ◌%◌, ◌^◌, ◌<◌}
use native.Mathlib.Nat.{mod-lt, div-add-mod', zero-lt-suc, zero-mul, one-mul, mul-one, mul_assoc, mul_comm, pow-suc, add-suc, add-zero, zero-add, suc-add, mul-add, add_comm, add_assoc, add-mul, mul-div_cancel, mul-mod_left, mul-lt-mul_of_pos_right}
use native.Mathlib.Omega.{arith}
use lib.Arith.{digits_lt}
use lib.Pow.{pow_pos, pow-add, shr_lt, high, low}
use lib.Bits.{bit_xor, xor_zero_l, xor_zero_r, xor_shifted, xor_block, xor_lt}
use Rattle.octets.proofs.XorLaws.{digit_lt, xor-medial}
use Rattle.ghash.specs.Field.{R, next}
use Rattle.ghash.specs.Table.{steps}
use Rattle.ghash.specs.Words.{words}
use Rattle.ghash.proofs.FieldLaws.{next-xor}

-- an even number is halved
next-even : (m : ℕ) → next (m * 2) ≡ m
unfolding next
next-even m =
    ap₂ (λ (a b : ℕ). bit_xor a (b * R)) (mul-div_cancel m (zero-lt-suc 1)) (mul-mod_left m 2) ∙ xor_zero_r m

pub steps-xor : (m v w : ℕ) → steps m (bit_xor v w) ≡ bit_xor (steps m v) (steps m w)
unfolding steps
steps-xor zero v w = refl
steps-xor (suc m) v w = ap (steps m) (next-xor v w) ∙ steps-xor m (next v) (next w)

pub steps_next : (m v : ℕ) → steps m (next v) ≡ next (steps m v)
unfolding steps
steps_next zero v = refl
steps_next (suc m) v = steps_next m (next v)

pub steps-swap : (m n v : ℕ) → steps m (steps n v) ≡ steps n (steps m v)
unfolding steps
steps-swap m zero v = refl
steps-swap m (suc n) v = steps-swap m n (next v) ∙ ap (steps n) (steps_next m v)

pub steps-add : (m n v : ℕ) → steps (m + n) v ≡ steps n (steps m v)
unfolding steps
steps-add zero n v = ap (λ (k : ℕ). steps k v) (zero-add n)
steps-add (suc m) n v = ap (λ (k : ℕ). steps k v) (suc-add m n) ∙ steps-add m n (next v)

-- once more m steps
pub steps-more : (m k v : ℕ) → steps m (steps (m * k) v) ≡ steps (m * (k + 1)) v
steps-more m k v = sym (steps-add (m * k) m v) ∙ ap (λ (n : ℕ). steps n v) (sym (mul-add m k 1 ∙ ap (λ (n : ℕ). m * k + n) (mul-one m)))

-- zeros at the end are shifted out
pub steps-exact : (m q : ℕ) → steps m (q * 2 ^ m) ≡ q
unfolding steps
steps-exact zero q = mul-one q
steps-exact (suc m) q =
    ap (λ (p : ℕ). steps m (next (q * p))) (pow-suc 2 m)
    ∙ ap (λ (v : ℕ). steps m (next v)) (sym (mul_assoc q (2 ^ m) 2))
    ∙ ap (steps m) (next-even (q * 2 ^ m))
    ∙ steps-exact m q

-- ---- the echo of what is shifted out

-- r times 1 + x + x² + x⁷, its first bit k + 7 places from the end
unfoldable echo : ℕ → ℕ → ℕ
echo r k = bit_xor (bit_xor (bit_xor (r * 2 ^ (7 + k)) (r * 2 ^ (6 + k))) (r * 2 ^ (5 + k))) (r * 2 ^ k)

-- a number by its halves, k digits up
halves : (q k : ℕ) → bit_xor (q / 2 * 2 ^ suc k) (q % 2 * 2 ^ k) ≡ q * 2 ^ k
halves q k =
    xor_shifted (q / 2) (suc k) (q % 2 * 2 ^ k)
    (subst (λ (p : ℕ). q % 2 * 2 ^ k < p) (mul_comm 2 (2 ^ k) ∙ sym (pow-suc 2 k)) (mul-lt-mul_of_pos_right (digit_lt q) (pow_pos k)))
    ∙ ap (λ (p : ℕ). q / 2 * p + q % 2 * 2 ^ k) (pow-suc 2 k ∙ mul_comm (2 ^ k) 2)
    ∙ ap (λ (p : ℕ). p + q % 2 * 2 ^ k) (sym (mul_assoc (q / 2) 2 (2 ^ k)))
    ∙ sym (add-mul (q / 2 * 2) (q % 2) (2 ^ k))
    ∙ ap (λ (p : ℕ). p * 2 ^ k) (div-add-mod' q 2)

half : (r j k : ℕ) → bit_xor (r / 2 * 2 ^ (j + suc k)) (r % 2 * 2 ^ (j + k)) ≡ r * 2 ^ (j + k)
half r j k = ap (λ (n : ℕ). bit_xor (r / 2 * 2 ^ n) (r % 2 * 2 ^ (j + k))) (add-suc j k) ∙ halves r (j + k)

echo-halves : (r k : ℕ) → bit_xor (echo (r / 2) (suc k)) (echo (r % 2) k) ≡ echo r k
unfolding echo
echo-halves r k =
    let a7 = r / 2 * 2 ^ (7 + suc k) in
    let a6 = r / 2 * 2 ^ (6 + suc k) in
    let a5 = r / 2 * 2 ^ (5 + suc k) in
    let a0 = r / 2 * 2 ^ suc k in
    let b7 = r % 2 * 2 ^ (7 + k) in
    let b6 = r % 2 * 2 ^ (6 + k) in
    let b5 = r % 2 * 2 ^ (5 + k) in
    let b0 = r % 2 * 2 ^ k in
    xor-medial (bit_xor (bit_xor a7 a6) a5) a0 (bit_xor (bit_xor b7 b6) b5) b0
    ∙ ap₂ bit_xor
    (xor-medial (bit_xor a7 a6) a5 (bit_xor b7 b6) b5
    ∙ ap₂ bit_xor (xor-medial a7 a6 b7 b6 ∙ ap₂ bit_xor (half r 7 k) (half r 6 k)) (half r 5 k))
    (halves r k)

scaled : (a b k : ℕ) → bit_xor (a * 2 ^ k) (b * 2 ^ k) ≡ bit_xor a b * 2 ^ k
scaled a b k =
    ap₂ bit_xor (sym (add-zero (a * 2 ^ k))) (sym (add-zero (b * 2 ^ k)))
    ∙ xor_block k a b 0 0 (pow_pos k) (pow_pos k)
    ∙ add-zero (bit_xor a b * 2 ^ k)

echo-digit : (b k : ℕ) → b < 2 → b * (0xe1 * 2 ^ k) ≡ echo b k
unfolding echo
echo-digit zero k h =
    zero-mul (0xe1 * 2 ^ k)
    ∙ sym
    (ap₂ bit_xor
    (ap₂ bit_xor (ap₂ bit_xor (zero-mul (2 ^ (7 + k))) (zero-mul (2 ^ (6 + k)))) (zero-mul (2 ^ (5 + k))))
    (zero-mul (2 ^ k)))
echo-digit (suc zero) k h =
    let up : (j : ℕ) → 1 * 2 ^ (j + k) ≡ 2 ^ j * 2 ^ k = λ j. one-mul (2 ^ (j + k)) ∙ pow-add 2 j k in
    one-mul (0xe1 * 2 ^ k)
    ∙ sym
    (ap₂ bit_xor
    (ap₂ bit_xor (ap₂ bit_xor (up 7) (up 6) ∙ scaled 128 64 k) (up 5) ∙ scaled 192 32 k)
    refl
    ∙ scaled 224 1 k)
echo-digit (suc (suc b)) k h = absurd (omega arith)

folded : (b m k : ℕ) → m + k ≡ 120 → b * R ≡ b * (0xe1 * 2 ^ k) * 2 ^ m
folded b m k e =
    ap (λ (n : ℕ). b * (0xe1 * 2 ^ n)) (sym e ∙ add_comm m k)
    ∙ ap (λ (p : ℕ). b * (0xe1 * p)) (pow-add 2 k m)
    ∙ ap (λ (p : ℕ). b * p) (sym (mul_assoc 0xe1 (2 ^ k) (2 ^ m)))
    ∙ sym (mul_assoc b (0xe1 * 2 ^ k) (2 ^ m))

-- m steps from a block that has only its last m bits
steps_low : (m k r : ℕ) → m + k ≡ 121 → r < 2 ^ m → steps m r ≡ echo r k
unfolding steps next
steps_low zero k r e h =
    let z : r ≡ 0 = omega arith in
    z ∙ sym (zero-mul (0xe1 * 2 ^ k)) ∙ echo-digit 0 k (zero-lt-suc 1) ∙ ap (λ (x : ℕ). echo x k) (sym z)
steps_low (suc m) k r e h =
    let d : m + k ≡ 120 = omega arith in
    let u : m + suc k ≡ 121 = omega arith in
    let l : r < 2 ^ (m + 1) = subst (λ (n : ℕ). r < 2 ^ n) (omega arith) h in
    steps-xor m (r / 2) (r % 2 * R)
    ∙ ap₂ bit_xor
    (steps_low m (suc k) (r / 2) u (shr_lt m 1 l))
    (ap (steps m) (folded (r % 2) m k d) ∙ steps-exact m (r % 2 * (0xe1 * 2 ^ k)) ∙ echo-digit (r % 2) k (digit_lt r))
    ∙ echo-halves r k

-- m steps from any block: v >> m, and the echo of what was shifted out
steps-split : (m k v : ℕ) → m + k ≡ 121 → steps m v ≡ bit_xor (v / 2 ^ m) (echo (v % 2 ^ m) k)
steps-split m k v e =
    ap (steps m) (sym (xor_shifted (v / 2 ^ m) m (v % 2 ^ m) (mod-lt v (pow_pos m)) ∙ div-add-mod' v (2 ^ m)))
    ∙ steps-xor m (v / 2 ^ m * 2 ^ m) (v % 2 ^ m)
    ∙ ap₂ bit_xor (steps-exact m (v / 2 ^ m)) (steps_low m k (v % 2 ^ m) e (mod-lt v (pow_pos m)))

-- ---- 64 steps on words

up1 : (w : ℕ) → w * 2 ^ 63 ≡ words (w / 2) (w % 2 * 2 ^ 63)
up1 w = omega arith

up2 : (w : ℕ) → w * 2 ^ 62 ≡ words (w / 4) (w % 4 * 2 ^ 62)
up2 w = omega arith

up7 : (w : ℕ) → w * 2 ^ 57 ≡ words (w / 128) (w % 128 * 2 ^ 57)
up7 w = omega arith

up1-lt : (w : ℕ) → w % 2 * 2 ^ 63 < 2 ^ 64
up1-lt w = omega arith

up2-lt : (w : ℕ) → w % 4 * 2 ^ 62 < 2 ^ 64
up2-lt w = omega arith

up7-lt : (w : ℕ) → w % 128 * 2 ^ 57 < 2 ^ 64
up7-lt w = omega arith

echo57 : (w : ℕ)
    → echo w 57 ≡ words (bit_xor (bit_xor (bit_xor w (w / 2)) (w / 4)) (w / 128)) (bit_xor (bit_xor (w % 2 * 2 ^ 63) (w % 4 * 2 ^ 62)) (w % 128 * 2 ^ 57))
unfolding echo
echo57 w =
    let b = w % 2 * 2 ^ 63 in
    let c = w % 4 * 2 ^ 62 in
    let d = w % 128 * 2 ^ 57 in
    ap₂ bit_xor
    (ap₂ bit_xor
    (ap₂ bit_xor (sym (add-zero (w * 2 ^ 64))) (up1 w)
    ∙ xor_block 64 w (w / 2) 0 b (pow_pos 64) (up1-lt w)
    ∙ ap (λ (x : ℕ). bit_xor w (w / 2) * 2 ^ 64 + x) (xor_zero_l b))
    (up2 w)
    ∙ xor_block 64 (bit_xor w (w / 2)) (w / 4) b c (up1-lt w) (up2-lt w))
    (up7 w)
    ∙ xor_block 64 (bit_xor (bit_xor w (w / 2)) (w / 4)) (w / 128) (bit_xor b c) d (xor_lt 64 b c (up1-lt w) (up2-lt w)) (up7-lt w)

pub steps64-words : (hi lo : ℕ) → hi < 2 ^ 64 → lo < 2 ^ 64
    → words (bit_xor (bit_xor (bit_xor lo (lo / 2)) (lo / 4)) (lo / 128)) (bit_xor hi (bit_xor (bit_xor (lo % 2 * 2 ^ 63) (lo % 4 * 2 ^ 62)) (lo % 128 * 2 ^ 57)))
    ≡ steps 64 (words hi lo)
steps64-words hi lo hh hl =
    let a = bit_xor (bit_xor (bit_xor lo (lo / 2)) (lo / 4)) (lo / 128) in
    let b = bit_xor (bit_xor (lo % 2 * 2 ^ 63) (lo % 4 * 2 ^ 62)) (lo % 128 * 2 ^ 57) in
    sym
    (steps-split 64 57 (words hi lo) refl
    ∙ ap₂ (λ (x y : ℕ). bit_xor x (echo y 57)) (high hi 64 hl ∙ sym (ap (λ (x : ℕ). x + hi) (zero-mul (2 ^ 64)) ∙ zero-add hi)) (low hi 64 hl)
    ∙ ap (bit_xor (0 * 2 ^ 64 + hi)) (echo57 lo)
    ∙ xor_block 64 0 a hi b hh (xor_lt 64 (bit_xor (lo % 2 * 2 ^ 63) (lo % 4 * 2 ^ 62)) (lo % 128 * 2 ^ 57) (xor_lt 64 (lo % 2 * 2 ^ 63) (lo % 4 * 2 ^ 62) (up1-lt lo) (up2-lt lo)) (up7-lt lo))
    ∙ ap (λ (x : ℕ). x * 2 ^ 64 + bit_xor hi b) (xor_zero_l a))

-- 64 steps from three words: the first stays, the other two are reduced
pub steps64-long : (hi lo out : ℕ) → lo < 2 ^ 64 → out < 2 ^ 64
    → bit_xor (words hi 0) (steps 64 (words lo out)) ≡ steps 64 (words (words hi lo) out)
steps64-long hi lo out hl ho =
    let top : words (words hi lo) out ≡ bit_xor (hi * 2 ^ 128) (words lo out) =
    ap (λ (x : ℕ). x + out) (add-mul (hi * 2 ^ 64) lo (2 ^ 64) ∙ ap (λ (x : ℕ). x + lo * 2 ^ 64) (mul_assoc hi (2 ^ 64) (2 ^ 64)))
    ∙ add_assoc (hi * 2 ^ 128) (lo * 2 ^ 64) out
    ∙ sym (xor_shifted hi 128 (words lo out) (digits_lt hl ho)) in
    sym
    (ap (steps 64) top
    ∙ steps-xor 64 (hi * 2 ^ 128) (words lo out)
    ∙ ap (λ (x : ℕ). bit_xor x (steps 64 (words lo out)))
    (ap (steps 64) (sym (mul_assoc hi (2 ^ 64) (2 ^ 64))) ∙ steps-exact 64 (hi * 2 ^ 64) ∙ sym (add-zero (hi * 2 ^ 64))))
