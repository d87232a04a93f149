-- What the table holds, that four lookups need no shift between them, and that 32 give the product.
-- Assumes nothing.
use mathlib.Core.Path.{◌≡◌, refl, sym, ap, ap₂, ◌∙◌, subst}
use Prim.Native.Nat.{ℕ, zero, suc, ◌+◌, ◌-◌, ◌*◌, ◌/◌, ◌%◌, ◌^◌, ◌<◌, ◌≤◌}
use native.Mathlib.Nat.{div-eq_of_lt, le_of_suc-le-suc, div-one, mul_assoc, mul-mod_left, mod-one, mod-lt, zero-mul, one-mul, add-mul, mul-one, lt_of_lt_of_le, le_refl}
use native.Mathlib.Omega.{arith}
use lib.Dec.{lit≤}
use lib.Pow.{pow_pos, pow-add, mod-pow-add, shl_lt, shl-shr, shr-shr, high, field, mod-mod-pow}
use lib.Bits.{bit_xor, xor_comm, xor_zero_l, xor_zero_r, xor_shifted}
use Rattle.octets.proofs.XorLaws.{xor_assoc}
use Rattle.ghash.specs.Field.{bit_at, next, step_v, step_z, mul}
use Rattle.ghash.specs.Table.{entry, steps, lookups}
use Rattle.ghash.specs.Words.{words}
use Rattle.ghash.proofs.ElementLaws.{field-low}
use Rattle.ghash.proofs.FieldLaws.{next-xor, next-zero, next-digit, bit-lt, mul-xor-left, mul-zero-left, linear-zero, linear-mul}
use Rattle.ghash.proofs.StepLaws.{steps-xor, steps_next, steps-add}

-- ---- a block whose first bit is 0: bit i of m * 2 is bit i + 1 of m

module _ (m h : ℕ) (small : m < 2 ^ 127) where
  bit_up : (i : ℕ) → i < 127 → bit_at m (suc i) ≡ bit_at (m * 2) i
  bit_up i l =
      let e : 1 + (127 - suc i) ≡ 127 - i = omega arith in
      ap (λ (x : ℕ). x / 2 ^ (127 - suc i) % 2) (sym (shl-shr m 1))
      ∙ ap (λ (x : ℕ). x % 2) (shr-shr (m * 2) 1 (127 - suc i) ∙ ap (λ (k : ℕ). m * 2 / 2 ^ k) e)

  step_z-up : (n : ℕ) → n < 128 → step_z m h (suc n) ≡ next (step_z (m * 2) h n)
  unfolding step_z step_v
  step_z-up zero l =
      ap (λ (b : ℕ). b % 2 * h) (div-eq_of_lt small) ∙ zero-mul h ∙ sym next-zero
  step_z-up (suc n) l =
      ap₂ bit_xor (step_z-up n (omega arith))
      (ap (λ (b : ℕ). b * next (step_v h n)) (bit_up n (le_of_suc-le-suc l)) ∙ sym (next-digit (bit_at (m * 2) n) (step_v h n) (bit-lt (m * 2) n)))
      ∙ sym (next-xor (step_z (m * 2) h n) (bit_at (m * 2) n * step_v h n))

  last_bit : step_z (m * 2) h 128 ≡ step_z (m * 2) h 127
  unfolding step_z
  last_bit =
      ap (λ (b : ℕ). bit_xor (step_z (m * 2) h 127) (b * step_v h 127)) (ap (λ (x : ℕ). x % 2) (div-one (m * 2)) ∙ mul-mod_left m 2)
      ∙ ap (bit_xor (step_z (m * 2) h 127)) (zero-mul (step_v h 127))
      ∙ xor_zero_r (step_z (m * 2) h 127)

  mul-half : mul m h ≡ next (mul (m * 2) h)
  unfolding mul
  mul-half = step_z-up 127 (le_refl 128) ∙ ap next (sym last_bit)

-- four zeros at the end of a block
mul-steps4 : (m h : ℕ) → m < 2 ^ 124 → steps 4 (mul (m * 16) h) ≡ mul m h
unfolding steps
mul-steps4 m h s =
    let e : m * 16 ≡ m * 2 * 2 * 2 * 2 = omega arith in
    sym
    (mul-half m h (lt_of_lt_of_le s (lit≤ tt))
    ∙ ap next (mul-half (m * 2) h (lt_of_lt_of_le (shl_lt 124 1 s) (lit≤ tt)))
    ∙ ap (λ (v : ℕ). next (next v)) (mul-half (m * 2 * 2) h (lt_of_lt_of_le (shl_lt 125 1 (shl_lt 124 1 s)) (lit≤ tt)))
    ∙ ap (λ (v : ℕ). next (next (next v))) (mul-half (m * 2 * 2 * 2) h (shl_lt 126 1 (shl_lt 125 1 (shl_lt 124 1 s))))
    ∙ ap (λ (v : ℕ). next (next (next (next (mul v h))))) (sym e))

-- ---- entries: 0, 8, the half of another, the sum of two

pub entry-none : (h : ℕ) → entry h 0 ≡ 0
entry-none h = ap (λ (x : ℕ). mul x h) (zero-mul (2 ^ 124)) ∙ mul-zero-left h

-- 1 || 0^127 has no bit behind the first
one_bit : (i : ℕ) → i < 127 → bit_at (2 ^ 127) (suc i) ≡ 0
one_bit i l =
    let m : ℕ = 127 - suc i in
    let e : (i + 1) + m ≡ 127 = omega arith in
    ap (λ (n : ℕ). 2 ^ n / 2 ^ m % 2) (sym e)
    ∙ ap (λ (x : ℕ). x / 2 ^ m % 2) (pow-add 2 (i + 1) m)
    ∙ ap (λ (x : ℕ). x % 2) (shl-shr (2 ^ (i + 1)) m ∙ pow-add 2 i 1)
    ∙ mul-mod_left (2 ^ i) 2

one-steps : (h k : ℕ) → k < 128 → step_z (2 ^ 127) h (suc k) ≡ h
unfolding step_z step_v
one-steps h zero l = xor_zero_l (1 * h) ∙ one-mul h
one-steps h (suc k) l =
    ap₂ (λ (z b : ℕ). bit_xor z (b * next (step_v h k))) (one-steps h k (omega arith)) (one_bit k (le_of_suc-le-suc l))
    ∙ ap (bit_xor h) (zero-mul (next (step_v h k)))
    ∙ xor_zero_r h

pub entry_first : (h : ℕ) → entry h 8 ≡ h
unfolding mul
entry_first h = one-steps h 127 (le_refl 128)

pub entry-half : (h n : ℕ) → n < 8 → entry h n ≡ next (entry h (n * 2))
entry-half h n l =
    mul-half (n * 2 ^ 124) h (shl_lt 3 124 l)
    ∙ ap (λ (x : ℕ). next (mul x h)) (mul_assoc n (2 ^ 124) 2 ∙ sym (mul_assoc n 2 (2 ^ 124)))

pub entry-sum : (h k n : ℕ) → n < 2 ^ k → entry h (2 ^ k + n) ≡ bit_xor (entry h n) (entry h (2 ^ k))
entry-sum h k n l =
    let one : 2 ^ k * 2 ^ 124 ≡ 1 * 2 ^ (k + 124) = sym (one-mul (2 ^ (k + 124)) ∙ pow-add 2 k 124) in
    ap (λ (x : ℕ). mul x h)
    (add-mul (2 ^ k) n (2 ^ 124)
    ∙ ap (λ (x : ℕ). x + n * 2 ^ 124) one
    ∙ sym (xor_shifted 1 (k + 124) (n * 2 ^ 124) (shl_lt k 124 l))
    ∙ ap (λ (x : ℕ). bit_xor x (n * 2 ^ 124)) (sym one)
    ∙ xor_comm (2 ^ k * 2 ^ 124) (n * 2 ^ 124))
    ∙ mul-xor-left (n * 2 ^ 124) (2 ^ k * 2 ^ 124) h

-- ---- the lookups

-- a product reads no more than 128 bits of x
bit-low128 : (x i : ℕ) → i < 128 → bit_at (x % 2 ^ 128) i ≡ bit_at x i
bit-low128 x i l =
    let m : ℕ = 127 - i in
    let e : (128 - m) + m ≡ 128 = omega arith in
    let d : i + 1 ≡ 128 - m = omega arith in
    ap (λ (k : ℕ). x % 2 ^ k / 2 ^ m % 2) (sym e)
    ∙ ap (λ (y : ℕ). y % 2) (field x (128 - m) m)
    ∙ ap (λ (k : ℕ). x / 2 ^ m % 2 ^ k % 2) (sym d)
    ∙ mod-mod-pow (x / 2 ^ m) i 1

step_z-low128 : (x h n : ℕ) → n ≤ 128 → step_z (x % 2 ^ 128) h n ≡ step_z x h n
unfolding step_z
step_z-low128 x h zero l = refl
step_z-low128 x h (suc n) l =
    ap₂ bit_xor (step_z-low128 x h n (omega arith)) (ap (λ (b : ℕ). b * step_v h n) (bit-low128 x n l))

module _ (h x : ℕ) where
  -- the low 4k bits of x, shifted to the block's left end
  lookups-low : (k j : ℕ) → 4 * k + j ≡ 128 → lookups h x k ≡ mul (x % 2 ^ (4 * k) * 2 ^ j) h
  unfolding lookups
  lookups-low zero j e =
      sym (ap (λ (m : ℕ). mul (m * 2 ^ j) h) (mod-one x) ∙ ap (λ (m : ℕ). mul m h) (zero-mul (2 ^ j)) ∙ mul-zero-left h)
  lookups-low (suc k) j e =
      let up : 4 * k + (j + 4) ≡ 128 = omega arith in
      let down : 4 * k + j ≡ 124 = omega arith in
      let w = x % 2 ^ (4 * k) in
      let d = x / 2 ^ (4 * k) % 16 in
      let small : w * 2 ^ j < 2 ^ 124 = subst (λ (m : ℕ). w * 2 ^ j < 2 ^ m) down (shl_lt (4 * k) j (mod-lt x (pow_pos (4 * k)))) in
      let sixteen : w * 2 ^ (j + 4) ≡ w * 2 ^ j * 16 = ap (λ (p : ℕ). w * p) (pow-add 2 j 4) ∙ sym (mul_assoc w (2 ^ j) 16) in
      let four : 4 * suc k ≡ 4 + 4 * k = omega arith in
      let whole : d * 2 ^ 124 + w * 2 ^ j ≡ x % 2 ^ (4 * suc k) * 2 ^ j =
      ap (λ (p : ℕ). d * p + w * 2 ^ j) (ap (λ (n : ℕ). 2 ^ n) (sym down) ∙ pow-add 2 (4 * k) j)
      ∙ ap (λ (p : ℕ). p + w * 2 ^ j) (sym (mul_assoc d (2 ^ (4 * k)) (2 ^ j)))
      ∙ sym (add-mul (d * 2 ^ (4 * k)) w (2 ^ j))
      ∙ ap (λ (p : ℕ). p * 2 ^ j) (sym (ap (λ (n : ℕ). x % 2 ^ n) four ∙ mod-pow-add x 4 (4 * k))) in
      ap (λ (z : ℕ). bit_xor (steps 4 z) (entry h d)) (lookups-low k (j + 4) up ∙ ap (λ (v : ℕ). mul v h) sixteen)
      ∙ ap (λ (z : ℕ). bit_xor z (entry h d)) (mul-steps4 (w * 2 ^ j) h small)
      ∙ xor_comm (mul (w * 2 ^ j) h) (entry h d)
      ∙ sym (mul-xor-left (d * 2 ^ 124) (w * 2 ^ j) h)
      ∙ ap (λ (v : ℕ). mul v h) (xor_shifted d 124 (w * 2 ^ j) small ∙ whole)

  -- 32 lookups give the product
  pub lookups-mul : lookups h x 32 ≡ mul x h
  unfolding mul
  lookups-mul = lookups-low 32 0 refl ∙ ap (λ (v : ℕ). mul v h) (mul-one (x % 2 ^ 128)) ∙ step_z-low128 x h 128 (le_refl 128)

-- ---- the words of x apart

-- the first m lookups, moved on, and those of the rest of x
pub lookups-cat : (h x m k : ℕ) → lookups h x (k + m) ≡ bit_xor (steps (4 * k) (lookups h x m)) (lookups h (x / 2 ^ (4 * m)) k)
unfolding lookups steps
lookups-cat h x m zero =
    let e : zero + m ≡ m = omega arith in
    ap (lookups h x) e ∙ sym (xor_zero_r (lookups h x m))
lookups-cat h x m (suc k) =
    let a = steps (4 * k) (lookups h x m) in
    let b = lookups h (x / 2 ^ (4 * m)) k in
    let n = x / 2 ^ (4 * m) / 2 ^ (4 * k) % 16 in
    let s : suc k + m ≡ suc (k + m) = omega arith in
    let f : 4 * m + 4 * k ≡ 4 * (k + m) = omega arith in
    let g : 4 * k + 4 ≡ 4 * suc k = omega arith in
    ap (lookups h x) s
    ∙ ap₂ (λ (z q : ℕ). bit_xor (steps 4 z) (entry h (q % 16))) (lookups-cat h x m k) (ap (λ (q : ℕ). x / 2 ^ q) (sym f) ∙ sym (shr-shr x (4 * m) (4 * k)))
    ∙ ap (λ (z : ℕ). bit_xor z (entry h n)) (steps-xor 4 a b)
    ∙ xor_assoc (steps 4 a) (steps 4 b) (entry h n)
    ∙ ap (λ (z : ℕ). bit_xor z (bit_xor (steps 4 b) (entry h n))) (sym (steps-add (4 * k) 4 (lookups h x m)) ∙ ap (λ (q : ℕ). steps q (lookups h x m)) g)

lookups-word : (h hi lo : ℕ) → lo < 2 ^ 64 → (k : ℕ) → k ≤ 16 → lookups h (words hi lo) k ≡ lookups h lo k
unfolding lookups
lookups-word h hi lo f zero l = refl
lookups-word h hi lo f (suc k) l =
    ap₂ (λ (z n : ℕ). bit_xor (steps 4 z) (entry h n)) (lookups-word h hi lo f k (omega arith)) (sym (field-low hi lo f 4 (4 * k) (omega arith)))

pub two-words : (h hi lo : ℕ) → lo < 2 ^ 64 → bit_xor (steps 64 (lookups h lo 16)) (lookups h hi 16) ≡ mul (words hi lo) h
two-words h hi lo f =
    ap₂ (λ (z w : ℕ). bit_xor (steps 64 z) (lookups h w 16)) (sym (lookups-word h hi lo f 16 (omega arith))) (sym (high hi 64 f))
    ∙ sym (lookups-cat h (words hi lo) 16 16)
    ∙ lookups-mul h (words hi lo)

-- ---- four lookups, one in each part

entry-steps : (m h n : ℕ) → entry (steps m h) n ≡ steps m (entry h n)
entry-steps m h n = sym (linear-mul (steps m) (steps-xor m) (steps_next m) (n * 2 ^ 124) h)

pub four-parts : (h w : ℕ)
    → bit_xor (bit_xor (bit_xor (entry (steps 12 h) (w % 16)) (entry (steps 8 h) (w / 16 % 16))) (entry (steps 4 h) (w / 256 % 16))) (entry (steps 0 h) (w / 4096 % 16))
    ≡ lookups h w 4
unfolding lookups steps
four-parts h w =
    let a = entry h (w % 16) in
    let b = entry h (w / 16 % 16) in
    let c = entry h (w / 256 % 16) in
    let d = entry h (w / 4096 % 16) in
    let first : bit_xor (steps 4 0) (entry h (w / 2 ^ (4 * 0) % 16)) ≡ a =
    ap₂ (λ (z n : ℕ). bit_xor z (entry h (n % 16))) (linear-zero (steps 4) (steps-xor 4)) (div-one w) ∙ xor_zero_l a in
    ap (λ (z : ℕ). bit_xor z d)
    (ap₂ bit_xor
    (ap₂ bit_xor (entry-steps 12 h (w % 16)) (entry-steps 8 h (w / 16 % 16))
    ∙ sym (steps-xor 4 (steps 8 a) (steps 4 b))
    ∙ ap (steps 4) (sym (steps-xor 4 (steps 4 a) b)))
    (entry-steps 4 h (w / 256 % 16))
    ∙ sym (steps-xor 4 (steps 4 (bit_xor (steps 4 a) b)) c))
    ∙ ap (λ (z : ℕ). bit_xor (steps 4 (bit_xor (steps 4 (bit_xor (steps 4 z) b)) c)) d) (sym first)
