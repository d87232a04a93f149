-- Lookups that are reduced at the end: 16 of them, four at a time, shift 48 bits out, which a third word keeps.
-- Assumes nothing.
use mathlib.Core.Path.{◌≡◌, refl, sym, ap, ap₂, ◌∙◌}
use Prim.Native.Nat.{ℕ, zero, suc, ◌+◌, ◌*◌, ◌/◌, ◌%◌, ◌^◌, ◌<◌}
use native.Mathlib.Nat.{add-zero, zero-add, zero-mul, mul_assoc, mul-mod_left, div-add-mod'}
use native.Mathlib.Numerals.{add-one}
use native.Mathlib.Omega.{arith}
use lib.Pow.{pow_pos, pow-add, field, mod-mod-pow}
use lib.Bits.{bit_xor, xor_comm, xor_zero_r, xor_block, xor_mod}
use Rattle.ghash.specs.Field.{mul}
use Rattle.ghash.specs.Table.{steps, lookups, gather}
use Rattle.ghash.specs.Words.{words}
use Rattle.ghash.proofs.StepLaws.{steps-xor, steps-exact, steps-swap}
use Rattle.ghash.proofs.TableLaws.{lookups-cat, two-words}

-- four lookups more
pub gather-more : (h x k : ℕ) {z : ℕ} → z ≡ gather h x k → bit_xor (z / 2 ^ 16) (lookups h (x / 2 ^ (16 * k)) 4 * 2 ^ 64) ≡ gather h x (k + 1)
unfolding gather
gather-more h x k e = ap (λ (g : ℕ). bit_xor (g / 2 ^ 16) (lookups h (x / 2 ^ (16 * k)) 4 * 2 ^ 64)) e ∙ ap (gather h x) (sym (add-one k))

module _ (h x : ℕ) where
  -- nothing is lost: what the next move shifts out is 0
  gather-zeros : (k j : ℕ) → 16 * k + j ≡ 64 → gather h x k % 2 ^ (j + 16) ≡ 0
  unfolding gather
  gather-zeros zero j e =
      ap (λ (v : ℕ). v % 2 ^ (j + 16)) (sym (zero-mul (2 ^ (j + 16)))) ∙ mul-mod_left 0 (2 ^ (j + 16))
  gather-zeros (suc k) j e =
      let g = gather h x k in
      let v = lookups h (x / 2 ^ (16 * k)) 4 in
      let up : 16 * k + (j + 16) ≡ 64 = omega arith in
      xor_mod (g / 2 ^ 16) (v * 2 ^ 64) (j + 16)
      ∙ ap₂ bit_xor
      (sym (field g (j + 16) 16) ∙ ap (λ (n : ℕ). n / 2 ^ 16) (gather-zeros k (j + 16) up))
      (ap (λ (n : ℕ). v * n % 2 ^ (j + 16)) (ap (λ (n : ℕ). 2 ^ n) (sym up) ∙ pow-add 2 (16 * k) (j + 16))
      ∙ ap (λ (n : ℕ). n % 2 ^ (j + 16)) (sym (mul_assoc v (2 ^ (16 * k)) (2 ^ (j + 16))))
      ∙ mul-mod_left (v * 2 ^ (16 * k)) (2 ^ (j + 16)))

  gather-even : (k j : ℕ) → 16 * k + j ≡ 64 → gather h x k / 2 ^ 16 ≡ steps 16 (gather h x k)
  gather-even k j e =
      let g = gather h x k in
      let z : g % 2 ^ 16 ≡ 0 = sym (mod-mod-pow g j 16) ∙ ap (λ (n : ℕ). n % 2 ^ 16) (gather-zeros k j e) in
      sym (ap (steps 16) (sym (div-add-mod' g (2 ^ 16)) ∙ ap (λ (n : ℕ). g / 2 ^ 16 * 2 ^ 16 + n) z ∙ add-zero (g / 2 ^ 16 * 2 ^ 16)) ∙ steps-exact 16 (g / 2 ^ 16))

  gather-steps : (k j : ℕ) → 16 * k + j ≡ 64 → steps 64 (gather h x k) ≡ lookups h x (4 * k)
  unfolding gather lookups
  gather-steps zero j e = steps-exact 64 0
  gather-steps (suc k) j e =
      let g = gather h x k in
      let v = lookups h (x / 2 ^ (16 * k)) 4 in
      let up : 16 * k + (j + 16) ≡ 64 = omega arith in
      let fours : 4 + 4 * k ≡ 4 * suc k = omega arith in
      let place : 4 * (4 * k) ≡ 16 * k = omega arith in
      steps-xor 64 (g / 2 ^ 16) (v * 2 ^ 64)
      ∙ ap₂ bit_xor
      (ap (steps 64) (gather-even k (j + 16) up) ∙ steps-swap 64 16 g ∙ ap (steps 16) (gather-steps k (j + 16) up))
      (steps-exact 64 v ∙ ap (λ (n : ℕ). lookups h (x / 2 ^ n) 4) (sym place))
      ∙ sym (lookups-cat h x (4 * k) 4)
      ∙ ap (lookups h x) fours

  -- 16 of them, reduced
  gathered : steps 64 (gather h x 4) ≡ lookups h x 16
  gathered = gather-steps 4 0 refl

-- both words, the low one's reduced once and added where it belongs, and all reduced again
pub joined : (h hi lo : ℕ) → lo < 2 ^ 64 → steps 64 (bit_xor (gather h hi 4) (steps 64 (gather h lo 4))) ≡ mul (words hi lo) h
joined h hi lo l =
    steps-xor 64 (gather h hi 4) (steps 64 (gather h lo 4))
    ∙ ap₂ (λ (a b : ℕ). bit_xor a (steps 64 b)) (gathered h hi) (gathered h lo)
    ∙ xor_comm (lookups h hi 16) (steps 64 (lookups h lo 16))
    ∙ two-words h hi lo l

-- ---- on three words

-- apart from the bounds of the words, with which omega would meet numbers past 38 digits
shifted16 : (hi lo : ℕ) → words hi lo / 2 ^ 16 ≡ words (hi / 2 ^ 16) (hi % 2 ^ 16 * 2 ^ 48 + lo / 2 ^ 16)
shifted16 hi lo = omega arith

last16 : (hi lo : ℕ) → words hi lo % 2 ^ 16 ≡ lo % 2 ^ 16
last16 hi lo = omega arith

pub rest_lt : (hi lo : ℕ) → lo < 2 ^ 64 → hi % 2 ^ 16 * 2 ^ 48 + lo / 2 ^ 16 < 2 ^ 64
rest_lt hi lo h = omega arith

pub shifted-words : (hi lo out eh el : ℕ) → lo < 2 ^ 64 → out < 2 ^ 64 → el < 2 ^ 64
    → words (words (bit_xor (hi / 2 ^ 16) eh) (bit_xor (hi % 2 ^ 16 * 2 ^ 48 + lo / 2 ^ 16) el)) (lo % 2 ^ 16 * 2 ^ 48 + out / 2 ^ 16)
    ≡ bit_xor (words (words hi lo) out / 2 ^ 16) (words eh el * 2 ^ 64)
shifted-words hi lo out eh el l o e =
    let mid = hi % 2 ^ 16 * 2 ^ 48 + lo / 2 ^ 16 in
    let end = lo % 2 ^ 16 * 2 ^ 48 + out / 2 ^ 16 in
    let shifted : words (words hi lo) out / 2 ^ 16 ≡ words (words (hi / 2 ^ 16) mid) end =
    shifted16 (words hi lo) out ∙ ap₂ (λ (a b : ℕ). words a (b * 2 ^ 48 + out / 2 ^ 16)) (shifted16 hi lo) (last16 hi lo) in
    sym
    (ap₂ bit_xor shifted (sym (add-zero (words eh el * 2 ^ 64)))
    ∙ xor_block 64 (words (hi / 2 ^ 16) mid) (words eh el) end 0 (rest_lt lo out o) (pow_pos 64)
    ∙ ap₂ (λ (a b : ℕ). a * 2 ^ 64 + b) (xor_block 64 (hi / 2 ^ 16) eh mid el (rest_lt hi lo l) e) (xor_zero_r end))

pub behind-words : (hi lo out eh el : ℕ) → lo < 2 ^ 64 → out < 2 ^ 64 → eh < 2 ^ 64 → el < 2 ^ 64
    → words (words hi (bit_xor lo eh)) (bit_xor out el) ≡ bit_xor (words (words hi lo) out) (words eh el)
behind-words hi lo out eh el l o b e =
    let low : bit_xor (words hi lo) eh ≡ words hi (bit_xor lo eh) =
    ap (bit_xor (words hi lo)) (sym (ap (λ (x : ℕ). x + eh) (zero-mul (2 ^ 64)) ∙ zero-add eh))
    ∙ xor_block 64 hi 0 lo eh l b
    ∙ ap (λ (x : ℕ). words x (bit_xor lo eh)) (xor_zero_r hi) in
    sym (xor_block 64 (words hi lo) eh out el o e ∙ ap (λ (x : ℕ). words x (bit_xor out el)) low)
