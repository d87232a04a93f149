-- Limbs from words of 64 bits, and back to them and to bytes.
-- Assumes nothing.
use mathlib.Core.Path.{◌≡◌, ap, ap₂, sym, ◌∙◌}
use mathlib.Core.List.{List, ◌++◌}
use Prim.Native.Nat.{ℕ, ◌+◌, ◌*◌, ◌%◌, ◌/◌, ◌^◌, ◌<◌, ◌≤◌}
use native.Mathlib.Nat.{mul_comm, add_comm, add-zero}
use native.Mathlib.Omega.{arith}
use lib.Arith.{digits_div}
use lib.Bits.{bit_and, and_block}
use lib.Dec.{lit<}
use lib.ListN.{length, replicate, length-append}
use Rattle.octets.specs.Buffers.{put}
use Rattle.octets.specs.Numbers.{to_le}
use Rattle.octets.proofs.BufferLaws.{put-behind, put_whole}
use Rattle.octets.proofs.NumberLaws.{to_le-add, to_le-high, length-to_le}
use Rattle.poly1305.specs.Limbs.{digits, value, over, from_words, low_word, high_word, masked, Sum, Chained}
use Rattle.poly1305.specs.Poly1305.{mod_p, clamp}
use Rattle.poly1305.specs.declared.limbs.Limbs.{Limbs}
use Rattle.poly1305.specs.declared.limbs.Summed.{Summed}
use Rattle.poly1305.proofs.PrimeLaws.{base-over, sum-value}

-- the limbs of two words and what lies above them
pub from-words : (low high top : ℕ)
    → digits (2 ^ 26) (low % 2 ^ 26) (low / 2 ^ 26 % 2 ^ 26) (low / 2 ^ 52 + high % 2 ^ 14 * 2 ^ 12) (high / 2 ^ 14 % 2 ^ 26)
    (high / 2 ^ 40 + top * 2 ^ 24)
    ≡ from_words low high top
unfolding digits from_words
from-words low high top = lower low high _ _ (upper high top)
  where
    upper : (u t : ℕ) → u + 2 ^ 64 * t ≡ u % 2 ^ 14 + 2 ^ 14 * (u / 2 ^ 14 % 2 ^ 26 + 2 ^ 26 * (u / 2 ^ 40 + t * 2 ^ 24))
    upper u t = omega arith

    lower : (u w x y : ℕ) → x ≡ w % 2 ^ 14 + 2 ^ 14 * y
        → u % 2 ^ 26 + 2 ^ 26 * (u / 2 ^ 26 % 2 ^ 26 + 2 ^ 26 * (u / 2 ^ 52 + w % 2 ^ 14 * 2 ^ 12 + 2 ^ 26 * y)) ≡ u + 2 ^ 64 * x
    lower u w x y e = omega arith

-- the words of limbs, with what was carried out of them
to-words : (l : Limbs) (top : ℕ) → value l + top * over ≡ from_words (low_word l) (high_word l) (l.l4 / 2 ^ 24 + 4 * top)
unfolding digits from_words
to-words l top =
    topped (2 ^ 26) over l.l0 l.l1 l.l2 l.l3 l.l4 top base-over
    ∙ lower l.l0 l.l1 l.l2 _ _ (upper l.l2 l.l3 l.l4 top)
  where
    topped : (b o l0 l1 l2 l3 l4 t : ℕ) → b * b * b * b * b ≡ o
        → l0 + b * (l1 + b * (l2 + b * (l3 + b * l4))) + t * o ≡ l0 + b * (l1 + b * (l2 + b * (l3 + b * (l4 + b * t))))
    topped b o l0 l1 l2 l3 l4 t e = omega (arith, ap (λ (x : ℕ). t * x) e)

    upper : (u v w t : ℕ)
        → u / 2 ^ 12 + 2 ^ 14 * (v + 2 ^ 26 * (w + 2 ^ 26 * t)) ≡ u / 2 ^ 12 + v * 2 ^ 14 + w % 2 ^ 24 * 2 ^ 40 + 2 ^ 64 * (w / 2 ^ 24 + 4 * t)
    upper u v w t = omega arith

    lower : (u v w x y : ℕ) → w / 2 ^ 12 + 2 ^ 14 * y ≡ x
        → u + 2 ^ 26 * (v + 2 ^ 26 * (w + 2 ^ 26 * y)) ≡ u + v * 2 ^ 26 + w % 2 ^ 12 * 2 ^ 52 + 2 ^ 64 * x
    lower u v w x y e = omega arith

-- the low 16 bytes
word-bytes : (low high top : ℕ) → low < 2 ^ 64 → to_le 8 low ++ to_le 8 high ≡ to_le 16 (from_words low high top)
unfolding from_words
word-bytes low high top h =
    let x = high + 2 ^ 64 * top in
    let e : low + 2 ^ 64 * x ≡ x * 256 ^ 8 + low = add_comm low (2 ^ 64 * x) ∙ ap (λ (y : ℕ). y + low) (mul_comm (2 ^ 64) x) in
    let f : high + 2 ^ 64 * top ≡ top * 256 ^ 8 + high = add_comm high (2 ^ 64 * top) ∙ ap (λ (y : ℕ). y + high) (mul_comm (2 ^ 64) top) in
    sym
    (ap (to_le 16) e ∙ to_le-add 8 8 (x * 256 ^ 8 + low)
    ∙ ap₂ (λ (s t : List ℕ). s ++ t) (to_le-high 8 x low) (ap (to_le 8) (digits_div x h ∙ f) ∙ to_le-high 8 top high))

-- the tag: r is the accumulator reduced, u is r and s added, c is u with small limbs
pub tag-law : (a : ℕ) (r s u : Limbs) (c : Summed) (low high : ℕ) (b t : List ℕ) → low < 2 ^ 64 → value r ≡ mod_p a → Sum r s u → Chained u 0 c
    → low ≡ low_word c.limbs → high ≡ high_word c.limbs → b ≡ put (replicate 16 0) 0 (to_le 8 low) → t ≡ put b 8 (to_le 8 high)
    → t ≡ to_le 16 (mod_p a + value s)
tag-law a r s u c low high b t h er es ec el eh eb et =
    let top = c.limbs.l4 / 2 ^ 24 + 4 * c.top in
    let room : length (replicate {A = ℕ} 16 0) ≤ length (to_le 8 low ++ to_le 8 high) = omega (arith, length-append (to_le 8 low) (to_le 8 high), length-to_le 8 low, length-to_le 8 high) in
    put-behind (replicate 16 0) (to_le 8 low) (to_le 8 high) b t 0 8 (omega (arith, length-to_le 8 low)) (omega (arith, length-to_le 8 low)) eb et
    ∙ put_whole (replicate 16 0) (to_le 8 low ++ to_le 8 high) room
    ∙ word-bytes low high top h
    ∙ ap (to_le 16)
    (ap₂ (λ (x y : ℕ). from_words x y top) el eh ∙ sym (to-words c.limbs c.top) ∙ sym ec.sum ∙ add-zero (value u) ∙ sum-value es
    ∙ ap (λ (x : ℕ). x + value s) er)

-- the mask, word by word
pub clamp-law : (low high : ℕ) → low < 2 ^ 64 → from_words (masked low 0x0ffffffc0fffffff) (masked high 0x0ffffffc0ffffffc) 0 ≡ clamp (from_words low high 0)
unfolding from_words clamp masked
clamp-law low high h =
    let m : ℕ = 0x0ffffffc0fffffff in
    let n : ℕ = 0x0ffffffc0ffffffc in
    let z : high + 2 ^ 64 * 0 ≡ high = omega arith in
    let y : bit_and high n + 2 ^ 64 * 0 ≡ bit_and high n = omega arith in
    let e : low + 2 ^ 64 * high ≡ high * 2 ^ 64 + low = omega arith in
    let f : bit_and low m + 2 ^ 64 * bit_and high n ≡ bit_and high n * 2 ^ 64 + bit_and low m = flip (bit_and low m) (bit_and high n) in
    ap (λ (x : ℕ). bit_and low m + 2 ^ 64 * x) y ∙ f ∙ sym (and_block 64 high n low m h (lit< tt))
    ∙ ap (λ (x : ℕ). bit_and x (n * 2 ^ 64 + m)) (sym (ap (λ (x : ℕ). low + 2 ^ 64 * x) z ∙ e))
  where
    flip : (a b : ℕ) → a + 2 ^ 64 * b ≡ b * 2 ^ 64 + a
    flip a b = omega arith
