-- An element of two words: bits of its low word, its shift by one, and its bytes.
-- Assumes nothing.
use mathlib.Core.Path.{◌≡◌, sym, ap, ap₂, ◌∙◌}
use mathlib.Core.List.{List, ◌++◌}
use Prim.Native.Nat.{ℕ, ◌+◌, ◌-◌, ◌*◌, ◌/◌, ◌%◌, ◌^◌, ◌<◌, ◌≤◌}
use native.Mathlib.Nat.{mul_assoc, add-zero, zero-add}
use native.Mathlib.Omega.{arith}
use lib.Pow.{low, field, mod-mod-pow}
use lib.Bits.{bit_xor, xor_block, xor_zero_r, block_half, block_odd}
use lib.Arith.{digits_div}
use lib.ListN.{length, drop}
use lib.Seq.{drop-drop}
use Rattle.octets.specs.Buffers.{put}
use Rattle.octets.specs.Numbers.{be, to_be}
use Rattle.octets.proofs.BufferLaws.{put-put}
use Rattle.octets.proofs.NumberLaws.{be-add, length-to_be, to_be-add, to_be-high}
use Rattle.ghash.specs.Field.{R, next}
use Rattle.ghash.specs.Words.{words}

module _ (hi lo : ℕ) (fits : lo < 2 ^ 64) where
  -- j bits of a block that stand in its low word
  pub field-low : (j m : ℕ) → j + m ≤ 64 → lo / 2 ^ m % 2 ^ j ≡ words hi lo / 2 ^ m % 2 ^ j
  field-low j m h =
      let e : (64 - (j + m)) + (j + m) ≡ 64 = omega arith in
      sym (field lo j m)
      ∙ ap (λ (x : ℕ). x % 2 ^ (j + m) / 2 ^ m) (sym (low hi 64 fits) ∙ ap (λ (n : ℕ). words hi lo % 2 ^ n) (sym e))
      ∙ ap (λ (x : ℕ). x / 2 ^ m) (mod-mod-pow (words hi lo) (64 - (j + m)) (j + m))
      ∙ field (words hi lo) j m

  pub next-words : words (bit_xor (hi / 2) (lo % 2 * 0xe100_0000_0000_0000)) (hi % 2 * 0x8000_0000_0000_0000 + lo / 2) ≡ next (words hi lo)
  unfolding next
  next-words =
      let half : words hi lo / 2 ≡ words (hi / 2) (hi % 2 * 2 ^ 63 + lo / 2) = block_half hi 63 lo ∙ omega arith in
      let r : lo % 2 * R ≡ words (lo % 2 * 0xe100_0000_0000_0000) 0 =
      sym (add-zero (lo % 2 * 0xe100_0000_0000_0000 * 2 ^ 64) ∙ mul_assoc (lo % 2) 0xe100_0000_0000_0000 (2 ^ 64)) in
      sym
      (ap₂ (λ (x b : ℕ). bit_xor x (b * R)) half (block_odd hi 63 lo)
      ∙ ap (bit_xor (words (hi / 2) (hi % 2 * 2 ^ 63 + lo / 2))) r
      ∙ xor_block 64 (hi / 2) (lo % 2 * 0xe100_0000_0000_0000) (hi % 2 * 2 ^ 63 + lo / 2) 0 (omega arith) (omega arith)
      ∙ ap (λ (x : ℕ). bit_xor (hi / 2) (lo % 2 * 0xe100_0000_0000_0000) * 2 ^ 64 + x) (xor_zero_r (hi % 2 * 2 ^ 63 + lo / 2)))

-- a block is its two words
pub be-words : (s : List ℕ) (at : ℕ) → words (be 8 (drop at s)) (be 8 (drop (at + 8) s)) ≡ be 16 (drop at s)
be-words s at = sym (be-add 8 8 (drop at s) ∙ ap (λ (t : List ℕ). be 8 (drop at s) * 2 ^ 64 + be 8 t) (drop-drop 8 at s))

-- two words written one behind the other are the bytes of the block
pub put-words : (d : List ℕ) (hi lo : ℕ) → 16 ≤ length d → lo < 2 ^ 64
    → put (put d 0 (to_be 8 hi)) 8 (to_be 8 lo) ≡ put d 0 (to_be 16 (words hi lo))
put-words d hi lo e h =
    let n : 0 + length (to_be 8 hi) ≡ 8 = zero-add _ ∙ length-to_be 8 hi in
    ap (λ (k : ℕ). put (put d 0 (to_be 8 hi)) k (to_be 8 lo)) (sym n)
    ∙ put-put d 0 (to_be 8 hi) (omega (arith, n)) (to_be 8 lo)
    ∙ ap (put d 0) (sym (to_be-add 8 8 (words hi lo) ∙ ap₂ (λ (a b : List ℕ). a ++ b) (ap (to_be 8) (digits_div hi h)) (to_be-high 8 hi lo)))
