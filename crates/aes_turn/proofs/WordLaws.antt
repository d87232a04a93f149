-- What an exchange does to the digits of two words.
-- Assumes nothing.
use mathlib.Core.Path.{◌≡◌, refl, sym, ap, ◌∙◌}
use Prim.Native.Nat.{ℕ, zero, suc, ◌+◌, ◌*◌, ◌-◌, ◌/◌, ◌%◌, ◌^◌, ◌<◌}
use native.Mathlib.Nat.{mul_assoc}
use native.Mathlib.Omega.{arith}
use lib.Bits.{bit_xor, xor_lt, shifted_even, xor_comm, xor_self, xor_zero_r, and_zero_r}
use lib.Pow.{pow-add, shr-shr, shl-shr, field, mod-mod-pow}
use Rattle.octets.proofs.XorLaws.{xor_assoc}
use Rattle.aes_tables.specs.SBox.{bit}
use Rattle.aes_circuit.specs.Circuit.{◌⊻◌, ◌⊗◌}
use Rattle.aes_circuit.proofs.Digits.{bit-xor, bit_and, bit-lt}
use Rattle.aes_turn.specs.Turn.{moved_of, low_word, high_word}

-- ---- digits of shifted words

pub bit-shr : (a d k : ℕ) → bit (a / 2 ^ d) k ≡ bit a (d + k)
unfolding bit
bit-shr a d k = ap (λ (n : ℕ). n % 2) (shr-shr a d k)

bit-mod-add : (x j k : ℕ) → bit (x % 2 ^ (j + 1 + k)) k ≡ bit x k
unfolding bit
bit-mod-add x j k = ap (λ (n : ℕ). n % 2) (field x (j + 1) k) ∙ mod-mod-pow (x / 2 ^ k) j 1

pub bit-mod : (x w k : ℕ) → k < w → bit (x % 2 ^ w) k ≡ bit x k
bit-mod x w k h =
    let e : w ≡ (w - suc k) + 1 + k = omega arith in
    ap (λ (n : ℕ). bit (x % 2 ^ n) k) e ∙ bit-mod-add x (w - suc k) k

-- a digit below the shift, and one above
shl_below : (t e k : ℕ) → bit (t * 2 ^ (suc e + k)) k ≡ 0
unfolding bit
shl_below t e k =
    ap (λ (n : ℕ). n / 2 ^ k % 2) (ap (λ (n : ℕ). t * n) (pow-add 2 (suc e) k) ∙ sym (mul_assoc t (2 ^ suc e) (2 ^ k)))
    ∙ ap (λ (n : ℕ). n % 2) (shl-shr (t * 2 ^ suc e) k) ∙ shifted_even t e

shl-above : (t d e : ℕ) → bit (t * 2 ^ d) (d + e) ≡ bit t e
unfolding bit
shl-above t d e = ap (λ (n : ℕ). n % 2) (sym (shr-shr (t * 2 ^ d) d e) ∙ ap (λ (n : ℕ). n / 2 ^ e) (shl-shr t d))

-- ---- one digit

and_one : (x : ℕ) → x < 2 → x ⊗ 1 ≡ x
unfolding ◌⊗◌
and_one zero h = refl
and_one (suc zero) h = refl
and_one (suc (suc x)) h = absurd (omega arith)

and_none : (x : ℕ) → x ⊗ 0 ≡ 0
unfolding ◌⊗◌
and_none x = and_zero_r x

xor-back : (x y : ℕ) → y ⊻ (x ⊻ y) ≡ x
unfolding ◌⊻◌
xor-back x y = ap (bit_xor y) (xor_comm x y) ∙ sym (xor_assoc y y x) ∙ ap (λ (n : ℕ). bit_xor n x) (xor_self y)

xor-fore : (x y : ℕ) → x ⊻ (x ⊻ y) ≡ y
unfolding ◌⊻◌
xor-fore x y = sym (xor_assoc x x y) ∙ ap (λ (n : ℕ). bit_xor n y) (xor_self x)

xor-none : (x : ℕ) → x ⊻ 0 ≡ x
unfolding ◌⊻◌
xor-none x = xor_zero_r x

xor-bit-lt : (a b k l : ℕ) → bit a k ⊻ bit b l < 2
unfolding ◌⊻◌
xor-bit-lt a b k l = xor_lt 1 (bit a k) (bit b l) (bit-lt a k) (bit-lt b l)

-- ---- the exchange

module _ (d m a b k : ℕ) where
  moved-digit : bit (moved_of d m a b) k ≡ (bit a (d + k) ⊻ bit b k) ⊗ bit m k
  unfolding moved_of
  moved-digit =
      bit_and (a / 2 ^ d ⊻ b) m k ∙ ap (λ (x : ℕ). x ⊗ bit m k) (bit-xor (a / 2 ^ d) b k ∙ ap (λ (x : ℕ). x ⊻ bit b k) (bit-shr a d k))

  pub high-moves : bit m k ≡ 1 → bit (high_word d m a b) k ≡ bit a (d + k)
  unfolding high_word
  high-moves e =
      bit-xor b (moved_of d m a b) k
      ∙ ap (λ (x : ℕ). bit b k ⊻ x) (moved-digit ∙ ap (λ (x : ℕ). (bit a (d + k) ⊻ bit b k) ⊗ x) e ∙ and_one _ (xor-bit-lt a b (d + k) k))
      ∙ xor-back (bit a (d + k)) (bit b k)

  pub high-stays : bit m k ≡ 0 → bit (high_word d m a b) k ≡ bit b k
  unfolding high_word
  high-stays e =
      bit-xor b (moved_of d m a b) k
      ∙ ap (λ (x : ℕ). bit b k ⊻ x) (moved-digit ∙ ap (λ (x : ℕ). (bit a (d + k) ⊻ bit b k) ⊗ x) e ∙ and_none _) ∙ xor-none (bit b k)

  -- the low word, k digits above the shift
  low_digit : d + k < 32 → bit (low_word d m a b) (d + k) ≡ bit a (d + k) ⊻ ((bit a (d + k) ⊻ bit b k) ⊗ bit m k)
  unfolding low_word
  low_digit h =
      bit-xor a (moved_of d m a b * 2 ^ d % 2 ^ 32) (d + k)
      ∙ ap (λ (x : ℕ). bit a (d + k) ⊻ x) (bit-mod (moved_of d m a b * 2 ^ d) 32 (d + k) h ∙ shl-above (moved_of d m a b) d k ∙ moved-digit)

  pub low-moves : d + k < 32 → bit m k ≡ 1 → bit (low_word d m a b) (d + k) ≡ bit b k
  low-moves h e =
      low_digit h
      ∙ ap (λ (x : ℕ). bit a (d + k) ⊻ x) (ap (λ (x : ℕ). (bit a (d + k) ⊻ bit b k) ⊗ x) e ∙ and_one _ (xor-bit-lt a b (d + k) k))
      ∙ xor-fore (bit a (d + k)) (bit b k)

  pub low-stays : d + k < 32 → bit m k ≡ 0 → bit (low_word d m a b) (d + k) ≡ bit a (d + k)
  low-stays h e =
      low_digit h
      ∙ ap (λ (x : ℕ). bit a (d + k) ⊻ x) (ap (λ (x : ℕ). (bit a (d + k) ⊻ bit b k) ⊗ x) e ∙ and_none _) ∙ xor-none (bit a (d + k))

  -- and below it
  pub low_below : k < d → k < 32 → bit (low_word d m a b) k ≡ bit a k
  unfolding low_word
  low_below h l =
      let e : d ≡ suc (d - suc k) + k = omega arith in
      bit-xor a (moved_of d m a b * 2 ^ d % 2 ^ 32) k
      ∙ ap (λ (x : ℕ). bit a k ⊻ x)
      (bit-mod (moved_of d m a b * 2 ^ d) 32 k l ∙ ap (λ (n : ℕ). bit (moved_of d m a b * 2 ^ n) k) e ∙ shl_below (moved_of d m a b) (d - suc k) k)
      ∙ xor-none (bit a k)
