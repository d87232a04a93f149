-- The circuit on planes is SBOX of the byte that each digit makes: one computed test over the 256 bytes.
-- Assumes nothing.
use mathlib.Core.Path.{◌≡◌, sym, ap, ◌∙◌}
use Prim.Native.Nat.{ℕ, ◌+◌, ◌*◌, ◌/◌, ◌%◌, ◌^◌, ◌<◌}
use native.Mathlib.Omega.{arith}
use lib.Dec.{eqb, eqb→eq}
use lib.ListN.{get_or}
use Rattle.octets.proofs.Table.{at_each}
use Rattle.aes_tables.specs.SBox.{bit, s_box}
use Rattle.aes_tables.proofs.Substitution.{s_table, s-table}
use Rattle.aes_circuit.specs.Circuit.{◌⊻◌, ◌⊗◌, top_of, middle_of, inverse_of, products_of, bottom_of, sbox_of, digit_bits, byte_of, bits_of, byte_at}
use Rattle.aes_circuit.specs.declared.Bits.{Bits}
use Rattle.aes_circuit.specs.declared.Linear.{Linear}
use Rattle.aes_circuit.specs.declared.Nine.{Nine}
use Rattle.aes_circuit.proofs.Digits.{bit-lt, bit-ones, sbox-digit}

-- the circuit on the bits of a byte
sbox-byte : (n : ℕ) → n < 256 → byte_of (sbox_of 1 (bits_of n)) ≡ s_box n
unfolding ◌⊻◌ ◌⊗◌ top_of middle_of inverse_of products_of bottom_of sbox_of byte_of bits_of bit
sbox-byte n h =
    eqb→eq _ _ (at_each 256 (λ m. eqb (byte_of (sbox_of 1 (bits_of m))) (get_or s_table m 0)) tt n h) ∙ s-table.entry n h

-- eight bits make a byte, and are its bits
module _ (a b c d e f g h : ℕ) (ha : a < 2) (hb : b < 2) (hc : c < 2) (hd : d < 2) (he : e < 2) (hf : f < 2) (hg : g < 2) (hh : h < 2) where
  eight-lt : a + b * 2 + c * 4 + d * 8 + e * 16 + f * 32 + g * 64 + h * 128 < 256
  eight-lt = omega arith

  eight-bits : bits_of (a + b * 2 + c * 4 + d * 8 + e * 16 + f * 32 + g * 64 + h * 128)
      ≡ record { x0 = h; x1 = g; x2 = f; x3 = e; x4 = d; x5 = c; x6 = b; x7 = a }
  unfolding bits_of bit
  eight-bits = λ i. record { x0 = e7 i; x1 = e6 i; x2 = e5 i; x3 = e4 i; x4 = e3 i; x5 = e2 i; x6 = e1 i; x7 = e0 i }
    where
      n : ℕ
      n = a + b * 2 + c * 4 + d * 8 + e * 16 + f * 32 + g * 64 + h * 128

      e0 : n / 2 ^ 0 % 2 ≡ a
      e0 = omega arith

      e1 : n / 2 ^ 1 % 2 ≡ b
      e1 = omega arith

      e2 : n / 2 ^ 2 % 2 ≡ c
      e2 = omega arith

      e3 : n / 2 ^ 3 % 2 ≡ d
      e3 = omega arith

      e4 : n / 2 ^ 4 % 2 ≡ e
      e4 = omega arith

      e5 : n / 2 ^ 5 % 2 ≡ f
      e5 = omega arith

      e6 : n / 2 ^ 6 % 2 ≡ g
      e6 = omega arith

      e7 : n / 2 ^ 7 % 2 ≡ h
      e7 = omega arith

module _ (x : Bits) (k : ℕ) where
  pub byte_at-lt : byte_at k x < 256
  unfolding byte_at byte_of digit_bits
  byte_at-lt = eight-lt _ _ _ _ _ _ _ _ (bit-lt x.x7 k) (bit-lt x.x6 k) (bit-lt x.x5 k) (bit-lt x.x4 k) (bit-lt x.x3 k) (bit-lt x.x2 k) (bit-lt x.x1 k) (bit-lt x.x0 k)

  pub bits-byte_at : bits_of (byte_at k x) ≡ digit_bits k x
  unfolding byte_at byte_of digit_bits
  bits-byte_at = eight-bits _ _ _ _ _ _ _ _ (bit-lt x.x7 k) (bit-lt x.x6 k) (bit-lt x.x5 k) (bit-lt x.x4 k) (bit-lt x.x3 k) (bit-lt x.x2 k) (bit-lt x.x1 k) (bit-lt x.x0 k)

  pub sbox-planes : k < 32 → byte_at k (sbox_of 0xffffffff x) ≡ s_box (byte_at k x)
  unfolding byte_at
  sbox-planes h =
      ap byte_of (sbox-digit 0xffffffff x k ∙ ap (λ (o : ℕ). sbox_of o (digit_bits k x)) (bit-ones k h) ∙ ap (sbox_of 1) (sym bits-byte_at))
      ∙ sbox-byte (byte_at k x) byte_at-lt

-- the parts of the code, composed
pub sbox-parts : (x r : Bits) (y : Linear) (i : Nine)
    → y ≡ top_of x → i ≡ inverse_of (middle_of x.x7 y) → r ≡ bottom_of 0xffffffff (products_of x.x7 y i) → r ≡ sbox_of 0xffffffff x
unfolding sbox_of
sbox-parts x r y i ey ei er =
    er ∙ (λ j. bottom_of 0xffffffff (products_of x.x7 (ey j) ((ei ∙ ap (λ (l : Linear). inverse_of (middle_of x.x7 l)) ey) j)))
