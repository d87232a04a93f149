-- Sums of planes are sums of the bytes that each digit makes; and {02} times.
-- Assumes nothing.
use mathlib.Core.Path.{◌≡◌, sym, ap, ap₂, ◌∙◌}
use Prim.Native.Nat.{ℕ, ◌<◌}
use lib.Bits.{bit_xor, xor_lt}
use lib.Dec.{lit<, eqb, eqb→eq}
use Rattle.octets.proofs.Table.{at_each}
use Rattle.aes_tables.specs.Field.{x_times, times, ◌⊕◌, ◌•◌}
use Rattle.aes_tables.specs.SBox.{bit}
use Rattle.aes_circuit.specs.Circuit.{◌⊻◌, digit_bits, byte_of, bits_of, byte_at}
use Rattle.aes_circuit.specs.Planes.{bits_from, xor_bits, double_bits}
use Rattle.aes_circuit.specs.declared.Bits.{Bits}
use Rattle.aes_circuit.proofs.Digits.{bit-xor}
use Rattle.aes_circuit.proofs.SBoxLaws.{byte_at-lt, bits-byte_at}

-- the same planes
pub bits-from : (f g : ℕ → ℕ) → ((i : ℕ) → i < 8 → f i ≡ g i) → bits_from f ≡ bits_from g
unfolding bits_from
bits-from f g e =
    λ i. record {
      x0 = e 7 (lit< tt) i;
      x1 = e 6 (lit< tt) i;
      x2 = e 5 (lit< tt) i;
      x3 = e 4 (lit< tt) i;
      x4 = e 3 (lit< tt) i;
      x5 = e 2 (lit< tt) i;
      x6 = e 1 (lit< tt) i;
      x7 = e 0 (lit< tt) i;
    }

-- ---- on the bits of a byte

pub byte-bits : (n : ℕ) → n < 256 → byte_of (bits_of n) ≡ n
unfolding byte_of bits_of bit
byte-bits n h = eqb→eq _ _ (at_each 256 (λ m. eqb (byte_of (bits_of m)) m) tt n h)

xor-bits : (a b : ℕ) → xor_bits (bits_of a) (bits_of b) ≡ bits_of (a ⊻ b)
unfolding xor_bits bits_of
xor-bits a b =
    λ i. record {
      x0 = sym (bit-xor a b 7) i;
      x1 = sym (bit-xor a b 6) i;
      x2 = sym (bit-xor a b 5) i;
      x3 = sym (bit-xor a b 4) i;
      x4 = sym (bit-xor a b 3) i;
      x5 = sym (bit-xor a b 2) i;
      x6 = sym (bit-xor a b 1) i;
      x7 = sym (bit-xor a b 0) i;
    }

double-byte : (n : ℕ) → n < 256 → byte_of (double_bits (bits_of n)) ≡ 2 • n
unfolding ◌⊻◌ byte_of bits_of bit double_bits x_times times ◌•◌
double-byte n h = eqb→eq _ _ (at_each 256 (λ m. eqb (byte_of (double_bits (bits_of m))) (2 • m)) tt n h)

-- ---- on the digits of planes

xor-digit : (x y : Bits) (k : ℕ) → digit_bits k (xor_bits x y) ≡ xor_bits (digit_bits k x) (digit_bits k y)
unfolding xor_bits digit_bits
xor-digit x y k = simp bit-xor

double-digit : (x : Bits) (k : ℕ) → digit_bits k (double_bits x) ≡ double_bits (digit_bits k x)
unfolding double_bits digit_bits
double-digit x k = simp bit-xor

sum-byte : (a b : ℕ) → a < 256 → b < 256 → byte_of (xor_bits (bits_of a) (bits_of b)) ≡ a ⊕ b
unfolding ◌⊻◌
sum-byte a b ha hb = ap byte_of (xor-bits a b) ∙ byte-bits (bit_xor a b) (xor_lt 8 a b ha hb)

pub xor-planes : (x y : Bits) (k : ℕ) → byte_at k (xor_bits x y) ≡ byte_at k x ⊕ byte_at k y
unfolding byte_at
xor-planes x y k =
    ap byte_of (xor-digit x y k ∙ ap₂ xor_bits (sym (bits-byte_at x k)) (sym (bits-byte_at y k)))
    ∙ sum-byte (byte_at k x) (byte_at k y) (byte_at-lt x k) (byte_at-lt y k)

pub double-planes : (x : Bits) (k : ℕ) → byte_at k (double_bits x) ≡ 2 • byte_at k x
unfolding byte_at
double-planes x k =
    ap byte_of (double-digit x k ∙ ap double_bits (sym (bits-byte_at x k))) ∙ double-byte (byte_at k x) (byte_at-lt x k)
