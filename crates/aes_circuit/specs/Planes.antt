-- Eight planes of bits, read from a list of words, and sums of them.
use Rattle.std.specs.Prelude.{List, ℕ, ◌+◌, ◌*◌, get_or}
use Rattle.aes_circuit.specs.Circuit.{◌⊻◌}
use Rattle.aes_circuit.specs.declared.Bits.{Bits}

-- the planes f 0, the lowest bit, to f 7
unfoldable pub bits_from : (ℕ → ℕ) → Bits
bits_from f = record { x0 = f 7; x1 = f 6; x2 = f 5; x3 = f 4; x4 = f 3; x5 = f 2; x6 = f 1; x7 = f 0 }

-- the planes at every d-th place of s from a place on
unfoldable pub planes : ℕ → List ℕ → ℕ → Bits
planes d s at = bits_from (λ i. get_or s (at + i * d) 0)

unfoldable pub xor_bits : Bits → Bits → Bits
xor_bits x y =
    record {
      x0 = x.x0 ⊻ y.x0;
      x1 = x.x1 ⊻ y.x1;
      x2 = x.x2 ⊻ y.x2;
      x3 = x.x3 ⊻ y.x3;
      x4 = x.x4 ⊻ y.x4;
      x5 = x.x5 ⊻ y.x5;
      x6 = x.x6 ⊻ y.x6;
      x7 = x.x7 ⊻ y.x7;
    }

-- {02} times
unfoldable pub double_bits : Bits → Bits
double_bits x =
    record {
      x0 = x.x1;
      x1 = x.x2;
      x2 = x.x3;
      x3 = x.x4 ⊻ x.x0;
      x4 = x.x5 ⊻ x.x0;
      x5 = x.x6;
      x6 = x.x7 ⊻ x.x0;
      x7 = x.x0;
    }
