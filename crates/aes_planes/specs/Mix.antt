-- A round on planes of bits, in the order of the code. The planes s of a state: bit i of row r and column c stands at
-- 32 * r + 4 * i + c, a digit for each block. The planes t after SubBytes: at 64 * r + 8 * i + c, each column twice (c < 8).
-- The key k: bit i of row r of word n as a mask at 480 * r + 60 * i + n.
use Rattle.std.specs.Prelude.{List, ℕ, zero, suc, ◌+◌, ◌*◌, get_or, set}
use Rattle.aes_circuit.specs.Circuit.{◌⊻◌}
use Rattle.aes_planes.specs.declared.mix.Quad.{Quad}

unfoldable pub sums_of : Quad → Quad
sums_of r = record { a = r.a ⊻ r.b; b = r.b ⊻ r.c; c = r.c ⊻ r.e; e = r.e ⊻ r.a }

unfoldable pub both_of : Quad → Quad → Quad
both_of x y = record { a = x.a ⊻ y.a; b = x.b ⊻ y.b; c = x.c ⊻ y.c; e = x.e ⊻ y.e }

unfoldable pub row_of : List ℕ → ℕ → Quad
row_of t at = record { a = get_or t at 0; b = get_or t (at + 65) 0; c = get_or t (at + 130) 0; e = get_or t (at + 195) 0 }

unfoldable pub key_row_of : List ℕ → ℕ → Quad
key_row_of k n = record { a = get_or k n 0; b = get_or k (n + 480) 0; c = get_or k (n + 960) 0; e = get_or k (n + 1440) 0 }

unfoldable pub mixed_of : Quad → Quad → Quad → Quad → Quad
mixed_of d r x k =
    record {
      a = d.a ⊻ r.b ⊻ x.c ⊻ k.a;
      b = d.b ⊻ r.c ⊻ x.e ⊻ k.b;
      c = d.c ⊻ r.e ⊻ x.a ⊻ k.c;
      e = d.e ⊻ r.a ⊻ x.b ⊻ k.e;
    }

unfoldable pub set_row : List ℕ → ℕ → Quad → List ℕ
set_row s at x = set (set (set (set s at x.a) (at + 32) x.b) (at + 64) x.c) (at + 96) x.e

-- the sums of bit b of the bytes that ShiftRows brings to column j
unfoldable pub sum_row : List ℕ → ℕ → ℕ → Quad
sum_row t j b = sums_of (row_of t (8 * b + j))

-- bit b of column j after the round, where d is what is doubled
unfoldable pub bit_of : List ℕ → List ℕ → ℕ → ℕ → ℕ → Quad → Quad
bit_of t k n j b d = mixed_of d (row_of t (8 * b + j)) (sum_row t j b) (key_row_of k (60 * b + n + j))

unfoldable pub low_of : List ℕ → List ℕ → List ℕ → ℕ → ℕ → Quad → List ℕ
low_of s t k n j x7 =
    let s0 = set_row s (4 * 0 + j) (bit_of t k n j 0 x7) in
    let s1 = set_row s0 (4 * 1 + j) (bit_of t k n j 1 (both_of (sum_row t j 0) x7)) in
    let s2 = set_row s1 (4 * 2 + j) (bit_of t k n j 2 (sum_row t j 1)) in
    set_row s2 (4 * 3 + j) (bit_of t k n j 3 (both_of (sum_row t j 2) x7))

unfoldable pub high_of : List ℕ → List ℕ → List ℕ → ℕ → ℕ → Quad → List ℕ
high_of s t k n j d =
    let s4 = set_row s (4 * 4 + j) (bit_of t k n j 4 d) in
    let s5 = set_row s4 (4 * 5 + j) (bit_of t k n j 5 (sum_row t j 4)) in
    let s6 = set_row s5 (4 * 6 + j) (bit_of t k n j 6 (sum_row t j 5)) in
    set_row s6 (4 * 7 + j) (bit_of t k n j 7 (sum_row t j 6))

unfoldable pub lane_of : List ℕ → List ℕ → List ℕ → ℕ → ℕ → List ℕ
lane_of s t k n j = high_of (low_of s t k n j (sum_row t j 7)) t k n j (both_of (sum_row t j 3) (sum_row t j 7))

-- the columns below j
unfoldable pub columns_of : List ℕ → List ℕ → List ℕ → ℕ → ℕ → List ℕ
columns_of s t k n zero = s
columns_of s t k n (suc j) = lane_of (columns_of s t k n j) t k n j

-- the last round: bit b of the columns below j; the bits below b
unfoldable pub last_bit_of : List ℕ → List ℕ → List ℕ → ℕ → ℕ → ℕ → List ℕ
last_bit_of s t k n b zero = s
last_bit_of s t k n b (suc j) =
    set_row (last_bit_of s t k n b j) (4 * b + j) (both_of (row_of t (8 * b + j)) (key_row_of k (60 * b + n + j)))

unfoldable pub last_of : List ℕ → List ℕ → List ℕ → ℕ → ℕ → List ℕ
last_of s t k n zero = s
last_of s t k n (suc b) = last_bit_of (last_of s t k n b) t k n b 4
