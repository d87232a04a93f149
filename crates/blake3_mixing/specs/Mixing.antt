-- BLAKE3 (O'Connor, Aumasson, Neves, Wilcox-O'Hearn), section 2.2: words of 32 bits, as numbers below 2^32, and the function G
-- that mixes four of them.
use Rattle.std.specs.Prelude.{ℕ, ◌+◌, ◌-◌, ◌*◌, ◌/◌, ◌%◌, ◌^◌, bit_xor}
use Rattle.blake3_mixing.specs.declared.Quad.{Quad}

-- a + b
unfoldable pub add32 : ℕ → ℕ → ℕ
add32 a b = (a + b) % 2 ^ 32

-- a + b + m
unfoldable pub sum3 : ℕ → ℕ → ℕ → ℕ
sum3 a b m = (a + b + m) % 2 ^ 32

-- x >>> k: the k low bits become the high ones
unfoldable pub rotr : ℕ → ℕ → ℕ
rotr x k = (x % 2 ^ k) * 2 ^ (32 - k) + x / 2 ^ k

-- a ⊕ b, under a name that stays shut
unfoldable pub xor : ℕ → ℕ → ℕ
xor a b = bit_xor a b

-- half of G: a := a + b + m, d := (d ⊕ a) >>> r, c := c + d, b := (b ⊕ c) >>> s
unfoldable pub half : Quad → ℕ → ℕ → ℕ → Quad
half q m r s =
    let a = sum3 q.a q.b m in
    let d = rotr (xor q.d a) r in
    let c = add32 q.c d in
    record { a = a; b = rotr (xor q.b c) s; c = c; d = d }

-- G with the message words x and y
unfoldable pub G : Quad → ℕ → ℕ → Quad
G q x y = half (half q x 16 12) y 8 7
