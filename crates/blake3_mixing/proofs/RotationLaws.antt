-- A rotation, which the library makes of two shifts and an or.
-- Assumes nothing.
use Rattle.std.proofs.Common.{◌≡◌, ℕ, ◌+◌, ◌-◌, ◌*◌, ◌/◌, ◌%◌, ◌^◌, ◌<◌, w32, ap, ◌∙◌, ap₂, add-zero, shr_lt, arith}
use Rattle.std.specs.Int.{rotate_right}
use native.Mathlib.Nat.{mul-mod_left}
use lib.Bits.{bit_or, or_shifted_r}
use lib.Pow.{mod-pow-add, shl-shr}
use Rattle.blake3_mixing.specs.Mixing.{rotr}

-- (x << j) modulo 2^(k + j) keeps the k low bits of x
shl-mod : (x j k : ℕ) → (x * 2 ^ j) % 2 ^ (k + j) ≡ (x % 2 ^ k) * 2 ^ j
shl-mod x j k =
    mod-pow-add (x * 2 ^ j) k j
    ∙ ap₂ (λ (p q : ℕ). (p % 2 ^ k) * 2 ^ j + q) (shl-shr x j) (mul-mod_left x (2 ^ j))
    ∙ add-zero ((x % 2 ^ k) * 2 ^ j)

-- (x >> k) | (x << j) at k + j bits
rotate : (x j k : ℕ) → x < 2 ^ (j + k) → bit_or (x / 2 ^ k) ((x * 2 ^ j) % 2 ^ (k + j)) ≡ (x % 2 ^ k) * 2 ^ j + x / 2 ^ k
rotate x j k h =
    ap (λ (y : ℕ). bit_or (x / 2 ^ k) y) (shl-mod x j k) ∙ or_shifted_r (x % 2 ^ k) j (x / 2 ^ k) (shr_lt j k h)

pub rotated : (x k : ℕ) → x < 2 ^ 32 → 0 < k → k < 32 → rotate_right w32 x k ≡ rotr x k
unfolding rotr
rotated x k h low high =
    let e : 32 - k + k ≡ 32 = omega arith in
    let e' : k + (32 - k) ≡ 32 = omega arith in
    let s : k % 32 ≡ k = omega arith in
    let s' : (32 - k) % 32 ≡ 32 - k = omega arith in
    rw (s, s') (rw e' at (rotate x (32 - k) k (rw e h)))
