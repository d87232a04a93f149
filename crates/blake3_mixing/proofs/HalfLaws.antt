-- Half of the mixing function, of words that are computed one after the other.
-- Assumes nothing.
use Rattle.std.proofs.Common.{◌≡◌, ℕ, ◌+◌, ◌%◌, ◌^◌, ◌<◌, w32, bit_xor, ap, ◌∙◌, arith}
use Rattle.std.specs.Int.{rotate_right}
use Rattle.std.proofs.Math.Nat.{mod-add-mod}
use Rattle.std.proofs.lemmas.Nat.{xor_lt}
use Rattle.blake3_mixing.specs.declared.Quad.{Quad}
use Rattle.blake3_mixing.specs.Mixing.{add32, sum3, xor, rotr, half}
use Rattle.blake3_mixing.proofs.RotationLaws.{rotated}

-- a rotation of x ⊕ y
turned : (x y k v : ℕ) → x < 2 ^ 32 → y < 2 ^ 32 → 0 < k → k < 32 → v ≡ rotate_right w32 (bit_xor x y) k → v ≡ rotr (xor x y) k
unfolding xor
turned x y k v hx hy low high e = e ∙ rotated (bit_xor x y) k (xor_lt 32 x y hx hy) low high

pub half-is : (q : Quad) (m r s a d c b : ℕ)
    → (q.b < 2 ^ 32) × (q.d < 2 ^ 32) → (0 < r) × (r < 32) × (0 < s) × (s < 32)
    → a ≡ ((q.a + q.b) % 2 ^ 32 + m) % 2 ^ 32 → d ≡ rotate_right w32 (bit_xor q.d a) r
    → c ≡ (q.c + d) % 2 ^ 32 → b ≡ rotate_right w32 (bit_xor q.b c) s
    → record { a = a; b = b; c = c; d = d } ≡ half q m r s
unfolding half sum3 add32
half-is q m r s a d c b (hb, hd) (low, high, low', high') ea ed ec eb =
    let a' = ea ∙ mod-add-mod (q.a + q.b) (2 ^ 32) m in
    let la : a < 2 ^ 32 = omega arith in
    let lc : c < 2 ^ 32 = omega arith in
    let d' = turned q.d a r d hd la low high ed ∙ ap (λ (x : ℕ). rotr (xor q.d x) r) a' in
    let c' = ec ∙ ap (λ (x : ℕ). (q.c + x) % 2 ^ 32) d' in
    let b' = turned q.b c s b hb lc low' high' eb ∙ ap (λ (x : ℕ). rotr (xor q.b x) s) c' in
    λ i. record { a = a' i; b = b' i; c = c' i; d = d' i }
