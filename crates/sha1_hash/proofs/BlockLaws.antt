-- The last blocks as the code makes them in a buffer of 64 bytes.
-- Assumes nothing.
use Rattle.std.proofs.Common.{◌≡◌, ℕ, zero, suc, ◌+◌, ◌-◌, ◌<◌, ◌≤◌, List, [], ◌∷◌, ◌++◌, length, drop, set, replicate, sym, refl, ap, ◌∙◌, ap₂, append_assoc, append-nil, arith, length-append, drop_of_length-le, take_at}
use lib.ListN.{length-replicate, replicate-append-replicate}
use lib.Seq.{set_at}
use Rattle.octets.specs.Buffers.{put}

pub drop-replicate : (k n : ℕ) → drop {A = ℕ} k (replicate n 0) ≡ replicate (n - k) 0
drop-replicate zero zero = refl
drop-replicate zero (suc n) = let e : suc n ≡ suc n - 0 = omega arith in ap (λ (j : ℕ). replicate {A = ℕ} j 0) e
drop-replicate (suc k) zero = let e : zero ≡ zero - suc k = omega arith in ap (λ (j : ℕ). replicate {A = ℕ} j 0) e
drop-replicate (suc k) (suc n) = let e : n - k ≡ suc n - suc k = omega arith in drop-replicate k n ∙ ap (λ (j : ℕ). replicate {A = ℕ} j 0) e

-- what is left of the message, the byte 80, and zeros
pub mark : (s b : List ℕ) → length s < 64 → b ≡ put (replicate 64 0) 0 s
    → set b (length s) 0x80 ≡ s ++ 0x80 ∷ replicate (63 - length s) 0
unfolding put
mark s b h e =
    let k : 64 - (0 + length s) ≡ suc (63 - length s) = omega arith in
    ap (λ (l : List ℕ). set l (length s) 0x80)
    (e ∙ ap (λ (z : List ℕ). s ++ z) (drop-replicate (0 + length s) 64 ∙ ap (λ (j : ℕ). replicate {A = ℕ} j 0) k))
    ∙ set_at s 0 (replicate (63 - length s) 0) 0x80 (length s) refl

-- a string put at the end of a buffer
pub put_last : (f g t : List ℕ) (at : ℕ) → length f ≡ at → length g ≤ length t → put (f ++ g) at t ≡ f ++ t
unfolding put
put_last f g t at e h =
    let l : length (f ++ g) ≤ at + length t = omega (arith, length-append f g) in
    ap₂ (λ (x y : List ℕ). x ++ t ++ y) (take_at f g at e) (drop_of_length-le (f ++ g) l)
    ∙ append-nil (f ++ t)

-- zeros behind zeros
zeros-join : (s t : List ℕ) (a b n : ℕ) → a + b ≡ n → s ++ 0x80 ∷ (replicate n 0 ++ t) ≡ (s ++ 0x80 ∷ replicate a 0) ++ (replicate b 0 ++ t)
zeros-join s t a b n e =
    ap (λ (z : List ℕ). s ++ 0x80 ∷ (z ++ t)) (ap (λ (j : ℕ). replicate {A = ℕ} j 0) (sym e) ∙ sym (replicate-append-replicate a b 0))
    ∙ ap (λ (z : List ℕ). s ++ 0x80 ∷ z) (append_assoc (replicate a 0) (replicate b 0) t)
    ∙ sym (append_assoc s (0x80 ∷ replicate a 0) (replicate b 0 ++ t))

pub length_marked : (s : List ℕ) (k : ℕ) → length (s ++ 0x80 ∷ replicate k 0) ≡ length s + k + 1
length_marked s k = omega (arith, length-append s (0x80 ∷ replicate k 0), length-replicate {A = ℕ} k 0)

-- one block: the length stands at its end
pub one_block : (s t : List ℕ) → length s < 56 → length t ≡ 8
    → put (s ++ 0x80 ∷ replicate (63 - length s) 0) 56 t ≡ s ++ 0x80 ∷ (replicate (55 - length s) 0 ++ t)
one_block s t h e =
    let m = length s in
    let k : 55 - m + 8 ≡ 63 - m = omega arith in
    let n : length (s ++ 0x80 ∷ replicate (55 - m) 0) ≡ 56 = omega (arith, length_marked s (55 - m)) in
    let g : length (replicate {A = ℕ} 8 0) ≤ length t = omega (arith, length-replicate {A = ℕ} 8 0) in
    ap (λ (d : List ℕ). put d 56 t)
    (sym (ap (λ (z : List ℕ). s ++ 0x80 ∷ z) (append-nil (replicate (63 - m) 0)))
    ∙ zeros-join s [] (55 - m) 8 (63 - m) k)
    ∙ put_last (s ++ 0x80 ∷ replicate (55 - m) 0) (replicate 8 0) t 56 n g
    ∙ append_assoc s (0x80 ∷ replicate (55 - m) 0) t

-- two blocks: the second has 56 zeros and the length
pub second_block : (t : List ℕ) → length t ≡ 8 → put (replicate 64 0) 56 t ≡ replicate 56 0 ++ t
second_block t e =
    let g : length (replicate {A = ℕ} 8 0) ≤ length t = omega (arith, length-replicate {A = ℕ} 8 0) in
    put_last (replicate 56 0) (replicate 8 0) t 56 refl g

pub two_blocks : (s t : List ℕ) → 56 ≤ length s → length s < 64
    → s ++ 0x80 ∷ (replicate (119 - length s) 0 ++ t) ≡ (s ++ 0x80 ∷ replicate (63 - length s) 0) ++ (replicate 56 0 ++ t)
two_blocks s t l h =
    let k : 63 - length s + 56 ≡ 119 - length s = omega arith in
    zeros-join s t (63 - length s) 56 (119 - length s) k
