-- A block of bytes as a number.
-- Assumes nothing.
use mathlib.Core.Path.{◌≡◌, refl, ap, ap₂, sym, ◌∙◌}
use mathlib.Core.List.{List, [], ◌∷◌, ◌++◌}
use Prim.Native.Nat.{ℕ, zero, suc, ◌+◌, ◌*◌, ◌-◌, ◌^◌, ◌<◌, ◌≤◌}
use native.Mathlib.Nat.{add-zero, zero-add, mul_comm, mod-eq_of_lt}
use native.Mathlib.Omega.{arith}
use lib.ListN.{length, get_or, take, drop, set, replicate, length-append, length-take, length-drop, length-replicate, get_or-append, get_or-eq_default}
use lib.Seq.{get_or-drop, get_or-take, drop-append-le, drop_at, get_or-append_seam}
use Rattle.octets.specs.Buffers.{put}
use Rattle.octets.specs.Numbers.{le, to_le}
use Rattle.octets.proofs.BufferLaws.{get_or-zeros, put_one, put-put, length-put}
use Rattle.octets.proofs.NumberLaws.{le-add, le-one, le_same, le-padded, le-to_le, length-to_le}
use Rattle.poly1305.specs.Limbs.{from_words}
use Rattle.poly1305.specs.Poly1305.{block_number, zero_padded, lengths}

-- ---- 17 and 16 bytes by words

two-parts : (n : ℕ) (s : List ℕ) → le (8 + n) s ≡ le 8 s + 2 ^ 64 * le n (drop 8 s)
two-parts n s = le-add 8 n s ∙ ap (λ (x : ℕ). le 8 s + x) (mul_comm (le n (drop 8 s)) (2 ^ 64))

words-17 : (s : List ℕ) → le 17 s ≡ from_words (le 8 s) (le 8 (drop 8 s)) (get_or s 16 0)
unfolding from_words
words-17 s =
    two-parts 9 s
    ∙ ap (λ (x : ℕ). le 8 s + 2 ^ 64 * x)
    (two-parts 1 (drop 8 s) ∙ ap (λ (x : ℕ). le 8 (drop 8 s) + 2 ^ 64 * x) (le-one (drop 8 s) 8 ∙ get_or-drop 8 s 8 0))

pub words-16 : (s : List ℕ) → from_words (le 8 s) (le 8 (drop 8 s)) 0 ≡ le 16 s
unfolding from_words
words-16 s = let e : le 8 (drop 8 s) + 2 ^ 64 * 0 ≡ le 8 (drop 8 s) = add-zero _ in sym (two-parts 8 s ∙ ap (λ (x : ℕ). le 8 s + 2 ^ 64 * x) (sym e))

-- ---- whole blocks

le-append : (n : ℕ) (s t : List ℕ) → n ≤ length s → le n (s ++ t) ≡ le n s
le-append n s t h = le_same n (s ++ t) s (λ i l. get_or-append s t 0 i (omega arith))

number : (s : List ℕ) → length s ≡ 16 → from_words (le 8 s) (le 8 (drop 8 s)) 1 ≡ block_number s
unfolding block_number
number s e =
    let b = s ++ 1 ∷ [] in
    let h : 8 ≤ length s = omega arith in
    let l : 8 ≤ length (drop 8 s) = omega (arith, length-drop 8 s) in
    sym
    (words-17 b
    ∙ (λ i. from_words (le-append 8 s (1 ∷ []) h i) ((ap (le 8) (drop-append-le 8 s (1 ∷ []) h) ∙ le-append 8 (drop 8 s) (1 ∷ []) l) i)
    ((ap (λ (k : ℕ). get_or b k 0) (sym e) ∙ get_or-append_seam s 1 [] 0) i)))

behind-zeros : (s : List ℕ) (n i : ℕ) → get_or (s ++ replicate n 0) i 0 ≡ get_or s i 0
behind-zeros [] n i = get_or-zeros n i
behind-zeros (a ∷ s) n zero = refl
behind-zeros (a ∷ s) n (suc i) = behind-zeros s n i

module _ (s : List ℕ) where
  block : List ℕ
  block = zero_padded (take 16 s)

  length-block : length block ≡ 16
  unfolding block zero_padded
  length-block =
      let t = take 16 s in
      omega (arith, length-append t (replicate (16 - length t) 0), length-replicate {A = ℕ} (16 - length t) 0, length-take 16 s)

  get_or-block : (i : ℕ) → i < 16 → get_or block i 0 ≡ get_or s i 0
  unfolding block zero_padded
  get_or-block i h = behind-zeros (take 16 s) (16 - length (take 16 s)) i ∙ get_or-take 16 s i 0 h

  -- the first 16 bytes, with zeros for those that are not there
  pub number-first : from_words (le 8 s) (le 8 (drop 8 s)) 1 ≡ block_number (zero_padded (take 16 s))
  unfolding block
  number-first =
      sym
      (sym (number block length-block)
      ∙ ap₂ (λ (x y : ℕ). from_words x y 1)
      (le_same 8 block s (λ i h. get_or-block i (omega arith)))
      (le_same 8 (drop 8 block) (drop 8 s) (λ i h. get_or-drop 8 block i 0 ∙ get_or-block (8 + i) (omega arith) ∙ sym (get_or-drop 8 s i 0))))

-- the lengths
pub number-lengths : (n : ℕ) → n < 2 ^ 64 → from_words 0 n 1 ≡ block_number (lengths n)
unfolding lengths
number-lengths n h =
    let a = to_le 8 0 in
    let b = to_le 8 n in
    let la = length-to_le 8 0 in
    let lb = length-to_le 8 n in
    let w : 8 ≤ length a = omega (arith, la) in
    ap₂ (λ (x y : ℕ). from_words x y 1)
    (sym (le-append 8 a b w ∙ le-to_le 8 0))
    (sym (ap (le 8) (drop_at a b 8 la) ∙ le-to_le 8 n ∙ mod-eq_of_lt h))
    ∙ number (a ++ b) (omega (arith, length-append a b, la, lb))

-- ---- a last block, with a byte 1 behind it in a buffer of 16

pub number_short : (s b : List ℕ) → length s < 16 → b ≡ put (replicate 16 0) 0 s
    → from_words (le 8 (set b (length s) 1)) (le 8 (drop 8 (set b (length s) 1))) 0 ≡ block_number s
unfolding block_number
number_short s b h e =
    let z = replicate {A = ℕ} 16 0 in
    let t = s ++ 1 ∷ [] in
    let fits : 0 + length s ≤ length z = omega (arith, length-replicate {A = ℕ} 16 0) in
    let inside : length s < length (put z 0 s) = omega (arith, length-put z 0 s fits, length-replicate {A = ℕ} 16 0) in
    let m : set b (length s) 1 ≡ put z 0 t =
    ap (λ (x : List ℕ). set x (length s) 1) e ∙ sym (put_one (put z 0 s) (length s) 1 inside)
    ∙ ap (λ (k : ℕ). put (put z 0 s) k (1 ∷ [])) (sym (zero-add (length s))) ∙ put-put z 0 s fits (1 ∷ []) in
    let room : 0 + length t ≤ length z = omega (arith, length-append s (1 ∷ []), length-replicate {A = ℕ} 16 0) in
    let end : length (put z 0 t) ≤ 16 = omega (arith, length-put z 0 t room, length-replicate {A = ℕ} 16 0) in
    ap (λ (x : List ℕ). from_words (le 8 x) (le 8 (drop 8 x)) 0) m
    ∙ ap (from_words (le 8 (put z 0 t)) (le 8 (drop 8 (put z 0 t)))) (sym (get_or-eq_default (put z 0 t) 0 end))
    ∙ sym (words-17 (put z 0 t)) ∙ le-padded 17 16 t
