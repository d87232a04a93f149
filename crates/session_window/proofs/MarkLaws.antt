-- The window's four words and the number that they make: each word of it, the number moved up, one bit more.
-- Assumes nothing.
use Prim.Native.Nat.{ℕ, zero, suc, ◌+◌, ◌*◌, ◌/◌, ◌%◌, ◌^◌, ◌<◌, ◌≤◌}
use native.Mathlib.Nat.{add_comm, mul_assoc, mul_comm, add-mul-div_left, add-mul-mod_self_left, zero-div, zero-mod, add-zero, zero-add, div-one, mul-one, mod-eq_of_lt, div-eq_of_lt}
use native.Mathlib.Omega.{arith}
use lib.Pow.{pow_pos, pow-add, shr-shr, mod-pow-add}
use lib.Dec.{eqb, lit<}
use lib.ListN.{length, get_or, set, length-set}
use borrow.Author.Tests.{eqb-false}
use mathlib.Core.Bool.{false}
use mathlib.Core.List.{List, [], ◌∷◌}
use mathlib.Core.Path.{◌≡◌, sym, ap, ◌∙◌}
use Rattle.session_window.specs.Window.{window, bit, number, word_of}
use Rattle.session_window.proofs.ShiftLaws.{bit_word, set-fits, one-more-first, one-more-rest, moved-far}

-- each word of the list is below 2 ^ 64
abbrev pub Bounded : List ℕ → Type 0
Bounded ws = (i : ℕ) → get_or ws i 0 < 2 ^ 64

-- ---- as many words as there are

unfoldable total : List ℕ → ℕ
total [] = 0
total (w ∷ ws) = w + 2 ^ 64 * total ws

total-low : (w n : ℕ) → w < 2 ^ 64 → (w + 2 ^ 64 * n) % 2 ^ 64 ≡ w
total-low w n l = add-mul-mod_self_left w (2 ^ 64) n ∙ mod-eq_of_lt l

total-high : (w n : ℕ) → w < 2 ^ 64 → (w + 2 ^ 64 * n) / 2 ^ 64 ≡ n
total-high w n l = add-mul-div_left w n (pow_pos 64) ∙ ap (λ (y : ℕ). y + n) (div-eq_of_lt l) ∙ zero-add n

word_total : (ws : List ℕ) → Bounded ws → (k : ℕ) → word_of (total ws) k ≡ get_or ws k 0
unfolding total
word_total [] h k = ap (λ (y : ℕ). y % 2 ^ 64) (zero-div (2 ^ (64 * k))) ∙ zero-mod (2 ^ 64)
word_total (w ∷ ws) h zero = ap (λ (y : ℕ). y % 2 ^ 64) (div-one (w + 2 ^ 64 * total ws)) ∙ total-low w (total ws) (h 0)
word_total (w ∷ ws) h (suc k) =
    let e : 64 * suc k ≡ 64 + 64 * k = omega arith in
    ap (λ (y : ℕ). (w + 2 ^ 64 * total ws) / 2 ^ y % 2 ^ 64) e
    ∙ ap (λ (y : ℕ). y % 2 ^ 64)
    (sym (shr-shr (w + 2 ^ 64 * total ws) 64 (64 * k)) ∙ ap (λ (y : ℕ). y / 2 ^ (64 * k)) (total-high w (total ws) (h 0)))
    ∙ word_total ws (λ i. h (suc i)) k

total-set : (ws : List ℕ) (k v : ℕ) → k < length ws → total (set ws k (get_or ws k 0 + v)) ≡ total ws + v * 2 ^ (64 * k)
unfolding total
total-set [] k v l = absurd (omega arith)
total-set (w ∷ ws) zero v l = rw (mul-one v) (omega arith)
total-set (w ∷ ws) (suc k) v l =
    let e : 64 * suc k ≡ 64 * k + 64 = omega arith in
    let p : v * 2 ^ (64 * suc k) ≡ v * 2 ^ (64 * k) * 2 ^ 64 =
    ap (λ (y : ℕ). v * 2 ^ y) e ∙ ap (λ (y : ℕ). v * y) (pow-add 2 (64 * k) 64) ∙ sym (mul_assoc v (2 ^ (64 * k)) (2 ^ 64)) in
    let q : total (set ws k (get_or ws k 0 + v)) ≡ total ws + v * 2 ^ (64 * k) = total-set ws k v (omega arith) in
    rw (q, p) (omega arith)

-- ---- four words

four : (m : List ℕ) → length m ≡ 4 → number m ≡ total m
unfolding number total
four [] l = absurd (omega arith)
four (a ∷ []) l = absurd (omega arith)
four (a ∷ b ∷ []) l = absurd (omega arith)
four (a ∷ b ∷ c ∷ []) l = absurd (omega arith)
four (a ∷ b ∷ c ∷ d ∷ []) l = ap (λ (y : ℕ). a + 2 ^ 64 * (b + 2 ^ 64 * (c + 2 ^ 64 * y))) (sym (add-zero d))
four (a ∷ b ∷ c ∷ d ∷ e ∷ m) l = absurd (omega arith)

-- word k of the number is element k of the list
pub word_number : (m : List ℕ) → length m ≡ 4 → Bounded m → (k : ℕ) → word_of (number m) k ≡ get_or m k 0
word_number m l h k = ap (λ (y : ℕ). word_of y k) (four m l) ∙ word_total m h k

-- the low four words of a number are its low 256 bits
step : (x k : ℕ) → x % 2 ^ (k + 64) ≡ x % 2 ^ 64 + 2 ^ 64 * (x / 2 ^ 64 % 2 ^ k)
step x k =
    mod-pow-add x k 64 ∙ add_comm (x / 2 ^ 64 % 2 ^ k * 2 ^ 64) (x % 2 ^ 64)
    ∙ ap (λ (y : ℕ). x % 2 ^ 64 + y) (mul_comm (x / 2 ^ 64 % 2 ^ k) (2 ^ 64))

number-words : (x : ℕ) → number (word_of x 0 ∷ word_of x 1 ∷ word_of x 2 ∷ word_of x 3 ∷ []) ≡ x % 2 ^ window
unfolding number
number-words x =
    let a : x / 2 ^ 64 / 2 ^ 64 ≡ x / 2 ^ 128 = shr-shr x 64 64 in
    let b : x / 2 ^ 128 / 2 ^ 64 ≡ x / 2 ^ 192 = shr-shr x 128 64 in
    sym
    (step x 192
    ∙ ap (λ (y : ℕ). x % 2 ^ 64 + 2 ^ 64 * y)
    (step (x / 2 ^ 64) 128
    ∙ ap (λ (y : ℕ). x / 2 ^ 64 % 2 ^ 64 + 2 ^ 64 * y)
    (ap (λ (y : ℕ). y % 2 ^ 128) a
    ∙ step (x / 2 ^ 128) 64
    ∙ ap (λ (y : ℕ). x / 2 ^ 128 % 2 ^ 64 + 2 ^ 64 * (y % 2 ^ 64)) b))
    ∙ ap (λ (y : ℕ). y % 2 ^ 64 + 2 ^ 64 * (x / 2 ^ 64 % 2 ^ 64 + 2 ^ 64 * (x / 2 ^ 128 % 2 ^ 64 + 2 ^ 64 * (x / 2 ^ 192 % 2 ^ 64)))) (sym (div-one x)))

-- the words as a record is written
pub number-list : (m : List ℕ) → length m ≡ 4 → Bounded m
    → get_or m 0 0 ∷ get_or m 1 0 ∷ get_or m 2 0 ∷ get_or m 3 0 ∷ []
    ≡ number m % 2 ^ 64 ∷ number m / 2 ^ 64 % 2 ^ 64 ∷ number m / 2 ^ 64 / 2 ^ 64 % 2 ^ 64 ∷ number m / 2 ^ 64 / 2 ^ 64 / 2 ^ 64 % 2 ^ 64 ∷ []
number-list m l h =
    let e2 : number m / 2 ^ 128 ≡ number m / 2 ^ 64 / 2 ^ 64 = sym (shr-shr (number m) 64 64) in
    let e3 : number m / 2 ^ 192 ≡ number m / 2 ^ 64 / 2 ^ 64 / 2 ^ 64 = sym (shr-shr (number m) 128 64) ∙ ap (λ (y : ℕ). y / 2 ^ 64) e2 in
    let w0 : get_or m 0 0 ≡ number m % 2 ^ 64 = sym (word_number m l h 0) ∙ ap (λ (y : ℕ). y % 2 ^ 64) (div-one (number m)) in
    let w1 : get_or m 1 0 ≡ number m / 2 ^ 64 % 2 ^ 64 = sym (word_number m l h 1) in
    let w2 : get_or m 2 0 ≡ number m / 2 ^ 64 / 2 ^ 64 % 2 ^ 64 = sym (word_number m l h 2) ∙ ap (λ (y : ℕ). y % 2 ^ 64) e2 in
    let w3 : get_or m 3 0 ≡ number m / 2 ^ 64 / 2 ^ 64 / 2 ^ 64 % 2 ^ 64 = sym (word_number m l h 3) ∙ ap (λ (y : ℕ). y % 2 ^ 64) e3 in
    λ i. w0 i ∷ w1 i ∷ w2 i ∷ w3 i ∷ []

-- ---- the window moved up by d

pub far : (x d : ℕ) → window ≤ d → number (1 ∷ 0 ∷ 0 ∷ 0 ∷ []) ≡ (x * 2 ^ d + 1) % 2 ^ window
unfolding number
far x d l = sym (moved-far x d l)

pub near : (x d a b c e : ℕ) → 0 < d → a ≡ word_of (x * 2 ^ d) 0 → b ≡ word_of (x * 2 ^ d) 1 → c ≡ word_of (x * 2 ^ d) 2 → e ≡ word_of (x * 2 ^ d) 3
    → number ((a + 1) ∷ b ∷ c ∷ e ∷ []) ≡ (x * 2 ^ d + 1) % 2 ^ window
near x d a b c e l ea eb ec ee =
    let e0 : a + 1 ≡ word_of (x * 2 ^ d + 1) 0 = ap (λ (z : ℕ). z + 1) ea ∙ sym (one-more-first x d l) in
    let e1 : b ≡ word_of (x * 2 ^ d + 1) 1 = eb ∙ sym (one-more-rest x d 1 l (lit< tt)) in
    let e2 : c ≡ word_of (x * 2 ^ d + 1) 2 = ec ∙ sym (one-more-rest x d 2 l (lit< tt)) in
    let e3 : e ≡ word_of (x * 2 ^ d + 1) 3 = ee ∙ sym (one-more-rest x d 3 l (lit< tt)) in
    (λ i. number (e0 i ∷ e1 i ∷ e2 i ∷ e3 i ∷ [])) ∙ number-words (x * 2 ^ d + 1)

-- ---- one bit

module _ (m : List ℕ) (j : ℕ) (long : length m ≡ 4) (bounded : Bounded m) where
  -- bit j, found in its word
  found : get_or m (j / 64) 0 / 2 ^ (j % 64) % 2 ≡ number m / 2 ^ j % 2
  found =
      let e : 64 * (j / 64) + j % 64 ≡ j = omega arith in
      ap (λ (y : ℕ). y / 2 ^ (j % 64) % 2) (sym (word_number m long bounded (j / 64)))
      ∙ bit_word (number m) (j / 64) (j % 64) (omega arith)
      ∙ ap (λ (y : ℕ). number m / 2 ^ y % 2) e

  pub bit_found : eqb (get_or m (j / 64) 0 / 2 ^ (j % 64) % 2) 1 ≡ bit (number m) j
  bit_found = ap (λ (y : ℕ). eqb y 1) found

  -- a bit that is not set can be added to its word
  pub mark-fits : bit (number m) j ≡ false → get_or m (j / 64) 0 + 2 ^ (j % 64) < 2 ^ 64
  mark-fits z =
      let clear : number m / 2 ^ j % 2 ≡ 0 = omega (arith, eqb-false (number m / 2 ^ j % 2) 1 z) in
      set-fits 64 (j % 64) (get_or m (j / 64) 0) (omega arith) (bounded (j / 64)) (found ∙ clear)

  -- and that adds it to the number
  pub mark_set : j < window → number (set m (j / 64) (get_or m (j / 64) 0 + 2 ^ (j % 64))) ≡ number m + 2 ^ j
  mark_set h =
      let e : j % 64 + 64 * (j / 64) ≡ j = omega arith in
      four (set m (j / 64) (get_or m (j / 64) 0 + 2 ^ (j % 64))) (length-set m _ _ ∙ long)
      ∙ total-set m (j / 64) (2 ^ (j % 64)) (omega arith)
      ∙ ap (λ (y : ℕ). total m + y) (sym (pow-add 2 (j % 64) (64 * (j / 64))) ∙ ap (λ (y : ℕ). 2 ^ y) e)
      ∙ ap (λ (y : ℕ). y + 2 ^ j) (sym (four m long))
