-- Numbers moved up and down by powers of two: their words of 64 bits, and single bits of them.
-- Assumes nothing.
use Prim.Native.Nat.{ℕ, suc, ◌+◌, ◌-◌, ◌*◌, ◌/◌, ◌%◌, ◌^◌, ◌≤◌, ◌<◌}
use native.Mathlib.Nat.{add_comm, mul_assoc, mul_comm, add-mul-div_right, mul-div-mul_right, mul-mod_left, add-zero, zero-add, add-mul-mod_self_right, div-one, mul-one, mod-eq_of_lt, mod-lt, pow-suc, add-mul, one-mul, mod-add-div'}
use native.Mathlib.Omega.{arith}
use lib.Pow.{pow_pos, pow-add, shr-shr, shr_lt, mod-pow-add, high, low, field, mod-mod-pow, shl-shr, split, pow-lt}
use lib.Arith.{digits_lt}
use lib.Dec.{lit<}
use lib.Bits.{bit_or, or_shifted}
use mathlib.Core.Path.{◌≡◌, sym, ap, subst, ◌∙◌}
use Rattle.session_window.specs.Window.{window, word_of}

-- ---- shifts

-- up by n and down by w + n is down by w
up-down : (x n w : ℕ) → x * 2 ^ n / 2 ^ (w + n) ≡ x / 2 ^ w
up-down x n w = rw (pow-add 2 w n) (mul-div-mul_right x (2 ^ w) (pow_pos n))

-- the low w + n bits of a number whose low n bits are c
mod-up : (a n w c : ℕ) → c < 2 ^ n → (a * 2 ^ n + c) % 2 ^ (w + n) ≡ a % 2 ^ w * 2 ^ n + c
mod-up a n w c l =
    mod-pow-add (a * 2 ^ n + c) w n
    ∙ ap (λ (x : ℕ). x % 2 ^ w * 2 ^ n + (a * 2 ^ n + c) % 2 ^ n) (high a n l)
    ∙ ap (λ (x : ℕ). a % 2 ^ w * 2 ^ n + x) (low a n l)

-- the upper word of a pair moved up by n, at words of w + n bits
raise₀ : (n w hi lo : ℕ) → lo < 2 ^ (w + n) → bit_or (hi * 2 ^ n % 2 ^ (w + n)) (lo / 2 ^ w) ≡ (lo + hi * 2 ^ (w + n)) * 2 ^ n / 2 ^ (w + n) % 2 ^ (w + n)
raise₀ n w hi lo l =
    let cl : lo / 2 ^ w < 2 ^ n = shr_lt n w (subst (λ (k : ℕ). lo < 2 ^ k) (add_comm w n) l) in
    let up : hi * 2 ^ n % 2 ^ (w + n) ≡ hi % 2 ^ w * 2 ^ n =
    ap (λ (x : ℕ). x % 2 ^ (w + n)) (sym (add-zero (hi * 2 ^ n))) ∙ mod-up hi n w 0 (pow_pos n) ∙ add-zero _ in
    let pair : (lo + hi * 2 ^ (w + n)) / 2 ^ w ≡ hi * 2 ^ n + lo / 2 ^ w =
    ap (λ (x : ℕ). (lo + x) / 2 ^ w) (ap (λ (k : ℕ). hi * 2 ^ k) (add_comm w n) ∙ ap (λ (x : ℕ). hi * x) (pow-add 2 n w) ∙ sym (mul_assoc hi (2 ^ n) (2 ^ w)))
    ∙ add-mul-div_right lo (hi * 2 ^ n) (pow_pos w) ∙ add_comm (lo / 2 ^ w) (hi * 2 ^ n) in
    ap (λ (x : ℕ). bit_or x (lo / 2 ^ w)) up
    ∙ or_shifted (hi % 2 ^ w) n (lo / 2 ^ w) cl
    ∙ sym (mod-up hi n w (lo / 2 ^ w) cl)
    ∙ ap (λ (x : ℕ). x % 2 ^ (w + n)) (sym pair ∙ sym (up-down (lo + hi * 2 ^ (w + n)) n w))

pub raise : (b n w hi lo : ℕ) → w + n ≡ b → lo < 2 ^ b → bit_or (hi * 2 ^ n % 2 ^ b) (lo / 2 ^ w) ≡ (lo + hi * 2 ^ b) * 2 ^ n / 2 ^ b % 2 ^ b
raise b n w hi lo e =
    subst (λ (k : ℕ). lo < 2 ^ k → bit_or (hi * 2 ^ n % 2 ^ k) (lo / 2 ^ w) ≡ (lo + hi * 2 ^ k) * 2 ^ n / 2 ^ k % 2 ^ k) e (raise₀ n w hi lo)

-- a pair that is not moved
pub raise-none : (n hi lo : ℕ) → n ≡ 0 → hi < 2 ^ 64 → lo < 2 ^ 64 → hi ≡ word_of ((lo + hi * 2 ^ 64) * 2 ^ n) 1
raise-none n hi lo e h l =
    sym
    (ap (λ (y : ℕ). (lo + hi * 2 ^ 64) * 2 ^ y / 2 ^ 64 % 2 ^ 64) e
    ∙ ap (λ (y : ℕ). y / 2 ^ 64 % 2 ^ 64) (mul-one (lo + hi * 2 ^ 64))
    ∙ ap (λ (y : ℕ). y % 2 ^ 64) (ap (λ (y : ℕ). y / 2 ^ 64) (add_comm lo (hi * 2 ^ 64)) ∙ high hi 64 l)
    ∙ mod-eq_of_lt h)

-- up by s + n and down by s + t is up by n and down by t
up-down-past : (x s n t : ℕ) → x * 2 ^ (s + n) / 2 ^ (s + t) ≡ x * 2 ^ n / 2 ^ t
up-down-past x s n t =
    ap (λ (y : ℕ). y / 2 ^ (s + t)) (ap (λ (k : ℕ). x * 2 ^ k) (add_comm s n) ∙ ap (λ (y : ℕ). x * y) (pow-add 2 n s) ∙ sym (mul_assoc x (2 ^ n) (2 ^ s)))
    ∙ ap (λ (k : ℕ). x * 2 ^ n * 2 ^ s / 2 ^ k) (add_comm s t)
    ∙ up-down (x * 2 ^ n) s t

-- bits below what a number was moved up by are zero
up-low : (x e s b : ℕ) → x * 2 ^ (s + (e + b)) / 2 ^ s % 2 ^ b ≡ 0
up-low x e s b =
    ap (λ (y : ℕ). y % 2 ^ b)
    (ap (λ (k : ℕ). x * 2 ^ (s + (e + b)) / 2 ^ k) (sym (add-zero s)) ∙ up-down-past x s (e + b) 0 ∙ div-one (x * 2 ^ (e + b)))
    ∙ ap (λ (y : ℕ). y % 2 ^ b) (ap (λ (y : ℕ). x * y) (pow-add 2 e b) ∙ sym (mul_assoc x (2 ^ e) (2 ^ b)))
    ∙ mul-mod_left (x * 2 ^ e) (2 ^ b)

-- of the low u + b bits, moved down by v, the low b bits
field-low : (a u b v : ℕ) → a % 2 ^ ((u + b) + v) / 2 ^ v % 2 ^ b ≡ a / 2 ^ v % 2 ^ b
field-low a u b v = ap (λ (y : ℕ). y % 2 ^ b) (field a (u + b) v) ∙ mod-mod-pow (a / 2 ^ v) u b

mod-mul-mod : (x a m : ℕ) → x % m * a % m ≡ x * a % m
mod-mul-mod x a m =
    sym
    (ap (λ (y : ℕ). y * a % m) (sym (mod-add-div' x m))
    ∙ ap (λ (y : ℕ). y % m) (add-mul (x % m) (x / m * m) a)
    ∙ ap (λ (y : ℕ). (x % m * a + y) % m) (mul_assoc (x / m) m a ∙ ap (λ (y : ℕ). x / m * y) (mul_comm m a) ∙ sym (mul_assoc (x / m) a m))
    ∙ add-mul-mod_self_right (x % m * a) (x / m * a) m)

-- ---- a window moved up, word by word

-- a word below the words that a number was moved up by is zero
pub moved-below : (x d k : ℕ) → k < d / 64 → word_of (x * 2 ^ d) k ≡ 0
moved-below x d k l =
    let e : d ≡ 64 * k + ((d - 64 * k - 64) + 64) = omega arith in
    ap (λ (y : ℕ). x * 2 ^ y / 2 ^ (64 * k) % 2 ^ 64) e ∙ up-low x (d - 64 * k - 64) (64 * k) 64

-- the lowest word that has bits of the number is its own lowest word moved up
pub moved-first : (x d k lo n : ℕ) → k ≡ d / 64 → n ≡ d % 64 → lo ≡ word_of x 0 → word_of ((0 + lo * 2 ^ 64) * 2 ^ n) 1 ≡ word_of (x * 2 ^ d) k
moved-first x d k lo n ek en el =
    let e : d ≡ 64 * k + n = omega arith in
    let left : (0 + lo * 2 ^ 64) * 2 ^ n / 2 ^ 64 ≡ lo * 2 ^ n =
    ap (λ (y : ℕ). y * 2 ^ n / 2 ^ 64) (zero-add (lo * 2 ^ 64))
    ∙ ap (λ (y : ℕ). y / 2 ^ 64) (mul_assoc lo (2 ^ 64) (2 ^ n) ∙ ap (λ (y : ℕ). lo * y) (mul_comm (2 ^ 64) (2 ^ n)) ∙ sym (mul_assoc lo (2 ^ n) (2 ^ 64)))
    ∙ shl-shr (lo * 2 ^ n) 64 in
    let right : x * 2 ^ d / 2 ^ (64 * k) ≡ x * 2 ^ n =
    ap (λ (y : ℕ). x * 2 ^ y / 2 ^ (64 * k)) e ∙ ap (λ (y : ℕ). x * 2 ^ (64 * k + n) / 2 ^ y) (sym (add-zero (64 * k))) ∙ up-down-past x (64 * k) n 0 ∙ div-one (x * 2 ^ n) in
    ap (λ (y : ℕ). y % 2 ^ 64) left
    ∙ ap (λ (y : ℕ). y * 2 ^ n % 2 ^ 64) (el ∙ ap (λ (y : ℕ). y % 2 ^ 64) (div-one x))
    ∙ mod-mul-mod x (2 ^ n) (2 ^ 64)
    ∙ sym (ap (λ (y : ℕ). y % 2 ^ 64) right)

-- a word above that has bits of two neighbours
pub moved-pair : (x d k j lo hi n : ℕ) → k ≡ d / 64 + j + 1 → n ≡ d % 64 → lo ≡ word_of x j → hi ≡ word_of x (j + 1) → word_of ((lo + hi * 2 ^ 64) * 2 ^ n) 1 ≡ word_of (x * 2 ^ d) k
moved-pair x d k j lo hi n ek en el eh =
    let ev : (64 - n) + n ≡ 64 = omega arith in
    let left : (lo + hi * 2 ^ 64) * 2 ^ n / 2 ^ 64 ≡ (lo + hi * 2 ^ 64) / 2 ^ (64 - n) =
    subst (λ (y : ℕ). (lo + hi * 2 ^ 64) * 2 ^ n / 2 ^ y ≡ (lo + hi * 2 ^ 64) / 2 ^ (64 - n)) ev (up-down (lo + hi * 2 ^ 64) n (64 - n)) in
    let next : x / 2 ^ (64 * (j + 1)) ≡ x / 2 ^ (64 * j) / 2 ^ 64 =
    let e : 64 * (j + 1) ≡ 64 * j + 64 = omega arith in
    ap (λ (y : ℕ). x / 2 ^ y) e ∙ sym (shr-shr x (64 * j) 64) in
    let both : lo + hi * 2 ^ 64 ≡ x / 2 ^ (64 * j) % 2 ^ 128 =
    add_comm lo (hi * 2 ^ 64)
    ∙ ap (λ (y : ℕ). y * 2 ^ 64 + lo) (eh ∙ ap (λ (y : ℕ). y % 2 ^ 64) next)
    ∙ ap (λ (y : ℕ). x / 2 ^ (64 * j) / 2 ^ 64 % 2 ^ 64 * 2 ^ 64 + y) el
    ∙ sym (mod-pow-add (x / 2 ^ (64 * j)) 64 64) in
    let width : 128 ≡ (n + 64) + (64 - n) = omega arith in
    let part : (lo + hi * 2 ^ 64) / 2 ^ (64 - n) % 2 ^ 64 ≡ x / 2 ^ (64 * j) / 2 ^ (64 - n) % 2 ^ 64 =
    ap (λ (y : ℕ). y / 2 ^ (64 - n) % 2 ^ 64) (both ∙ ap (λ (y : ℕ). x / 2 ^ (64 * j) % 2 ^ y) width)
    ∙ field-low (x / 2 ^ (64 * j)) n 64 (64 - n) in
    let ed : d ≡ 64 * (d / 64) + n = omega arith in
    let ekk : 64 * k ≡ 64 * (d / 64) + ((64 * j + (64 - n)) + n) = omega arith in
    let right : x * 2 ^ d / 2 ^ (64 * k) ≡ x / 2 ^ (64 * j) / 2 ^ (64 - n) =
    ap (λ (y : ℕ). x * 2 ^ y / 2 ^ (64 * k)) ed
    ∙ ap (λ (y : ℕ). x * 2 ^ (64 * (d / 64) + n) / 2 ^ y) ekk
    ∙ up-down-past x (64 * (d / 64)) n ((64 * j + (64 - n)) + n)
    ∙ up-down x n (64 * j + (64 - n))
    ∙ sym (shr-shr x (64 * j) (64 - n)) in
    ap (λ (y : ℕ). y % 2 ^ 64) left ∙ part ∙ sym (ap (λ (y : ℕ). y % 2 ^ 64) right)

-- ---- bits

-- bit i of word k is bit 64 * k + i
pub bit_word : (x k i : ℕ) → i < 64 → word_of x k / 2 ^ i % 2 ≡ x / 2 ^ (64 * k + i) % 2
bit_word x k i l =
    let e : 64 ≡ ((63 - i) + 1) + i = omega arith in
    ap (λ (y : ℕ). x / 2 ^ (64 * k) % 2 ^ y / 2 ^ i % 2) e
    ∙ field-low (x / 2 ^ (64 * k)) (63 - i) 1 i
    ∙ ap (λ (y : ℕ). y % 2) (shr-shr x (64 * k) i)

-- a word with room for bit i
pub set-fits : (b i x : ℕ) → i < b → x < 2 ^ b → x / 2 ^ i % 2 ≡ 0 → x + 2 ^ i < 2 ^ b
set-fits b i x l h z =
    let eb : b ≡ suc (b - i - 1) + i = omega arith in
    let q : x / 2 ^ i < 2 ^ suc (b - i - 1) = shr_lt (suc (b - i - 1)) i (subst (λ (y : ℕ). x < 2 ^ y) eb h) in
    let q2 : x / 2 ^ i < 2 ^ (b - i - 1) * 2 = rw pow-suc at q in
    let r : x / 2 ^ i + 1 < 2 ^ (b - i - 1) * 2 = omega arith in
    let r2 : x / 2 ^ i + 1 < 2 ^ suc (b - i - 1) = rw pow-suc r in
    let d : (x / 2 ^ i + 1) * 2 ^ i + x % 2 ^ i < 2 ^ suc (b - i - 1) * 2 ^ i = digits_lt r2 (mod-lt x (pow_pos i)) in
    let d2 : (x / 2 ^ i + 1) * 2 ^ i + x % 2 ^ i < 2 ^ b = rw (ap (λ (y : ℕ). 2 ^ y) eb ∙ pow-add 2 (suc (b - i - 1)) i) d in
    let sp : x / 2 ^ i * 2 ^ i + x % 2 ^ i ≡ x = split x i in
    let f : (x / 2 ^ i + 1) * 2 ^ i ≡ x / 2 ^ i * 2 ^ i + 2 ^ i = add-mul (x / 2 ^ i) 1 (2 ^ i) ∙ ap (λ (y : ℕ). x / 2 ^ i * 2 ^ i + y) (one-mul (2 ^ i)) in
    omega arith

-- one more than an even number
even_up : (x d : ℕ) → 0 < d → x * 2 ^ d ≡ x * 2 ^ (d - 1) * 2 ^ 1
even_up x d l =
    let e : d ≡ (d - 1) + 1 = omega arith in
    ap (λ (y : ℕ). x * 2 ^ y) e ∙ ap (λ (y : ℕ). x * y) (pow-add 2 (d - 1) 1) ∙ sym (mul_assoc x (2 ^ (d - 1)) (2 ^ 1))

pub one-more-first : (x d : ℕ) → 0 < d → word_of (x * 2 ^ d + 1) 0 ≡ word_of (x * 2 ^ d) 0 + 1
one-more-first x d l =
    let e : x * 2 ^ d ≡ x * 2 ^ (d - 1) * 2 ^ 1 = even_up x d l in
    ap (λ (z : ℕ). z % 2 ^ 64) (div-one (x * 2 ^ d + 1))
    ∙ ap (λ (z : ℕ). (z + 1) % 2 ^ 64) e
    ∙ mod-up (x * 2 ^ (d - 1)) 1 63 1 (lit< tt)
    ∙ ap (λ (z : ℕ). z + 1)
    (sym
    (ap (λ (z : ℕ). z % 2 ^ 64) (div-one (x * 2 ^ d) ∙ e ∙ sym (add-zero (x * 2 ^ (d - 1) * 2 ^ 1)))
    ∙ mod-up (x * 2 ^ (d - 1)) 1 63 0 (lit< tt) ∙ add-zero (x * 2 ^ (d - 1) % 2 ^ 63 * 2 ^ 1)))

pub one-more-fits : (x d r : ℕ) → 0 < d → r ≡ word_of (x * 2 ^ d) 0 → r + 1 < 2 ^ 64
one-more-fits x d r l e =
    subst (λ (y : ℕ). y < 2 ^ 64) (one-more-first x d l ∙ ap (λ (y : ℕ). y + 1) (sym e)) (mod-lt ((x * 2 ^ d + 1) / 2 ^ (64 * 0)) (pow_pos 64))

pub one-more-rest : (x d k : ℕ) → 0 < d → 0 < k → word_of (x * 2 ^ d + 1) k ≡ word_of (x * 2 ^ d) k
one-more-rest x d k l m =
    let e : x * 2 ^ d ≡ x * 2 ^ (d - 1) * 2 ^ 1 = even_up x d l in
    let ek : 64 * k ≡ 1 + (64 * k - 1) = omega arith in
    ap (λ (z : ℕ). (x * 2 ^ d + 1) / 2 ^ z % 2 ^ 64) ek
    ∙ ap (λ (z : ℕ). z % 2 ^ 64)
    (sym (shr-shr (x * 2 ^ d + 1) 1 (64 * k - 1))
    ∙ ap (λ (z : ℕ). (z + 1) / 2 ^ 1 / 2 ^ (64 * k - 1)) e
    ∙ ap (λ (z : ℕ). z / 2 ^ (64 * k - 1)) (high (x * 2 ^ (d - 1)) 1 (lit< tt) ∙ sym (shl-shr (x * 2 ^ (d - 1)) 1))
    ∙ ap (λ (z : ℕ). z / 2 ^ 1 / 2 ^ (64 * k - 1)) (sym e)
    ∙ shr-shr (x * 2 ^ d) 1 (64 * k - 1))
    ∙ ap (λ (z : ℕ). x * 2 ^ d / 2 ^ z % 2 ^ 64) (sym ek)

-- a window moved up by 256 or more is empty but for the new mark
pub moved-far : (x d : ℕ) → window ≤ d → (x * 2 ^ d + 1) % 2 ^ window ≡ 1
moved-far x d l =
    let e : d ≡ (d - 256) + 256 = omega arith in
    ap (λ (y : ℕ). y % 2 ^ 256)
    (add_comm (x * 2 ^ d) 1
    ∙ ap (λ (y : ℕ). 1 + y) (ap (λ (y : ℕ). x * 2 ^ y) e ∙ ap (λ (y : ℕ). x * y) (pow-add 2 (d - 256) 256) ∙ sym (mul_assoc x (2 ^ (d - 256)) (2 ^ 256))))
    ∙ add-mul-mod_self_right 1 (x * 2 ^ (d - 256)) (2 ^ 256)

-- what `1 << i` is
pub one_up : (i : ℕ) → i < 64 → 1 * 2 ^ i % 2 ^ 64 ≡ 2 ^ i
one_up i l = ap (λ (y : ℕ). y % 2 ^ 64) (one-mul (2 ^ i)) ∙ mod-eq_of_lt (pow-lt l)
