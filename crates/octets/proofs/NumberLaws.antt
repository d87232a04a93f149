-- Laws of numbers made of bytes: two parts side by side, bounds, there and back.
-- Assumes nothing.
use Rattle.std.specs.Int.{byte_at, bytes_low_first, bytes_high_first, from_be_bytes, from_le_bytes}
use mir.Syntax.{w16, w32, w64}
use mathlib.Core.Path.{◌≡◌, refl, sym, ap, ap₂, ◌∙◌, subst}
use mathlib.Core.List.{List, [], ◌∷◌, ◌++◌}
use Prim.Native.Nat.{ℕ, zero, suc, ◌+◌, ◌*◌, ◌/◌, ◌%◌, ◌^◌, ◌<◌, ◌≤◌}
use native.Mathlib.Nat.{add-zero, zero-add, add-suc, suc-add, add_comm, pow-zero, pow-suc, pow-succ', mod-lt, mod-eq_of_lt, div-add-mod', mod-one, div-one, div-div-eq-div-mul, mul-add-div_right, mul-add-mod_self_right, one-le-pow, lt-suc_self, le_of_eq}
use native.Mathlib.Omega.{arith}
use lib.Bits.{bit_or, or_shifted_r}
use lib.Arith.{digits_lt, digits_div, digits_mod, mod-mul}
use lib.Dec.{lit<}
use lib.ListN.{length, get_or, take, drop, replicate, drop_of_length-le, get_or-append}
use lib.Pow.{pow-add, shl_exact}
use lib.Seq.{get_or-take, get_or-drop, drop-drop}
use Rattle.buffers.specs.Buffers.{Octets, put}
use Rattle.octets.specs.Numbers.{be, le, to_be, to_le}
use Rattle.buffers.proofs.BufferLaws.{octets-nil, octets-cons, octets-tail, octets-drop, put-put, get_or-padded}

pub 256-pos : (n : ℕ) → 0 < 256 ^ n
256-pos n = one-le-pow n 256 (lit< tt)

-- ---- two parts, one behind the other

pub be-add : (n m : ℕ) (s : List ℕ) → be (n + m) s ≡ be n s * 256 ^ m + be m (drop n s)
unfolding be
be-add n zero s = omega (arith, ap (λ (k : ℕ). be k s) (add-zero n), pow-zero 256)
be-add n (suc m) s =
    ap (λ (k : ℕ). be k s) (add-suc n m)
    ∙ ap₂ (λ (x y : ℕ). x * 256 + y) (be-add n m s) (sym (get_or-drop n s m 0))
    ∙ rw pow-suc (omega arith)

pub le-add : (n m : ℕ) (s : List ℕ) → le (n + m) s ≡ le n s + le m (drop n s) * 256 ^ n
unfolding le
le-add n zero s = rw add-zero (omega arith)
le-add n (suc m) s =
    ap (λ (k : ℕ). le k s) (add-suc n m)
    ∙ ap₂ (λ (x y : ℕ). x + y * 256 ^ (n + m)) (le-add n m s) (sym (get_or-drop n s m 0))
    ∙ rw pow-add (omega arith)

pub to_be-add : (n m x : ℕ) → to_be (n + m) x ≡ to_be n (x / 256 ^ m) ++ to_be m x
unfolding to_be
to_be-add zero m x = ap (λ (k : ℕ). to_be k x) (zero-add m)
to_be-add (suc n) m x =
    ap (λ (k : ℕ). to_be k x) (suc-add n m)
    ∙ ap₂ (λ (b : ℕ) (t : List ℕ). b % 256 ∷ t)
    (ap (λ (p : ℕ). x / p) (ap (λ (k : ℕ). 256 ^ k) (add_comm n m) ∙ pow-add 256 m n) ∙ sym (div-div-eq-div-mul x (256 ^ m) (256 ^ n)))
    (to_be-add n m x)

pub to_le-add : (n m x : ℕ) → to_le (n + m) x ≡ to_le n x ++ to_le m (x / 256 ^ n)
unfolding to_le
to_le-add zero m x = ap (λ (k : ℕ). to_le k x) (zero-add m) ∙ ap (to_le m) (sym (div-one x))
to_le-add (suc n) m x =
    ap (λ (k : ℕ). to_le k x) (suc-add n m)
    ∙ ap (λ (t : List ℕ). x % 256 ∷ t)
    (to_le-add n m (x / 256)
    ∙ ap (λ (y : ℕ). to_le n (x / 256) ++ to_le m y) (div-div-eq-div-mul x 256 (256 ^ n) ∙ ap (λ (p : ℕ). x / p) (sym (pow-succ' 256 n))))

-- no byte, one byte, one byte in front

pub be-nil : (n : ℕ) → be n [] ≡ 0
unfolding be
be-nil zero = refl
be-nil (suc n) = ap (λ (x : ℕ). x * 256 + 0) (be-nil n)

pub le-nil : (n : ℕ) → le n [] ≡ 0
unfolding le
le-nil zero = refl
le-nil (suc n) = omega (arith, le-nil n)

pub be-one : (s : List ℕ) (at : ℕ) → be 1 (drop at s) ≡ get_or s at 0
unfolding be
be-one s at = simp (get_or-drop, add-zero) (omega arith)

pub le-one : (s : List ℕ) (at : ℕ) → le 1 (drop at s) ≡ get_or s at 0
unfolding le
le-one s at = simp (get_or-drop, add-zero) (omega (arith, pow-zero 256))

pub be-cons : (n a : ℕ) (s : List ℕ) → be (suc n) (a ∷ s) ≡ a * 256 ^ n + be n s
unfolding be
be-cons zero a s = omega (arith, pow-zero 256)
be-cons (suc n) a s =
    ap (λ (x : ℕ). x * 256 + get_or s n 0) (be-cons n a s) ∙ rw pow-suc (omega arith)

pub le-cons : (n a : ℕ) (s : List ℕ) → le (suc n) (a ∷ s) ≡ a + le n s * 256
unfolding le
le-cons zero a s = omega (arith, pow-zero 256)
le-cons (suc n) a s =
    ap (λ (x : ℕ). x + get_or s n 0 * 256 ^ suc n) (le-cons n a s) ∙ rw pow-suc (omega arith)

-- ---- bounds, and the bytes that count

pub be-lt : (n : ℕ) {s : List ℕ} → Octets s → be n s < 256 ^ n
unfolding be
be-lt zero p = lit< tt
be-lt (suc n) p = rw pow-suc (digits_lt (be-lt n p) (p.octet n))

pub le-lt : (n : ℕ) {s : List ℕ} → Octets s → le n s < 256 ^ n
unfolding le
le-lt zero p = lit< tt
le-lt (suc n) {s} p = rw (pow-succ', add_comm) (digits_lt (p.octet n) (le-lt n p))

pub be-same : (n : ℕ) (s t : List ℕ) → ((i : ℕ) → i < n → get_or s i 0 ≡ get_or t i 0) → be n s ≡ be n t
unfolding be
be-same zero s t e = refl
be-same (suc n) s t e = ap₂ (λ (x y : ℕ). x * 256 + y) (be-same n s t (λ i h. e i (omega arith))) (e n (lt-suc_self n))

pub le_same : (n : ℕ) (s t : List ℕ) → ((i : ℕ) → i < n → get_or s i 0 ≡ get_or t i 0) → le n s ≡ le n t
unfolding le
le_same zero s t e = refl
le_same (suc n) s t e = ap₂ (λ (x y : ℕ). x + y * 256 ^ n) (le_same n s t (λ i h. e i (omega arith))) (e n (lt-suc_self n))

pub be-take : (n : ℕ) (s : List ℕ) → be n (take n s) ≡ be n s
be-take n s = be-same n (take n s) s (λ i h. get_or-take n s i 0 h)

pub le-take : (n : ℕ) (s : List ℕ) → le n (take n s) ≡ le n s
le-take n s = le_same n (take n s) s (λ i h. get_or-take n s i 0 h)

pub be-append : (n : ℕ) (s t : List ℕ) → n ≤ length s → be n (s ++ t) ≡ be n s
be-append n s t h = be-same n (s ++ t) s (λ i l. get_or-append s t 0 i (omega arith))

-- past the end; with zeros behind
pub be-past : (n : ℕ) (s : List ℕ) {at : ℕ} → length s ≤ at → 0 ≡ be n (drop at s)
be-past n s h = sym (ap (be n) (drop_of_length-le s h) ∙ be-nil n)

pub le-past : (n : ℕ) (s : List ℕ) {at : ℕ} → length s ≤ at → 0 ≡ le n (drop at s)
le-past n s h = sym (ap (le n) (drop_of_length-le s h) ∙ le-nil n)

pub be-padded : (n m : ℕ) (s : List ℕ) → be n (put (replicate m 0) 0 s) ≡ be n s
be-padded n m s = be-same n (put (replicate m 0) 0 s) s (λ i h. get_or-padded m s i)

pub le-padded : (n m : ℕ) (s : List ℕ) → le n (put (replicate m 0) 0 s) ≡ le n s
le-padded n m s = le_same n (put (replicate m 0) 0 s) s (λ i h. get_or-padded m s i)

-- ---- the bytes of a number

pub length-to_be : (n x : ℕ) → length (to_be n x) ≡ n
unfolding to_be
length-to_be zero x = refl
length-to_be (suc n) x = ap suc (length-to_be n x)

pub length-to_le : (n x : ℕ) → length (to_le n x) ≡ n
unfolding to_le
length-to_le zero x = refl
length-to_le (suc n) x = ap suc (length-to_le n (x / 256))

pub to_be-one : (x : ℕ) → x < 256 → to_be 1 x ≡ x ∷ []
unfolding to_be
to_be-one x h = ap (λ (a : ℕ). a ∷ []) (ap (λ (y : ℕ). y % 256) (div-one x) ∙ mod-eq_of_lt h)

pub to_le-one : (x : ℕ) → x < 256 → to_le 1 x ≡ x ∷ []
unfolding to_le
to_le-one x h = ap (λ (a : ℕ). a ∷ []) (mod-eq_of_lt h)

pub octets-to_be : (n x : ℕ) → Octets (to_be n x)
unfolding to_be
octets-to_be zero x = octets-nil
octets-to_be (suc n) x = octets-cons (mod-lt (x / 256 ^ n) (lit< tt)) (octets-to_be n x)

pub octets-to_le : (n x : ℕ) → Octets (to_le n x)
unfolding to_le
octets-to_le zero x = octets-nil
octets-to_le (suc n) x = octets-cons (mod-lt x (lit< tt)) (octets-to_le n (x / 256))

-- ---- there and back

pub be-to_be : (n x : ℕ) → be n (to_be n x) ≡ x % 256 ^ n
unfolding be to_be
be-to_be zero x = sym (mod-one x)
be-to_be (suc n) x =
    be-cons n (x / 256 ^ n % 256) (to_be n x)
    ∙ ap (λ (r : ℕ). x / 256 ^ n % 256 * 256 ^ n + r) (be-to_be n x)
    ∙ sym (ap (λ (p : ℕ). x % p) (pow-succ' 256 n) ∙ mod-mul x (lit< tt) (256-pos n))

-- other bytes behind them do not show
pub be-to_be-append : (n x : ℕ) (t : List ℕ) → be n (to_be n x ++ t) ≡ x % 256 ^ n
be-to_be-append n x t = be-append n (to_be n x) t (le_of_eq (sym (length-to_be n x))) ∙ be-to_be n x

pub be-front : (n x : ℕ) (t : List ℕ) → x < 256 ^ n → be n (to_be n x ++ t) ≡ x
be-front n x t h = be-to_be-append n x t ∙ mod-eq_of_lt h

pub le-to_le : (n x : ℕ) → le n (to_le n x) ≡ x % 256 ^ n
unfolding le to_le
le-to_le zero x = sym (mod-one x)
le-to_le (suc n) x =
    le-cons n (x % 256) (to_le n (x / 256))
    ∙ ap (λ (r : ℕ). x % 256 + r * 256) (le-to_le n (x / 256))
    ∙ add_comm (x % 256) (x / 256 % 256 ^ n * 256)
    ∙ sym (ap (λ (p : ℕ). x % p) (pow-suc 256 n) ∙ mod-mul x (256-pos n) (lit< tt))

-- what lies above n bytes does not show in them
pub to_le-high : (n a x : ℕ) → to_le n (a * 256 ^ n + x) ≡ to_le n x
unfolding to_le
to_le-high zero a x = refl
to_le-high (suc n) a x =
    let e : a * 256 ^ suc n + x ≡ a * 256 ^ n * 256 + x = rw pow-suc (omega arith) in
    ap (λ (y : ℕ). y % 256 ∷ to_le n (y / 256)) e
    ∙ ap₂ (λ (b : ℕ) (t : List ℕ). b ∷ t) (mul-add-mod_self_right (a * 256 ^ n) 256 x)
    (ap (to_le n) (mul-add-div_right (lit< tt) (a * 256 ^ n) x) ∙ to_le-high n a (x / 256))

pub to_be-high : (n a x : ℕ) → to_be n (a * 256 ^ n + x) ≡ to_be n x
unfolding to_be
to_be-high zero a x = refl
to_be-high (suc n) a x =
    let e : a * 256 ^ suc n + x ≡ a * 256 * 256 ^ n + x = rw pow-succ' (omega arith) in
    ap (λ (y : ℕ). y / 256 ^ n % 256 ∷ to_be n y) e
    ∙ ap₂ (λ (b : ℕ) (t : List ℕ). b ∷ t)
    (ap (λ (y : ℕ). y % 256) (mul-add-div_right (256-pos n) (a * 256) x) ∙ mul-add-mod_self_right a 256 (x / 256 ^ n))
    (to_be-high n (a * 256) x)

pub to_be-mod : (n x : ℕ) → to_be n (x % 256 ^ n) ≡ to_be n x
to_be-mod n x = sym (to_be-high n (x / 256 ^ n) (x % 256 ^ n)) ∙ ap (to_be n) (div-add-mod' x (256 ^ n))

pub to_le-mod : (n x : ℕ) → to_le n (x % 256 ^ n) ≡ to_le n x
to_le-mod n x = sym (to_le-high n (x / 256 ^ n) (x % 256 ^ n)) ∙ ap (to_le n) (div-add-mod' x (256 ^ n))

back-be : (s : List ℕ) → Octets s → to_be (length s) (be (length s) s) ≡ s
unfolding to_be be
back-be [] p = refl
back-be (a ∷ s) p =
    ap (to_be (suc (length s))) (be-cons (length s) a s)
    ∙ ap₂ (λ (b : ℕ) (t : List ℕ). b ∷ t)
    (ap (λ (y : ℕ). y % 256) (digits_div a (be-lt (length s) (octets-tail p))) ∙ mod-eq_of_lt (p.octet 0))
    (to_be-high (length s) a (be (length s) s) ∙ back-be s (octets-tail p))

pub to_be-be : {n : ℕ} {s : List ℕ} → Octets s → length s ≡ n → to_be n (be n s) ≡ s
to_be-be {n} {s} p e = subst (λ (k : ℕ). to_be k (be k s) ≡ s) e (back-be s p)

back-le : (s : List ℕ) → Octets s → to_le (length s) (le (length s) s) ≡ s
unfolding to_le le
back-le [] p = refl
back-le (a ∷ s) p =
    ap (to_le (suc (length s))) (le-cons (length s) a s ∙ add_comm a (le (length s) s * 256))
    ∙ ap₂ (λ (b : ℕ) (t : List ℕ). b ∷ t) (digits_mod (le (length s) s) (p.octet 0))
    (ap (to_le (length s)) (digits_div (le (length s) s) (p.octet 0)) ∙ back-le s (octets-tail p))

pub to_le-le : {n : ℕ} {s : List ℕ} → Octets s → length s ≡ n → to_le n (le n s) ≡ s
to_le-le {n} {s} p e = subst (λ (k : ℕ). to_le k (le k s) ≡ s) e (back-le s p)

-- ---- a number joined from two by a shift, at a width of w bytes

256-two : (n : ℕ) → 256 ^ n ≡ 2 ^ (8 * n)
256-two zero = refl
256-two (suc n) = rw (pow-suc, 256-two n, ← pow-add 2 (8 * n) 8) (ap (λ (k : ℕ). 2 ^ k) (omega arith))

shift-or : (n m w : ℕ) {high low : ℕ} → n + m ≤ w → high < 256 ^ n → low < 256 ^ m
    → bit_or low (high * 256 ^ m % 256 ^ w) ≡ high * 256 ^ m + low
shift-or n m w {high} {low} f h l =
    rw (256-two m, 256-two w)
    (ap (bit_or low) (shl_exact (8 * n) (8 * m) (8 * w) (rw 256-two at h) (omega arith))
    ∙ or_shifted_r high (8 * m) low (rw 256-two at l))

-- the n bytes of s from a place on, and the m behind them
module _ (n m w : ℕ) (f : n + m ≤ w) (s : List ℕ) (p : Octets s) (at : ℕ) {x y : ℕ} where
  pub be-join : x ≡ be n (drop at s) → y ≡ be m (drop (at + n) s) → bit_or y (x * 256 ^ m % 256 ^ w) ≡ be (n + m) (drop at s)
  be-join ex ey =
      ap₂ (λ (a b : ℕ). bit_or b (a * 256 ^ m % 256 ^ w)) ex (ey ∙ ap (be m) (sym (drop-drop n at s)))
      ∙ shift-or n m w f (be-lt n (octets-drop at p)) (be-lt m (octets-drop n (octets-drop at p)))
      ∙ sym (be-add n m (drop at s))

  pub le_join : x ≡ le n (drop at s) → y ≡ le m (drop (at + n) s) → bit_or x (y * 256 ^ n % 256 ^ w) ≡ le (n + m) (drop at s)
  le_join ex ey =
      ap₂ (λ (a b : ℕ). bit_or a (b * 256 ^ n % 256 ^ w)) ex (ey ∙ ap (le m) (sym (drop-drop n at s)))
      ∙ shift-or m n w (omega arith) (le-lt m (octets-drop n (octets-drop at p))) (le-lt n (octets-drop at p))
      ∙ add_comm (le m (drop n (drop at s)) * 256 ^ n) (le n (drop at s))
      ∙ sym (le-add n m (drop at s))

-- ---- a number written in two parts, n bytes and the m behind them

module _ (n m : ℕ) (d : List ℕ) (at x : ℕ) (f : at + n ≤ length d) {v w : List ℕ} where
  parts : (s t : List ℕ) → length s ≡ n → v ≡ put d at s → w ≡ put v (at + n) t → w ≡ put d at (s ++ t)
  parts s t e p q =
      q ∙ ap₂ (λ (o : List ℕ) (k : ℕ). put o (at + k) t) p (sym e)
      ∙ put-put d at s (subst (λ (k : ℕ). at + k ≤ length d) (sym e) f) t

  pub put-be : v ≡ put d at (to_be n (x / 256 ^ m)) → w ≡ put v (at + n) (to_be m (x % 256 ^ m)) → w ≡ put d at (to_be (n + m) x)
  put-be p q =
      parts (to_be n (x / 256 ^ m)) (to_be m (x % 256 ^ m)) (length-to_be n (x / 256 ^ m)) p q
      ∙ ap (λ (t : List ℕ). put d at (to_be n (x / 256 ^ m) ++ t)) (to_be-mod m x)
      ∙ ap (put d at) (sym (to_be-add n m x))

  pub put-le : v ≡ put d at (to_le n (x % 256 ^ n)) → w ≡ put v (at + n) (to_le m (x / 256 ^ n)) → w ≡ put d at (to_le (n + m) x)
  put-le p q =
      parts (to_le n (x % 256 ^ n)) (to_le m (x / 256 ^ n)) (length-to_le n (x % 256 ^ n)) p q
      ∙ ap (λ (s : List ℕ). put d at (s ++ to_le m (x / 256 ^ n))) (to_le-mod n x)
      ∙ ap (put d at) (sym (to_le-add n m x))

-- ---- std's conversions

-- what N bytes say that were read from a place on
pub be_at : (n at : ℕ) (s b : List ℕ) → ((k : ℕ) → k < n → get_or b k 0 ≡ get_or s (at + k) 0) → be n b ≡ be n (drop at s)
be_at n at s b e = be-same n b (drop at s) (λ k h. e k h ∙ sym (get_or-drop at s k 0))

pub le_at : (n at : ℕ) (s b : List ℕ) → ((k : ℕ) → k < n → get_or b k 0 ≡ get_or s (at + k) 0) → le n b ≡ le n (drop at s)
le_at n at s b e = le_same n b (drop at s) (λ k h. e k h ∙ sym (get_or-drop at s k 0))

pub from_be_16 : (b : List ℕ) → from_be_bytes w16 b ≡ be 2 b
unfolding be
from_be_16 b = omega arith

pub from_be_32 : (b : List ℕ) → from_be_bytes w32 b ≡ be 4 b
unfolding be
from_be_32 b = omega arith

pub from_be_64 : (b : List ℕ) → from_be_bytes w64 b ≡ be 8 b
unfolding be
from_be_64 b = omega arith

pub from_le_32 : (b : List ℕ) → from_le_bytes w32 b ≡ le 4 b
unfolding le
from_le_32 b = omega arith

byte-is : (i n : ℕ) → byte_at i n ≡ n / 256 ^ i % 256
byte-is zero n = ap (λ (y : ℕ). y % 256) (sym (div-one n))
byte-is (suc i) n = refl

pub high-first : (k n : ℕ) → bytes_high_first k n ≡ to_be k n
unfolding to_be
high-first zero n = refl
high-first (suc k) n = ap₂ (λ (b : ℕ) (t : List ℕ). b ∷ t) (byte-is k n) (high-first k n)

low-from : (i k n : ℕ) → bytes_low_first i k n ≡ to_le k (n / 256 ^ i)
unfolding to_le
low-from i zero n = refl
low-from i (suc k) n =
    ap₂ (λ (b : ℕ) (t : List ℕ). b ∷ t) (byte-is i n)
    (low-from (suc i) k n ∙ ap (to_le k) (ap (λ (p : ℕ). n / p) (pow-suc 256 i) ∙ sym (div-div-eq-div-mul n (256 ^ i) 256)))

pub low-first : (k n : ℕ) → bytes_low_first 0 k n ≡ to_le k n
low-first k n = low-from 0 k n ∙ ap (to_le k) (div-one n)
