-- The bits of a number of marks: moved up, cut to a width, and one more set. Assumes nothing.
use mathlib.Core.Path.{◌≡◌, refl, sym, ap, ap₂, ◌∙◌, subst}
use mathlib.Core.Logic.{◌≢◌}
use mathlib.Core.Bool.{true, false}
use Prim.Native.Nat.{ℕ, zero, suc, ◌+◌, ◌*◌, ◌/◌, ◌%◌, ◌^◌, ◌<◌}
use native.Mathlib.Nat.{div-one, pow-suc, zero-lt-suc, mul-one, zero-add, suc-add, add-zero, le_of_suc-le-suc}
use native.Mathlib.Numerals.{one-add}
use native.Mathlib.Omega.{arith}
use lib.Arith.{mod-mul}
use lib.Pow.{shr-shr, pow_pos}
use lib.Bits.{block_half, block_odd, shifted_half, shifted_even}
use lib.Dec.{eqb}
use Rattle.session_window.specs.Window.{bit}
use borrow.Author.Tests.{eqb-false, eq-eqb}

pub bit-zero : (m : ℕ) → bit m 0 ≡ eqb (m % 2) 1
bit-zero m = ap (λ (x : ℕ). eqb (x % 2) 1) (div-one m)

pub bit-suc : (m d : ℕ) → bit m (suc d) ≡ bit (m / 2) d
bit-suc m d = ap (λ (x : ℕ). eqb (x % 2) 1) (ap (λ (k : ℕ). m / 2 ^ k) (sym (one-add d)) ∙ sym (shr-shr m 1 d))

-- ---- moved up

shift-low : (k d m : ℕ) → d < k → bit (m * 2 ^ k) d ≡ false
shift-low zero d m h = absurd (omega arith)
shift-low (suc k) zero m h = bit-zero (m * 2 ^ suc k) ∙ ap (λ (x : ℕ). eqb x 1) (shifted_even m k)
shift-low (suc k) (suc d) m h = bit-suc (m * 2 ^ suc k) d ∙ ap (λ (x : ℕ). bit x d) (shifted_half m k) ∙ shift-low k d m (le_of_suc-le-suc h)

shift-high : (k d m : ℕ) → bit (m * 2 ^ k) (k + d) ≡ bit m d
shift-high zero d m = ap₂ bit (mul-one m) (zero-add d)
shift-high (suc k) d m =
    ap (bit (m * 2 ^ suc k)) (suc-add k d) ∙ bit-suc (m * 2 ^ suc k) (k + d) ∙ ap (λ (x : ℕ). bit x (k + d)) (shifted_half m k) ∙ shift-high k d m

-- moved up by k + 1, and the lowest bit set
half-moved : (m k : ℕ) → (m * 2 ^ suc k + 1) / 2 ≡ m * 2 ^ k
half-moved m k = block_half m k 1 ∙ add-zero (m * 2 ^ k)

pub moved-zero : (m k : ℕ) → bit (m * 2 ^ suc k + 1) 0 ≡ true
moved-zero m k = bit-zero (m * 2 ^ suc k + 1) ∙ ap (λ (x : ℕ). eqb x 1) (block_odd m k 1)

pub moved-low : (m k d : ℕ) → d < k → bit (m * 2 ^ suc k + 1) (suc d) ≡ false
moved-low m k d h = bit-suc (m * 2 ^ suc k + 1) d ∙ ap (λ (x : ℕ). bit x d) (half-moved m k) ∙ shift-low k d m h

pub moved-high : (m k d : ℕ) → bit (m * 2 ^ suc k + 1) (suc k + d) ≡ bit m d
moved-high m k d =
    ap (bit (m * 2 ^ suc k + 1)) (suc-add k d) ∙ bit-suc (m * 2 ^ suc k + 1) (k + d) ∙ ap (λ (x : ℕ). bit x (k + d)) (half-moved m k) ∙ shift-high k d m

-- ---- cut to n bits

cut : (x n : ℕ) → x % 2 ^ suc n ≡ (x / 2 % 2 ^ n) * 2 + x % 2
cut x n = ap (λ (w : ℕ). x % w) (pow-suc 2 n) ∙ mod-mul x (pow_pos n) (zero-lt-suc 1)

pub bit_cut : (n d x : ℕ) → d < n → bit (x % 2 ^ n) d ≡ bit x d
bit_cut zero d x h = absurd (omega arith)
bit_cut (suc n) zero x h =
    ap (λ (y : ℕ). bit y 0) (cut x n) ∙ bit-zero ((x / 2 % 2 ^ n) * 2 + x % 2)
    ∙ ap (λ (y : ℕ). eqb y 1) (let e : ((x / 2 % 2 ^ n) * 2 + x % 2) % 2 ≡ x % 2 = omega arith in e) ∙ sym (bit-zero x)
bit_cut (suc n) (suc d) x h =
    ap (λ (y : ℕ). bit y (suc d)) (cut x n) ∙ bit-suc ((x / 2 % 2 ^ n) * 2 + x % 2) d
    ∙ ap (λ (y : ℕ). bit y d) (let e : ((x / 2 % 2 ^ n) * 2 + x % 2) / 2 ≡ x / 2 % 2 ^ n = omega arith in e)
    ∙ bit_cut n d (x / 2) (le_of_suc-le-suc h) ∙ sym (bit-suc x d)

-- ---- one more bit set

even : (m : ℕ) → bit m 0 ≡ false → m % 2 ≡ 0
even m e = let n : m % 2 ≢ 1 = eqb-false (m % 2) 1 (sym (bit-zero m) ∙ e) in omega arith

half-set : (m e : ℕ) → (m + 2 ^ suc e) / 2 ≡ m / 2 + 2 ^ e
half-set m e = ap (λ (w : ℕ). (m + w) / 2) (pow-suc 2 e) ∙ (let f : (m + 2 ^ e * 2) / 2 ≡ m / 2 + 2 ^ e = omega arith in f)

low-set : (m e : ℕ) → (m + 2 ^ suc e) % 2 ≡ m % 2
low-set m e = ap (λ (w : ℕ). (m + w) % 2) (pow-suc 2 e) ∙ (let f : (m + 2 ^ e * 2) % 2 ≡ m % 2 = omega arith in f)

pub set_same : (e m : ℕ) → bit m e ≡ false → bit (m + 2 ^ e) e ≡ true
set_same zero m f = bit-zero (m + 1) ∙ eq-eqb ((m + 1) % 2) 1 (omega (arith, even m f))
set_same (suc e) m f =
    bit-suc (m + 2 ^ suc e) e ∙ ap (λ (x : ℕ). bit x e) (half-set m e) ∙ set_same e (m / 2) (sym (bit-suc m e) ∙ f)

pub set_other : (e d m : ℕ) → bit m e ≡ false → d ≢ e → bit (m + 2 ^ e) d ≡ bit m d
set_other zero zero m f n = absurd (n refl)
set_other zero (suc d) m f n =
    bit-suc (m + 1) d ∙ ap (λ (x : ℕ). bit x d) (let g : (m + 1) / 2 ≡ m / 2 = omega (arith, even m f) in g) ∙ sym (bit-suc m d)
set_other (suc e) zero m f n =
    bit-zero (m + 2 ^ suc e) ∙ ap (λ (x : ℕ). eqb x 1) (low-set m e) ∙ sym (bit-zero m)
set_other (suc e) (suc d) m f n =
    bit-suc (m + 2 ^ suc e) d ∙ ap (λ (x : ℕ). bit x d) (half-set m e)
    ∙ set_other e d (m / 2) (sym (bit-suc m e) ∙ f) (λ h. n (ap suc h)) ∙ sym (bit-suc m d)

pub set-fits : (e n m : ℕ) → bit m e ≡ false → e < n → m < 2 ^ n → m + 2 ^ e < 2 ^ n
set-fits e zero m f h l = absurd (omega arith)
set-fits zero (suc n) m f h l =
    subst (λ (w : ℕ). m + 1 < w) (sym (pow-suc 2 n)) (omega (arith, even m f, subst (λ (w : ℕ). m < w) (pow-suc 2 n) l))
set-fits (suc e) (suc n) m f h l =
    let l' : m < 2 ^ n * 2 = subst (λ (w : ℕ). m < w) (pow-suc 2 n) l in
    let ih : m / 2 + 2 ^ e < 2 ^ n = set-fits e n (m / 2) (sym (bit-suc m e) ∙ f) (le_of_suc-le-suc h) (omega arith) in
    subst (λ (w : ℕ). m + 2 ^ suc e < w) (sym (pow-suc 2 n)) (subst (λ (w : ℕ). m + w < 2 ^ n * 2) (sym (pow-suc 2 e)) (omega arith))
