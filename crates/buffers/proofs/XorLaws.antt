-- Laws of exclusive or on numbers that lib.Bits lacks: one digit, associativity, cancelling.
-- Assumes nothing.
use mathlib.Core.Path.{◌≡◌, refl, sym, ap, ap₂, ◌∙◌}
use Prim.Native.Nat.{ℕ, zero, suc, ◌+◌, ◌*◌, ◌/◌, ◌%◌, ◌≤◌, ◌<◌}
use native.Mathlib.Nat.{mod-lt, zero-mul, one-mul}
use native.Mathlib.Omega.{arith}
use lib.Arith.{bin_ind, digits_mod}
use lib.Bits.{bit_xor, differ, xor_step, xor_shr, xor_comm, xor_self, xor_zero_l, xor_zero_r}
use lib.Dec.{lit<}

-- ---- one digit

differ-lt : (a b : ℕ) → a < 2 → b < 2 → differ a b < 2
differ-lt zero b ha hb = hb
differ-lt (suc zero) zero ha hb = ha
differ-lt (suc zero) (suc zero) ha hb = lit< tt
differ-lt (suc zero) (suc (suc b)) ha hb = absurd (omega arith)
differ-lt (suc (suc a)) b ha hb = absurd (omega arith)

differ-assoc : (a b c : ℕ) → a < 2 → b < 2 → c < 2 → differ (differ a b) c ≡ differ a (differ b c)
differ-assoc zero b c ha hb hc = refl
differ-assoc (suc zero) zero c ha hb hc = refl
differ-assoc (suc zero) (suc zero) zero ha hb hc = refl
differ-assoc (suc zero) (suc zero) (suc zero) ha hb hc = refl
differ-assoc (suc zero) (suc zero) (suc (suc c)) ha hb hc = absurd (omega arith)
differ-assoc (suc zero) (suc (suc b)) c ha hb hc = absurd (omega arith)
differ-assoc (suc (suc a)) b c ha hb hc = absurd (omega arith)

pub digit_lt : (a : ℕ) → a % 2 < 2
digit_lt a = mod-lt a (lit< tt)

pub xor-parity : (a b : ℕ) → bit_xor a b % 2 ≡ differ (a % 2) (b % 2)
xor-parity a b =
    ap (λ (n : ℕ). n % 2) (xor_step a b)
    ∙ digits_mod (bit_xor (a / 2) (b / 2)) (differ-lt (a % 2) (b % 2) (digit_lt a) (digit_lt b))

pub digit-mul-le : (b v : ℕ) → b < 2 → b * v ≤ v
digit-mul-le zero v h = omega (arith, zero-mul v)
digit-mul-le (suc zero) v h = omega (arith, one-mul v)
digit-mul-le (suc (suc b)) v h = absurd (omega arith)

-- a digit times v, for a digit that is the exclusive or of two
pub differ-mul : (a b v : ℕ) → a < 2 → b < 2 → differ a b * v ≡ bit_xor (a * v) (b * v)
differ-mul zero b v ha hb = sym (ap (λ (x : ℕ). bit_xor x (b * v)) (zero-mul v))
differ-mul (suc zero) zero v ha hb = sym (ap (bit_xor (1 * v)) (zero-mul v) ∙ xor_zero_r (1 * v))
differ-mul (suc zero) (suc zero) v ha hb = zero-mul v ∙ sym (xor_self (1 * v))
differ-mul (suc zero) (suc (suc b)) v ha hb = absurd (omega arith)
differ-mul (suc (suc a)) b v ha hb = absurd (omega arith)

-- a digit times an exclusive or
pub mul-xor : (a v w : ℕ) → a < 2 → a * bit_xor v w ≡ bit_xor (a * v) (a * w)
mul-xor zero v w ha = zero-mul (bit_xor v w) ∙ sym (ap₂ bit_xor (zero-mul v) (zero-mul w))
mul-xor (suc zero) v w ha = one-mul (bit_xor v w) ∙ sym (ap₂ bit_xor (one-mul v) (one-mul w))
mul-xor (suc (suc a)) v w ha = absurd (omega arith)

-- ---- all digits

pub xor_assoc : (a b c : ℕ) → bit_xor (bit_xor a b) c ≡ bit_xor a (bit_xor b c)
xor_assoc =
    bin_ind (λ (n : ℕ). (b c : ℕ) → bit_xor (bit_xor n b) c ≡ bit_xor n (bit_xor b c)) (λ b c. refl)
    (λ n ih b c.
    xor_step (bit_xor n b) c
    ∙ ap₂ (λ (x y : ℕ). bit_xor x (c / 2) * 2 + differ y (c % 2)) (xor_shr n b 1) (xor-parity n b)
    ∙ ap₂ (λ (x y : ℕ). x * 2 + y) (ih (b / 2) (c / 2)) (differ-assoc (n % 2) (b % 2) (c % 2) (digit_lt n) (digit_lt b) (digit_lt c))
    ∙ ap₂ (λ (x y : ℕ). bit_xor (n / 2) x * 2 + differ (n % 2) y) (sym (xor_shr b c 1)) (sym (xor-parity b c))
    ∙ sym (xor_step n (bit_xor b c)))

-- (a ⊕ b) ⊕ (c ⊕ d) = (a ⊕ c) ⊕ (b ⊕ d)
pub xor-medial : (a b c d : ℕ) → bit_xor (bit_xor a b) (bit_xor c d) ≡ bit_xor (bit_xor a c) (bit_xor b d)
xor-medial a b c d =
    xor_assoc a b (bit_xor c d)
    ∙ ap (bit_xor a) (sym (xor_assoc b c d) ∙ ap (λ (x : ℕ). bit_xor x d) (xor_comm b c) ∙ xor_assoc c b d)
    ∙ sym (xor_assoc a c (bit_xor b d))

-- (a ⊕ k) ⊕ k = a
pub xor-cancel : (a k : ℕ) → bit_xor (bit_xor a k) k ≡ a
xor-cancel a k = xor_assoc a k k ∙ ap (bit_xor a) (xor_self k) ∙ xor_zero_r a

pub xor-zero : (a b : ℕ) → bit_xor a b ≡ 0 → a ≡ b
xor-zero a b e = sym (xor-cancel a b) ∙ ap (λ (n : ℕ). bit_xor n b) e ∙ xor_zero_l b
