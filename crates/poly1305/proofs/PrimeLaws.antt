-- Limbs: base 2^26 and the prime 2^130 - 5.
-- Assumes nothing.
use mathlib.Core.Path.{◌≡◌, refl, ap, sym, ◌∙◌, subst}
use Prim.Native.Nat.{ℕ, zero, suc, ◌+◌, ◌*◌, ◌-◌, ◌%◌, ◌/◌, ◌^◌, ◌<◌, ◌≤◌}
use native.Mathlib.Nat.{add-mul-mod_self_right, mod-eq_of_lt, div-add-mod', add-mod_right, mul-le-mul}
use native.Mathlib.Omega.{arith}
use lib.Dec.{lit≤}
use Rattle.poly1305.specs.Limbs.{digits, value, over, Split, Below, Loose, Sum, Chained}
use Rattle.poly1305.specs.Poly1305.{prime, mod_p}
use Rattle.poly1305.specs.declared.limbs.Limbs.{Limbs}
use Rattle.poly1305.specs.declared.limbs.Parts.{Parts}
use Rattle.poly1305.specs.declared.limbs.Summed.{Summed}
use Rattle.poly1305.proofs.DigitLaws.{carried, low-carry, added, bounded, product-of, under, under_more}

-- ---- 2^130 and the prime

pub base-over : 2 ^ 26 * 2 ^ 26 * 2 ^ 26 * 2 ^ 26 * 2 ^ 26 ≡ over
unfolding over
base-over = refl

base-prime : 2 ^ 26 * 2 ^ 26 * 2 ^ 26 * 2 ^ 26 * 2 ^ 26 ≡ prime + 5
unfolding prime
base-prime = refl

over-prime : over ≡ prime + 5
unfolding over prime
over-prime = refl

prime-large : 2 ^ 60 ≤ prime
unfolding prime
prime-large = lit≤ tt

-- multiples of the prime do not count
drop-multiple : (x k : ℕ) → mod_p (x + k * prime) ≡ mod_p x
unfolding mod_p
drop-multiple x k = add-mul-mod_self_right x k prime

-- a number may be reduced before it is used
pub mod-step : (x n r : ℕ) → mod_p ((x + n) * r) ≡ mod_p ((mod_p x + n) * r)
unfolding mod_p
mod-step x n r =
    ap (λ (y : ℕ). y % prime) (go prime (x % prime) (x / prime) (div-add-mod' x prime)) ∙ add-mul-mod_self_right _ _ prime
  where
    go : (p m q : ℕ) → q * p + m ≡ x → (x + n) * r ≡ (m + n) * r + q * r * p
    go p m q e = omega (arith, ap (λ (y : ℕ). y * r) e)

-- ---- products

limb-product : {a b : ℕ} → a < 2 ^ 28 → b < 2 ^ 29 → a * b < 2 ^ 57
limb-product {a} {b} h k =
    let u : a ≤ 2 ^ 28 - 1 = omega arith in
    let v : b ≤ 2 ^ 29 - 1 = omega arith in
    omega (arith, mul-le-mul u v)

-- the five products of a limb
pub record Products (h : Limbs) (x0 x1 x2 x3 x4 : ℕ) : Type 0 where
  pub p0 : h.l0 * x0 < 2 ^ 57
  pub p1 : h.l1 * x1 < 2 ^ 57
  pub p2 : h.l2 * x2 < 2 ^ 57
  pub p3 : h.l3 * x3 < 2 ^ 57
  pub p4 : h.l4 * x4 < 2 ^ 57

pub products : (h : Limbs) (x0 x1 x2 x3 x4 : ℕ) → Below (2 ^ 28) h
    → (x0 < 2 ^ 29) × (x1 < 2 ^ 29) × (x2 < 2 ^ 29) × (x3 < 2 ^ 29) × (x4 < 2 ^ 29) → Products h x0 x1 x2 x3 x4
products h x0 x1 x2 x3 x4 b k =
    record {
      p0 = limb-product b.b0 k.0;
      p1 = limb-product b.b1 k.1;
      p2 = limb-product b.b2 k.2;
      p3 = limb-product b.b3 k.3;
      p4 = limb-product b.b4 k.4;
    }

-- the five limbs are those of the product
pub product_law : (h r t : Limbs)
    → t.l0 ≡ h.l0 * r.l0 + h.l1 * (r.l4 * 5) + h.l2 * (r.l3 * 5) + h.l3 * (r.l2 * 5) + h.l4 * (r.l1 * 5)
    → t.l1 ≡ h.l0 * r.l1 + h.l1 * r.l0 + h.l2 * (r.l4 * 5) + h.l3 * (r.l3 * 5) + h.l4 * (r.l2 * 5)
    → t.l2 ≡ h.l0 * r.l2 + h.l1 * r.l1 + h.l2 * r.l0 + h.l3 * (r.l4 * 5) + h.l4 * (r.l3 * 5)
    → t.l3 ≡ h.l0 * r.l3 + h.l1 * r.l2 + h.l2 * r.l1 + h.l3 * r.l0 + h.l4 * (r.l4 * 5)
    → t.l4 ≡ h.l0 * r.l4 + h.l1 * r.l3 + h.l2 * r.l2 + h.l3 * r.l1 + h.l4 * r.l0
    → mod_p (value t) ≡ mod_p (value h * value r)
product_law h r t e0 e1 e2 e3 e4 =
    (λ i. mod_p (digits (2 ^ 26) (e0 i) (e1 i) (e2 i) (e3 i) (e4 i)))
    ∙ sym
    (ap mod_p (product-of (2 ^ 26) prime base-prime h.l0 h.l1 h.l2 h.l3 h.l4 r.l0 r.l1 r.l2 r.l3 r.l4)
    ∙ drop-multiple _ _)

-- ---- sums

pub sum-value : {a b t : Limbs} → Sum a b t → value t ≡ value a + value b
sum-value {a} {b} {t} s =
    (λ i. digits (2 ^ 26) (s.s0 i) (s.s1 i) (s.s2 i) (s.s3 i) (s.s4 i))
    ∙ added (2 ^ 26) a.l0 a.l1 a.l2 a.l3 a.l4 b.l0 b.l1 b.l2 b.l3 b.l4

pub sum_below : {a b t : Limbs} → Loose a → Below (2 ^ 26) b → Sum a b t → Below (2 ^ 28) t
sum_below {a} {b} {t} p q s =
    record {
      b0 = omega (arith, p.b0, q.b0, s.s0);
      b1 = omega (arith, p.b1, q.b1, s.s1);
      b2 = omega (arith, p.b2, q.b2, s.s2);
      b3 = omega (arith, p.b3, q.b3, s.s3);
      b4 = omega (arith, p.b4, q.b4, s.s4);
    }

-- small limbs are below any larger bound
pub loose-below : (n : ℕ) {a : Limbs} → 2 ^ 26 + 2 ^ 20 ≤ n → Loose a → Below n a
loose-below n {a} l p =
    record {
      b0 = omega (arith, p.b0);
      b1 = omega (arith, p.b1);
      b2 = omega (arith, p.b2);
      b3 = omega (arith, p.b3);
      b4 = omega (arith, p.b4);
    }

pub below_more : (n m : ℕ) {a : Limbs} → n ≤ m → Below n a → Below m a
below_more n m {a} l p =
    record {
      b0 = omega (arith, p.b0);
      b1 = omega (arith, p.b1);
      b2 = omega (arith, p.b2);
      b3 = omega (arith, p.b3);
      b4 = omega (arith, p.b4);
    }

pub below-loose : {a : Limbs} → Below (2 ^ 26) a → Loose a
below-loose {a} p = record { b0 = p.b0; b1 = omega (arith, p.b1); b2 = p.b2; b3 = p.b3; b4 = p.b4 }

-- ---- carries

moved : (o p y z q : ℕ) {x : ℕ} → x ≡ y + q * o → z ≡ y + q * 5 → o ≡ p + 5 → x ≡ z + q * p
moved o p y z q e f g = omega (arith, ap (λ (u : ℕ). q * u) g)

module _ (d0 d1 d2 d3 d4 : ℕ) (s0 s1 s2 s3 s4 : Parts)
    (q0 : Split d0 s0) (q1 : Split (d1 + s0.high) s1) (q2 : Split (d2 + s1.high) s2) (q3 : Split (d3 + s2.high) s3)
    (q4 : Split (d4 + s3.high) s4) where
  chain-sum : digits (2 ^ 26) d0 d1 d2 d3 d4 ≡ digits (2 ^ 26) s0.low s1.low s2.low s3.low s4.low + s4.high * over
  chain-sum =
      carried (2 ^ 26) d0 d1 d2 d3 d4 s0.low s1.low s2.low s3.low s4.low s0.high s1.high s2.high s3.high
      s4.high q0.sum q1.sum q2.sum q3.sum q4.sum
      ∙ ap (λ (x : ℕ). digits (2 ^ 26) s0.low s1.low s2.low s3.low s4.low + s4.high * x) base-over

  pub top_small : d0 < 2 ^ 61 → d1 < 2 ^ 61 → d2 < 2 ^ 61 → d3 < 2 ^ 61 → d4 < 2 ^ 61 → s4.high < 2 ^ 36
  top_small h0 h1 h2 h3 h4 =
      let k0 : s0.high < 2 ^ 36 = omega arith in
      let k1 : s1.high < 2 ^ 36 = omega arith in
      let k2 : s2.high < 2 ^ 36 = omega arith in
      let k3 : s3.high < 2 ^ 36 = omega arith in
      omega arith

  pub carry-sum : (t : Parts) → Split (s0.low + s4.high * 5) t
      → mod_p (digits (2 ^ 26) t.low (s1.low + t.high) s2.low s3.low s4.low) ≡ mod_p (digits (2 ^ 26) d0 d1 d2 d3 d4)
  carry-sum t q =
      sym (ap mod_p whole ∙ drop-multiple (digits (2 ^ 26) t.low (s1.low + t.high) s2.low s3.low s4.low) s4.high)
    where
      base : ℕ
      base = digits (2 ^ 26) s0.low s1.low s2.low s3.low s4.low

      low : digits (2 ^ 26) t.low (s1.low + t.high) s2.low s3.low s4.low ≡ base + s4.high * 5
      low = low-carry (2 ^ 26) s0.low s1.low s2.low s3.low s4.low t.low t.high (s4.high * 5) q.sum

      whole : digits (2 ^ 26) d0 d1 d2 d3 d4 ≡ digits (2 ^ 26) t.low (s1.low + t.high) s2.low s3.low s4.low + s4.high * prime
      whole = moved over prime base _ s4.high chain-sum low over-prime

-- x added to the lowest limb
added-low : (h : Limbs) (x : ℕ) → value h + x ≡ digits (2 ^ 26) (h.l0 + x) h.l1 h.l2 h.l3 h.l4
unfolding digits
added-low h x = omega arith

-- what chain leaves
pub chained : (h : Limbs) (x : ℕ) (s0 s1 s2 s3 s4 : Parts) (t : Summed) → Below (2 ^ 28) h → x < 2 ^ 28
    → Split (h.l0 + x) s0 → Split (h.l1 + s0.high) s1 → Split (h.l2 + s1.high) s2 → Split (h.l3 + s2.high) s3
    → Split (h.l4 + s3.high) s4
    → t ≡ record { limbs = record { l0 = s0.low; l1 = s1.low; l2 = s2.low; l3 = s3.low; l4 = s4.low }; top = s4.high } → Chained h x t
chained h x s0 s1 s2 s3 s4 t k l q0 q1 q2 q3 q4 e =
    let n0 : s0.high < 8 = omega (arith, k.b0, l, q0.sum) in
    let n1 : s1.high < 8 = omega (arith, k.b1, q1.sum) in
    let n2 : s2.high < 8 = omega (arith, k.b2, q2.sum) in
    let n3 : s3.high < 8 = omega (arith, k.b3, q3.sum) in
    subst (Chained h x) (sym e)
    (record {
      below = record { b0 = q0.low; b1 = q1.low; b2 = q2.low; b3 = q3.low; b4 = q4.low };
      small = last h.l4 s3.high s4.low s4.high k.b4 n3 q4.sum;
      sum =
          added-low h x
          ∙ chain-sum (h.l0 + x) h.l1 h.l2 h.l3 h.l4 s0 s1 s2 s3 s4 q0 q1 q2 q3 q4;
    })
  where
    last : (u c v w : ℕ) → u < 2 ^ 28 → c < 8 → v + w * 2 ^ 26 ≡ u + c → w < 8
    last u c v w f g e = omega arith

-- ---- the final reduction

-- limbs below 2^26: the number is below 2^130
below-over : (h : Limbs) → Below (2 ^ 26) h → value h < over
below-over h k = rw (← base-over) (bounded (2 ^ 26) h.l0 h.l1 h.l2 h.l3 h.l4 k.b0 k.b1 k.b2 k.b3 k.b4)

-- loose limbs: the number is below 2^130 + 2^46
loose-over : (h : Limbs) → Loose h → value h < over + 2 ^ 46
unfolding over digits
loose-over h k = under k.b0 (under_more (2 ^ 26) (2 ^ 20) k.b1 (under k.b2 (under k.b3 k.b4)))

-- the quotient by the prime is the quotient of the number plus 5 by 2^130
reduced : (p v g q r z : ℕ) → 2 ^ 60 ≤ p → v < p + 5 + 2 ^ 46 → g < p + 5 → r < p + 5 → v + 5 ≡ g + q * (p + 5)
    → v + q * 5 ≡ r + z * (p + 5) → r ≡ v % p
reduced p v g zero r zero l hv hg hr e f =
    let h : v < p = omega arith in
    let e' : r ≡ v = omega arith in
    e' ∙ sym (mod-eq_of_lt h)
reduced p v g zero r (suc z) l hv hg hr e f = absurd (omega arith)
reduced p v g (suc zero) r zero l hv hg hr e f = absurd (omega arith)
reduced p v g (suc zero) r (suc zero) l hv hg hr e f =
    let h : r < p = omega arith in
    let e' : v ≡ r + p = omega arith in
    sym (ap (λ (x : ℕ). x % p) e' ∙ add-mod_right r p ∙ mod-eq_of_lt h)
reduced p v g (suc zero) r (suc (suc z)) l hv hg hr e f = absurd (omega arith)
reduced p v g (suc (suc q)) r z l hv hg hr e f = absurd (omega arith)

pub reduce-law : (h : Limbs) (q t : Summed) → Loose h → Chained h 5 q → Chained h (q.top * 5) t → value t.limbs ≡ mod_p (value h)
unfolding mod_p
reduce-law h q t k a b =
    reduced prime (value h) (value q.limbs) q.top (value t.limbs) t.top prime-large
    (rw over-prime at (loose-over h k))
    (rw over-prime at (below-over q.limbs a.below))
    (rw over-prime at (below-over t.limbs b.below))
    (rw over-prime at a.sum)
    (rw over-prime at b.sum)
