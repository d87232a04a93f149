-- Arithmetic in base b, modulo p with b^5 = p + 5. Both are variables: omega refuses the numbers themselves.
-- Assumes nothing.
use mathlib.Core.Path.{◌≡◌, refl, ap, sym, ◌∙◌}
use Prim.Native.Nat.{ℕ, ◌+◌, ◌*◌, ◌<◌}
use native.Mathlib.Omega.{arith}
use native.Mathlib.Nat.{mul-le-mul_left}
use Rattle.poly1305.specs.Limbs.{digits}

-- one digit h with what is carried out of it, c', where c is carried in
up : (b d c h c' y z : ℕ) → h + c' * b ≡ d + c → y + c' ≡ z → d + b * y + c ≡ h + b * z
up b d c h c' y z e f = omega (arith, ap (λ (x : ℕ). b * x) f)

-- a lowest digit below b and a rest below n
pub under : {b x y n : ℕ} → x < b → y < n → x + b * y < b * n
under {b} {x} {y} {n} h k = omega (arith, mul-le-mul_left b k)

pub under_more : (b e : ℕ) {x y n : ℕ} → x < b + e → y < n → x + b * y < b * n + e
under_more b e {x} {y} {n} h k = omega (arith, mul-le-mul_left b k)

-- digits carried from each to the next
pub carried : (b d0 d1 d2 d3 d4 h0 h1 h2 h3 h4 c0 c1 c2 c3 c4 : ℕ)
    → h0 + c0 * b ≡ d0 → h1 + c1 * b ≡ d1 + c0 → h2 + c2 * b ≡ d2 + c1 → h3 + c3 * b ≡ d3 + c2 → h4 + c4 * b ≡ d4 + c3
    → digits b d0 d1 d2 d3 d4 ≡ digits b h0 h1 h2 h3 h4 + c4 * (b * b * b * b * b)
unfolding digits
carried b d0 d1 d2 d3 d4 h0 h1 h2 h3 h4 c0 c1 c2 c3 c4 e0 e1 e2 e3 e4 =
    let s4 : d4 + c3 ≡ h4 + b * c4 = omega arith in
    let s3 : d3 + b * d4 + c2 ≡ h3 + b * (h4 + b * c4) = up b d3 c2 h3 c3 d4 (h4 + b * c4) e3 s4 in
    let s2 : d2 + b * (d3 + b * d4) + c1 ≡ h2 + b * (h3 + b * (h4 + b * c4)) = up b d2 c1 h2 c2 (d3 + b * d4) _ e2 s3 in
    let s1 : d1 + b * (d2 + b * (d3 + b * d4)) + c0 ≡ h1 + b * (h2 + b * (h3 + b * (h4 + b * c4))) = up b d1 c0 h1 c1 _ _ e1 s2 in
    let e0' : h0 + c0 * b ≡ d0 + 0 = omega arith in
    let s0 : d0 + b * (d1 + b * (d2 + b * (d3 + b * d4))) + 0 ≡ h0 + b * (h1 + b * (h2 + b * (h3 + b * (h4 + b * c4)))) =
    up b d0 0 h0 c0 _ _ e0' s1 in
    over-top b (d0 + b * (d1 + b * (d2 + b * (d3 + b * d4)))) h0 h1 h2 h3 h4 c4 s0
  where
    over-top : (b d h0 h1 h2 h3 h4 c : ℕ) → d + 0 ≡ h0 + b * (h1 + b * (h2 + b * (h3 + b * (h4 + b * c))))
        → d ≡ h0 + b * (h1 + b * (h2 + b * (h3 + b * h4))) + c * (b * b * b * b * b)
    over-top b d h0 h1 h2 h3 h4 c e = omega arith

-- a change of the lowest digit, its carry added to the second
pub low-carry : (b h0 h1 h2 h3 h4 t k x : ℕ) → t + k * b ≡ h0 + x → digits b t (h1 + k) h2 h3 h4 ≡ digits b h0 h1 h2 h3 h4 + x
unfolding digits
low-carry b h0 h1 h2 h3 h4 t k x e = go (b * (h2 + b * (h3 + b * h4)))
  where
    go : (y : ℕ) → t + b * (h1 + k + y) ≡ h0 + b * (h1 + y) + x
    go y = omega (arith, e)

-- two numbers added digit by digit
pub added : (b x0 x1 x2 x3 x4 y0 y1 y2 y3 y4 : ℕ)
    → digits b (x0 + y0) (x1 + y1) (x2 + y2) (x3 + y3) (x4 + y4) ≡ digits b x0 x1 x2 x3 x4 + digits b y0 y1 y2 y3 y4
unfolding digits
added b x0 x1 x2 x3 x4 y0 y1 y2 y3 y4 = omega arith

-- digits below b: below b^5
pub bounded : (b x0 x1 x2 x3 x4 : ℕ) → x0 < b → x1 < b → x2 < b → x3 < b → x4 < b → digits b x0 x1 x2 x3 x4 < b * b * b * b * b
unfolding digits
bounded b x0 x1 x2 x3 x4 k0 k1 k2 k3 k4 =
    let u : x0 + b * (x1 + b * (x2 + b * (x3 + b * x4))) < b * (b * (b * (b * b))) = under k0 (under k1 (under k2 (under k3 k4))) in
    let e : b * (b * (b * (b * b))) ≡ b * b * b * b * b = omega arith in
    omega arith

-- a product by one digit h of its first factor h + b * t
row : (b p h t R R' k : ℕ) → b * R ≡ R' + k * p → (h + b * t) * R ≡ h * R + t * R' + t * k * p
row b p h t R R' k e = omega (arith, ap (λ (x : ℕ). t * x) e)

-- the product by rows
rows : (b p h0 h1 h2 h3 h4 R R1 R2 R3 R4 k1 k2 k3 k4 t1 t2 t3 : ℕ)
    → b * R ≡ R1 + k1 * p → b * R1 ≡ R2 + k2 * p → b * R2 ≡ R3 + k3 * p → b * R3 ≡ R4 + k4 * p
    → t1 ≡ h1 + b * t2 → t2 ≡ h2 + b * t3 → t3 ≡ h3 + b * h4
    → (h0 + b * t1) * R ≡ h0 * R + h1 * R1 + h2 * R2 + h3 * R3 + h4 * R4 + (t1 * k1 + t2 * k2 + t3 * k3 + h4 * k4) * p
rows b p h0 h1 h2 h3 h4 R R1 R2 R3 R4 k1 k2 k3 k4 t1 t2 t3 e1 e2 e3 e4 q1 q2 q3 =
    omega (
      arith,
      row b p h0 t1 R R1 k1 e1,
      ap (λ (x : ℕ). x * R1) q1 ∙ row b p h1 t2 R1 R2 k2 e2,
      ap (λ (x : ℕ). x * R2) q2 ∙ row b p h2 t3 R2 R3 k3 e3,
      ap (λ (x : ℕ). x * R3) q3 ∙ row b p h3 h4 R3 R4 k4 e4,
    )

-- digits times a number
scaled : (b y a0 a1 a2 a3 a4 : ℕ) → y * digits b a0 a1 a2 a3 a4 ≡ digits b (y * a0) (y * a1) (y * a2) (y * a3) (y * a4)
unfolding digits
scaled b y a0 a1 a2 a3 a4 = omega arith

more : (b x0 x1 x2 x3 x4 y a0 a1 a2 a3 a4 : ℕ)
    → digits b x0 x1 x2 x3 x4 + y * digits b a0 a1 a2 a3 a4
    ≡ digits b (x0 + y * a0) (x1 + y * a1) (x2 + y * a2) (x3 + y * a3) (x4 + y * a4)
more b x0 x1 x2 x3 x4 y a0 a1 a2 a3 a4 =
    ap (λ (z : ℕ). digits b x0 x1 x2 x3 x4 + z) (scaled b y a0 a1 a2 a3 a4)
    ∙ sym (added b x0 x1 x2 x3 x4 (y * a0) (y * a1) (y * a2) (y * a3) (y * a4))

-- the rows by columns
columns : (b h0 h1 h2 h3 h4 r0 r1 r2 r3 r4 s1 s2 s3 s4 : ℕ)
    → h0 * digits b r0 r1 r2 r3 r4 + h1 * digits b s4 r0 r1 r2 r3 + h2 * digits b s3 s4 r0 r1 r2 + h3 * digits b s2 s3 s4 r0 r1
    + h4 * digits b s1 s2 s3 s4 r0
    ≡ digits b
    (h0 * r0 + h1 * s4 + h2 * s3 + h3 * s2 + h4 * s1)
    (h0 * r1 + h1 * r0 + h2 * s4 + h3 * s3 + h4 * s2)
    (h0 * r2 + h1 * r1 + h2 * r0 + h3 * s4 + h4 * s3)
    (h0 * r3 + h1 * r2 + h2 * r1 + h3 * r0 + h4 * s4)
    (h0 * r4 + h1 * r3 + h2 * r2 + h3 * r1 + h4 * r0)
columns b h0 h1 h2 h3 h4 r0 r1 r2 r3 r4 s1 s2 s3 s4 = rw (scaled b h0 r0 r1 r2 r3 r4, more, more, more, more)

opened : (b h0 h1 h2 h3 h4 R : ℕ) → digits b h0 h1 h2 h3 h4 * R ≡ (h0 + b * (h1 + b * (h2 + b * (h3 + b * h4)))) * R
unfolding digits
opened b h0 h1 h2 h3 h4 R = refl

module _ (b p : ℕ) (e : b * b * b * b * b ≡ p + 5) where
  -- the digits one place up: the highest comes back five times
  turned : (r0 r1 r2 r3 r4 : ℕ) → b * digits b r0 r1 r2 r3 r4 ≡ digits b (r4 * 5) r0 r1 r2 r3 + r4 * p
  unfolding digits
  turned r0 r1 r2 r3 r4 = omega (arith, ap (λ (x : ℕ). r4 * x) e)

  -- the product: the code's digits, and a multiple of p
  pub product-of : (h0 h1 h2 h3 h4 r0 r1 r2 r3 r4 : ℕ)
      → digits b h0 h1 h2 h3 h4 * digits b r0 r1 r2 r3 r4
      ≡ digits b
      (h0 * r0 + h1 * (r4 * 5) + h2 * (r3 * 5) + h3 * (r2 * 5) + h4 * (r1 * 5))
      (h0 * r1 + h1 * r0 + h2 * (r4 * 5) + h3 * (r3 * 5) + h4 * (r2 * 5))
      (h0 * r2 + h1 * r1 + h2 * r0 + h3 * (r4 * 5) + h4 * (r3 * 5))
      (h0 * r3 + h1 * r2 + h2 * r1 + h3 * r0 + h4 * (r4 * 5))
      (h0 * r4 + h1 * r3 + h2 * r2 + h3 * r1 + h4 * r0)
      + ((h1 + b * (h2 + b * (h3 + b * h4))) * r4 + (h2 + b * (h3 + b * h4)) * r3 + (h3 + b * h4) * r2 + h4 * r1) * p
  product-of h0 h1 h2 h3 h4 r0 r1 r2 r3 r4 =
      let k = ((h1 + b * (h2 + b * (h3 + b * h4))) * r4 + (h2 + b * (h3 + b * h4)) * r3 + (h3 + b * h4) * r2 + h4 * r1) * p in
      opened b h0 h1 h2 h3 h4 (digits b r0 r1 r2 r3 r4)
      ∙ rows b p h0 h1 h2 h3 h4 (digits b r0 r1 r2 r3 r4) (digits b (r4 * 5) r0 r1 r2 r3) (digits b (r3 * 5) (r4 * 5) r0 r1 r2)
      (digits b (r2 * 5) (r3 * 5) (r4 * 5) r0 r1) (digits b (r1 * 5) (r2 * 5) (r3 * 5) (r4 * 5) r0) r4 r3 r2 r1
      (h1 + b * (h2 + b * (h3 + b * h4))) (h2 + b * (h3 + b * h4)) (h3 + b * h4)
      (turned r0 r1 r2 r3 r4) (turned (r4 * 5) r0 r1 r2 r3) (turned (r3 * 5) (r4 * 5) r0 r1 r2) (turned (r2 * 5) (r3 * 5) (r4 * 5) r0 r1)
      refl refl refl
      ∙ ap (λ (x : ℕ). x + k) (columns b h0 h1 h2 h3 h4 r0 r1 r2 r3 r4 (r1 * 5) (r2 * 5) (r3 * 5) (r4 * 5))
