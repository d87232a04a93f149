-- Four answers that differ, by three conditions in an order: each is given exactly when it should be.
-- Assumes nothing.
use mathlib.Core.Path.{◌≡◌, sym, ap, ◌∙◌}
use mathlib.Core.Logic.{◌↔◌}
use Prim.Native.Nat.{ℕ}
use native.Mathlib.Omega.{arith}

-- the answers a, b, c, d of x have the numbers 0 to 3; P, Q and R are the conditions
module _ {X : Type 0} (number : X → ℕ) (P Q R : Type 0) (x a b c d : X)
    (na : number a ≡ 0) (nb : number b ≡ 1) (nc : number c ≡ 2) (nd : number d ≡ 3) where
  pub data Given : Type 0 where
    first : (P → ⊥) → x ≡ a → Given
    second : P → (Q → ⊥) → x ≡ b → Given
    third : P × Q → R → x ≡ c → Given
    fourth : P × Q → (R → ⊥) → x ≡ d → Given

  apart : {A : Type 0} (u v : X) (i j : ℕ) → x ≡ u → x ≡ v → number u ≡ i → number v ≡ j → (i ≡ j → ⊥) → A
  apart u v i j e f nu nv n = absurd (n (sym nu ∙ ap number (sym e ∙ f) ∙ nv))

  pub only-first : Given → (x ≡ a) ↔ (P → ⊥)
  only-first g = ((λ e. go g e), λ p. back g p)
    where
      go : Given → x ≡ a → P → ⊥
      go (first p e) f = p
      go (second p q e) f = apart b a 1 0 e f nb na (λ z. omega arith)
      go (third p r e) f = apart c a 2 0 e f nc na (λ z. omega arith)
      go (fourth p r e) f = apart d a 3 0 e f nd na (λ z. omega arith)

      back : Given → (P → ⊥) → x ≡ a
      back (first p e) n = e
      back (second p q e) n = absurd (n p)
      back (third p r e) n = absurd (n p.0)
      back (fourth p r e) n = absurd (n p.0)

  pub only-second : Given → (x ≡ b) ↔ (P × (Q → ⊥))
  only-second g = ((λ e. go g e), λ p. back g p)
    where
      go : Given → x ≡ b → P × (Q → ⊥)
      go (first p e) f = apart a b 0 1 e f na nb (λ z. omega arith)
      go (second p q e) f = (p, q)
      go (third p r e) f = apart c b 2 1 e f nc nb (λ z. omega arith)
      go (fourth p r e) f = apart d b 3 1 e f nd nb (λ z. omega arith)

      back : Given → P × (Q → ⊥) → x ≡ b
      back (first p e) n = absurd (p n.0)
      back (second p q e) n = e
      back (third p r e) n = absurd (n.1 p.1)
      back (fourth p r e) n = absurd (n.1 p.1)

  pub only_third : Given → (x ≡ c) ↔ ((P × Q) × R)
  only_third g = ((λ e. go g e), λ p. back g p)
    where
      go : Given → x ≡ c → (P × Q) × R
      go (first p e) f = apart a c 0 2 e f na nc (λ z. omega arith)
      go (second p q e) f = apart b c 1 2 e f nb nc (λ z. omega arith)
      go (third p r e) f = (p, r)
      go (fourth p r e) f = apart d c 3 2 e f nd nc (λ z. omega arith)

      back : Given → (P × Q) × R → x ≡ c
      back (first p e) n = absurd (p n.0.0)
      back (second p q e) n = absurd (q n.0.1)
      back (third p r e) n = e
      back (fourth p r e) n = absurd (r n.1)

  pub only-fourth : Given → (x ≡ d) ↔ ((P × Q) × (R → ⊥))
  only-fourth g = ((λ e. go g e), λ p. back g p)
    where
      go : Given → x ≡ d → (P × Q) × (R → ⊥)
      go (first p e) f = apart a d 0 3 e f na nd (λ z. omega arith)
      go (second p q e) f = apart b d 1 3 e f nb nd (λ z. omega arith)
      go (third p r e) f = apart c d 2 3 e f nc nd (λ z. omega arith)
      go (fourth p r e) f = (p, r)

      back : Given → (P × Q) × (R → ⊥) → x ≡ d
      back (first p e) n = absurd (p n.0.0)
      back (second p q e) n = absurd (q n.0.1)
      back (third p r e) n = absurd (n.1 r)
      back (fourth p r e) n = e
