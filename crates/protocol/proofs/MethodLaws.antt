-- What the method of a number asks for.
-- Assumes nothing.
use Rattle.std.specs.Prelude.{None, Option, Some}
use mathlib.Core.Path.{◌≡◌, refl, sym}
use mathlib.Core.Bool.{Bool, true, false, cond}
use mathlib.Core.List.{List, [], ◌∷◌}
use mathlib.Core.Logic.{◌⊎◌, inl, inr}
use Prim.{tt}
use Prim.Native.Nat.{ℕ}
use native.Mathlib.Omega.{arith}
use lib.Dec.{eqb}
use borrow.Author.Tests.{eqb-true}
use Rattle.protocol.specs.declared.Cipher.{Cipher}
use Rattle.protocol.specs.declared.Cipher.TheVariants.{AesGcm, ChaChaPoly}
use Rattle.protocol.specs.declared.Method.{Method}
use Rattle.protocol.specs.Method.{methods, numbered_among, method_of, asks, key_fits, key_in, key_length, salt_in, salt_length, cipher_in, cipher_of}

-- what holds of each method, and of none, holds of whatever a number gives
abbrev pub Each : ((Option Method) → Type 0) → List Method → Type 0
Each P [] = Unit {0}
Each P (m ∷ ms) = P (Some m) × Each P ms

pub among : (P : Option Method → Type 0) → P None → (n : ℕ) (ms : List Method) → Each P ms → P (numbered_among n ms)
among P none n [] each = none
among P none n (m ∷ ms) each = either (eqb n m.number) (among P none n ms each.1)
  where
    either : (b : Bool) → P (numbered_among n ms) → P (cond b (Some m) (numbered_among n ms))
    either true rest = each.0
    either false rest = rest

-- a key and a salt of one length, 16 or 32
pub record Sizes (key salt k : ℕ) : Type 0 where
  pub key-is : key ≡ k
  pub salt-is : salt ≡ k
  pub either : (k ≡ 16) ⊎ (k ≡ 32)

none-fits : {A : Type 0} → ◌≡◌ {A = Bool} false true → A
none-fits e = absurd (let z : ◌≡◌ {A = ℕ} 0 1 = cc in omega arith)

pub fits-sizes : (method k : ℕ) → key_fits method k ≡ true → Sizes (key_length method) (salt_length method) k
unfolding key_fits method_of key_length salt_length
fits-sizes method k =
    among (λ (n : Option Method). (asks n k ≡ true → Sizes (key_in n) (salt_in n) k)) none-fits method methods (short, (long, (long, (long, (long, tt)))))
  where
    short : eqb 16 k ≡ true → Sizes 16 16 k
    short e = let f = eqb-true 16 k e in record { key-is = f; salt-is = f; either = inl (sym f) }

    long : eqb 32 k ≡ true → Sizes 32 32 k
    long e = let f = eqb-true 32 k e in record { key-is = f; salt-is = f; either = inr (sym f) }

-- a method that has a key length is known, and a key of that length fits it
pub length-fits : (method : ℕ) → (key_length method ≡ 0 → ⊥) → key_fits method (key_length method) ≡ true
unfolding key_fits method_of key_length
length-fits method =
    among (λ (n : Option Method). ((key_in n ≡ 0 → ⊥) → asks n (key_in n) ≡ true)) (λ h. absurd (h refl)) method methods
    ((λ h. refl), ((λ h. refl), ((λ h. refl), ((λ h. refl), ((λ h. refl), tt)))))

-- a key that fits a ChaCha has 32 bytes
abbrev pub OfChaCha : Cipher → ℕ → Type 0
OfChaCha AesGcm k = Unit {0}
OfChaCha (ChaChaPoly n) k = k ≡ 32

pub fits-cipher : (method k : ℕ) → key_fits method k ≡ true → OfChaCha (cipher_of method) k
unfolding key_fits method_of cipher_of
fits-cipher method k =
    among (λ (n : Option Method). (asks n k ≡ true → OfChaCha (cipher_in n) k)) none-fits method methods
    ((λ e. tt), ((λ e. tt), (long, (long, (long, tt)))))
  where
    long : eqb 32 k ≡ true → k ≡ 32
    long e = sym (eqb-true 32 k e)
