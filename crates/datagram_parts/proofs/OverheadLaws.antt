-- What a datagram has besides main header, padding, address and payload, by its cipher and its method.
-- Assumes nothing.
use Rattle.std.specs.Prelude.{None, Option, Some}
use mathlib.Core.Path.{◌≡◌, refl, sym, subst}
use mathlib.Core.Bool.{Bool, true, false, cond}
use Prim.Native.Nat.{ℕ, ◌≤◌}
use native.Mathlib.Omega.{arith}
use lib.Dec.{eqb}
use borrow.Author.Tests.{eqb-true, eqb-false}
use Rattle.protocol.specs.declared.Cipher.{Cipher}
use Rattle.protocol.specs.declared.Cipher.TheVariants.{AesGcm, ChaChaPoly}
use Rattle.protocol.specs.Method.{aes128, aes256, chacha20, chacha12, chacha8, method_of, cipher_in, cipher_of}
use Rattle.datagram_parts.specs.Headers.{main_start}
use Rattle.datagram_parts.specs.Parts.{lead_length, packet_overhead, overhead_in, overhead_of}
use Rattle.protocol.specs.declared.Method.{Method}

-- ---- by the cipher

pub lead-least : (c : Cipher) → 16 ≤ lead_length c
lead-least AesGcm = omega arith
lead-least (ChaChaPoly n) = omega arith

pub lead-most : (c : Cipher) → lead_length c ≤ 24
lead-most AesGcm = omega arith
lead-most (ChaChaPoly n) = omega arith

pub start-most : (c : Cipher) → main_start c ≤ 16
start-most AesGcm = omega arith
start-most (ChaChaPoly n) = omega arith

-- ---- by the method

-- where there is a method, it is what its cipher has
pub overhead-cipher : (method : ℕ) → (overhead_of method ≡ 0 → ⊥) → overhead_of method ≡ packet_overhead (cipher_of method)
unfolding overhead_of cipher_of
overhead-cipher method = go (method_of method)
  where
    go : (n : Option Method) → (overhead_in n ≡ 0 → ⊥) → overhead_in n ≡ packet_overhead (cipher_in n)
    go (Some m) f = refl
    go None f = absurd (f refl)

-- what holds of the five methods with their numbers, and of every other number with none
module _ (P : ℕ → Option Method → Type 0) (one : P 1 (Some aes128)) (two : P 2 (Some aes256)) (three : P 3 (Some chacha20))
    (four : P 4 (Some chacha12)) (five : P 5 (Some chacha8)) (none : (n : ℕ) → (1 ≤ n → n ≤ 5 → ⊥) → P n None) where
  pub by_number : (n : ℕ) → P n (method_of n)
  unfolding method_of
  by_number n = go (eqb n 1) (eqb n 2) (eqb n 3) (eqb n 4) (eqb n 5) refl refl refl refl refl
    where
      found : (k : ℕ) → eqb n k ≡ true → (m : Option Method) → P k m → P n m
      found k e m p = subst (λ (x : ℕ). P x m) (sym (eqb-true n k e)) p

      go : (a b c d f : Bool) → eqb n 1 ≡ a → eqb n 2 ≡ b → eqb n 3 ≡ c → eqb n 4 ≡ d → eqb n 5 ≡ f
          → P n
          (cond a (Some aes128) (cond b (Some aes256) (cond c (Some chacha20) (cond d (Some chacha12) (cond f (Some chacha8) None)))))
      go true b c d f ea eb ec ed ef = found 1 ea _ one
      go false true c d f ea eb ec ed ef = found 2 eb _ two
      go false false true d f ea eb ec ed ef = found 3 ec _ three
      go false false false true f ea eb ec ed ef = found 4 ed _ four
      go false false false false true ea eb ec ed ef = found 5 ef _ five
      go false false false false false ea eb ec ed ef =
          none n (λ l u. absurd (omega (arith, eqb-false n 1 ea, eqb-false n 2 eb, eqb-false n 3 ec, eqb-false n 4 ed, eqb-false n 5 ef)))
