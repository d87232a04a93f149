-- The numbers of the five methods.
-- Assumes nothing.
use Rattle.std.specs.Prelude.{Option, Some}
use mathlib.Core.Path.{◌≡◌, refl, sym, ap, ◌∙◌}
use mathlib.Core.Bool.{Bool, true, false, cond}
use Prim.Native.Nat.{ℕ, ◌≤◌, ◌<◌}
use native.Mathlib.Omega.{arith}
use lib.Dec.{leb}
use borrow.Author.Tests.{eq-eqb, le-leb, lt-leb, leb-true, leb-false}
use Rattle.protocol.specs.declared.Cipher.{Cipher}
use Rattle.protocol.specs.declared.Cipher.TheVariants.{AesGcm, ChaChaPoly}
use Rattle.protocol.specs.declared.Method.{Method}
use Rattle.protocol.specs.Method.{aes128, aes256, chacha20, chacha12, chacha8, method_of, cipher_in, cipher_of}
use Rattle.datagram_parts.specs.Parts.{overhead, packet_overhead, overhead_in, overhead_of, nonce_fits}
use Rattle.datagram_parts.proofs.OverheadLaws.{by_number}

-- 32 bytes by methods 1 and 2, 56 by methods 3 to 5, of which 40 are no plaintext, and 0 where there is no method; only with methods 3
-- to 5 the nonce is looked at
pub record MethodBy (n : ℕ) (m : Option Method) : Type 0 where
  pub plain : 1 ≤ n → n ≤ 2 → overhead_in m ≡ 32
  pub extended : 2 < n → n ≤ 5 → overhead_in m ≡ 56
  pub no_text : 1 ≤ n → n ≤ 5 → overhead (cipher_in m) ≡ cond (leb n 2) 32 40
  pub known : (overhead_in m ≡ 0 → ⊥) → (1 ≤ n) × (n ≤ 5)
  pub nonce : (k : ℕ) → (2 < n → k ≡ 24) → nonce_fits (cipher_in m) k ≡ true

method-by : (n : ℕ) → MethodBy n (method_of n)
method-by =
    by_number (λ (n : ℕ) (m : Option Method). MethodBy n m) (with-aes 1 aes128 refl (omega arith) (omega arith))
    (with-aes 2 aes256 refl (omega arith) (omega arith)) (with-chacha 3 chacha20 10 refl (omega arith) (omega arith))
    (with-chacha 4 chacha12 6 refl (omega arith) (omega arith)) (with-chacha 5 chacha8 4 refl (omega arith) (omega arith))
    (λ n f. record {
      plain = λ l u. absurd (f l (omega arith));
      extended = λ l u. absurd (f (omega arith) u);
      no_text = λ l u. absurd (f l u);
      known = λ g. absurd (g refl);
      nonce = λ k e. refl;
    })
  where
    with-aes : (n : ℕ) (m : Method) → m.cipher ≡ AesGcm → 1 ≤ n → n ≤ 2 → MethodBy n (Some m)
    with-aes n m c l u = record {
      plain = λ _ _. ap packet_overhead c;
      extended = λ v _. absurd (omega arith);
      no_text = λ _ _. ap overhead c ∙ ap (λ (b : Bool). cond b 32 40) (sym (le-leb n 2 u));
      known = λ _. (l, omega arith);
      nonce = λ k _. ap (λ (x : Cipher). nonce_fits x k) c;
    }

    with-chacha : (n : ℕ) (m : Method) (doubles : ℕ) → m.cipher ≡ ChaChaPoly doubles → 3 ≤ n → n ≤ 5 → MethodBy n (Some m)
    with-chacha n m doubles c l u = record {
      plain = λ _ v. absurd (omega arith);
      extended = λ _ _. ap packet_overhead c;
      no_text = λ _ _. ap overhead c ∙ ap (λ (b : Bool). cond b 32 40) (sym (lt-leb n 2 l));
      known = λ _. (omega arith, u);
      nonce = λ k e. ap (λ (x : Cipher). nonce_fits x k) c ∙ eq-eqb k 24 (e l);
    }

module _ (method : ℕ) where
  pub overhead-plain : 1 ≤ method → method ≤ 2 → overhead_of method ≡ 32
  unfolding overhead_of
  overhead-plain = (method-by method).plain

  pub overhead-extended : 2 < method → method ≤ 5 → overhead_of method ≡ 56
  unfolding overhead_of
  overhead-extended = (method-by method).extended

  pub overhead-no-text : 1 ≤ method → method ≤ 5 → overhead (cipher_of method) ≡ cond (leb method 2) 32 40
  unfolding cipher_of
  overhead-no-text = (method-by method).no_text

  pub overhead-tells : (overhead_of method ≡ 0 → ⊥) → (1 ≤ method) × (method ≤ 5)
  unfolding overhead_of
  overhead-tells = (method-by method).known

  pub overhead-some : 1 ≤ method → method ≤ 5 → overhead_of method ≡ 0 → ⊥
  overhead-some l u e = go (leb method 2) refl
    where
      go : (b : Bool) → leb method 2 ≡ b → ⊥
      go true t = let o = overhead-plain l (leb-true method 2 t) in omega arith
      go false t = let o = overhead-extended (leb-false method 2 t) u in omega arith

  pub nonce-serves : (k : ℕ) → (2 < method → k ≡ 24) → nonce_fits (cipher_of method) k ≡ true
  unfolding cipher_of
  nonce-serves = (method-by method).nonce
