-- The extended form: lengths, and that what is sealed is authentic and opens to what was sealed.
-- Assumes nothing.
use mathlib.Core.Path.{◌≡◌, ap, ◌∙◌}
use mathlib.Core.Bool.{Bool, true, cond}
use mathlib.Core.List.{List}
use Prim.Native.Nat.{ℕ, ◌+◌, ◌-◌, ◌≤◌}
use lib.ListN.{length}
use Rattle.octets.specs.Buffers.{put}
use Rattle.chacha_poly.specs.Aead.{seal, authentic, opened}
use Rattle.chacha_poly.specs.Extended.{subkey, inner_nonce, SameWords, extended_seal, extended_authentic, extended_opened}
use Rattle.chacha_poly.proofs.AeadLaws.{length-seal, length-opened, seal-authentic, open-seal, authentic-long}
use Rattle.chacha_poly.proofs.NonceLaws.{same-seal, same-authentic, same-opened}

module _ (n : ℕ) (key nonce : List ℕ) where
  pub length-extended_seal : (p : List ℕ) → length (extended_seal n key nonce p) ≡ length p + 16
  unfolding extended_seal
  length-extended_seal p = length-seal n (subkey n key nonce) (inner_nonce nonce) p

  pub length-extended_opened : (s : List ℕ) → length (extended_opened n key nonce s) ≡ length s - 16
  unfolding extended_opened
  length-extended_opened s = length-opened n (subkey n key nonce) (inner_nonce nonce) s

  pub extended-authentic : (p : List ℕ) → extended_authentic n key nonce (extended_seal n key nonce p) ≡ true
  unfolding extended_authentic extended_seal
  extended-authentic p = seal-authentic n (subkey n key nonce) (inner_nonce nonce) p

  pub extended-back : (p : List ℕ) → extended_opened n key nonce (extended_seal n key nonce p) ≡ p
  unfolding extended_opened extended_seal
  extended-back p = open-seal n (subkey n key nonce) (inner_nonce nonce) p

  pub extended-long : (s : List ℕ) → extended_authentic n key nonce s ≡ true → 16 ≤ length s
  unfolding extended_authentic
  extended-long s e = authentic-long n (subkey n key nonce) (inner_nonce nonce) s e

  -- ---- the code: under a key k that is the subkey, and a nonce o that has the inner one's words

  module _ (k o : List ℕ) (ek : k ≡ subkey n key nonce) (eo : SameWords o (inner_nonce nonce)) where
    pub extended-seals : (p : List ℕ) {r : List ℕ} → r ≡ seal n k o p → r ≡ extended_seal n key nonce p
    unfolding extended_seal
    extended-seals p e = e ∙ same-seal n k o (inner_nonce nonce) eo p ∙ ap (λ (x : List ℕ). seal n x (inner_nonce nonce) p) ek

    pub extended-opens : (s out : List ℕ) (b : Bool) {r : List ℕ} → b ≡ authentic n k o s → r ≡ cond b (put out 0 (opened n k o s)) out
        → (b ≡ extended_authentic n key nonce s) × (r ≡ cond b (put out 0 (extended_opened n key nonce s)) out)
    unfolding extended_authentic extended_opened
    extended-opens s out b eb er = (
      eb ∙ same-authentic n k o (inner_nonce nonce) eo s ∙ ap (λ (x : List ℕ). authentic n x (inner_nonce nonce) s) ek,
      er ∙ ap (λ (t : List ℕ). cond b (put out 0 t) out)
          (same-opened n k o (inner_nonce nonce) eo s ∙ ap (λ (x : List ℕ). opened n x (inner_nonce nonce) s) ek),
    )
