-- draft-irtf-cfrg-xchacha, section 2.3: the AEAD with a nonce of 24 bytes, over the number n of double rounds, which is also HChaCha's.
use Rattle.std.specs.Prelude.{Bool, ◌≡◌, List, ◌∷◌, ℕ, take, drop}
use Rattle.chacha.specs.Words.{word}
use Rattle.chacha.specs.ChaCha.{hchacha}
use Rattle.chacha_poly.specs.Aead.{seal, authentic, opened}

-- the key: HChaCha of the key and the nonce's first 16 bytes
unfoldable pub subkey : ℕ → List ℕ → List ℕ → List ℕ
subkey n key nonce = hchacha n key (take 16 nonce)

-- the nonce: four zeros and the other 8 bytes
unfoldable pub inner_nonce : List ℕ → List ℕ
inner_nonce nonce = 0 ∷ 0 ∷ 0 ∷ 0 ∷ take 8 (drop 16 nonce)

unfoldable pub extended_seal : ℕ → List ℕ → List ℕ → List ℕ → List ℕ
extended_seal n key nonce p = seal n (subkey n key nonce) (inner_nonce nonce) p

unfoldable pub extended_authentic : ℕ → List ℕ → List ℕ → List ℕ → Bool
extended_authentic n key nonce s = authentic n (subkey n key nonce) (inner_nonce nonce) s

unfoldable pub extended_opened : ℕ → List ℕ → List ℕ → List ℕ → List ℕ
extended_opened n key nonce s = opened n (subkey n key nonce) (inner_nonce nonce) s

-- two nonces that are the same to ChaCha, which reads three words and takes a byte past the end as 0
pub record SameWords (a b : List ℕ) : Type 0 where
  pub first : word a 0 ≡ word b 0
  pub second : word a 1 ≡ word b 1
  pub third : word a 2 ≡ word b 2
