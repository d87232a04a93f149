-- Authenticated encryption under a nonce of 12 bytes and without additional data, by the cipher of a method: AES-GCM (SP 800-38D),
-- or ChaCha of so many double rounds with Poly1305 (RFC 8439, section 2.8).
use Rattle.std.specs.Prelude.{Bool, List, ◌≡◌, ℕ, ◌<◌}
use Rattle.aes.specs.Keyed.{nk_of}
use Rattle.gcm.specs.Gcm as gcm
pub use Rattle.gcm.specs.Gcm.{tag_length}
unfoldable pub use Rattle.gcm.specs.Gcm.{text_of}
use Rattle.gcm.specs.Keyed as keyed_gcm
pub use Rattle.gcm.specs.Keyed.{max_text, ciph_of}
use Rattle.chacha_poly.specs.Aead as chacha_poly
use Rattle.protocol.specs.declared.Cipher.{Cipher}
use Rattle.protocol.specs.declared.Cipher.TheVariants.{AesGcm, ChaChaPoly}

-- a key, and the cipher that it is for
pub record Keyed : Type 0 where
  pub cipher : Cipher
  pub bytes : List ℕ

abbrev pub keyed : Cipher → List ℕ → Keyed
keyed c key = record { cipher = c; bytes = key }

-- a cipher has keys of so many bytes
abbrev pub KeyFor : Cipher → ℕ → Type 0
KeyFor AesGcm k = 0 < nk_of k
KeyFor (ChaChaPoly n) k = k ≡ 32

-- ---- by the cipher

unfoldable pub seal_by : Cipher → List ℕ → List ℕ → List ℕ → List ℕ
seal_by AesGcm key nonce text = gcm.seal (ciph_of key) nonce text
seal_by (ChaChaPoly n) key nonce text = chacha_poly.seal n key nonce text

unfoldable pub authentic_by : Cipher → List ℕ → List ℕ → List ℕ → Bool
authentic_by AesGcm key nonce s = keyed_gcm.authentic (ciph_of key) nonce s
authentic_by (ChaChaPoly n) key nonce s = chacha_poly.authentic n key nonce s

unfoldable pub opened_by : Cipher → List ℕ → List ℕ → List ℕ → List ℕ
opened_by AesGcm key nonce s = gcm.opened (ciph_of key) nonce s
opened_by (ChaChaPoly n) key nonce s = chacha_poly.opened n key nonce s

-- ---- under a key

abbrev pub seal : Keyed → List ℕ → List ℕ → List ℕ
seal k nonce text = seal_by k.cipher k.bytes nonce text

abbrev pub authentic : Keyed → List ℕ → List ℕ → Bool
authentic k nonce s = authentic_by k.cipher k.bytes nonce s

abbrev pub opened : Keyed → List ℕ → List ℕ → List ℕ
opened k nonce s = opened_by k.cipher k.bytes nonce s
