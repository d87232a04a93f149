-- How long each part of a datagram is.
-- Assumes nothing.
use mathlib.Core.Path.{◌≡◌, refl, ap, ap₂, ◌∙◌}
use mathlib.Core.Bool.{true}
use mathlib.Core.List.{List, ◌++◌}
use Prim.Native.Nat.{ℕ, ◌+◌, ◌-◌, ◌≤◌}
use native.Mathlib.Omega.{arith}
use lib.ListN.{length, replicate, length-append, length-drop, length-replicate}
use borrow.Author.Tests.{eqb-true}
use Rattle.octets.specs.Numbers.{to_be}
use Rattle.octets.proofs.NumberLaws.{length-to_be}
use Rattle.aes.specs.Keyed.{nk_of}
use Rattle.aes.proofs.BlockLaws.{length-aes}
use Rattle.gcm.specs.Keyed.{ciph_of}
use Rattle.gcm.proofs.GcmLaws.{length-seal}
use Rattle.chacha_poly.specs.Extended.{extended_seal}
use Rattle.chacha_poly.proofs.ExtendedLaws.{length-extended_seal}
use Rattle.protocol.specs.declared.Cipher.{Cipher}
use Rattle.protocol.specs.declared.Cipher.TheVariants.{AesGcm, ChaChaPoly}
use Rattle.protocol.specs.Subkey.{session_subkey}
use Rattle.datagram_parts.specs.declared.Side.{Side}
use Rattle.datagram_parts.specs.declared.Side.TheVariants.{Client, Server}
use Rattle.datagram_parts.specs.Headers.{separate_header, nonce, client_field, fixed_part, fixed_length, plaintext, inner_ids, main_start, sealed_text}
use Rattle.datagram_parts.specs.Parts.{nonce_length, overhead, nonce_fits, separate_block, seal_body, datagram_by}

-- ---- the separate header

pub length-separate_header : (id packet : ℕ) → length (separate_header id packet) ≡ 16
unfolding separate_header
length-separate_header id packet =
    length-append (to_be 8 id) (to_be 8 packet) ∙ ap₂ (λ (a b : ℕ). a + b) (length-to_be 8 id) (length-to_be 8 packet)

pub length-nonce : (id packet : ℕ) → length (nonce id packet) ≡ 12
unfolding nonce
length-nonce id packet =
    length-drop 4 (separate_header id packet) ∙ ap (λ (n : ℕ). n - 4) (length-separate_header id packet)

pub length-separate_block : (key : List ℕ) (id packet : ℕ) → length (separate_block key id packet) ≡ 16
unfolding separate_block
length-separate_block key id packet = length-aes (nk_of (length key)) key (separate_header id packet)

-- ---- the body

pub fixed-least : (side : Side) → 11 ≤ fixed_length side
fixed-least Client = omega arith
fixed-least (Server client) = omega arith

pub fixed-most : (side : Side) → fixed_length side ≤ 19
fixed-most Client = omega arith
fixed-most (Server client) = omega arith

pub length-client_field : (side : Side) → 11 + length (client_field side) ≡ fixed_length side
length-client_field Client = refl
length-client_field (Server client) = ap (λ (n : ℕ). 11 + n) (length-to_be 8 client)

module _ (side : Side) (time padding : ℕ) where
  pub length-fixed_part : length (fixed_part side time padding) ≡ fixed_length side
  unfolding fixed_part
  length-fixed_part =
      omega (
        arith,
        length-append (to_be 8 time) (client_field side ++ to_be 2 padding),
        length-append (client_field side) (to_be 2 padding),
        length-to_be 8 time,
        length-to_be 2 padding,
        length-client_field side,
      )

  pub length-plaintext : (address payload : List ℕ)
      → length (plaintext side time padding address payload) ≡ fixed_length side + padding + length address + length payload
  unfolding plaintext
  length-plaintext address payload =
      omega (
        arith,
        length-append (fixed_part side time padding) (replicate padding 0 ++ (address ++ payload)),
        length-append (replicate padding 0) (address ++ payload),
        length-append address payload,
        length-replicate {A = ℕ} padding 0,
        length-fixed_part,
      )

-- ---- all that is sealed

pub length-inner_ids : (cipher : Cipher) (id packet : ℕ) → length (inner_ids cipher id packet) ≡ main_start cipher
length-inner_ids AesGcm id packet = refl
length-inner_ids (ChaChaPoly n) id packet = length-separate_header id packet

pub length-sealed_text : (cipher : Cipher) (id packet : ℕ) (side : Side) (time padding : ℕ) (address payload : List ℕ)
    → length (sealed_text cipher id packet side time padding address payload)
    ≡ main_start cipher + (fixed_length side + padding + length address + length payload)
unfolding sealed_text
length-sealed_text cipher id packet side time padding address payload =
    omega (
      arith,
      length-append (inner_ids cipher id packet) (plaintext side time padding address payload),
      length-inner_ids cipher id packet,
      length-plaintext side time padding address payload,
    )

-- ---- the datagram

pub length-seal_body : (key : List ℕ) (id packet : ℕ) (text : List ℕ) → length (seal_body key id packet text) ≡ length text + 16
unfolding seal_body
length-seal_body key id packet text = length-seal (ciph_of (session_subkey key id)) (nonce id packet) text

pub length-datagram_by : (cipher : Cipher) (key nonce : List ℕ) (id packet : ℕ) (text : List ℕ) → nonce_fits cipher (length nonce) ≡ true
    → length (datagram_by cipher key nonce id packet text) ≡ length text + overhead cipher
unfolding datagram_by
length-datagram_by AesGcm key nonce id packet text e =
    omega (
      arith,
      length-append (separate_block key id packet) (seal_body key id packet text),
      length-separate_block key id packet,
      length-seal_body key id packet text,
    )
length-datagram_by (ChaChaPoly n) key nonce id packet text e =
    omega (
      arith,
      length-append nonce (extended_seal n key nonce text),
      eqb-true (length nonce) nonce_length e,
      length-extended_seal n key nonce text,
    )
