-- The subkey of a session and the nonce of a datagram, as the sealer and the opener have them in their buffers.
-- Assumes nothing.
use mathlib.Core.Path.{◌≡◌, sym, ap, ap₂, ◌∙◌}
use mathlib.Core.List.{List, ◌++◌}
use Prim.Native.Nat.{ℕ, ◌<◌}
use native.Mathlib.Nat.{zero-add}
use native.Mathlib.Omega.{arith}
use lib.ListN.{length, take, drop, length-drop, take-append-drop}
use lib.Seq.{length-take-le, take_all}
use Rattle.octets.specs.Buffers.{put, Octets}
use Rattle.octets.specs.Numbers.{to_be, be}
use Rattle.octets.proofs.BufferLaws.{take_put, octets-take, octets-drop}
use Rattle.octets.proofs.NumberLaws.{be-take, to_be-be}
use Rattle.aes.specs.Keyed.{nk_of}
use Rattle.aes.proofs.KeyedLaws.{key-most}
use Rattle.blake3.specs.Derivation.{subkey_context}
use Rattle.blake3.proofs.DerivationLaws.{length-derive_key}
use Rattle.gcm.specs.Gcm.{seal}
use Rattle.gcm.specs.Keyed.{ciph_of}
use Rattle.protocol.specs.Subkey.{subkey, session_subkey}
use Rattle.datagram_parts.specs.Headers.{separate_header, nonce}
use Rattle.datagram_parts.specs.Parts.{seal_under, seal_body}

module _ (key salt : List ℕ) (least : 0 < nk_of (length key)) where
  -- the subkey is as long as the key
  pub length-subkey : length (subkey key salt) ≡ length key
  unfolding subkey
  length-subkey =
      length-take-le (length key) _ (omega (arith, key-most (length key) least, length-derive_key subkey_context (key ++ salt)))

  -- and is read from the front of the buffer that took it
  pub subkey-front : (d o : List ℕ) → length d ≡ 32 → o ≡ put d 0 (subkey key salt) → take (length key) o ≡ subkey key salt
  subkey-front d o l e =
      ap₂ take (sym (zero-add _ ∙ length-subkey)) e
      ∙ take_put d 0 (subkey key salt) (omega (arith, key-most (length key) least, length-subkey))

-- the last 12 bytes of a header of 16
pub nonce-part : (h : List ℕ) → length h ≡ 16 → take 12 (drop 4 h) ≡ drop 4 h
nonce-part h l = take_all 12 (drop 4 h) (omega (arith, length-drop 4 h, l))

-- ---- a separate header in the clear

module _ (h : List ℕ) (id packet : ℕ) (e : h ≡ separate_header id packet) where
  -- its first 8 bytes are the session ID
  pub header-subkey : (key : List ℕ) → subkey key (take 8 h) ≡ session_subkey key id
  unfolding session_subkey separate_header to_be
  header-subkey key = ap (λ (s : List ℕ). subkey key (take 8 s)) e

  -- and the last 12 the nonce
  pub header-nonce : drop 4 h ≡ nonce id packet
  unfolding nonce
  header-nonce = ap (drop 4) e

  pub under-header : (key text : List ℕ) → seal_under key h text ≡ seal_body key id packet text
  unfolding seal_under seal_body
  under-header key text = λ i. seal (ciph_of (header-subkey key i)) (header-nonce i) text

-- 16 bytes are the header of the two numbers that they hold
pub header-back : (h : List ℕ) → Octets h → length h ≡ 16 → h ≡ separate_header (be 8 h) (be 8 (drop 8 h))
unfolding separate_header
header-back h o l =
    let n : length (take 8 h) ≡ 8 = length-take-le 8 h (omega arith) in
    let m : length (drop 8 h) ≡ 8 = omega (arith, length-drop 8 h, l) in
    let id : to_be 8 (be 8 h) ≡ take 8 h = ap (to_be 8) (sym (be-take 8 h)) ∙ to_be-be {n = 8} {s = take 8 h} (octets-take 8 h o) n in
    let packet : to_be 8 (be 8 (drop 8 h)) ≡ drop 8 h = to_be-be {n = 8} {s = drop 8 h} (octets-drop 8 o) m in
    sym ((λ i. id i ++ packet i) ∙ take-append-drop 8 h)
