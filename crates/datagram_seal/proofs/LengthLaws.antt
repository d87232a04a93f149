-- How long a datagram is.
-- Assumes nothing.
use mathlib.Core.Path.{◌≡◌}
use mathlib.Core.Bool.{true}
use mathlib.Core.List.{List}
use Prim.Native.Nat.{ℕ}
use native.Mathlib.Omega.{arith}
use lib.ListN.{length}
use Rattle.protocol.specs.declared.Cipher.{Cipher}
use Rattle.datagram_parts.specs.Headers.{sealed_text}
use Rattle.datagram_parts.proofs.LengthLaws.{length-sealed_text, length-datagram_by}
use Rattle.datagram_seal.specs.declared.Sender.{Sender}
use Rattle.datagram_seal.specs.Sealing.{nonce_fits, sealed_length, datagram}

module _ (cipher : Cipher) (key nonce : List ℕ) (sender : Sender) (time : ℕ) (address : List ℕ) (padding : ℕ) (payload : List ℕ) where
  pub length-datagram : nonce_fits cipher (length nonce) ≡ true
      → length (datagram cipher key nonce sender time address padding payload)
      ≡ sealed_length cipher sender.side (length address) padding (length payload)
  unfolding datagram sealed_length
  length-datagram e =
      let text = sealed_text cipher sender.id sender.packet sender.side time padding address payload in
      omega (
        arith,
        length-datagram_by cipher key nonce sender.id sender.packet text e,
        length-sealed_text cipher sender.id sender.packet sender.side time padding address payload,
      )
