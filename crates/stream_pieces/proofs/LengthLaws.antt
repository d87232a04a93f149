-- How long a piece is.
-- Assumes nothing.
use mathlib.Core.Path.{◌≡◌}
use mathlib.Core.List.{List, ◌++◌}
use Prim.Native.Nat.{ℕ, ◌+◌, ◌-◌}
use native.Mathlib.Omega.{arith}
use lib.ListN.{length, length-append}
use Rattle.octets.specs.Numbers.{to_be}
use Rattle.octets.proofs.NumberLaws.{length-to_be, length-to_le}
use Rattle.aead.specs.Aead.{Keyed}
use Rattle.aead.proofs.AeadLaws.{length-seal_by, length-opened_by}
use Rattle.stream_pieces.specs.declared.Subkey.{Subkey}
use Rattle.stream_pieces.specs.Pieces.{nonce, seal_at, open_at, subkey_bytes}

pub length-nonce : (counter : ℕ) → length (nonce counter) ≡ 12
unfolding nonce
length-nonce counter = length-to_le 12 counter

pub length-subkey_bytes : (w : Subkey) → length (subkey_bytes w) ≡ 32
unfolding subkey_bytes
length-subkey_bytes w =
    let c = to_be 8 w.c ++ to_be 8 w.d in
    let b = to_be 8 w.b ++ c in
    omega (
      arith,
      length-append (to_be 8 w.a) b,
      length-append (to_be 8 w.b) c,
      length-append (to_be 8 w.c) (to_be 8 w.d),
      length-to_be 8 w.a,
      length-to_be 8 w.b,
      length-to_be 8 w.c,
      length-to_be 8 w.d,
    )

module _ (key : Keyed) (counter : ℕ) where
  pub length-seal_at : (text : List ℕ) → length (seal_at key counter text) ≡ length text + 16
  unfolding seal_at
  length-seal_at text = length-seal_by key.cipher key.bytes (nonce counter) text

  pub length-open_at : (s : List ℕ) → length (open_at key counter s) ≡ length s - 16
  unfolding open_at
  length-open_at s = length-opened_by key.cipher key.bytes (nonce counter) s
