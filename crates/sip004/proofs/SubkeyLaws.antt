-- The subkey: how long it is, that it is made of bytes, and where it stands in a buffer.
-- Assumes nothing.
use mathlib.Core.Path.{◌≡◌, sym, ap, ap₂, ◌∙◌}
use mathlib.Core.Bool.{Bool, true}
use mathlib.Core.List.{List, ◌++◌}
use Prim.Native.Nat.{ℕ, ◌≤◌}
use native.Mathlib.Nat.{zero-add}
use native.Mathlib.Omega.{arith}
use lib.ListN.{length, take, drop}
use lib.Seq.{length-take-le}
use Rattle.octets.specs.Buffers.{Octets, put}
use Rattle.octets.proofs.BufferLaws.{take_put, part-put}
use Rattle.hkdf.specs.Hkdf.{hkdf, lawful, given}
use Rattle.hkdf.proofs.ExpandLaws.{taken-both}
use Rattle.hkdf.proofs.HkdfLaws.{length-hkdf, octets-hkdf}
use Rattle.sip004.specs.Subkey.{subkey_info, subkey}

module _ (key salt : List ℕ) where
  pub length-subkey : length (subkey key salt) ≡ length key
  unfolding subkey
  length-subkey = length-hkdf salt key subkey_info (length key)

  pub octets-subkey : Octets (subkey key salt)
  unfolding subkey
  octets-subkey = octets-hkdf salt key subkey_info (length key)

  -- HKDF in the front of a buffer
  pub derived : (out o : List ℕ) (b : Bool) → length key ≤ 32 → 32 ≤ length out → b ≡ lawful subkey_info (length (take (length key) out))
      → o ≡ given b (hkdf salt key subkey_info (length (take (length key) out))) (take (length key) out)
      → o ++ drop (length key) out ≡ put out 0 (subkey key salt)
  unfolding subkey
  derived out o b short room eb eo =
      let l : length (take (length key) out) ≡ length key = length-take-le (length key) out (omega arith) in
      let t : b ≡ true = eb ∙ sym (taken-both subkey_info (length (take (length key) out)) (omega arith) (omega (arith, l))) in
      let e : o ≡ subkey key salt = eo ∙ (λ i. given (t i) (hkdf salt key subkey_info (l i)) (take (length key) out)) in
      ap (λ (s : List ℕ). s ++ drop (length key) out) e ∙ part-put out (subkey key salt) 0 (length key) length-subkey

  -- and read from there
  pub subkey-front : (d o : List ℕ) → length key ≤ length d → o ≡ put d 0 (subkey key salt) → take (length key) o ≡ subkey key salt
  subkey-front d o room e =
      ap₂ take (sym (zero-add _ ∙ length-subkey)) e ∙ take_put d 0 (subkey key salt) (omega (arith, length-subkey))
