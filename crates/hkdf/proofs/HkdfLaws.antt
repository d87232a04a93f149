-- What HKDF gives: as many bytes as were asked for.
-- Assumes nothing.
use mathlib.Core.Path.{◌≡◌}
use mathlib.Core.List.{List, [], ◌∷◌, ◌++◌}
use Prim.Native.Nat.{ℕ, zero, suc, ◌+◌, ◌/◌}
use native.Mathlib.Omega.{arith}
use lib.ListN.{length}
use lib.Seq.{length-take-le}
use Rattle.octets.specs.Buffers.{Octets, ◌⊞◌}
use Rattle.octets.proofs.BufferLaws.{octets-nil, octets-append, octets-take}
use Rattle.sha1_hash.specs.Hash.{sha1}
use Rattle.sha1_hash.proofs.DigestLaws.{octets-sha1}
use Rattle.hmac.specs.Hmac.{ipad, opad, short_key, block_key, hmac_short, hmac}
use Rattle.hkdf.specs.Hkdf.{extract, T, joined_t, expand, hkdf}
use Rattle.hkdf.proofs.ExpandLaws.{length-joined}

octets-hmac : (k text : List ℕ) → Octets (hmac k text)
unfolding hmac hmac_short
octets-hmac k text = octets-sha1 ((block_key (short_key k) ⊞ opad) ++ sha1 ((block_key (short_key k) ⊞ ipad) ++ text))

octets-joined : (prk info : List ℕ) (n : ℕ) → Octets (joined_t prk info n)
unfolding joined_t T
octets-joined prk info zero = octets-nil
octets-joined prk info (suc n) =
    octets-append (joined_t prk info n) (T prk info (suc n)) (octets-joined prk info n) (octets-hmac prk (T prk info n ++ (info ++ suc n ∷ [])))

module _ (salt ikm info : List ℕ) (l : ℕ) where
  pub length-hkdf : length (hkdf salt ikm info l) ≡ l
  unfolding hkdf expand
  length-hkdf =
      let n = (l + 19) / 20 in
      length-take-le l (joined_t (extract salt ikm) info n) (omega (arith, length-joined (extract salt ikm) info n))

  pub octets-hkdf : Octets (hkdf salt ikm info l)
  unfolding hkdf expand
  octets-hkdf = octets-take l _ (octets-joined (extract salt ikm) info ((l + 19) / 20))
