-- AES-GCM under a key of bytes, on lent buffers: what is lawful, what is answered and what is written.
use Rattle.std.specs.Prelude.{◌≡◌, Bool, true, false, cond, ◌&&◌, List, ℕ, ◌+◌, ◌-◌, ◌≤◌, eqb, leb, ltb, length, Err, Ok, Result}
use Rattle.octets.specs.Buffers.{put, same}
use Rattle.aes.specs.Keyed.{nk_of, KeyLength}
use Rattle.ctr.specs.Gctr.{aes_block}
use Rattle.gcm.specs.Gcm.{tag_length, tag, seal, text_of, tag_of, opened}
use Rattle.gcm.specs.declared.OpenError.{OpenError}
use Rattle.gcm.specs.declared.OpenError.TheVariants.{Forged, Unlawful}

-- the longest text, 2^36 - 32 bytes (5.2.1.1)
abbrev pub max_text : ℕ
max_text = 0xf_ffff_ffe0

-- CIPH_K
abbrev pub ciph_of : List ℕ → ℕ → List ℕ
ciph_of key = aes_block (nk_of (length key)) key

-- a key of k bytes and a nonce of n, a text of len bytes that is not too long, and room for what is due
unfoldable pub fits : ℕ → ℕ → ℕ → ℕ → ℕ → Bool
fits k n len due room = ltb 0 (nk_of k) && (eqb n 12 && (leb len max_text && leb due room))

-- the same as facts, and Nk
pub record Fits (k n len due room nk : ℕ) : Type 0 where
  pub lawful : fits k n len due room ≡ true
  pub words_are : nk ≡ nk_of k
  pub key : KeyLength k nk
  pub nonce : n ≡ 12
  pub text : len ≤ max_text
  pub space : due ≤ room

-- sealing asks for room for the text and its tag, and fills that
unfoldable pub seal_lawful : List ℕ → List ℕ → List ℕ → List ℕ → Bool
seal_lawful key nonce text out = fits (length key) (length nonce) (length text) (length text + tag_length) (length out)

unfoldable pub sealed : List ℕ → List ℕ → List ℕ → List ℕ → List ℕ
sealed key nonce text out = cond (seal_lawful key nonce text out) (put out 0 (seal (ciph_of key) nonce text)) out

-- opening asks for a tag at least, and for room for the text
unfoldable pub open_lawful : List ℕ → List ℕ → List ℕ → List ℕ → Bool
open_lawful key nonce s out = leb tag_length (length s) && fits (length key) (length nonce) (length s - tag_length) (length s - tag_length) (length out)

-- sealing in place asks for room for a tag behind the text
unfoldable pub in_place_lawful : List ℕ → List ℕ → List ℕ → Bool
in_place_lawful key nonce s = open_lawful key nonce s s

unfoldable pub sealed_in_place : List ℕ → List ℕ → List ℕ → List ℕ
sealed_in_place key nonce s = cond (in_place_lawful key nonce s) (seal (ciph_of key) nonce (text_of s)) s

-- whether the tag is that of the text
unfoldable pub authentic : (ℕ → List ℕ) → List ℕ → List ℕ → Bool
authentic ciph nonce s = same (tag ciph nonce (text_of s)) (tag_of s)

abbrev pub answer : Bool → Bool → Result Unit OpenError
answer true true = (Ok tt)
answer true false = (Err Forged)
answer false b = (Err Unlawful)

unfoldable pub open_answer : List ℕ → List ℕ → List ℕ → List ℕ → Result Unit OpenError
open_answer key nonce s out = answer (open_lawful key nonce s out) (authentic (ciph_of key) nonce s)

unfoldable pub open_out : List ℕ → List ℕ → List ℕ → List ℕ → List ℕ
open_out key nonce s out =
    cond (open_lawful key nonce s out && authentic (ciph_of key) nonce s) (put out 0 (opened (ciph_of key) nonce s)) out
