-- A datagram in the document's words and in those of the definitions.
-- Assumes nothing.
use mathlib.Core.Path.{◌≡◌, sym, ap, ◌∙◌}
use mathlib.Core.Bool.{true}
use mathlib.Core.List.{List, ◌++◌}
use Prim.Native.Nat.{ℕ, ◌+◌, ◌-◌, ◌≤◌}
use native.Mathlib.Nat.{zero-add}
use native.Mathlib.Omega.{arith}
use lib.ListN.{length, take, drop, length-drop}
use lib.Seq.{drop-drop, take_at, drop_at}
use Rattle.octets.specs.Buffers.{put, same}
use Rattle.octets.proofs.BufferLaws.{same_refl, same-eq}
use Rattle.gcm.specs.Gcm.{tag, crypt, seal, text_of, tag_of, opened}
use Rattle.gcm.specs.Keyed.{ciph_of, authentic}
use Rattle.gcm.proofs.GcmLaws.{length-opened, seal-authentic, open-seal, authentic-exactly}
use Rattle.sip004.specs.Subkey.{subkey}
use Rattle.sip004.specs.Datagram.{zero_nonce, datagram, subkey_of, body_authentic, payload_of}
use Rattle.sip004_demands.specs.Datagrams.{cipher, nonce, salt_in, body_in, tag_in, TagGood}

-- a string at the front of a buffer
pub front : (out t : List ℕ) (n : ℕ) → length t ≡ n → put out 0 t ≡ t ++ drop n out
unfolding put
front out t n e = ap (λ (m : ℕ). t ++ drop m out) (zero-add (length t) ∙ e)

-- ---- a datagram that is opened

pub length-payload : (key s : List ℕ) → length (payload_of key s) ≡ length s - (length key + 16)
unfolding payload_of
length-payload key s =
    omega (arith, length-opened (ciph_of (subkey_of key s)) zero_nonce (drop (length key) s), length-drop (length key) s)

-- the parts behind the salt
module _ (key s : List ℕ) where
  abbrev behind : List ℕ
  behind = drop (length key) s

  body_is : text_of behind ≡ body_in (length key) s
  unfolding text_of
  body_is =
      let e : length behind - 16 ≡ length s - (length key + 16) = omega (arith, length-drop (length key) s) in
      ap (λ (n : ℕ). take n behind) e

  pub payload-is : payload_of key s ≡ crypt (cipher key (salt_in (length key) s)) nonce (body_in (length key) s)
  unfolding payload_of opened subkey_of subkey
  payload-is = ap (crypt (cipher key (salt_in (length key) s)) nonce) body_is

  module _ (least : length key + 16 ≤ length s) where
    tag_is : tag_of behind ≡ tag_in s
    unfolding tag_of
    tag_is =
        let e : length key + (length behind - 16) ≡ length s - 16 = omega (arith, length-drop (length key) s) in
        drop-drop (length behind - 16) (length key) s ∙ ap (λ (n : ℕ). drop n s) e

    pub authentic-is : body_authentic key s ≡ same (tag (cipher key (salt_in (length key) s)) nonce (body_in (length key) s)) (tag_in s)
    unfolding body_authentic authentic subkey_of subkey
    authentic-is = λ i. same (tag (cipher key (salt_in (length key) s)) nonce (body_is i)) (tag_is i)

    pub tag-good : body_authentic key s ≡ true → TagGood key s
    tag-good e = sym (same-eq _ _ (sym authentic-is ∙ e))

    pub good-tag : TagGood key s → body_authentic key s ≡ true
    good-tag g =
        let t = tag (cipher key (salt_in (length key) s)) nonce (body_in (length key) s) in
        authentic-is ∙ ap (same t) g ∙ same_refl t

-- ---- a datagram that was sealed

module _ (key salt payload : List ℕ) (same_length : length salt ≡ length key) where
  abbrev sealed : List ℕ
  sealed = seal (ciph_of (subkey key salt)) zero_nonce payload

  salt-back : take (length key) (datagram key salt payload) ≡ salt
  unfolding datagram
  salt-back = take_at salt sealed (length key) same_length

  rest_back : drop (length key) (datagram key salt payload) ≡ sealed
  unfolding datagram
  rest_back = drop_at salt sealed (length key) same_length

  -- it is authentic
  pub datagram-authentic : body_authentic key (datagram key salt payload) ≡ true
  unfolding body_authentic subkey_of
  datagram-authentic =
      (λ i. authentic (ciph_of (subkey key (salt-back i))) zero_nonce (rest_back i))
      ∙ (authentic-exactly (ciph_of (subkey key salt)) zero_nonce sealed).1 (seal-authentic (ciph_of (subkey key salt)) zero_nonce payload)

  -- and its text is the payload
  pub payload-back : payload_of key (datagram key salt payload) ≡ payload
  unfolding payload_of subkey_of
  payload-back =
      (λ i. opened (ciph_of (subkey key (salt-back i))) zero_nonce (rest_back i)) ∙ open-seal (ciph_of (subkey key salt)) zero_nonce payload
