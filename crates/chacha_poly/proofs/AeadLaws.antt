-- What is sealed is authentic and opens to what was sealed, whatever the number of double rounds; and the parts of the code.
-- Assumes nothing.
use mathlib.Core.Path.{◌≡◌, sym, ap, ap₂, ◌∙◌}
use mathlib.Core.Bool.{true}
use mathlib.Core.List.{List, ◌++◌}
use Prim.Native.Nat.{ℕ, ◌+◌, ◌-◌, ◌≤◌}
use native.Mathlib.Nat.{zero-add}
use native.Mathlib.Omega.{arith}
use lib.Dec.{lit≤}
use lib.ListN.{length, take, drop, length-append, length-drop}
use lib.Seq.{take_at, drop_at, length-take-le}
use Rattle.octets.specs.Buffers.{put, same}
use Rattle.octets.proofs.BufferLaws.{length-put, take_put, put-again, same_refl, same-eq}
use Rattle.chacha.specs.ChaCha.{key_stream, stream}
use Rattle.chacha.proofs.StreamLaws.{length-stream, stream-back, first-bytes}
use Rattle.poly1305.specs.Poly1305.{mac, mac_data}
use Rattle.poly1305.proofs.TagLaws.{length-mac}
use Rattle.chacha_poly.specs.Aead.{one_time_key, crypt, tag, seal, text_of, tag_of, Authentic, authentic, opened}

-- ---- sealing and opening

module _ (n : ℕ) (key nonce : List ℕ) where
  pub length-crypt : (s : List ℕ) → length (crypt n key nonce s) ≡ length s
  unfolding crypt
  length-crypt s = length-stream n key 1 nonce s

  pub length-opened : (s : List ℕ) → length (opened n key nonce s) ≡ length s - 16
  unfolding opened text_of
  length-opened s = length-crypt (take (length s - 16) s) ∙ length-take-le (length s - 16) s (omega arith)

  pub length-tag : (c : List ℕ) → length (tag n key nonce c) ≡ 16
  unfolding tag
  length-tag c = length-mac (one_time_key n key nonce) (mac_data c)

  -- opening gives a text exactly when the tag is that of the text
  pub authentic-exactly : (s : List ℕ)
      → (authentic n key nonce s ≡ true → Authentic n key nonce s) × (Authentic n key nonce s → authentic n key nonce s ≡ true)
  unfolding authentic
  authentic-exactly s = (
    λ e. record { good = sym (same-eq (tag n key nonce (text_of s)) (tag_of s) e) },
    λ a. ap (same (tag n key nonce (text_of s))) a.good ∙ same_refl (tag n key nonce (text_of s)),
  )

  pub authentic-long : (s : List ℕ) → authentic n key nonce s ≡ true → 16 ≤ length s
  unfolding tag_of
  authentic-long s e =
      let good = ((authentic-exactly s).0 e).good in
      let l : length (drop (length s - 16) s) ≡ 16 = ap length good ∙ length-tag (text_of s) in
      omega (arith, l, length-drop (length s - 16) s)

  module _ (p : List ℕ) where
    pub length-seal : length (seal n key nonce p) ≡ length p + 16
    unfolding seal
    length-seal = let c = crypt n key nonce p in omega (arith, length-append c (tag n key nonce c), length-crypt p, length-tag c)

    seam : length (crypt n key nonce p) ≡ length (seal n key nonce p) - 16
    seam = omega (arith, length-seal, length-crypt p)

    text-seal : text_of (seal n key nonce p) ≡ crypt n key nonce p
    unfolding text_of seal
    text-seal = let c = crypt n key nonce p in take_at c (tag n key nonce c) (length (seal n key nonce p) - 16) seam

    tag-seal : tag_of (seal n key nonce p) ≡ tag n key nonce (crypt n key nonce p)
    unfolding tag_of seal
    tag-seal = let c = crypt n key nonce p in drop_at c (tag n key nonce c) (length (seal n key nonce p) - 16) seam

    -- what is sealed is authentic
    pub seal-authentic : authentic n key nonce (seal n key nonce p) ≡ true
    seal-authentic = (authentic-exactly (seal n key nonce p)).1 (record { good = tag-seal ∙ ap (tag n key nonce) (sym text-seal) })

    -- and opens to the same text
    pub open-seal : opened n key nonce (seal n key nonce p) ≡ p
    unfolding opened crypt
    open-seal = ap (stream n key 1 nonce) text-seal ∙ stream-back n key 1 nonce p

-- ---- in place

module _ (text out : List ℕ) (fits : length text ≤ length out) where
  take-copied : take (length text) (put out 0 text) ≡ text
  take-copied = ap (λ (k : ℕ). take k (put out 0 text)) (sym (zero-add (length text))) ∙ take_put out 0 text (omega arith)

  -- a text that is copied to the front and then encrypted or decrypted there
  pub crypt-law : (n : ℕ) (key nonce o r : List ℕ) → o ≡ put out 0 text
      → r ≡ put o 0 (crypt n key nonce (take (length text) o)) → r ≡ put out 0 (crypt n key nonce text)
  crypt-law n key nonce o r eo er =
      er ∙ (λ i. put (eo i) 0 (crypt n key nonce ((ap (take (length text)) eo ∙ take-copied) i)))
      ∙ put-again out text (crypt n key nonce text) (omega arith) (length-crypt n key nonce text)

-- the first bytes of a buffer, encrypted or decrypted where they stand
pub front-law : (n : ℕ) (key nonce out k : List ℕ) (len : ℕ) → len ≤ length out → k ≡ crypt n key nonce (take len out)
    → k ++ drop len out ≡ put out 0 (crypt n key nonce (take len out))
unfolding crypt put
front-law n key nonce out k len h ek =
    let t = take len out in
    let l : len ≡ 0 + length (crypt n key nonce t) = sym (zero-add _ ∙ length-crypt n key nonce t ∙ length-take-le len out h) in
    ap₂ (λ (x y : List ℕ). x ++ y) ek (ap (λ (m : ℕ). drop m out) l)

-- the tag under the first half of block 0, which is the first of four
pub tag-law : (n : ℕ) (key nonce c four t : List ℕ) → four ≡ key_stream n key 0 nonce 4 → t ≡ mac (take 32 four) (mac_data c) → t ≡ tag n key nonce c
unfolding tag one_time_key
tag-law n key nonce c four t ef et =
    et ∙ ap (λ (x : List ℕ). mac x (mac_data c)) (ap (take 32) ef ∙ first-bytes n key 0 nonce 3 32 (lit≤ tt))

-- a ciphertext and its tag
pub seal-law : (n : ℕ) (key nonce p c t : List ℕ) → c ≡ crypt n key nonce p → t ≡ tag n key nonce c → c ++ t ≡ seal n key nonce p
unfolding seal
seal-law n key nonce p c t ec et = ap₂ (λ (x y : List ℕ). x ++ y) ec (et ∙ ap (tag n key nonce) ec)

-- the tag that was found, compared with the last 16 bytes
pub authentic-law : (n : ℕ) (key nonce s c t u : List ℕ) → c ≡ text_of s → t ≡ tag n key nonce c → u ≡ tag_of s → same t u ≡ authentic n key nonce s
unfolding authentic
authentic-law n key nonce s c t u ec et eu = ap₂ same (et ∙ ap (tag n key nonce) ec) eu

-- a text at the front of a buffer with 16 bytes more
pub text_of-put : (d p o : List ℕ) → length d ≡ length p + 16 → o ≡ put d 0 p → text_of o ≡ p
unfolding text_of
text_of-put d p o l e =
    let h : 0 + length p ≤ length d = omega arith in
    let k : length (put d 0 p) - 16 ≡ 0 + length p = omega (arith, l, length-put d 0 p h) in
    ap text_of e ∙ ap (λ (m : ℕ). take m (put d 0 p)) k ∙ take_put d 0 p h
