-- What GCM seals is authentic and opens to what was sealed, whatever the block cipher; and the parts of the code.
-- Assumes nothing.
use mathlib.Core.Path.{◌≡◌, sym, ap, ap₂, ◌∙◌}
use mathlib.Core.Bool.{Bool, true}
use mathlib.Core.List.{List, ◌++◌}
use Prim.Native.Nat.{ℕ, ◌+◌, ◌-◌, ◌*◌, ◌^◌, ◌<◌, ◌≤◌}
use native.Mathlib.Nat.{zero-add, lt_of_le_of_lt}
use native.Mathlib.Omega.{arith}
use lib.Bits.{bit_xor}
use lib.Dec.{lit<}
use lib.ListN.{length, take, drop, length-append}
use lib.Seq.{take_at, drop_at, take-take, drop-drop, length-take-le}
use Rattle.octets.specs.Buffers.{put, same}
use Rattle.octets.specs.Numbers.{to_be}
use Rattle.octets.proofs.BufferLaws.{rest, length-put, take_put, drop-put, put-put, put-again, put_whole, same_refl, same-eq}
use Rattle.octets.proofs.NumberLaws.{length-to_be}
use Rattle.ghash.specs.Field.{mul}
use Rattle.ghash.specs.Ghash.{blocks, ghash_from, ghash}
use Rattle.ghash.specs.Words.{words}
use Rattle.ghash.proofs.GhashLaws.{ghash-snoc}
use Rattle.ctr.specs.Gctr.{inc32, gctr, counter_block}
use Rattle.ctr.proofs.CounterLaws.{counter_next}
use Rattle.ctr.proofs.GctrLaws.{length-gctr, gctr-twice}
use Rattle.gcm.specs.Gcm.{hash_key, j0, hashed, tag, crypt, seal, text_of, tag_of, Authentic, opened}
use Rattle.gcm.specs.Keyed.{max_text, authentic}

-- ---- the hash

pub hash-law : (h y : ℕ) (c : List ℕ) → y ≡ ghash_from h 0 (blocks c) → mul (bit_xor y (words 0 (8 * length c))) h ≡ hashed h c
unfolding hashed ghash
hash-law h y c e =
    ap₂ (λ (a b : ℕ). mul (bit_xor a b) h) e (zero-add (8 * length c)) ∙ sym (ghash-snoc h 0 (blocks c) (8 * length c))

-- the block of lengths is one
pub bits-lt : (n : ℕ) → n ≤ max_text → words 0 (8 * n) < 2 ^ 128
bits-lt n l =
    let b : words 0 (8 * n) ≤ 8 * max_text = omega arith in
    lt_of_le_of_lt b (lit< tt)

-- ---- sealing and opening

-- the second counter block is the first one's successor
second : (nonce : List ℕ) → counter_block nonce 2 ≡ inc32 (j0 nonce)
unfolding j0
second nonce = sym (counter_next nonce 1 (lit< tt))

module _ (ciph : ℕ → List ℕ) (nonce : List ℕ) where
  pub length-crypt : (s : List ℕ) → length (crypt ciph nonce s) ≡ length s
  unfolding crypt
  length-crypt s = length-gctr ciph (inc32 (j0 nonce)) s

  pub length-opened : (s : List ℕ) → length (opened ciph nonce s) ≡ length s - 16
  unfolding opened text_of
  length-opened s = length-crypt (take (length s - 16) s) ∙ length-take-le (length s - 16) s (omega arith)

  pub length-tag : (c : List ℕ) → length (tag ciph nonce c) ≡ 16
  unfolding tag
  length-tag c = let s = hashed (hash_key ciph) c in length-gctr ciph (j0 nonce) (to_be 16 s) ∙ length-to_be 16 s

  module _ (p : List ℕ) where
    pub length-seal : length (seal ciph nonce p) ≡ length p + 16
    unfolding seal
    length-seal = let c = crypt ciph nonce p in omega (arith, length-append c (tag ciph nonce c), length-crypt p, length-tag c)

    seam : length (crypt ciph nonce p) ≡ length (seal ciph nonce p) - 16
    seam = omega (arith, length-seal, length-crypt p)

    text-seal : text_of (seal ciph nonce p) ≡ crypt ciph nonce p
    unfolding text_of seal
    text-seal = let c = crypt ciph nonce p in take_at c (tag ciph nonce c) (length (seal ciph nonce p) - 16) seam

    tag-seal : tag_of (seal ciph nonce p) ≡ tag ciph nonce (crypt ciph nonce p)
    unfolding tag_of seal
    tag-seal = let c = crypt ciph nonce p in drop_at c (tag ciph nonce c) (length (seal ciph nonce p) - 16) seam

    -- what is sealed is authentic
    pub seal-authentic : Authentic ciph nonce (seal ciph nonce p)
    seal-authentic = record { good = tag-seal ∙ ap (tag ciph nonce) (sym text-seal) }

    -- and opens to the same text
    pub open-seal : opened ciph nonce (seal ciph nonce p) ≡ p
    unfolding opened crypt
    open-seal = ap (gctr ciph (inc32 (j0 nonce))) text-seal ∙ gctr-twice ciph (inc32 (j0 nonce)) p

-- ---- in place

module _ (text out : List ℕ) (fits : length text ≤ length out) where
  take-copied : take (length text) (put out 0 text) ≡ text
  take-copied = ap (λ (n : ℕ). take n (put out 0 text)) (sym (zero-add (length text))) ∙ take_put out 0 text (omega arith)

  drop-copied : drop (length text) (put out 0 text) ≡ drop (length text) out
  drop-copied =
      ap (λ (n : ℕ). drop n (put out 0 text)) (sym (zero-add (length text))) ∙ drop-put out 0 text (omega arith)
      ∙ ap (λ (n : ℕ). drop n out) (zero-add (length text))

  -- a text that is copied to the front and then encrypted or decrypted there
  pub crypt-law : (ciph : ℕ → List ℕ) (nonce o r : List ℕ) → o ≡ put out 0 text
      → r ≡ put o 0 (crypt ciph nonce (take (length text) o)) → r ≡ put out 0 (crypt ciph nonce text)
  crypt-law ciph nonce o r eo er =
      er ∙ (λ i. put (eo i) 0 (crypt ciph nonce ((ap (take (length text)) eo ∙ take-copied) i)))
      ∙ put-again out text (crypt ciph nonce text) (omega arith) (length-crypt ciph nonce text)

-- the first bytes of a buffer, encrypted or decrypted where they stand
pub front-law : (ciph : ℕ → List ℕ) (nonce out k : List ℕ) (len : ℕ) → len ≤ length out
    → k ≡ gctr ciph (counter_block nonce 2) (take len out) → k ++ drop len out ≡ put out 0 (crypt ciph nonce (take len out))
unfolding crypt put
front-law ciph nonce out k len h ek =
    let t = take len out in
    let n : len ≡ 0 + length (crypt ciph nonce t) = sym (zero-add _ ∙ length-crypt ciph nonce t ∙ length-take-le len out h) in
    ap₂ (λ (x y : List ℕ). x ++ y) (ek ∙ ap (λ (b : ℕ). gctr ciph b t) (second nonce)) (ap (λ (m : ℕ). drop m out) n)

-- the tag behind the ciphertext, in the last 16 bytes
pub seal-law : (ciph : ℕ → List ℕ) (nonce body o t r : List ℕ) → 16 ≤ length body
    → o ≡ put body 0 (crypt ciph nonce (text_of body)) → t ≡ tag ciph nonce (take (length body - 16) o) → r ≡ put o (length body - 16) t
    → r ≡ seal ciph nonce (text_of body)
unfolding seal text_of
seal-law ciph nonce body o t r h eo et er =
    let c = crypt ciph nonce (text_of body) in
    let l : length c ≡ length body - 16 =
    length-crypt ciph nonce (text_of body) ∙ length-take-le (length body - 16) body (omega arith) in
    let n : length body - 16 ≡ 0 + length c = sym (zero-add (length c) ∙ l) in
    let front : take (length body - 16) o ≡ c =
    ap₂ take (sym l) eo ∙ take-copied c body (omega (arith, l)) in
    let whole : length body ≤ length (c ++ tag ciph nonce c) =
    omega (arith, l, length-append c (tag ciph nonce c), length-tag ciph nonce c) in
    er
    ∙ (λ i. put (eo i) (n i) ((et ∙ ap (tag ciph nonce) front) i))
    ∙ put-put body 0 c (omega (arith, l)) (tag ciph nonce c)
    ∙ put_whole body (c ++ tag ciph nonce c) whole

-- a text that is copied to the front of a buffer and sealed there
pub seal-copied : (ciph : ℕ → List ℕ) (nonce text out o k : List ℕ) → length text + 16 ≤ length out → o ≡ put out 0 text
    → k ≡ seal ciph nonce (text_of (take (length text + 16) o)) → k ++ drop (length text + 16) o ≡ put out 0 (seal ciph nonce text)
unfolding put text_of
seal-copied ciph nonce text out o k fits eo ek =
    let n = length text in
    let h : n ≤ length out = omega arith in
    let within : 0 + n ≤ length out = omega arith in
    let room : n + 16 ≤ length (put out 0 text) = omega (arith, length-put out 0 text within) in
    let due : 0 + length (seal ciph nonce text) ≡ n + 16 = zero-add _ ∙ length-seal ciph nonce text in
    let cut : length (take (n + 16) (put out 0 text)) - 16 ≡ n = omega (arith, length-take-le (n + 16) (put out 0 text) room) in
    let least : n ≤ n + 16 = omega arith in
    let front : text_of (take (n + 16) o) ≡ text =
    ap (λ (x : List ℕ). text_of (take (n + 16) x)) eo ∙ ap (λ (m : ℕ). take m (take (n + 16) (put out 0 text))) cut
    ∙ take-take n (n + 16) (put out 0 text) least ∙ take-copied text out h in
    ap₂ (λ (x y : List ℕ). x ++ y) (ek ∙ ap (seal ciph nonce) front)
    (ap (drop (n + 16)) eo ∙ sym (drop-drop 16 n (put out 0 text)) ∙ ap (drop 16) (drop-copied text out h) ∙ drop-drop 16 n out
    ∙ ap (λ (m : ℕ). drop m out) (sym due))

-- the tag that was found, compared with the last 16 bytes
pub authentic-law : (ciph : ℕ → List ℕ) (nonce s t : List ℕ) (b : Bool) → t ≡ tag ciph nonce (take (length s - 16) s)
    → b ≡ same t (take (length s - (length s - 16)) (drop (length s - 16) s)) → b ≡ authentic ciph nonce s
unfolding authentic text_of tag_of
authentic-law ciph nonce s t b et eb = eb ∙ ap₂ same et (rest s (length s - 16))

-- a text at the front of a buffer with 16 bytes more
pub text-put : (d p o : List ℕ) → length d ≡ length p + 16 → o ≡ put d 0 p → text_of o ≡ p
unfolding text_of
text-put d p o l e =
    let h : 0 + length p ≤ length d = omega arith in
    let n : length (put d 0 p) - 16 ≡ 0 + length p = omega (arith, l, length-put d 0 p h) in
    ap text_of e ∙ ap (λ (k : ℕ). take k (put d 0 p)) n ∙ take_put d 0 p h

-- ---- opening gives a text exactly when the tag is that of the text

pub authentic-exactly : (ciph : ℕ → List ℕ) (nonce s : List ℕ)
    → (authentic ciph nonce s ≡ true → Authentic ciph nonce s) × (Authentic ciph nonce s → authentic ciph nonce s ≡ true)
unfolding authentic
authentic-exactly ciph nonce s = (
  λ e. record { good = sym (same-eq (tag ciph nonce (text_of s)) (tag_of s) e) },
  λ a. ap (same (tag ciph nonce (text_of s))) a.good ∙ same_refl (tag ciph nonce (text_of s)),
)
