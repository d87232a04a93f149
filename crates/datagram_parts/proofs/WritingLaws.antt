-- What the writers leave, step by step, is the part of a datagram that they write.
-- Assumes nothing.
use mathlib.Core.Path.{◌≡◌, refl, sym, ap, ap₂, ◌∙◌}
use mathlib.Core.List.{List, [], ◌∷◌, ◌++◌, append_assoc, append-nil}
use Prim.Native.Nat.{ℕ, ◌+◌, ◌-◌, ◌≤◌, ◌<◌}
use native.Mathlib.Omega.{arith}
use lib.ListN.{length, set, replicate, length-append, length-replicate, take, drop, length-drop, drop_of_length-le}
use Rattle.octets.specs.Buffers.{put}
use Rattle.octets.specs.Numbers.{to_be}
use Rattle.octets.proofs.BufferLaws.{put-behind, put_one, put_whole, part-put, take_put, drop-put, rest}
use Rattle.octets.proofs.NumberLaws.{length-to_be}
use Rattle.aes.specs.KeyExpansion.{aes}
use Rattle.aes.specs.Keyed.{nk_of, in_place}
use Rattle.aes.proofs.BlockLaws.{length-aes}
use Rattle.aes.proofs.KeyedLaws.{in-place-lawful}
use Rattle.gcm.specs.Gcm.{text_of}
use Rattle.gcm.specs.Keyed.{max_text, sealed_in_place}
use Rattle.gcm.proofs.KeyedLaws.{in-place-seals}
use Rattle.chacha_poly.specs.Aead.{text_of as chacha_text}
use Rattle.chacha_poly.specs.Extended.{extended_seal}
use Rattle.protocol.specs.declared.Cipher.{Cipher}
use Rattle.protocol.specs.declared.Cipher.TheVariants.{AesGcm, ChaChaPoly}
use Rattle.protocol.specs.Subkey.{subkey}
use Rattle.datagram_parts.specs.declared.Side.{Side}
use Rattle.datagram_parts.specs.declared.Side.TheVariants.{Client, Server}
use Rattle.datagram_parts.specs.Headers.{separate_header, fixed_part, fixed_length, plaintext, inner_ids, main_start, sealed_text}
use Rattle.datagram_parts.specs.Parts.{max_datagram, nonce_length, lead_length, separate_block, seal_under, seal_body, datagram_by}
use Rattle.datagram_parts.proofs.LengthLaws.{length-separate_header, length-separate_block, length-fixed_part, length-inner_ids}
use Rattle.datagram_parts.proofs.SubkeyLaws.{length-subkey, under-header}

-- ---- a string at the front of a buffer, and what becomes of the part behind it that is lent

module _ (d s v : List ℕ) (k : ℕ) (size : length s ≡ k) (fits : k ≤ length d) (ev : v ≡ put d 0 s) where
  ends : k ≡ 0 + length s
  ends = omega arith

  inside : 0 + length s ≤ length d
  inside = omega arith

  -- nothing is behind the part
  whole_part : (b : List ℕ) → take k v ++ (b ++ drop (length v - k) (drop k v)) ≡ take k v ++ b
  whole_part b =
      let e : length (drop k v) ≤ length v - k = omega (arith, length-drop k v) in
      ap (λ (x : List ℕ). take k v ++ (b ++ x)) (drop_of_length-le (drop k v) e) ∙ ap (λ (x : List ℕ). take k v ++ x) (append-nil b)

  pub lent-part : take (length v - k) (drop k v) ≡ drop k d
  lent-part = rest v k ∙ (λ i. drop (ends i) (ev i)) ∙ drop-put d 0 s inside ∙ ap (λ (n : ℕ). drop n d) (sym ends)

  -- it is filled
  pub filled-behind : (b : List ℕ) → take k v ++ (b ++ drop (length v - k) (drop k v)) ≡ s ++ b
  filled-behind b = whole_part b ∙ ap (λ (x : List ℕ). x ++ b) ((λ i. take (ends i) (ev i)) ∙ take_put d 0 s inside)

  -- or a string is put to its front
  pub front-behind : (t b : List ℕ) → b ≡ put (take (length v - k) (drop k v)) 0 t
      → take k v ++ (b ++ drop (length v - k) (drop k v)) ≡ put d 0 (s ++ t)
  unfolding put
  front-behind t b eb =
      let n : length t ≡ 0 + length t = omega arith in
      whole_part b ∙ ap (λ (x : List ℕ). take k v ++ x) (eb ∙ ap (λ (x : List ℕ). t ++ drop (0 + length t) x) (rest v k))
      ∙ part-put v t k (0 + length t) n ∙ put-behind d s t v (put v k t) 0 k ends inside ev refl

-- ---- session ID and packet ID

pub ids-law : (d v w : List ℕ) (id packet : ℕ) → 16 ≤ length d → v ≡ put d 0 (to_be 8 id) → w ≡ put v 8 (to_be 8 packet)
    → w ≡ put d 0 (separate_header id packet)
unfolding separate_header
ids-law d v w id packet l ev ew =
    let i = length-to_be 8 id in
    let n : 8 ≡ 0 + length (to_be 8 id) = omega (arith, i) in
    put-behind d (to_be 8 id) (to_be 8 packet) v w 0 8 n (omega (arith, l, i)) ev ew

-- in a buffer that they fill
pub header-law : (d w : List ℕ) (id packet : ℕ) → length d ≡ 16 → w ≡ put d 0 (separate_header id packet) → w ≡ separate_header id packet
header-law d w id packet l ew = ew ∙ put_whole d (separate_header id packet) (omega (arith, l, length-separate_header id packet))

-- copied to the front of a buffer and encrypted there
pub block-law : (key d h v b : List ℕ) → 0 < nk_of (length key) → 16 ≤ length d → length h ≡ 16 → v ≡ put d 0 h → b ≡ in_place aes key (take 16 v)
    → b ++ drop 16 v ≡ put d 0 (aes (nk_of (length key)) key h)
block-law key d h v b k l lh ev eb =
    let x = aes (nk_of (length key)) key h in
    let n : 16 ≡ 0 + length h = omega (arith, lh) in
    let fits : 0 + length h ≤ length d = omega (arith, lh, l) in
    let front : take 16 v ≡ h = (λ i. take (n i) (ev i)) ∙ take_put d 0 h fits in
    let rest : drop 16 v ≡ drop 16 d = (λ i. drop (n i) (ev i)) ∙ drop-put d 0 h fits ∙ ap (λ (m : ℕ). drop m d) (sym n) in
    (λ i. (eb ∙ ap (in_place aes key) front ∙ in-place-lawful key h aes k lh) i ++ rest i)
    ∙ part-put d x 0 16 (length-aes (nk_of (length key)) key h)

-- ---- the main header

pub start-law : (d w : List ℕ) (kind clock : ℕ) → 9 ≤ length d → w ≡ put (set d 0 kind) 1 (to_be 8 clock) → w ≡ put d 0 (kind ∷ to_be 8 clock)
start-law d w kind clock h ew =
    put-behind d (kind ∷ []) (to_be 8 clock) (set d 0 kind) w 0 1 refl (omega arith) (sym (put_one d 0 kind (omega arith))) ew

module _ (d : List ℕ) (clock padding : ℕ) (room : 19 ≤ length d) where
  pub client-law : (v w : List ℕ) → v ≡ put d 0 (0 ∷ to_be 8 clock) → w ≡ put v 9 (to_be 2 padding) → w ≡ put d 0 (fixed_part Client clock padding)
  unfolding fixed_part
  client-law v w ev ew =
      let l = length-to_be 8 clock in
      let s : List ℕ = 0 ∷ to_be 8 clock in
      let n : 9 ≡ 0 + length s = omega (arith, l) in
      put-behind d s (to_be 2 padding) v w 0 9 n (omega (arith, l)) ev ew

  pub server-law : (client : ℕ) (v u w : List ℕ) → v ≡ put d 0 (1 ∷ to_be 8 clock) → u ≡ put v 9 (to_be 8 client) → w ≡ put u 17 (to_be 2 padding)
      → w ≡ put d 0 (fixed_part (Server client) clock padding)
  unfolding fixed_part
  server-law client v u w ev eu ew =
      let l = length-to_be 8 clock in
      let m = length-to_be 8 client in
      let s : List ℕ = 1 ∷ to_be 8 clock in
      let n : 9 ≡ 0 + length s = omega (arith, l) in
      let k : 17 ≡ 0 + length (s ++ to_be 8 client) = omega (arith, l, m, length-append s (to_be 8 client)) in
      put-behind d (s ++ to_be 8 client) (to_be 2 padding) u w 0 17 k (omega (arith, sym k))
      (put-behind d s (to_be 8 client) v u 0 9 n (omega (arith, l)) ev eu) ew
      ∙ ap (put d 0) (append_assoc s (to_be 8 client) (to_be 2 padding))

-- ---- the plaintext

module _ (d : List ℕ) (side : Side) (clock padding : ℕ) (address payload : List ℕ)
    (room : fixed_length side + padding + length address + length payload ≤ length d) where
  pub plaintext-law : (fixed : ℕ) (v u t w : List ℕ) → fixed ≡ fixed_length side → v ≡ put d 0 (fixed_part side clock padding)
      → u ≡ put v fixed (replicate padding 0) → t ≡ put u (fixed + padding) address → w ≡ put t (fixed + padding + length address) payload
      → w ≡ put d 0 (plaintext side clock padding address payload)
  unfolding plaintext
  plaintext-law fixed v u t w ef ev eu et ew =
      let f = fixed_part side clock padding in
      let z : List ℕ = replicate padding 0 in
      let lf : length f ≡ fixed = length-fixed_part side clock padding ∙ sym ef in
      let lz : length z ≡ padding = length-replicate {A = ℕ} padding 0 in
      let lfz = length-append f z in
      let lfza = length-append (f ++ z) address in
      let n₁ : fixed ≡ 0 + length f = omega (arith, lf) in
      let n₂ : fixed + padding ≡ 0 + length (f ++ z) = omega (arith, lf, lz, lfz) in
      let n₃ : fixed + padding + length address ≡ 0 + length (f ++ z ++ address) = omega (arith, lf, lz, lfz, lfza) in
      put-behind d (f ++ z ++ address) payload t w 0 (fixed + padding + length address) n₃ (omega (arith, sym n₃, ef))
      (put-behind d (f ++ z) address u t 0 (fixed + padding) n₂ (omega (arith, sym n₂, ef))
      (put-behind d f z v u 0 fixed n₁ (omega (arith, sym n₁, ef)) ev eu) et)
      ew
      ∙ ap (put d 0) (append_assoc (f ++ z) address payload ∙ append_assoc f z (address ++ payload))

-- all that is sealed
pub text-law : (cipher : Cipher) (id packet : ℕ) (side : Side) (clock padding : ℕ) (address payload d v b : List ℕ) (k : ℕ) → k ≡ main_start cipher
    → main_start cipher ≤ length d → v ≡ put d 0 (inner_ids cipher id packet)
    → b ≡ put (take (length v - k) (drop k v)) 0 (plaintext side clock padding address payload)
    → take k v ++ (b ++ drop (length v - k) (drop k v)) ≡ put d 0 (sealed_text cipher id packet side clock padding address payload)
unfolding sealed_text
text-law cipher id packet side clock padding address payload d v b k ek h ev eb =
    front-behind d (inner_ids cipher id packet) v k (length-inner_ids cipher id packet ∙ sym ek) (omega arith) ev
    (plaintext side clock padding address payload) b eb

-- ---- the body

pub body-law : (key body h sub n r : List ℕ) → 0 < nk_of (length key) → 16 ≤ length body → length body ≤ max_datagram → length h ≡ 16
    → sub ≡ subkey key (take 8 h) → n ≡ drop 4 h → r ≡ sealed_in_place sub n body → r ≡ seal_under key h (text_of body)
unfolding seal_under
body-law key body h sub n r k least most lh es en er =
    let long : length body - 16 ≤ max_text = omega arith in
    let l : 0 < nk_of (length (subkey key (take 8 h))) = omega (arith, ap nk_of (length-subkey key (take 8 h) k)) in
    let m : length (drop 4 h) ≡ 12 = omega (arith, length-drop 4 h, lh) in
    er ∙ ap₂ (λ (x y : List ℕ). sealed_in_place x y body) es en ∙ in-place-seals (subkey key (take 8 h)) (drop 4 h) body l m least long

-- ---- the datagram

pub aes-law : (key d h v b : List ℕ) (id packet : ℕ) → 16 ≤ length d → h ≡ separate_header id packet → v ≡ put d 0 (aes (nk_of (length key)) key h)
    → b ≡ seal_under key h (text_of (take (length v - 16) (drop 16 v)))
    → take 16 v ++ (b ++ drop (length v - 16) (drop 16 v)) ≡ separate_block key id packet ++ seal_body key id packet (text_of (drop 16 d))
unfolding separate_block
aes-law key d h v b id packet l eh ev eb =
    let s = separate_block key id packet in
    let n = length-separate_block key id packet in
    let e : v ≡ put d 0 s = ev ∙ ap (λ (x : List ℕ). put d 0 (aes (nk_of (length key)) key x)) eh in
    filled-behind d s v 16 n l e b
    ∙ ap (λ (x : List ℕ). s ++ x)
    (eb ∙ ap (λ (x : List ℕ). seal_under key h (text_of x)) (lent-part d s v 16 n l e) ∙ under-header h id packet eh key (text_of (drop 16 d)))

-- the two ciphers' texts before a tag are one
same_text : (s : List ℕ) → chacha_text s ≡ text_of s
unfolding chacha_text text_of
same_text s = refl

pub chacha-law : (n : ℕ) (key nonce d v b : List ℕ) → nonce_length ≤ length d → length nonce ≡ nonce_length → v ≡ put d 0 nonce
    → b ≡ extended_seal n key nonce (chacha_text (take (length v - nonce_length) (drop nonce_length v)))
    → take nonce_length v ++ (b ++ drop (length v - nonce_length) (drop nonce_length v)) ≡ nonce ++ extended_seal n key nonce (text_of (drop nonce_length d))
chacha-law n key nonce d v b l size ev eb =
    filled-behind d nonce v nonce_length size l ev b
    ∙ ap (λ (x : List ℕ). nonce ++ x)
    (eb ∙ ap (extended_seal n key nonce) (ap chacha_text (lent-part d nonce v nonce_length size l ev) ∙ same_text (drop nonce_length d)))

-- the cipher that was found
module _ (key nonce : List ℕ) (id packet : ℕ) (d r : List ℕ) (cipher : Cipher) where
  abbrev made : Cipher → List ℕ
  made c = datagram_by c key nonce id packet (text_of (drop (lead_length c) d))

  pub with-aes : cipher ≡ AesGcm → r ≡ separate_block key id packet ++ seal_body key id packet (text_of (drop 16 d)) → r ≡ made cipher
  unfolding datagram_by
  with-aes e er = er ∙ ap made (sym e)

  pub with-chacha : (n : ℕ) → cipher ≡ ChaChaPoly n → r ≡ nonce ++ extended_seal n key nonce (text_of (drop nonce_length d)) → r ≡ made cipher
  unfolding datagram_by
  with-chacha n e er = er ∙ ap made (sym e)
