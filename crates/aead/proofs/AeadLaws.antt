-- What is sealed is authentic and opens to the same text, by every cipher; and the parts of the code.
-- Assumes nothing.
use Rattle.std.specs.Prelude.{Err, Ok, Result}
use mathlib.Core.Path.{◌≡◌, sym, ap, ap₂, ◌∙◌}
use mathlib.Core.Bool.{Bool, true, false, cond}
use mathlib.Core.List.{List, [], ◌++◌, append-nil}
use Prim.Native.Nat.{ℕ, ◌+◌, ◌-◌, ◌≤◌, ◌<◌}
use native.Mathlib.Omega.{arith}
use lib.ListN.{length, take, drop, length-drop}
use lib.Seq.{take_at, drop_at, drop-length}
use Rattle.octets.specs.Buffers.{put}
use Rattle.octets.proofs.BufferLaws.{rest}
use Rattle.aes.specs.Keyed.{nk_of}
use Rattle.aes.proofs.KeyedLaws.{key-most}
use Rattle.ctr.specs.Gctr.{ciph_at}
use Rattle.gcm.specs.Gcm as gcm
use Rattle.gcm.specs.Keyed.{max_text, ciph_of, answer, open_answer, open_out}
use Rattle.gcm.proofs.GcmLaws.{length-seal, length-opened, authentic-exactly, seal-authentic, open-seal}
use Rattle.gcm.proofs.KeyedLaws.{open-lawful, open-decided, answer-text, answer-forged, answer-lawful}
use Rattle.chacha_poly.specs.Aead as chacha_poly
use Rattle.chacha_poly.proofs.AeadLaws as laws
use Rattle.protocol.specs.declared.Cipher.{Cipher}
use Rattle.protocol.specs.declared.Cipher.TheVariants.{AesGcm, ChaChaPoly}
use Rattle.aead.specs.Aead.{text_of, seal_by, authentic_by, opened_by, KeyFor}
use Rattle.gcm.specs.declared.OpenError.{OpenError}
use Rattle.gcm.specs.declared.OpenError.TheVariants.{Forged, Unlawful}

-- ---- sealed and opened

pub length-seal_by : (c : Cipher) (key nonce text : List ℕ) → length (seal_by c key nonce text) ≡ length text + 16
unfolding seal_by
length-seal_by AesGcm key nonce text = length-seal (ciph_of key) nonce text
length-seal_by (ChaChaPoly n) key nonce text = laws.length-seal n key nonce text

pub length-opened_by : (c : Cipher) (key nonce s : List ℕ) → length (opened_by c key nonce s) ≡ length s - 16
unfolding opened_by
length-opened_by AesGcm key nonce s = length-opened (ciph_of key) nonce s
length-opened_by (ChaChaPoly n) key nonce s = laws.length-opened n key nonce s

pub sealed-authentic : (c : Cipher) (key nonce text : List ℕ) → authentic_by c key nonce (seal_by c key nonce text) ≡ true
unfolding seal_by authentic_by
sealed-authentic AesGcm key nonce text =
    (authentic-exactly (ciph_of key) nonce (gcm.seal (ciph_of key) nonce text)).1 (seal-authentic (ciph_of key) nonce text)
sealed-authentic (ChaChaPoly n) key nonce text = laws.seal-authentic n key nonce text

pub sealed-opens : (c : Cipher) (key nonce text : List ℕ) → opened_by c key nonce (seal_by c key nonce text) ≡ text
unfolding seal_by opened_by
sealed-opens AesGcm key nonce text = open-seal (ciph_of key) nonce text
sealed-opens (ChaChaPoly n) key nonce text = laws.open-seal n key nonce text

-- a key for a cipher has 32 bytes at most
pub key-for-most : (c : Cipher) (k : ℕ) → KeyFor c k → k ≤ 32
key-for-most AesGcm k h = key-most k h
key-for-most (ChaChaPoly n) k e = omega (arith, e)

-- ---- two texts, one behind the other

-- what the two parts of a lent buffer hold, where the first one's part is as long as it was
pub parted : (a d : List ℕ) (at : ℕ) → length a ≡ at → let v = a ++ drop at d in
    (take at v ≡ a) × ((take (length v - at) (drop at v) ≡ drop at d) × (drop (length v - at) (drop at v) ≡ []))
parted a d at e =
    let v = a ++ drop at d in (
      take_at a (drop at d) at e,
      (
        rest v at ∙ drop_at a (drop at d) at e,
        ap (λ (x : ℕ). drop x (drop at v)) (sym (length-drop at v)) ∙ drop-length (drop at v),
      ),
    )

pub aes-pair : (rounds : ℕ) (words key d n m a b : List ℕ) (at : ℕ) → ciph_at rounds words ≡ ciph_of key
    → a ≡ gcm.seal (ciph_at rounds words) n (gcm.text_of (take at d)) → length a ≡ at → let v = a ++ drop at d in
    b ≡ gcm.seal (ciph_at rounds words) m (gcm.text_of (take (length v - at) (drop at v)))
    → take at v ++ (b ++ drop (length v - at) (drop at v)) ≡ seal_by AesGcm key n (text_of (take at d)) ++ seal_by AesGcm key m (text_of (drop at d))
unfolding seal_by
aes-pair rounds words key d n m a b at ec ea la eb =
    let p = parted a d at la in
    ap₂ (λ (x y : List ℕ). x ++ y) (p.0 ∙ ea ∙ (λ i. gcm.seal (ec i) n (gcm.text_of (take at d))))
    (ap (λ (x : List ℕ). b ++ x) p.1.1 ∙ append-nil b ∙ eb ∙ (λ i. gcm.seal (ec i) m (gcm.text_of (p.1.0 i))))

pub chacha-pair : (k : ℕ) (key d n m a b : List ℕ) (at : ℕ) → a ≡ chacha_poly.seal k key n (chacha_poly.text_of (take at d)) → length a ≡ at
    → let v = a ++ drop at d in b ≡ chacha_poly.seal k key m (chacha_poly.text_of (take (length v - at) (drop at v)))
    → take at v ++ (b ++ drop (length v - at) (drop at v)) ≡ seal_by (ChaChaPoly k) key n (text_of (take at d)) ++ seal_by (ChaChaPoly k) key m (text_of (drop at d))
unfolding seal_by chacha_poly.text_of gcm.text_of
chacha-pair k key d n m a b at ea la eb =
    let p = parted a d at la in
    ap₂ (λ (x y : List ℕ). x ++ y) (p.0 ∙ ea)
    (ap (λ (x : List ℕ). b ++ x) p.1.1 ∙ append-nil b ∙ eb ∙ (λ i. chacha_poly.seal k key m (chacha_poly.text_of (p.1.0 i))))

-- ---- opened

-- GCM's answer and what it leaves in the buffer, by the tag
pub record AesOpened (key nonce s out : List ℕ) (a : Result Unit OpenError) (o : List ℕ) : Type 0 where
  pub answers : answer true (authentic_by AesGcm key nonce s) ≡ a
  pub leaves : cond (authentic_by AesGcm key nonce s) (put out 0 (opened_by AesGcm key nonce s)) out ≡ o

pub aes-opened : (key nonce s out : List ℕ) → 0 < nk_of (length key) → length nonce ≡ 12 → 16 ≤ length s → length s ≤ max_text
    → length s - 16 ≤ length out → (a : Result Unit OpenError) (o : List ℕ) → a ≡ open_answer key nonce s out → o ≡ open_out key nonce s out
    → AesOpened key nonce s out a o
unfolding authentic_by opened_by
aes-opened key nonce s out has_key_lem ln tagged long room a o ea eo =
    let d = open-decided key nonce s out (open-lawful key nonce s out has_key_lem ln tagged (omega arith) room) in
    record { answers = d.0 ∙ sym ea; leaves = d.1 ∙ sym eo }

module _ (key nonce s out : List ℕ) (a : Result Unit OpenError) (o : List ℕ) (d : AesOpened key nonce s out a o) where
  decided : (b : Bool) → authentic_by AesGcm key nonce s ≡ b
      → (b ≡ authentic_by AesGcm key nonce s) × (o ≡ cond b (put out 0 (opened_by AesGcm key nonce s)) out)
  decided b e = (sym e, sym d.leaves ∙ ap (λ (t : Bool). cond t (put out 0 (opened_by AesGcm key nonce s)) out) e)

  pub aes-text : a ≡ (Ok tt) → (true ≡ authentic_by AesGcm key nonce s) × (o ≡ put out 0 (opened_by AesGcm key nonce s))
  aes-text e = decided true (answer-text (authentic_by AesGcm key nonce s) (d.answers ∙ e))

  pub aes-forged : a ≡ (Err Forged) → (false ≡ authentic_by AesGcm key nonce s) × (o ≡ out)
  aes-forged e = decided false (answer-forged (authentic_by AesGcm key nonce s) (d.answers ∙ e))

  -- GCM refuses no length here
  pub aes-lawful : a ≡ (Err Unlawful) → ⊥
  aes-lawful e = answer-lawful (authentic_by AesGcm key nonce s) (d.answers ∙ e)
