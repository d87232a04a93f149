-- What is lawful, as tests and as facts; sealing and opening under a key.
-- Assumes nothing.
use Rattle.std.specs.Prelude.{Err, Ok}
use mathlib.Core.Path.{◌≡◌, refl, sym, ap, ap₂, ◌∙◌}
use mathlib.Core.Bool.{Bool, true, false, cond, ◌&&◌, and-false}
use mathlib.Core.List.{List, map}
use Prim.Native.Nat.{ℕ, ◌+◌, ◌-◌, ◌*◌, ◌≤◌, ◌<◌}
use native.Mathlib.Omega.{arith}
use Rattle.std.proofs.Common.{Option, Some, None, IfNone}
use lib.Dec.{eqb, leb, ltb}
use lib.ListN.{length, take}
use borrow.Author.Tests.{eq-eqb, ne_eqb, le-leb, lt-leb, lt-ltb}
use Rattle.octets.specs.Buffers.{put}
use Rattle.aes.specs.KeyExpansion.{key_expansion}
use Rattle.aes.specs.Keyed.{nk_of, KeyLength}
use Rattle.aes.specs.Words.{bytes}
use Rattle.ctr.specs.Gctr.{ciph_at, aes_block}
use Rattle.ctr.proofs.GctrLaws.{ciph-aes}
use Rattle.gcm.specs.Gcm.{seal, text_of, opened}
use Rattle.gcm.specs.declared.OpenError.TheVariants.{Forged, Unlawful}
use Rattle.gcm.specs.Keyed.{max_text, ciph_of, fits, Fits, seal_lawful, sealed, open_lawful, in_place_lawful, sealed_in_place, authentic, answer, open_answer, open_out}

-- ---- lengths and room, as tests

module _ (k n len due room : ℕ) where
  pub no-nonce : (n ≡ 12 → ⊥) → fits k n len due room ≡ false
  unfolding fits
  no-nonce h =
      ap (λ (b : Bool). ltb 0 (nk_of k) && (b && (leb len max_text && leb due room))) (ne_eqb n 12 h) ∙ and-false (ltb 0 (nk_of k))

  pub too_long : max_text < len → fits k n len due room ≡ false
  unfolding fits
  too_long h =
      ap (λ (b : Bool). ltb 0 (nk_of k) && (eqb n 12 && (b && leb due room))) (lt-leb len max_text h)
      ∙ ap (◌&&◌ (ltb 0 (nk_of k))) (and-false (eqb n 12)) ∙ and-false (ltb 0 (nk_of k))

  pub no_room : room < due → fits k n len due room ≡ false
  unfolding fits
  no_room h =
      ap (λ (b : Bool). ltb 0 (nk_of k) && (eqb n 12 && (leb len max_text && b))) (lt-leb due room h)
      ∙ ap (λ (b : Bool). ltb 0 (nk_of k) && (eqb n 12 && b)) (and-false (leb len max_text))
      ∙ ap (◌&&◌ (ltb 0 (nk_of k))) (and-false (eqb n 12)) ∙ and-false (ltb 0 (nk_of k))

  pub no-key : nk_of k ≡ 0 → fits k n len due room ≡ false
  unfolding fits
  no-key e = ap (λ (w : ℕ). ltb 0 w && (eqb n 12 && (leb len max_text && leb due room))) e

  pub none-fits : (r : Option ℕ) → IfNone r (nk_of k ≡ 0) → IfNone r (fits k n len due room ≡ false)
  none-fits None e = no-key e
  none-fits (Some x) e = e

  pub all-fits : (nk : ℕ) → (nk ≡ nk_of k) × KeyLength k nk → n ≡ 12 → len ≤ max_text → due ≤ room → Fits k n len due room nk
  unfolding fits
  all-fits nk p en el er =
      let e = p.0 in
      let f = p.1 in
      let l = f.least in
      let has_key : 0 < nk_of k = omega arith in
      record {
        lawful = λ i. lt-ltb 0 (nk_of k) has_key i && (eq-eqb n 12 en i && (le-leb len max_text el i && le-leb due room er i));
        words_are = e;
        key = f;
        nonce = en;
        text = el;
        space = er;
      }

-- ---- sealing

-- the cipher at the words of an expanded key is that of the key
pub ciph-key : (nk : ℕ) (key w : List ℕ) → nk ≡ nk_of (length key) → map bytes (take (4 * nk + 28) w) ≡ key_expansion nk key
    → ciph_at (nk + 6) w ≡ ciph_of key
ciph-key nk key w en ew = ciph-aes nk key w ew ∙ ap (λ (m : ℕ). aes_block m key) en

module _ (key nonce text out : List ℕ) where
  pub seal-refused : fits (length key) (length nonce) (length text) (length text + 16) (length out) ≡ false
      → (false ≡ seal_lawful key nonce text out) × (out ≡ sealed key nonce text out)
  unfolding sealed seal_lawful
  seal-refused e = (sym e, sym (ap (λ (b : Bool). cond b (put out 0 (seal (ciph_of key) nonce text)) out) e))

  pub seal-done : (nk : ℕ) (w o : List ℕ) → fits (length key) (length nonce) (length text) (length text + 16) (length out) ≡ true
      → nk ≡ nk_of (length key) → map bytes (take (4 * nk + 28) w) ≡ key_expansion nk key
      → o ≡ put out 0 (seal (ciph_at (nk + 6) w) nonce text) → (true ≡ seal_lawful key nonce text out) × (o ≡ sealed key nonce text out)
  unfolding sealed seal_lawful
  seal-done nk w o e en ew eo = (
    sym e,
    eo ∙ (λ i. put out 0 (seal (ciph-key nk key w en ew i) nonce text))
        ∙ sym (ap (λ (b : Bool). cond b (put out 0 (seal (ciph_of key) nonce text)) out) e),
  )

short-unlawful : (key nonce s out : List ℕ) → length s < 16 → open_lawful key nonce s out ≡ false
unfolding open_lawful
short-unlawful key nonce s out h =
    ap (λ (b : Bool). b && fits (length key) (length nonce) (length s - 16) (length s - 16) (length out)) (lt-leb 16 (length s) h)

-- ---- sealing in place

module _ (key nonce s : List ℕ) where
  in-place-decided : (b : Bool) → open_lawful key nonce s s ≡ b
      → (b ≡ in_place_lawful key nonce s) × (cond b (seal (ciph_of key) nonce (text_of s)) s ≡ sealed_in_place key nonce s)
  unfolding in_place_lawful sealed_in_place
  in-place-decided b e = (sym e, ap (λ (l : Bool). cond l (seal (ciph_of key) nonce (text_of s)) s) (sym e))

  pub in-place-short : length s < 16 → (false ≡ in_place_lawful key nonce s) × (s ≡ sealed_in_place key nonce s)
  in-place-short h = in-place-decided false (short-unlawful key nonce s s h)

  pub in-place-refused : 16 ≤ length s → fits (length key) (length nonce) (length s - 16) (length s - 16) (length s) ≡ false
      → (false ≡ in_place_lawful key nonce s) × (s ≡ sealed_in_place key nonce s)
  unfolding open_lawful
  in-place-refused h e = in-place-decided false (ap₂ ◌&&◌ (le-leb 16 (length s) h) e)

  pub in-place-done : (nk : ℕ) (w o : List ℕ) → 16 ≤ length s
      → fits (length key) (length nonce) (length s - 16) (length s - 16) (length s) ≡ true
      → nk ≡ nk_of (length key) → map bytes (take (4 * nk + 28) w) ≡ key_expansion nk key
      → o ≡ seal (ciph_at (nk + 6) w) nonce (text_of s) → (true ≡ in_place_lawful key nonce s) × (o ≡ sealed_in_place key nonce s)
  unfolding open_lawful
  in-place-done nk w o h e en ew eo =
      let d = in-place-decided true (ap₂ ◌&&◌ (le-leb 16 (length s) h) e) in
      (d.0, eo ∙ (λ i. seal (ciph-key nk key w en ew i) nonce (text_of s)) ∙ d.1)

-- ---- opening

module _ (key nonce s out : List ℕ) where
  -- the answer and the buffer, where the tests have come out so
  decided : (l a : Bool) → open_lawful key nonce s out ≡ l → authentic (ciph_of key) nonce s ≡ a
      → (answer l a ≡ open_answer key nonce s out) × (cond (l && a) (put out 0 (opened (ciph_of key) nonce s)) out ≡ open_out key nonce s out)
  unfolding open_answer open_out
  decided l a el ea =
      (λ i. answer (sym el i) (sym ea i), λ i. cond (sym el i && sym ea i) (put out 0 (opened (ciph_of key) nonce s)) out)

  open-unlawful : open_lawful key nonce s out ≡ false → ((Err Unlawful) ≡ open_answer key nonce s out) × (out ≡ open_out key nonce s out)
  open-unlawful e = decided false (authentic (ciph_of key) nonce s) e refl

  pub open-short : length s < 16 → ((Err Unlawful) ≡ open_answer key nonce s out) × (out ≡ open_out key nonce s out)
  open-short h = open-unlawful (short-unlawful key nonce s out h)

  pub open-refused : 16 ≤ length s → fits (length key) (length nonce) (length s - 16) (length s - 16) (length out) ≡ false
      → ((Err Unlawful) ≡ open_answer key nonce s out) × (out ≡ open_out key nonce s out)
  unfolding open_lawful
  open-refused h e = open-unlawful (ap₂ ◌&&◌ (le-leb 16 (length s) h) e)

  pub open_done : (nk : ℕ) (w m o : List ℕ) (b : Bool) → 16 ≤ length s
      → fits (length key) (length nonce) (length s - 16) (length s - 16) (length out) ≡ true
      → nk ≡ nk_of (length key) → map bytes (take (4 * nk + 28) w) ≡ key_expansion nk key → m ≡ nonce
      → b ≡ authentic (ciph_at (nk + 6) w) m s → o ≡ cond b (put out 0 (opened (ciph_at (nk + 6) w) m s)) out
      → (answer true b ≡ open_answer key nonce s out) × (o ≡ open_out key nonce s out)
  unfolding open_lawful
  open_done nk w m o b h e en ew em eb eo =
      let p = ciph-key nk key w en ew in
      let d = decided true b (ap₂ ◌&&◌ (le-leb 16 (length s) h) e) (sym (eb ∙ (λ i. authentic (p i) (em i) s))) in
      (d.0, eo ∙ (λ i. cond b (put out 0 (opened (p i) (em i) s)) out) ∙ d.1)

  -- where every length is lawful, the tag decides
  pub open-lawful : 0 < nk_of (length key) → length nonce ≡ 12 → 16 ≤ length s → length s - 16 ≤ max_text → length s - 16 ≤ length out
      → open_lawful key nonce s out ≡ true
  unfolding open_lawful fits
  open-lawful k n t m r =
      λ i. le-leb 16 (length s) t i && (lt-ltb 0 (nk_of (length key)) k i && (eq-eqb (length nonce) 12 n i && (le-leb (length s - 16) max_text m i && le-leb (length s - 16) (length out) r i)))

  pub open-decided : open_lawful key nonce s out ≡ true → let b = authentic (ciph_of key) nonce s in
      (answer true b ≡ open_answer key nonce s out) × (cond b (put out 0 (opened (ciph_of key) nonce s)) out ≡ open_out key nonce s out)
  open-decided l = decided true (authentic (ciph_of key) nonce s) l refl

-- the same of sealing in place
pub in-place-seals : (key nonce s : List ℕ) → 0 < nk_of (length key) → length nonce ≡ 12 → 16 ≤ length s → length s - 16 ≤ max_text
    → sealed_in_place key nonce s ≡ seal (ciph_of key) nonce (text_of s)
unfolding in_place_lawful sealed_in_place
in-place-seals key nonce s k n t m =
    ap (λ (b : Bool). cond b (seal (ciph_of key) nonce (text_of s)) s) (open-lawful key nonce s s k n t m (omega arith))

-- what an answer says of the tag
pub answer-text : (b : Bool) → answer true b ≡ (Ok tt) → b ≡ true
answer-text true e = refl
answer-text false e = absurd (let z : ◌≡◌ {A = ℕ} 0 1 = cc in omega arith)

pub answer-forged : (b : Bool) → answer true b ≡ (Err Forged) → b ≡ false
answer-forged true e = absurd (let z : ◌≡◌ {A = ℕ} 0 1 = cc in omega arith)
answer-forged false e = refl

pub answer-lawful : (b : Bool) → answer true b ≡ (Err Unlawful) → ⊥
answer-lawful true e = let z : ◌≡◌ {A = ℕ} 0 1 = cc in omega arith
answer-lawful false e = let z : ◌≡◌ {A = ℕ} 0 1 = cc in omega arith
