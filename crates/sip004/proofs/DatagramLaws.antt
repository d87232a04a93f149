-- A datagram as the sealer leaves it in the buffer and as the opener finds it.
-- Assumes nothing.
use Rattle.std.specs.Prelude.{is_ok, Result}
use mathlib.Core.Path.{◌≡◌, refl, sym, ap, ◌∙◌, subst}
use mathlib.Core.Bool.{Bool, true, false, cond, ◌&&◌}
use mathlib.Core.List.{List, ◌++◌}
use Prim.Native.Nat.{ℕ, ◌+◌, ◌-◌, ◌≤◌, ◌<◌}
use native.Mathlib.Omega.{arith}
use lib.ListN.{length, take, drop, length-append, length-drop}
use borrow.Author.Tests.{eq-eqb, le-leb, lt-ltb}
use Rattle.octets.specs.Buffers.{put}
use Rattle.octets.proofs.BufferLaws.{put-behind, put_whole, part-put}
use Rattle.aes.specs.Keyed.{nk_of}
use Rattle.gcm.specs.Gcm.{seal}
use Rattle.gcm.specs.Keyed.{max_text, ciph_of, fits, seal_lawful, sealed, answer, open_answer, open_out}
use Rattle.gcm.proofs.GcmLaws.{length-seal}
use Rattle.gcm.proofs.KeyedLaws.{open-lawful, open-decided}
use Rattle.sip004.specs.Subkey.{subkey}
use Rattle.sip004.specs.Datagram.{max_datagram, overhead, zero_nonce, datagram, subkey_of, body_authentic, payload_of}
use Rattle.sip004.proofs.SubkeyLaws.{length-subkey}
use Rattle.gcm.specs.declared.OpenError.{OpenError}

-- ---- sealed

pub length-datagram : (key salt payload : List ℕ) → length (datagram key salt payload) ≡ length payload + overhead (length salt)
unfolding datagram
length-datagram key salt payload =
    let b = seal (ciph_of (subkey key salt)) zero_nonce payload in
    omega (arith, length-append salt b, length-seal (ciph_of (subkey key salt)) zero_nonce payload)

-- GCM, where every length is lawful
seals : (key nonce text out : List ℕ) → 0 < nk_of (length key) → length nonce ≡ 12 → length text ≤ max_text → length text + 16 ≤ length out
    → sealed key nonce text out ≡ put out 0 (seal (ciph_of key) nonce text)
unfolding sealed seal_lawful fits
seals key nonce text out k n m r =
    λ i. cond
    (lt-ltb 0 (nk_of (length key)) k i && (eq-eqb (length nonce) 12 n i && (le-leb (length text) max_text m i && le-leb (length text + 16) (length out) r i)))
    (put out 0 (seal (ciph_of key) nonce text)) out

module _ (key salt : List ℕ) (k : 0 < nk_of (length key)) where
  subkey-lawful : 0 < nk_of (length (subkey key salt))
  subkey-lawful = subst (λ (m : ℕ). 0 < nk_of m) (sym (length-subkey key salt)) k

  -- the salt at the front of the buffer d, and the rest sealed into the part b behind it
  pub written : (payload d sub v b o : List ℕ) (n : ℕ) → length salt ≡ length key → n ≡ length payload + overhead (length salt)
      → n ≤ max_datagram → n ≤ length d → sub ≡ subkey key salt → v ≡ put d 0 salt → length b ≡ n - length key
      → o ≡ sealed sub zero_nonce payload b
      → take (length key) v ++ (o ++ drop (n - length key) (drop (length key) v)) ≡ put d 0 (datagram key salt payload)
  unfolding datagram
  written payload d sub v b o n same size most room es ev lb eo =
      let text = seal (ciph_of (subkey key salt)) zero_nonce payload in
      let lt = length-seal (ciph_of (subkey key salt)) zero_nonce payload in
      let short : length payload ≤ max_text = omega arith in
      let fits : length payload + 16 ≤ length b = omega arith in
      let whole : length b ≤ length text = omega (arith, lt) in
      let is : o ≡ text =
      eo ∙ ap (λ (x : List ℕ). sealed x zero_nonce payload b) es ∙ seals (subkey key salt) zero_nonce payload b subkey-lawful refl short fits
      ∙ put_whole b text whole in
      let long : length text ≡ n - length key = omega (arith, lt) in
      let at : length key ≡ 0 + length salt = omega arith in
      ap (λ (x : List ℕ). take (length key) v ++ (x ++ drop (n - length key) (drop (length key) v))) is
      ∙ part-put v text (length key) (n - length key) long
      ∙ put-behind d salt text v (put v (length key) text) 0 (length key) at (omega arith) ev refl

-- ---- opened

-- GCM's answer and what it leaves in the buffer, by the tag
pub record BodyOpened (key s out : List ℕ) (a : Result Unit OpenError) (o : List ℕ) : Type 0 where
  pub answers : answer true (body_authentic key s) ≡ a
  pub leaves : cond (body_authentic key s) (put out 0 (payload_of key s)) out ≡ o

module _ (key s out : List ℕ) where
  pub body-opened : 0 < nk_of (length key) → overhead (length key) ≤ length s → length s ≤ max_datagram
      → length s - overhead (length key) ≤ length out → (sub b : List ℕ) → sub ≡ subkey_of key s → b ≡ drop (length key) s
      → (a : Result Unit OpenError) (o : List ℕ) → a ≡ open_answer sub zero_nonce b out → o ≡ open_out sub zero_nonce b out → BodyOpened key s out a o
  unfolding body_authentic payload_of subkey_of
  body-opened k least most room sub b es eb a o ea eo =
      let t = drop (length key) s in
      let l = length-drop (length key) s in
      let tagged : 16 ≤ length t = omega (arith, l) in
      let short : length t - 16 ≤ max_text = omega (arith, l) in
      let space : length t - 16 ≤ length out = omega (arith, l) in
      let u = subkey_of key s in
      let d = open-decided u zero_nonce t out (open-lawful u zero_nonce t out (subkey-lawful key (take (length key) s) k) refl tagged short space) in
      record {
        answers = d.0 ∙ sym (ea ∙ (λ i. open_answer (es i) zero_nonce (eb i) out));
        leaves = d.1 ∙ sym (eo ∙ (λ i. open_out (es i) zero_nonce (eb i) out));
      }

  -- a text is given exactly if the tag is good: GCM refuses no length here
  pub body-answer : (a : Result Unit OpenError) (o : List ℕ) → BodyOpened key s out a o → (b : Bool) → b ≡ is_ok a
      → (b ≡ body_authentic key s) × (o ≡ cond b (put out 0 (payload_of key s)) out)
  body-answer a o d b e =
      let same : b ≡ body_authentic key s = e ∙ ap is_ok (sym d.answers) ∙ answered (body_authentic key s) in
      (same, sym d.leaves ∙ ap (λ (t : Bool). cond t (put out 0 (payload_of key s)) out) (sym same))
    where
      answered : (t : Bool) → is_ok (answer true t) ≡ t
      answered true = refl
      answered false = refl
