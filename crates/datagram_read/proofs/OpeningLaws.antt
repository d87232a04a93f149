-- Opening a datagram: a law for each way out of each function.
-- Assumes nothing.
use Rattle.std.specs.Prelude.{Err, None, Ok, Option, Result, Some, is_ok}
use mathlib.Core.Path.{◌≡◌, refl, sym, ap, ap₂, ◌∙◌, subst}
use mathlib.Core.Bool.{Bool, true, false, cond, ◌&&◌}
use mathlib.Core.List.{List}
use Prim.Native.Nat.{ℕ, ◌+◌, ◌-◌, ◌<◌, ◌≤◌}
use native.Mathlib.Nat.{zero-add}
use native.Mathlib.Omega.{arith}
use lib.Dec.{eqb, leb}
use lib.ListN.{length, get_or, take, drop, replicate, length-drop}
use lib.Seq.{length-take-le}
use borrow.Author.Tests.{eq-eqb, ne_eqb, le-leb, lt-leb}
use Rattle.octets.specs.Buffers.{put}
use Rattle.octets.specs.Numbers.{be}
use Rattle.octets.proofs.BufferLaws.{rest, put_whole, take_put}
use Rattle.aes.specs.Keyed.{nk_of, in_place}
use Rattle.aes.proofs.KeyedLaws.{in-place-lawful}
use Rattle.aes_inverse.specs.InvCipher.{inv_aes}
use Rattle.gcm.specs.Keyed.{ciph_of, answer, open_answer, open_out}
use Rattle.gcm.proofs.GcmLaws.{length-opened}
use Rattle.gcm.proofs.KeyedLaws.{open-lawful, open-decided}
use Rattle.chacha_poly.specs.Extended.{extended_authentic, extended_opened}
use Rattle.chacha_poly.proofs.ExtendedLaws.{length-extended_opened}
use Rattle.protocol.specs.declared.Cipher.{Cipher}
use Rattle.protocol.specs.declared.Cipher.TheVariants.{AesGcm, ChaChaPoly}
use Rattle.protocol.specs.Method.{key_fits, cipher_of}
use Rattle.protocol.specs.declared.Refusal.{Refusal}
use Rattle.protocol.specs.declared.Refusal.TheVariants.{Settings, Length, Room, NotAuthentic, Malformed, WrongType, WrongTime, Binding}
use Rattle.protocol.specs.Subkey.{subkey, session_subkey}
use Rattle.protocol.specs.Time.{time_valid}
use Rattle.socks5.specs.declared.Address.{Address}
use Rattle.socks5.specs.Address.{parse_at}
use Rattle.datagram_parts.specs.declared.Ids.{Ids}
use Rattle.datagram_parts.specs.declared.Side.{Side}
use Rattle.datagram_parts.specs.declared.Side.TheVariants.{Server}
use Rattle.datagram_parts.specs.Headers.{separate_header, nonce, type_of, fixed_length, main_start}
use Rattle.datagram_parts.specs.Parts.{overhead, max_datagram}
use Rattle.datagram_parts.proofs.LengthLaws.{length-separate_header, length-nonce}
use Rattle.datagram_parts.proofs.SubkeyLaws.{length-subkey, subkey-front, nonce-part, header-subkey, header-nonce}
use Rattle.datagram_read.specs.Opening.{separate_of, body_authentic, body_text, datagram_authentic, plain_of, session_of, packet_of, unsealed, unsealed_out, time_of, padding_of, meant, header_with, read_address, read_main, length_lawful, main_of, read_text, read_answer, settled, text_out, read_out}
use Rattle.gcm.specs.declared.OpenError.{OpenError}
use Rattle.datagram_read.specs.declared.Header.{Header}

-- ---- by the cipher

-- a plaintext is as long as is due
pub length-plain : (cipher : Cipher) (key s : List ℕ) → length (plain_of cipher key s) ≡ length s - overhead cipher
unfolding body_text
length-plain AesGcm key s =
    let h = separate_of key s in
    omega (
      arith,
      length-opened (ciph_of (session_subkey key (be 8 h))) (nonce (be 8 h) (be 8 (drop 8 h))) (drop 16 s),
      length-drop 16 s,
    )
length-plain (ChaChaPoly n) key s = omega (arith, length-extended_opened n key (take 24 s) (drop 24 s), length-drop 24 s)

-- ---- the separate header

module _ (key s : List ℕ) where
  -- the first 16 bytes, copied and decrypted in place
  pub separate-law : (z o b : List ℕ) → 0 < nk_of (length key) → 16 ≤ length s → length z ≡ 16 → o ≡ put z 0 (take 16 s)
      → b ≡ in_place inv_aes key o → b ≡ separate_of key s
  unfolding separate_of
  separate-law z o b k l m eo eb =
      let n : length (take 16 s) ≡ 16 = length-take-le 16 s l in
      eb ∙ ap (in_place inv_aes key) (eo ∙ put_whole z (take 16 s) (omega arith)) ∙ in-place-lawful key (take 16 s) inv_aes k n

-- ---- the body

-- GCM's answer and what it leaves in the buffer, by the body's tag
pub record BodyOpened (key : List ℕ) (id packet : ℕ) (body out : List ℕ) (a : Result Unit OpenError) (o : List ℕ) : Type 0 where
  pub answers : answer true (body_authentic key id packet body) ≡ a
  pub leaves : cond (body_authentic key id packet body) (put out 0 (body_text key id packet body)) out ≡ o

module _ (key : List ℕ) (id packet : ℕ) (body out : List ℕ) where
  -- under the subkey and the nonce, from the buffers that hold them
  pub body-opened : 0 < nk_of (length key) → 16 ≤ length body → length body ≤ max_datagram → length body - 16 ≤ length out → (z k h : List ℕ)
      → length z ≡ 32 → k ≡ put z 0 (subkey key (take 8 h)) → h ≡ separate_header id packet → (a : Result Unit OpenError) (o : List ℕ)
      → a ≡ open_answer (take (length key) k) (take 12 (drop 4 h)) body out → o ≡ open_out (take (length key) k) (take 12 (drop 4 h)) body out
      → BodyOpened key id packet body out a o
  unfolding body_authentic body_text
  body-opened has_key_lem tagged small room z k h size ek eh a o ea eo =
      let s = session_subkey key id in
      let n = nonce id packet in
      let es = header-subkey h id packet eh key in
      let l : 0 < nk_of (length s) = subst (λ (m : ℕ). 0 < nk_of m) (sym (ap length (sym es) ∙ length-subkey key (take 8 h) has_key_lem)) has_key_lem in
      let ek = subkey-front key (take 8 h) has_key_lem z k size ek ∙ es in
      let lh : length h ≡ 16 = ap length eh ∙ length-separate_header id packet in
      let en = nonce-part h lh ∙ header-nonce h id packet eh in
      let d = open-decided s n body out (open-lawful s n body out l (length-nonce id packet) tagged (omega arith) room) in
      record {
        answers = d.0 ∙ sym (ea ∙ (λ i. open_answer (ek i) (en i) body out));
        leaves = d.1 ∙ sym (eo ∙ (λ i. open_out (ek i) (en i) body out));
      }

  module _ (a : Result Unit OpenError) (o : List ℕ) (d : BodyOpened key id packet body out a o) where
    -- GCM refuses no length here, so that it answers whether the tag is good
    pub body-answered : (b : Bool) → b ≡ is_ok a
        → (b ≡ body_authentic key id packet body) × (o ≡ cond b (put out 0 (body_text key id packet body)) out)
    body-answered b e =
        let good : b ≡ body_authentic key id packet body = e ∙ ap is_ok (sym d.answers) ∙ tagged (body_authentic key id packet body) in
        (good, sym d.leaves ∙ ap (λ (t : Bool). cond t (put out 0 (body_text key id packet body)) out) (sym good))
      where
        tagged : (t : Bool) → is_ok (answer true t) ≡ t
        tagged true = refl
        tagged false = refl

-- ---- what is sealed, by its cipher

-- with AES: from the separate header in the clear and the body behind it
pub aes-unsealed : (key s out t : List ℕ) → t ≡ separate_of key s → (b : Bool) (o : List ℕ)
    → b ≡ body_authentic key (be 8 t) (be 8 (drop 8 t)) (take (length s - 16) (drop 16 s))
    → o ≡ cond b (put out 0 (body_text key (be 8 t) (be 8 (drop 8 t)) (take (length s - 16) (drop 16 s)))) out
    → (b ≡ datagram_authentic AesGcm key s) × (o ≡ unsealed_out AesGcm key s out)
unfolding unsealed_out
aes-unsealed key s out t et b o eb eo =
    let e = rest s 16 in
    let f = eb ∙ (λ i. body_authentic key (be 8 (et i)) (be 8 (drop 8 (et i))) (e i)) in
    (f, eo ∙ (λ i. cond (f i) (put out 0 (body_text key (be 8 (et i)) (be 8 (drop 8 (et i))) (e i))) out))

-- with ChaCha: from the nonce and what stands behind it
pub chacha-unsealed : (n : ℕ) (key s out : List ℕ) (b : Bool) (o : List ℕ)
    → b ≡ extended_authentic n key (take 24 s) (take (length s - 24) (drop 24 s))
    → o ≡ cond b (put out 0 (extended_opened n key (take 24 s) (take (length s - 24) (drop 24 s)))) out
    → (b ≡ datagram_authentic (ChaChaPoly n) key s) × (o ≡ unsealed_out (ChaChaPoly n) key s out)
unfolding unsealed_out
chacha-unsealed n key s out b o eb eo =
    let e = rest s 24 in
    let f = eb ∙ (λ i. extended_authentic n key (take 24 s) (e i)) in
    (f, eo ∙ (λ i. cond (f i) (put out 0 (extended_opened n key (take 24 s) (e i))) out))

-- where the tag is good, the front of the buffer is the plaintext
pub text-front : (cipher : Cipher) (key s out o : List ℕ) → datagram_authentic cipher key s ≡ true → o ≡ unsealed_out cipher key s out
    → length s - overhead cipher ≤ length out → take (length s - overhead cipher) o ≡ plain_of cipher key s
unfolding unsealed_out
text-front cipher key s out o e eo room =
    let text = plain_of cipher key s in
    let l : length text ≡ length s - overhead cipher = length-plain cipher key s in
    ap₂ take (sym (zero-add (length text) ∙ l)) (eo ∙ ap (λ (t : Bool). cond t (put out 0 text) out) e)
    ∙ take_put out 0 text (omega arith)

module _ (cipher : Cipher) (key s : List ℕ) where
  abbrev ids : Ids
  ids = record { session = session_of cipher key s; packet = packet_of cipher key s }

  pub unsealed-text : (b : Bool) (x : Ids) → b ≡ datagram_authentic cipher key s → b ≡ true → x.session ≡ session_of cipher key s
      → x.packet ≡ packet_of cipher key s → Some x ≡ unsealed cipher key s
  unfolding unsealed
  unsealed-text b x eb e ex ey = λ i. cond ((sym e ∙ eb) i) (Some (record { session = ex i; packet = ey i })) None

  pub unsealed-forged : (b : Bool) → b ≡ datagram_authentic cipher key s → b ≡ false → None ≡ unsealed cipher key s
  unfolding unsealed
  unsealed-forged b eb e = ap (λ (t : Bool). cond t (Some ids) None) (sym e ∙ eb)

  -- and what it tells

  unsealed-tells : (x : Ids) → Some x ≡ unsealed cipher key s → (datagram_authentic cipher key s ≡ true) × (x ≡ ids)
  unfolding unsealed
  unsealed-tells x e = go (datagram_authentic cipher key s) refl e
    where
      go : (b : Bool) → datagram_authentic cipher key s ≡ b → Some x ≡ cond b (Some ids) None
          → (datagram_authentic cipher key s ≡ true) × (x ≡ ids)
      go true eb f = (eb, cc)
      go false eb f = absurd cc

  forged-tells : None ≡ unsealed cipher key s → datagram_authentic cipher key s ≡ false
  unfolding unsealed
  forged-tells e = go (datagram_authentic cipher key s) refl e
    where
      go : (b : Bool) → datagram_authentic cipher key s ≡ b → None ≡ cond b (Some ids) None → datagram_authentic cipher key s ≡ false
      go true eb f = absurd cc
      go false eb f = eb

-- the IDs are those of the separate header
pub aes-text : (key s t : List ℕ) → t ≡ separate_of key s → (b : Bool) → b ≡ datagram_authentic AesGcm key s → b ≡ true → (x : Ids)
    → x.session ≡ be 8 t → x.packet ≡ be 8 (drop 8 t) → Some x ≡ unsealed AesGcm key s
unfolding session_of packet_of
aes-text key s t et b eb e x ex ey =
    unsealed-text AesGcm key s b x eb e (ex ∙ ap (be 8) et) (ey ∙ ap (λ (h : List ℕ). be 8 (drop 8 h)) et)

-- and with ChaCha those at the front of the buffer
pub chacha-text : (n : ℕ) (key s out o : List ℕ) (b : Bool) → b ≡ datagram_authentic (ChaChaPoly n) key s → b ≡ true
    → o ≡ unsealed_out (ChaChaPoly n) key s out → length s - 40 ≤ length out → (x : Ids) → x.session ≡ be 8 (take (length s - 24 - 16) o)
    → x.packet ≡ be 8 (drop 8 (take (length s - 24 - 16) o)) → Some x ≡ unsealed (ChaChaPoly n) key s
unfolding session_of packet_of
chacha-text n key s out o b eb e eo room x ex ey =
    let due : length s - 24 - 16 ≡ length s - 40 = omega arith in
    let front : take (length s - 24 - 16) o ≡ plain_of (ChaChaPoly n) key s =
    ap (λ (k : ℕ). take k o) due ∙ text-front (ChaChaPoly n) key s out o (sym eb ∙ e) eo room in
    unsealed-text (ChaChaPoly n) key s b x eb e (ex ∙ ap (be 8) front) (ey ∙ ap (λ (h : List ℕ). be 8 (drop 8 h)) front)

-- ---- the whole

module _ (cipher : Cipher) (side : Side) (clock : ℕ) (key s out : List ℕ) (u : Option Ids) (o : List ℕ)
    (eu : u ≡ unsealed cipher key s) (eo : o ≡ unsealed_out cipher key s out)
  where
    pub read-forged : u ≡ None → (Err NotAuthentic ≡ read_text cipher side clock key s) × (o ≡ text_out cipher side clock key s out)
    unfolding unsealed_out read_text text_out
    read-forged e =
        let f = forged-tells cipher key s (sym e ∙ eu) in
        let text = plain_of cipher key s in
        let main = main_of cipher side clock key s in (
          ap (λ (t : Bool). cond t main (Err NotAuthentic)) (sym f),
          eo ∙ ap (λ (t : Bool). cond t (put out 0 text) out) f
              ∙ ap (λ (t : Bool). cond t (settled main (length s - overhead cipher) (put out 0 text)) out) (sym f),
        )

    pub read_opened : length s - overhead cipher ≤ length out → (x : Ids) → u ≡ Some x → (f start : ℕ) → f ≡ overhead cipher
        → start ≡ main_start cipher → (a : Result Header Refusal) (p : List ℕ)
        → a ≡ read_main start side clock x.session x.packet (take (length s - f) o) → p ≡ settled a (length s - f) o
        → (a ≡ read_text cipher side clock key s) × (p ≡ text_out cipher side clock key s out)
    unfolding unsealed_out read_text text_out
    read_opened room x e f start ef es a p ea ep =
        let d = unsealed-tells cipher key s x (sym e ∙ eu) in
        let text = plain_of cipher key s in
        let main = main_of cipher side clock key s in
        let front = ap (λ (n : ℕ). take (length s - n) o) ef ∙ text-front cipher key s out o d.0 eo room in
        let am : a ≡ main = ea ∙ (λ i. read_main (es i) side clock (d.1 i).session (d.1 i).packet (front i)) in
        let om : o ≡ put out 0 text = eo ∙ ap (λ (t : Bool). cond t (put out 0 text) out) d.0 in (
          am ∙ ap (λ (t : Bool). cond t main (Err NotAuthentic)) (sym d.0),
          ep ∙ (λ i. settled (am i) (length s - ef i) (om i))
              ∙ ap (λ (t : Bool). cond t (settled main (length s - overhead cipher) (put out 0 text)) out) (sym d.0),
        )
