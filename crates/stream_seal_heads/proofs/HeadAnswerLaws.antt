-- What sealing a head answers: one law for each way out, and what an answered length tells.
-- Assumes nothing.
use Rattle.std.specs.Prelude.{Err, Ok, Result}
use mathlib.Core.Path.{◌≡◌, refl, sym, ap, ap₂, ◌∙◌, subst}
use mathlib.Core.Bool.{Bool, true, false, cond, ◌&&◌, and-eq-true_iff}
use mathlib.Core.List.{List}
use mathlib.Core.Logic.{◌⊎◌, inl, inr}
use Prim.Native.Nat.{ℕ, ◌+◌, ◌-◌, ◌^◌, ◌≤◌, ◌<◌, min}
use native.Mathlib.Decide.{dec_le}
use native.Mathlib.Omega.{arith}
use lib.Dec.{eqb, leb, ltb}
use lib.ListN.{length}
use borrow.Author.Tests.{ne_eqb, eq-eqb, le-leb, lt-leb, lt-ltb, eqb-true}
use Rattle.aead.specs.Aead.{KeyFor}
use Rattle.protocol.specs.declared.Cipher.{Cipher}
use Rattle.protocol.specs.declared.Refusal.TheVariants.{Settings, Argument, Empty}
use Rattle.protocol.specs.Method.{key_fits, salt_length, cipher_of}
use Rattle.protocol.specs.Subkey.{subkey}
use Rattle.protocol.proofs.MethodLaws.{fits-sizes}
use Rattle.socks5.specs.Address.{is_address}
use Rattle.stream_pieces.specs.declared.Subkey.{Subkey}
use Rattle.stream_seal.specs.declared.Sender.{Sender}
use Rattle.stream_pieces.specs.Framing.{is_empty}
use Rattle.stream_pieces.specs.Pieces.{subkey_words, key_of, max_chunk}
use Rattle.stream_seal.specs.Sealing.{size_answer}
use Rattle.stream_pieces.proofs.KeyLaws.{key-of-method, length-subkey, octets-subkey, words-of-either, subkey-back}
use Rattle.stream_pieces.proofs.FramingLaws.{zero-empty, not-zero-some}
use Rattle.stream_seal.proofs.SealAnswerLaws.{too_long, passed, escaped, answered, sized}
use Rattle.stream_heads.specs.Heads.{max_padding}
use Rattle.stream_seal_heads.specs.HeadSealing.{variable_length, begun, sizes_fit, padding_lawful, request_answer, response_answer}
use Rattle.protocol.specs.declared.Refusal.{Refusal}

-- ---- the lengths of key and salt

-- what it says that they fit the method
pub record Suited (method key salt : ℕ) : Type 0 where
  pub fits : key_fits method key ≡ true
  pub same : salt ≡ key
  pub either : (key ≡ 16) ⊎ (key ≡ 32)
  pub key-within : key ≤ 32
  pub salt-within : salt ≤ 32

module _ (method key salt : ℕ) where
  pub key-unfit : key_fits method key ≡ false → false ≡ sizes_fit method key salt
  unfolding sizes_fit
  key-unfit e = sym (ap (λ (b : Bool). b && eqb salt (salt_length method)) e)

  pub salt-decides : key_fits method key ≡ true → (n : ℕ) → n ≡ salt_length method → eqb salt n ≡ sizes_fit method key salt
  unfolding sizes_fit
  salt-decides e n en = ap (eqb salt) en ∙ sym (ap (λ (b : Bool). b && eqb salt (salt_length method)) e)

  most-of : (key ≡ 16) ⊎ (key ≡ 32) → key ≤ 32
  most-of (inl e) = omega (arith, e)
  most-of (inr e) = omega (arith, e)

  pub suited : sizes_fit method key salt ≡ true → Suited method key salt
  unfolding sizes_fit
  suited e =
      let p = (and-eq-true_iff (key_fits method key) (eqb salt (salt_length method))).0 e in
      let s = fits-sizes method key p.0 in
      let is : salt ≡ key = eqb-true salt (salt_length method) p.1 ∙ s.salt-is in
      let most : key ≤ 32 = most-of s.either in
      record { fits = p.0; same = is; either = s.either; key-within = most; salt-within = omega (arith, is, most) }

-- ---- padding

module _ (padding payload : ℕ) where
  padding-decided : (a b : Bool) → leb padding max_padding ≡ a → ltb 0 (padding + payload) ≡ b → (a && b) ≡ padding_lawful padding payload
  unfolding padding_lawful
  padding-decided a b ea eb = sym (ap₂ ◌&&◌ ea eb)

  pub padding-over : max_padding < padding → false ≡ padding_lawful padding payload
  padding-over h = padding-decided false (ltb 0 (padding + payload)) (lt-leb padding max_padding h) refl

  pub padding-none : padding ≤ max_padding → padding ≤ 0 → ltb 0 payload ≡ padding_lawful padding payload
  padding-none h z =
      let e : padding + payload ≡ payload = omega (arith, z) in
      padding-decided true (ltb 0 payload) (le-leb padding max_padding h) (ap (ltb 0) e)

  pub padding-some : padding ≤ max_padding → 0 < padding → true ≡ padding_lawful padding payload
  padding-some h f =
      let l : 0 < padding + payload = omega (arith, f) in
      padding-decided true true (le-leb padding max_padding h) (lt-ltb 0 (padding + payload) l)

-- ---- the variable header's length

-- sums that stop at the last number of a word pass the cap where the length does
module _ (address padding payload : ℕ) where
  abbrev word : ℕ
  word = 2 ^ 64 - 1

  pub length-capped : (a b c m : ℕ) → a ≡ min (address + 2) word → b ≡ min (a + padding) word → c ≡ min (b + payload) word
      → m ≡ min c (max_chunk + 1) → m ≡ min (variable_length address padding payload) (max_chunk + 1)
  unfolding variable_length
  length-capped a b c m ea eb ec em = omega (arith, ea, eb, ec, em)

-- one byte over the longest stands for every longer length
capped_same : (n before room : ℕ) (s : Sender) → size_answer max_chunk (min n (max_chunk + 1)) before room s ≡ size_answer max_chunk n before room s
capped_same n before room s = go (dec_le n max_chunk)
  where
    go : Dec (n ≤ max_chunk) → size_answer max_chunk (min n (max_chunk + 1)) before room s ≡ size_answer max_chunk n before room s
    go (yes h) = let e : min n (max_chunk + 1) ≡ n = omega arith in ap (λ (k : ℕ). size_answer max_chunk k before room s) e
    go (no f) =
        let h : max_chunk < n = omega arith in
        let k : max_chunk < min n (max_chunk + 1) = omega arith in
        sym (too_long max_chunk (min n (max_chunk + 1)) before room s k) ∙ too_long max_chunk n before room s h

-- ---- the answer to a request

module _ (method : ℕ) (key salt address : List ℕ) (padding payload room : ℕ) where
  abbrev request_sizes : Result (ℕ × Sender) Refusal
  request_sizes = size_answer max_chunk (variable_length (length address) padding payload) (length salt + 27) room (begun method key salt)

  request-decided : (a b : Bool) → sizes_fit method (length key) (length salt) ≡ a → (is_address address && padding_lawful padding payload) ≡ b
      → cond a (cond b request_sizes (Err Argument)) (Err Settings) ≡ request_answer method key salt address padding payload room
  unfolding request_answer
  request-decided a b ea eb = λ i. cond (sym ea i) (cond (sym eb i) request_sizes (Err Argument)) (Err Settings)

  pub request-unfit : sizes_fit method (length key) (length salt) ≡ false
      → Err Settings ≡ request_answer method key salt address padding payload room
  request-unfit e = request-decided false (is_address address && padding_lawful padding payload) e refl

  pub request-no-address : sizes_fit method (length key) (length salt) ≡ true → is_address address ≡ false
      → Err Argument ≡ request_answer method key salt address padding payload room
  request-no-address e f = request-decided true false e (ap (λ (b : Bool). b && padding_lawful padding payload) f)

  pub request-unlawful : sizes_fit method (length key) (length salt) ≡ true → is_address address ≡ true → padding_lawful padding payload ≡ false
      → Err Argument ≡ request_answer method key salt address padding payload room
  request-unlawful e f g = request-decided true false e (ap₂ ◌&&◌ f g)

  pub request-sized : sizes_fit method (length key) (length salt) ≡ true → is_address address ≡ true → padding_lawful padding payload ≡ true
      → (n : ℕ) → n ≡ min (variable_length (length address) padding payload) (max_chunk + 1) → (s : Sender) → s ≡ begun method key salt
      → (r : Result (ℕ × Sender) Refusal) → r ≡ size_answer max_chunk n (length salt + 27) room s → r ≡ request_answer method key salt address padding payload room
  request-sized e f g n en s es r er =
      er ∙ (λ i. size_answer max_chunk (en i) (length salt + 27) room (es i))
      ∙ capped_same (variable_length (length address) padding payload) (length salt + 27) room (begun method key salt)
      ∙ request-decided true true e (ap₂ ◌&&◌ f g)

-- ---- the answer to a response

module _ (method : ℕ) (key salt binding : List ℕ) (payload room : ℕ) where
  abbrev response_sizes : Result (ℕ × Sender) Refusal
  response_sizes = size_answer max_chunk payload (length salt + 27 + length binding) room (begun method key salt)

  response-decided : (a b c : Bool) → sizes_fit method (length key) (length salt) ≡ a → eqb (length binding) (length salt) ≡ b → is_empty payload ≡ c
      → cond (a && b) (cond c (Err Empty) response_sizes) (Err Settings) ≡ response_answer method key salt binding payload room
  unfolding response_answer
  response-decided a b c ea eb ec = λ i. cond (sym ea i && sym eb i) (cond (sym ec i) (Err Empty) response_sizes) (Err Settings)

  pub response-unfit : sizes_fit method (length key) (length salt) ≡ false → Err Settings ≡ response_answer method key salt binding payload room
  response-unfit e = response-decided false (eqb (length binding) (length salt)) _ e refl refl

  module _ (suits : sizes_fit method (length key) (length salt) ≡ true) where
    pub response-unbound : (length binding ≡ length salt → ⊥) → Err Settings ≡ response_answer method key salt binding payload room
    response-unbound f = response-decided true false _ suits (ne_eqb (length binding) (length salt) f) refl

    module _ (bound : length binding ≡ length salt) where
      pub response-empty : payload ≡ 0 → Err Empty ≡ response_answer method key salt binding payload room
      response-empty e = response-decided true true true suits (eq-eqb (length binding) (length salt) bound) (zero-empty payload e)

      pub response-sized : (payload ≡ 0 → ⊥) → (s : Sender) → s ≡ begun method key salt
          → (r : Result (ℕ × Sender) Refusal) → r ≡ size_answer max_chunk payload (length salt + 27 + length binding) room s
          → r ≡ response_answer method key salt binding payload room
      response-sized some s es r er =
          er ∙ ap (size_answer max_chunk payload (length salt + 27 + length binding) room) es
          ∙ response-decided true true false suits (eq-eqb (length binding) (length salt) bound) (not-zero-some payload some)

-- ---- what a length that was answered tells

-- the key that the words of a new stream hold
key_back : (key salt : List ℕ) (w : Subkey) → length salt ≡ length key → (length key ≡ 16) ⊎ (length key ≡ 32) → length key ≤ 32
    → w ≡ subkey_words (subkey key salt) → key_of w (length salt) ≡ subkey key salt
key_back key salt w same either within ew =
    let l : length (subkey key salt) ≡ length key = length-subkey key salt within in
    (λ i. key_of (ew i) ((same ∙ sym l) i))
    ∙ subkey-back (subkey key salt) (octets-subkey key salt) (words-of-either _ (subst (λ (n : ℕ). (n ≡ 16) ⊎ (n ≡ 32)) (sym l) either))

module _ (method : ℕ) (key salt : List ℕ) (fit : Suited method (length key) (length salt)) where
  key-good : KeyFor (cipher_of method) (length salt)
  key-good = subst (KeyFor (cipher_of method)) (sym fit.same) (key-of-method method (length key) fit.fits)

  key-held : (w : Subkey) → w ≡ subkey_words (subkey key salt) → key_of w (length salt) ≡ subkey key salt
  key-held w = key_back key salt w fit.same fit.either fit.key-within

pub record SealableRequest (method : ℕ) (key salt address : List ℕ) (padding payload room n : ℕ) (s : Sender) : Type 0 where
  pub good : (c : Cipher) → c ≡ cipher_of method → KeyFor c (length salt)
  pub most : variable_length (length address) padding payload ≤ max_chunk
  pub size : n ≡ length salt + 27 + variable_length (length address) padding payload + 16
  pub space : n ≤ room
  pub held : key_of s.subkey (length salt) ≡ subkey key salt

pub request-sealable : (method : ℕ) (key salt address : List ℕ) (padding payload room n : ℕ) (s : Sender)
    → request_answer method key salt address padding payload room ≡ Ok (n, s) → SealableRequest method key salt address padding payload room n s
unfolding request_answer
request-sealable method key salt address padding payload room n s e =
    let e₁ = passed (sizes_fit method (length key) (length salt)) _ _ n s e in
    let e₂ = passed (is_address address && padding_lawful padding payload) _ _ n s e₁.1 in
    let fit = suited method (length key) (length salt) e₁.0 in
    let z = sized max_chunk (variable_length (length address) padding payload) (length salt + 27) room (begun method key salt) n s e₂.1 in
    record {
      good = λ c e. subst (λ (x : Cipher). KeyFor x (length salt)) (sym e) (key-good method key salt fit);
      most = z.most;
      size = z.size;
      space = z.space;
      held = key-held method key salt fit s.subkey z.words;
    }

pub request-answered : (method : ℕ) (key salt address : List ℕ) (padding payload room n : ℕ) (s : Sender) (r : Result (ℕ × Sender) Refusal)
    → r ≡ request_answer method key salt address padding payload room → r ≡ Ok (n, s)
    → SealableRequest method key salt address padding payload room n s
request-answered method key salt address padding payload room n s r e is =
    request-sealable method key salt address padding payload room n s (answered r _ n s e is)

pub record SealableResponse (method : ℕ) (key salt binding : List ℕ) (payload room n : ℕ) (s : Sender) : Type 0 where
  pub good : (c : Cipher) → c ≡ cipher_of method → KeyFor c (length salt)
  pub bound : length binding ≡ length salt
  pub most : payload ≤ max_chunk
  pub size : n ≡ length salt + 27 + length binding + payload + 16
  pub space : n ≤ room
  pub held : key_of s.subkey (length salt) ≡ subkey key salt

pub response-sealable : (method : ℕ) (key salt binding : List ℕ) (payload room n : ℕ) (s : Sender)
    → response_answer method key salt binding payload room ≡ Ok (n, s) → SealableResponse method key salt binding payload room n s
unfolding response_answer
response-sealable method key salt binding payload room n s e =
    let e₁ = passed (sizes_fit method (length key) (length salt) && eqb (length binding) (length salt)) _ _ n s e in
    let p = (and-eq-true_iff (sizes_fit method (length key) (length salt)) (eqb (length binding) (length salt))).0 e₁.0 in
    let fit = suited method (length key) (length salt) p.0 in
    let e₂ = escaped (is_empty payload) _ _ n s e₁.1 in
    let z = sized max_chunk payload (length salt + 27 + length binding) room (begun method key salt) n s e₂.1 in
    record {
      good = λ c e. subst (λ (x : Cipher). KeyFor x (length salt)) (sym e) (key-good method key salt fit);
      bound = eqb-true (length binding) (length salt) p.1;
      most = z.most;
      size = z.size;
      space = z.space;
      held = key-held method key salt fit s.subkey z.words;
    }

pub response-answered : (method : ℕ) (key salt binding : List ℕ) (payload room n : ℕ) (s : Sender) (r : Result (ℕ × Sender) Refusal)
    → r ≡ response_answer method key salt binding payload room → r ≡ Ok (n, s)
    → SealableResponse method key salt binding payload room n s
response-answered method key salt binding payload room n s r e is =
    response-sealable method key salt binding payload room n s (answered r _ n s e is)
