-- Opening the head of a response: a law for each way out of each function.
-- Assumes nothing.
use Rattle.std.specs.Prelude.{Err, Ok, Result}
use mathlib.Core.Path.{◌≡◌, refl, sym, ap, ap₂, ◌∙◌, subst}
use mathlib.Core.Bool.{Bool, true, false, cond, ◌&&◌}
use mathlib.Core.List.{List}
use mathlib.Core.Logic.{⊎_elim, inl, inr}
use Prim.Native.Nat.{ℕ, ◌+◌, ◌-◌, ◌<◌, ◌≤◌}
use native.Mathlib.Omega.{arith}
use lib.Dec.{eqb, leb}
use lib.ListN.{length, take, drop, length-drop}
use lib.Seq.{length-take-le}
use borrow.Author.Tests.{eq-eqb, ne_eqb, le-leb, lt-leb}
use Rattle.octets.specs.Buffers.{same}
use Rattle.aead.specs.Aead.{KeyFor}
use Rattle.aead.proofs.AeadLaws.{key-for-most}
use Rattle.protocol.specs.declared.Cipher.{Cipher}
use Rattle.protocol.specs.declared.Refusal.{Refusal}
use Rattle.protocol.specs.declared.Refusal.TheVariants.{Settings, NotAuthentic, More, Binding, Empty}
use Rattle.protocol.specs.Method.{key_fits, salt_length, cipher_of}
use Rattle.protocol.specs.Subkey.{subkey}
use Rattle.protocol.proofs.MethodLaws.{fits-sizes}
use Rattle.stream_pieces.specs.declared.Subkey.{Subkey}
use Rattle.stream_pieces.specs.Framing.{is_empty}
use Rattle.stream_pieces.specs.Pieces.{authentic_at, open_at, subkey_words, key_of, Keyed, keyed}
use Rattle.stream_pieces.proofs.KeyLaws.{key-of-method, length-subkey, octets-subkey, words-of-either, subkey-back}
use Rattle.stream_pieces.proofs.FramingLaws.{zero-empty, not-zero-some}
use Rattle.stream_open.specs.declared.Turn.TheVariants.{Payload}
use Rattle.stream_heads.specs.declared.Fixed.{Fixed}
use Rattle.stream_heads.specs.Heads.{front_length, read_fixed, open_fixed}
use Rattle.stream_open.specs.Chunks.{receiver}
use Rattle.stream_open_response.specs.Responses.{binding_of, bound_as, bound_of, response_at, opened_response}
use Rattle.stream_open_response.specs.declared.Response.{Response}
use Rattle.stream_open.specs.declared.Receiver.{Receiver}

-- ---- the fixed header, and the request's salt in it

-- what was read was authentic
read-authentic : (b : Bool) (x : Result Fixed Refusal) (f : Fixed) → cond b x (Err NotAuthentic) ≡ Ok f → b ≡ true
read-authentic true x f e = refl
read-authentic false x f e = absurd (let z : ◌≡◌ {A = ℕ} 0 1 = cc in omega arith)

module _ (method : ℕ) (w : Subkey) (key : Keyed) (clock n : ℕ) (salt s : List ℕ) (r : Result Fixed Refusal) (er : r ≡ open_fixed key 1 clock s)
  where
    pub bound-refused : (q : Refusal) → r ≡ Err q → Err q ≡ bound_of method w key clock n salt s
    unfolding bound_of
    bound-refused q e = ap (bound_as method w (front_length n n) (same (binding_of n (open_at key 0 s)) salt)) (sym e ∙ er)

    module _ (plain o : List ℕ) (eo : o ≡ cond (authentic_at key 0 s) (open_at key 0 s) plain) (f : Fixed) (e : r ≡ Ok f) (b : Bool)
        (eb : b ≡ same (take (9 + n - 9) (drop 9 o)) salt)
      where
        plain-read : o ≡ open_at key 0 s
        unfolding open_fixed
        plain-read =
            let good = read-authentic (authentic_at key 0 s) (read_fixed 1 clock (open_at key 0 s)) f (sym er ∙ e) in
            eo ∙ ap (λ (d : Bool). cond d (open_at key 0 s) plain) good

        abbrev accepted : Result (Response × Receiver) Refusal
        accepted = Ok (record { time = f.time; length = f.length; used = n + 27 + n }, receiver method (Payload f.length) 1 w)

        bound_at : (d : Bool) → b ≡ d → bound_as method w (front_length n n) d (Ok f) ≡ bound_of method w key clock n salt s
        unfolding bound_of
        bound_at d ed =
            let m : 9 + n - 9 ≡ n = omega arith in
            let ours = sym ed ∙ eb ∙ (λ i. same (take (m i) (drop 9 (plain-read i))) salt) in
            λ i. bound_as method w (front_length n n) (ours i) ((sym e ∙ er) i)

        ours_at : b ≡ true → (d : Bool) → is_empty f.length ≡ d → cond d (Err Empty) accepted ≡ bound_of method w key clock n salt s
        ours_at ed d e = ap (λ (x : Bool). cond x (Err Empty) accepted) (sym e) ∙ bound_at true ed

        pub bound-empty : b ≡ true → f.length ≡ 0 → Err Empty ≡ bound_of method w key clock n salt s
        bound-empty ed e = ours_at ed true (zero-empty _ e)

        pub bound-ours : b ≡ true → (f.length ≡ 0 → ⊥) → accepted ≡ bound_of method w key clock n salt s
        bound-ours ed h = ours_at ed false (not-zero-some _ h)

        pub bound-others : b ≡ false → Err Binding ≡ bound_of method w key clock n salt s
        bound-others ed = bound_at false ed

-- behind the salt
pub length-fixed : (n : ℕ) (s : List ℕ) → n + 27 + n ≤ length s → length (take (n + 27 + n - n) (drop n s)) ≡ 27 + n
length-fixed n s h =
    let m : n + 27 + n - n ≡ 27 + n = omega arith in
    let l : n + 27 + n - n ≤ length (drop n s) = omega (arith, length-drop n s) in
    length-take-le (n + 27 + n - n) (drop n s) l ∙ m

pub response-at : (method : ℕ) (w : Subkey) (key : Keyed) (clock n : ℕ) (salt s : List ℕ) (r : Result (Response × Receiver) Refusal)
    → r ≡ bound_of method w key clock n salt (take (n + 27 + n - n) (drop n s)) → r ≡ response_at method w key clock n salt s
unfolding response_at bound_of
response-at method w key clock n salt s r e =
    let m : n + 27 + n - n ≡ 27 + n = omega arith in
    e ∙ ap (λ (k : ℕ). bound_of method w key clock n salt (take k (drop n s))) m

-- ---- the whole

-- a salt as long as the key
pub record Salted (method : ℕ) (key : List ℕ) (n : ℕ) : Type 0 where
  pub as-key : n ≡ length key
  pub most : n ≤ 32
  pub lawful : (c : Cipher) → c ≡ cipher_of method → KeyFor c n

pub salted : (method : ℕ) (key : List ℕ) (k : Bool) (n : ℕ) → k ≡ key_fits method (length key) → k ≡ true → n ≡ salt_length method → Salted method key n
salted method key k n ek e en =
    let fits = sym ek ∙ e in
    let alike : n ≡ length key = en ∙ (fits-sizes method (length key) fits).salt-is in
    let h : KeyFor (cipher_of method) n = subst (KeyFor (cipher_of method)) (sym alike) (key-of-method method (length key) fits) in
    record { as-key = alike; most = key-for-most (cipher_of method) n h; lawful = λ c e. subst (λ (x : Cipher). KeyFor x n) (sym e) h }

module _ (method : ℕ) (key : List ℕ) (clock : ℕ) (salt s : List ℕ) (k : Bool) (ek : k ≡ key_fits method (length key)) where
  abbrev sub : List ℕ
  sub = subkey key (take (salt_length method) s)

  opened-at : (a b c : Bool) → k ≡ a → eqb (length salt) (salt_length method) ≡ b
      → leb (front_length (salt_length method) (salt_length method)) (length s) ≡ c
      → cond (a && b)
      (cond c (response_at method (subkey_words sub) (keyed (cipher_of method) sub) clock (salt_length method) salt s)
      (Err (More (front_length (salt_length method) (salt_length method))))) (Err Settings)
      ≡ opened_response method key clock salt s
  unfolding opened_response
  opened-at a b c ea eb ec =
      λ i. cond ((sym ea ∙ ek) i && sym eb i)
      (cond (sym ec i) (response_at method (subkey_words sub) (keyed (cipher_of method) sub) clock (salt_length method) salt s)
      (Err (More (front_length (salt_length method) (salt_length method))))) (Err Settings)

  pub response-settings : k ≡ false → Err Settings ≡ opened_response method key clock salt s
  response-settings e = opened-at false _ _ e refl refl

  module _ (fits : k ≡ true) (n : ℕ) (en : n ≡ salt_length method) where
    pub response-salt : (length salt ≡ n → ⊥) → Err Settings ≡ opened_response method key clock salt s
    response-salt h = opened-at true false _ fits (ne_eqb _ _ (λ e. h (e ∙ sym en))) refl

    module _ (same-salt : length salt ≡ n) where
      pub response-more : length s < n + 27 + n → Err (More (n + 27 + n)) ≡ opened_response method key clock salt s
      response-more h =
          let l : length s < front_length (salt_length method) (salt_length method) = omega (arith, sym en) in
          ap (λ (m : ℕ). Err (More (m + 27 + m))) en ∙ opened-at true true false fits (eq-eqb _ _ (same-salt ∙ en)) (lt-leb _ _ l)

      pub response-done : n + 27 + n ≤ length s → (w : Subkey) (c : Cipher) (r : Result (Response × Receiver) Refusal) → w ≡ subkey_words (subkey key (take n s)) → c ≡ cipher_of method
          → r ≡ response_at method w (keyed c (key_of w n)) clock n salt s → r ≡ opened_response method key clock salt s
      response-done h w c r ew ec er =
          let salt-of = salted method key k n ek fits en in
          let most : length key ≤ 32 = omega (arith, salt-of.as-key, salt-of.most) in
          let l : front_length (salt_length method) (salt_length method) ≤ length s = omega (arith, sym en) in
          let size : length sub ≡ length key = length-subkey key (take (salt_length method) s) most in
          let words : w ≡ subkey_words sub = ew ∙ ap (λ (m : ℕ). subkey_words (subkey key (take m s))) en in
          let both-sizes = ⊎_elim (λ e. inl (size ∙ e)) (λ e. inr (size ∙ e)) (fits-sizes method (length key) (sym ek ∙ fits)).either in
          let back : key_of w n ≡ sub =
          ap₂ key_of words (salt-of.as-key ∙ sym size) ∙ subkey-back sub (octets-subkey key (take (salt_length method) s)) (words-of-either _ both-sizes) in
          er ∙ (λ i. response_at method (words i) (keyed (ec i) (back i)) clock (en i) salt s)
          ∙ opened-at true true true fits (eq-eqb _ _ (same-salt ∙ en)) (le-leb _ _ l)
