-- Opening a variable header: a law for each way out of each function.
-- Assumes nothing.
use Rattle.std.specs.Prelude.{Err, None, Ok, Option, Result, Some}
use mathlib.Core.Path.{◌≡◌, refl, sym, ap, ap₂, ◌∙◌}
use mathlib.Core.Bool.{Bool, true, false, cond, ◌&&◌}
use mathlib.Core.List.{List}
use mathlib.Core.Logic.{◌⊎◌, inl, inr}
use Prim.Native.Nat.{ℕ, ◌+◌, ◌-◌, ◌<◌, ◌≤◌}
use native.Mathlib.Nat.{zero-add}
use native.Mathlib.Omega.{arith}
use lib.Dec.{eqb, leb, ltb}
use lib.ListN.{length, take}
use lib.Seq.{length-take-le}
use borrow.Author.Tests.{eq-eqb, ne_eqb, le-leb, lt-leb, leb-true, leb-false, lt-ltb, le-ltb}
use Rattle.octets.specs.Buffers.{put}
use Rattle.octets.proofs.BufferLaws.{take_put}
use Rattle.protocol.specs.declared.Refusal.{Refusal}
use Rattle.protocol.specs.declared.Refusal.TheVariants.{Settings, Room, NotAuthentic, Malformed, More}
use Rattle.protocol.specs.declared.Cipher.{Cipher}
use Rattle.protocol.specs.Method.{key_length, cipher_of}
use Rattle.socks5.specs.declared.Address.{Address}
use Rattle.socks5.specs.Address.{parse_at}
use Rattle.stream_pieces.specs.Pieces.{authentic_at, open_at, key_of, Keyed, keyed}
use Rattle.stream_pieces.proofs.LengthLaws.{length-open_at}
use Rattle.stream_heads.specs.Heads.{max_padding}
use Rattle.stream_open.specs.declared.Turn.{Turn}
use Rattle.stream_open.specs.declared.Turn.TheVariants.{Variable, Length, Payload, Ended}
use Rattle.stream_open.specs.declared.Receiver.{Receiver}
use Rattle.stream_open.specs.Chunks.{stream_key}
use Rattle.stream_open_variable.specs.declared.VariableHeader.{VariableHeader}
use Rattle.stream_open_variable.specs.Variable.{padding_at, padding_fits, header_with, read_variable, variable_piece, header_answer, settled, header_out, turn_variable, variable_answer, turn_out, variable_out}

-- ---- the padding behind an address that ends at the place e

last-false : (a b c : Bool) → (a && (b && (c && false))) ≡ false
last-false true true true = refl
last-false true true false = refl
last-false true false c = refl
last-false false b c = refl

second-false : (a c : Bool) → (a && (false && c)) ≡ false
second-false true c = refl
second-false false c = refl

module _ (e : ℕ) (plain : List ℕ) where
  pub padding-short : length plain - e ≤ 2 → false ≡ padding_fits e plain
  unfolding padding_fits
  padding-short h =
      let l : length plain ≤ e + 2 = omega arith in
      let t : ltb (e + 2) (length plain) ≡ false = le-ltb (e + 2) (length plain) l in
      let a = leb (e + 2) (length plain) in
      let b = leb (padding_at e plain) max_padding in
      let c = leb (e + 2 + padding_at e plain) (length plain) in
      sym (ap (λ (d : Bool). a && (b && (c && d))) t ∙ last-false a b c)

  module _ (p : ℕ) (ep : p ≡ padding_at e plain) where
    pub padding-over : max_padding < p → false ≡ padding_fits e plain
    unfolding padding_fits
    padding-over h =
        let t : leb (padding_at e plain) max_padding ≡ false = ap (λ (x : ℕ). leb x max_padding) (sym ep) ∙ lt-leb p max_padding h in
        let a = leb (e + 2) (length plain) in
        let c = (leb (e + 2 + padding_at e plain) (length plain) && ltb (e + 2) (length plain)) in
        sym (ap (λ (b : Bool). a && (b && c)) t ∙ second-false a c)

    padding-left : 2 < length plain - e → p ≤ max_padding → leb p (length plain - e - 2) ≡ padding_fits e plain
    unfolding padding_fits
    padding-left l h =
        let a : leb (e + 2) (length plain) ≡ true = le-leb (e + 2) (length plain) (omega arith) in
        let b : leb (padding_at e plain) max_padding ≡ true = ap (λ (x : ℕ). leb x max_padding) (sym ep) ∙ le-leb p max_padding h in
        let d : ltb (e + 2) (length plain) ≡ true = lt-ltb (e + 2) (length plain) (omega arith) in
        go (leb p (length plain - e - 2)) refl
        ∙ sym (λ i. a i && (b i && (leb (e + 2 + sym ep i) (length plain) && d i)))
      where
        go : (x : Bool) → leb p (length plain - e - 2) ≡ x → leb p (length plain - e - 2) ≡ (leb (e + 2 + p) (length plain) && true)
        go true t =
            let m : p ≤ length plain - e - 2 = leb-true p (length plain - e - 2) t in
            t ∙ sym (ap (λ (x : Bool). x && true) (le-leb (e + 2 + p) (length plain) (omega arith)))
        go false t =
            let m : length plain - e - 2 < p = leb-false p (length plain - e - 2) t in
            t ∙ sym (ap (λ (x : Bool). x && true) (lt-leb (e + 2 + p) (length plain) (omega arith)))

  pub padding-law : (left : ℕ) → left ≡ length plain - e → (p : ℕ) → p ≡ padding_at e plain → 2 < left → p ≤ max_padding
      → leb p (left - 2) ≡ padding_fits e plain
  padding-law left el p ep l h =
      ap (λ (k : ℕ). leb p (k - 2)) el ∙ padding-left p ep (omega (arith, l, el)) h

  -- padding that fits ends where the string does at the latest
  pub padding-within : padding_fits e plain ≡ true → e + 2 + padding_at e plain ≤ length plain
  unfolding padding_fits
  padding-within h =
      leb-true (e + 2 + padding_at e plain) (length plain)
      (third (leb (e + 2) (length plain)) (leb (padding_at e plain) max_padding) (leb (e + 2 + padding_at e plain) (length plain))
      (ltb (e + 2) (length plain)) h)
    where
      third : (a b c d : Bool) → (a && (b && (c && d))) ≡ true → c ≡ true
      third true true true d t = refl
      third true true false d t = t
      third true false c d t = absurd (let z : ◌≡◌ {A = ℕ} 0 1 = cc in omega arith)
      third false b c d t = absurd (let z : ◌≡◌ {A = ℕ} 0 1 = cc in omega arith)

-- ---- the plaintext

module _ (n : ℕ) (plain : List ℕ) (r : Option Address) (er : r ≡ parse_at plain 0) where
  read-law : (q : Option Address) → r ≡ q → header_with n plain q ≡ read_variable n plain
  unfolding read_variable
  read-law q eq = ap (header_with n plain) (sym eq ∙ er)

  pub read_none : r ≡ None → Err Malformed ≡ read_variable n plain
  read_none e = read-law None e

  module _ (a : Address) (ea : r ≡ Some a) (b : Bool) (eb : b ≡ padding_fits a.end plain) where
    -- with a padding of p bytes
    abbrev header : (p : ℕ) → VariableHeader
    header p =
        record {
          target = a.target;
          port = a.port;
          padding = p;
          payload = a.end + 2 + p;
          length = n;
          used = n + 16;
        }

    by-test : (x : Bool) → b ≡ x → cond x (Ok (header (padding_at a.end plain))) (Err Malformed) ≡ read_variable n plain
    by-test x ex =
        ap (λ (t : Bool). cond t (Ok (header (padding_at a.end plain))) (Err Malformed)) (sym ex ∙ eb) ∙ read-law (Some a) ea

    pub read-bad : b ≡ false → Err Malformed ≡ read_variable n plain
    read-bad e = by-test false e

    pub read-good : b ≡ true → (p : ℕ) → p ≡ padding_at a.end plain → Ok (header p) ≡ read_variable n plain
    read-good e p ep = ap (λ (x : ℕ). Ok (header x)) ep ∙ by-test true e

pub settled-law : (answer : Result VariableHeader Refusal) (r : Refusal) (due : ℕ) (out o : List ℕ) → answer ≡ Err r → o ≡ settled (Err r) due out
    → o ≡ settled answer due out
settled-law answer r due out o e eo = eo ∙ ap (λ (a : Result VariableHeader Refusal). settled a due out) (sym e)

-- ---- the piece

module _ (key : Keyed) (n : ℕ) (s out : List ℕ) where
  abbrev text : List ℕ
  text = open_at key 1 (variable_piece n s)

  header_at : (a r t : Bool) → leb (n + 16) (length s) ≡ a → leb n (length out) ≡ r → authentic_at key 1 (variable_piece n s) ≡ t
      → (cond a (cond r (cond t (read_variable n text) (Err NotAuthentic)) (Err Room)) (Err (More (n + 16)))
      ≡ header_answer key n s (length out))
      × (cond (a && (r && t)) (settled (read_variable n text) n (put out 0 text)) out ≡ header_out key n s out)
  unfolding header_answer header_out
  header_at a r t ea er et = (
    λ i. cond (sym ea i) (cond (sym er i) (cond (sym et i) (read_variable n text) (Err NotAuthentic)) (Err Room)) (Err (More (n + 16))),
    λ i. cond (sym ea i && (sym er i && sym et i)) (settled (read_variable n text) n (put out 0 text)) out,
  )

  pub header-more : length s < n + 16 → (Err (More (n + 16)) ≡ header_answer key n s (length out)) × (out ≡ header_out key n s out)
  header-more h = header_at false _ _ (lt-leb (n + 16) (length s) h) refl refl

  module _ (there : n + 16 ≤ length s) where
    pub header-room : length out < n → (Err Room ≡ header_answer key n s (length out)) × (out ≡ header_out key n s out)
    header-room h = header_at true false _ (le-leb (n + 16) (length s) there) (lt-leb n (length out) h) refl

    module _ (room : n ≤ length out) (b : Bool) (o : List ℕ) (eb : b ≡ authentic_at key 1 (variable_piece n s))
        (eo : o ≡ cond b (put out 0 text) out)
      where
        done : (t : Bool) → b ≡ t
            → (cond t (read_variable n text) (Err NotAuthentic) ≡ header_answer key n s (length out))
            × (cond t (settled (read_variable n text) n (put out 0 text)) out ≡ header_out key n s out)
        done t et = header_at true true t (le-leb (n + 16) (length s) there) (le-leb n (length out) room) (sym eb ∙ et)

        filled : (t : Bool) → b ≡ t → o ≡ cond t (put out 0 text) out
        filled t e = eo ∙ ap (λ (x : Bool). cond x (put out 0 text) out) e

        pub header-forged : b ≡ false → (Err NotAuthentic ≡ header_answer key n s (length out)) × (o ≡ header_out key n s out)
        header-forged e = let d = done false e in (d.0, filled false e ∙ d.1)

        length-text : length text ≡ n
        length-text =
            let l : length (variable_piece n s) ≡ n + 16 = length-take-le (n + 16) s there in
            omega (arith, l, length-open_at key 1 (variable_piece n s))

        front-text : b ≡ true → take n o ≡ text
        front-text e =
            ap₂ take (sym (zero-add (length text) ∙ length-text)) (filled true e) ∙ take_put out 0 text (omega (arith, length-text))

        pub header-done : b ≡ true → (a : Result VariableHeader Refusal) (p : List ℕ) → a ≡ read_variable n (take n o) → p ≡ settled a n o
            → (a ≡ header_answer key n s (length out)) × (p ≡ header_out key n s out)
        header-done e a p ea ep =
            let d = done true e in
            let am : a ≡ read_variable n text = ea ∙ ap (read_variable n) (front-text e) in
            (am ∙ d.0, ep ∙ (λ i. settled (am i) n (filled true e i)) ∙ d.1)

-- ---- the turn

module _ (st : Receiver) (s out : List ℕ) (k : ℕ) (ek : k ≡ key_length st.method) where
  call_at : (a : Bool) (t : Turn) → eqb (key_length st.method) 0 ≡ a → st.turn ≡ t
      → (cond a (Err Settings) (turn_variable t st s (length out)) ≡ variable_answer st s (length out))
      × (cond a out (turn_out t st s out) ≡ variable_out st s out)
  unfolding variable_answer variable_out
  call_at a t ea et = (
    λ i. cond (sym ea i) (Err Settings) (turn_variable (sym et i) st s (length out)),
    λ i. cond (sym ea i) out (turn_out (sym et i) st s out),
  )

  pub call-settings : k ≡ 0 → (Err Settings ≡ variable_answer st s (length out)) × (out ≡ variable_out st s out)
  call-settings e = call_at true st.turn (eq-eqb _ _ (sym ek ∙ e)) refl

  module _ (known : k ≡ 0 → ⊥) where
    call_known : (t : Turn) → st.turn ≡ t
        → (turn_variable t st s (length out) ≡ variable_answer st s (length out)) × (turn_out t st s out ≡ variable_out st s out)
    call_known t e = call_at false t (ne_eqb _ _ (λ z. known (ek ∙ z))) e

    pub call-elsewhere : (st.turn ≡ Length) ⊎ ((m : ℕ) × (st.turn ≡ Payload m))
        → (Err Settings ≡ variable_answer st s (length out)) × (out ≡ variable_out st s out)
    call-elsewhere (inl e) = call_known Length e
    call-elsewhere (inr (m, e)) = call_known (Payload m) e

    pub call-ended : st.turn ≡ Ended → (Err NotAuthentic ≡ variable_answer st s (length out)) × (out ≡ variable_out st s out)
    call-ended e = call_known Ended e

    module _ (n : ℕ) (et : st.turn ≡ Variable n) where
      counter_at : (b : Bool) → eqb st.counter 1 ≡ b
          → (cond b (header_answer (stream_key st) n s (length out)) (Err Settings) ≡ variable_answer st s (length out))
          × (cond b (header_out (stream_key st) n s out) out ≡ variable_out st s out)
      counter_at b eb =
          let d = call_known (Variable n) et in (
            ap (λ (x : Bool). cond x (header_answer (stream_key st) n s (length out)) (Err Settings)) (sym eb) ∙ d.0,
            ap (λ (x : Bool). cond x (header_out (stream_key st) n s out) out) (sym eb) ∙ d.1,
          )

      pub call-counter : (st.counter ≡ 1 → ⊥) → (Err Settings ≡ variable_answer st s (length out)) × (out ≡ variable_out st s out)
      call-counter h = counter_at false (ne_eqb _ _ h)

      pub call-header : st.counter ≡ 1 → (c : Cipher) → c ≡ cipher_of st.method → (r : Result VariableHeader Refusal) (o : List ℕ) → r ≡ header_answer (keyed c (key_of st.subkey k)) n s (length out)
          → o ≡ header_out (keyed c (key_of st.subkey k)) n s out
          → (r ≡ variable_answer st s (length out)) × (o ≡ variable_out st s out)
      call-header h c ec r o er eo =
          let d = counter_at true (eq-eqb _ _ h) in (
            er ∙ (λ i. header_answer (keyed (ec i) (key_of st.subkey (ek i))) n s (length out)) ∙ d.0,
            eo ∙ (λ i. header_out (keyed (ec i) (key_of st.subkey (ek i))) n s out) ∙ d.1,
          )
