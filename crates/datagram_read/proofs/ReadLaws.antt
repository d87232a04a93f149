-- What a header that was read tells, and what gives a header: each test of the order came out well. And what the buffer holds.
-- Assumes nothing.
use Rattle.std.specs.Prelude.{Err, None, Ok, Option, Result, Some}
use mathlib.Core.Path.{◌≡◌, refl, sym, ap, ◌∙◌}
use mathlib.Core.Bool.{Bool, true, false, cond, ◌&&◌, and-eq-true_iff}
use mathlib.Core.List.{List}
use Prim.Native.Nat.{ℕ, ◌+◌, ◌-◌, ◌≤◌}
use native.Mathlib.Omega.{arith}
use lib.Dec.{eqb, leb}
use lib.ListN.{length, get_or, replicate, length-replicate}
use borrow.Author.Tests.{leb-true}
use Rattle.octets.specs.Buffers.{put}
use Rattle.octets.proofs.BufferLaws.{put-again}
use Rattle.protocol.specs.declared.Cipher.{Cipher}
use Rattle.protocol.specs.Method.{key_fits, cipher_of}
use Rattle.protocol.specs.declared.Refusal.{Refusal}
use Rattle.protocol.specs.declared.Refusal.TheVariants.{Settings, Length, Room, NotAuthentic, Malformed, WrongType, WrongTime, Binding}
use Rattle.protocol.specs.Time.{time_valid}
use Rattle.socks5.specs.Address.{parse_at}
use Rattle.datagram_parts.specs.declared.Side.{Side}
use Rattle.datagram_parts.specs.Headers.{type_of, fixed_length, main_start}
use Rattle.datagram_parts.specs.Parts.{overhead}
use Rattle.datagram_read.specs.declared.Header.{Header}
use Rattle.datagram_read.specs.Opening.{datagram_authentic, plain_of, session_of, packet_of, time_of, padding_of, meant, header_with, read_address, read_main, length_lawful, main_of, read_text, read_answer, settled, text_out, read_out}
use Rattle.datagram_read.proofs.OpeningLaws.{length-plain}
use Rattle.socks5.specs.declared.Address.{Address}

-- ---- answers

-- 1 for a header, 0 for a refusal
abbrev is_header : Result Header Refusal → ℕ
is_header (Ok h) = 1
is_header (Err r) = 0

not-refused : (r : Refusal) (h : Header) → Err r ≡ Ok h → ⊥
not-refused r h e = let z : ◌≡◌ {A = ℕ} 0 1 = ap is_header e in omega arith

record Passed (b : Bool) (x : Result Header Refusal) (h : Header) : Type 0 where
  test : b ≡ true
  then : x ≡ Ok h

passed : (b : Bool) (x : Result Header Refusal) (r : Refusal) (h : Header) → cond b x (Err r) ≡ Ok h → Passed b x h
passed true x r h e = record { test = refl; then = e }
passed false x r h e = absurd (not-refused r h e)

-- ---- a header, exactly when

-- the main header of a plaintext, from its start
pub record Reads (start : ℕ) (side : Side) (clock id packet : ℕ) (plain : List ℕ) (h : Header) : Type 0 where
  pub long : leb (start + fixed_length side) (length plain) ≡ true
  pub kind : eqb (get_or plain start 0) (type_of side) ≡ true
  pub timely : time_valid (time_of start plain) clock ≡ true
  pub ours : meant start side plain ≡ true
  pub address : read_address start side id packet plain ≡ Ok h

module _ (start : ℕ) (side : Side) (clock id packet : ℕ) (plain : List ℕ) (h : Header) where
  pub main-tells : read_main start side clock id packet plain ≡ Ok h → Reads start side clock id packet plain h
  unfolding read_main
  main-tells e =
      let e₁ = passed (leb (start + fixed_length side) (length plain)) _ _ h e in
      let e₂ = passed (eqb (get_or plain start 0) (type_of side)) _ _ h e₁.then in
      let e₃ = passed (time_valid (time_of start plain) clock) _ _ h e₂.then in
      let e₄ = passed (meant start side plain) _ _ h e₃.then in
      record { long = e₁.test; kind = e₂.test; timely = e₃.test; ours = e₄.test; address = e₄.then }

  pub main-given : Reads start side clock id packet plain h → read_main start side clock id packet plain ≡ Ok h
  unfolding read_main
  main-given d =
      (λ i. cond (d.long i)
      (cond (d.kind i)
      (cond (d.timely i) (cond (d.ours i) (read_address start side id packet plain) (Err Binding)) (Err WrongTime))
      (Err WrongType)) (Err Malformed))
      ∙ d.address

-- the whole datagram, with lawful settings, length and room
pub record Opens (method : ℕ) (key : List ℕ) (side : Side) (clock : ℕ) (s out : List ℕ) (h : Header) : Type 0 where
  pub fits : key_fits method (length key) ≡ true
  pub size : length_lawful (cipher_of method) s ≡ true
  pub room : leb (length s - overhead (cipher_of method)) (length out) ≡ true
  pub authentic : datagram_authentic (cipher_of method) key s ≡ true
  pub main : Reads (main_start (cipher_of method)) side clock (session_of (cipher_of method) key s) (packet_of (cipher_of method) key s)
      (plain_of (cipher_of method) key s) h

-- what a header that was read says of its session and its packet ID
abbrev session_in : Result Header Refusal → ℕ → ℕ
session_in (Ok h) other = h.session
session_in (Err r) other = other

abbrev packet_in : Result Header Refusal → ℕ → ℕ
packet_in (Ok h) other = h.packet
packet_in (Err r) other = other

module _ (id packet time padding : ℕ) (h : Header) where
  with-session : (p : Option Address) → header_with id packet time padding p ≡ Ok h → h.session ≡ id
  with-session (Some a) e = sym (ap (λ (o : Result Header Refusal). session_in o id) e)
  with-session None e = absurd (not-refused Malformed h e)

  with-packet : (p : Option Address) → header_with id packet time padding p ≡ Ok h → h.packet ≡ packet
  with-packet (Some a) e = sym (ap (λ (o : Result Header Refusal). packet_in o packet) e)
  with-packet None e = absurd (not-refused Malformed h e)

module _ (method : ℕ) (key : List ℕ) (side : Side) (clock : ℕ) (s out : List ℕ) where
  abbrev cipher : Cipher
  cipher = cipher_of method

  abbrev start : ℕ
  start = main_start cipher

  abbrev id : ℕ
  id = session_of cipher key s

  abbrev packet : ℕ
  packet = packet_of cipher key s

  abbrev plain : List ℕ
  plain = plain_of cipher key s

  abbrev due : ℕ
  due = length s - overhead cipher

  abbrev settings : Bool
  settings = key_fits method (length key) && (length_lawful cipher s && leb due (length out))

  module _ (h : Header) where
    pub answer-tells : read_answer method key side clock s out ≡ Ok h → Opens method key side clock s out h
    unfolding read_answer read_text
    answer-tells e =
        let e₁ = passed (key_fits method (length key)) _ _ h e in
        let e₂ = passed (length_lawful cipher s) _ _ h e₁.then in
        let e₃ = passed (leb due (length out)) _ _ h e₂.then in
        let e₄ = passed (datagram_authentic cipher key s) _ _ h e₃.then in
        record {
          fits = e₁.test;
          size = e₂.test;
          room = e₃.test;
          authentic = e₄.test;
          main = main-tells start side clock id packet plain h e₄.then;
        }

    pub answer-given : Opens method key side clock s out h → read_answer method key side clock s out ≡ Ok h
    unfolding read_answer read_text
    answer-given d =
        (λ i. cond (d.fits i)
        (cond (d.size i)
        (cond (d.room i) (cond (d.authentic i) (main_of cipher side clock key s) (Err NotAuthentic)) (Err Room))
        (Err Length)) (Err Settings))
        ∙ main-given start side clock id packet plain h d.main

    module _ (d : Opens method key side clock s out h) where
      pub opens-long : overhead cipher ≤ length s
      unfolding length_lawful
      opens-long = leb-true (overhead cipher) (length s) ((and-eq-true_iff _ _).0 d.size).0

      pub opens-room : due ≤ length out
      opens-room = leb-true due (length out) d.room

      pub header-session : h.session ≡ id
      unfolding read_address
      header-session =
          with-session id packet (time_of start plain) (padding_of start side plain) h
          (parse_at plain (start + fixed_length side + padding_of start side plain)) d.main.address

      pub header-packet : h.packet ≡ packet
      unfolding read_address
      header-packet =
          with-packet id packet (time_of start plain) (padding_of start side plain) h
          (parse_at plain (start + fixed_length side + padding_of start side plain)) d.main.address

      -- the plaintext is in the buffer
      pub opened_out : read_out method key side clock s out ≡ put out 0 plain
      unfolding read_out text_out
      opened_out =
          let m = main-given start side clock id packet plain h d.main in
          (λ i. cond (d.fits i && (d.size i && d.room i))
          (cond (d.authentic i) (settled (m i) due (put out 0 plain)) out) out)

  -- ---- what a refusal leaves

  -- with unlawful settings, length or room, or a wrong tag: the buffer as it was
  pub unlawful-out : settings ≡ false → read_out method key side clock s out ≡ out
  unfolding read_out
  unlawful-out e = ap (λ (b : Bool). cond b (text_out cipher side clock key s out) out) e

  pub forged-out : datagram_authentic cipher key s ≡ false → read_out method key side clock s out ≡ out
  unfolding read_out text_out
  forged-out e =
      ap
      (λ (b : Bool). cond settings (cond b (settled (main_of cipher side clock key s) due (put out 0 plain)) out) out)
      e
      ∙ same settings
    where
      same : (b : Bool) → cond b out out ≡ out
      same true = refl
      same false = refl

  -- after a good tag: zeros where the plaintext was, as many as are due
  pub cleared-out : settings ≡ true → datagram_authentic cipher key s ≡ true → (r : Refusal)
      → read_answer method key side clock s out ≡ Err r → due ≤ length out
      → read_out method key side clock s out ≡ put out 0 (replicate due 0)
  unfolding read_answer read_text read_out text_out
  cleared-out e a r ea room =
      let lp : length plain ≡ due = length-plain cipher key s in
      let lz : length (replicate {A = ℕ} due 0) ≡ due = length-replicate due 0 in
      let fits = parts (key_fits method (length key)) (length_lawful cipher s) (leb due (length out)) e in
      let main : main_of cipher side clock key s ≡ Err r =
      sym
      (λ i. cond (fits.0 i)
      (cond (fits.1.0 i)
      (cond (fits.1.1 i) (cond (a i) (main_of cipher side clock key s) (Err NotAuthentic)) (Err Room)) (Err Length))
      (Err Settings))
      ∙ ea in
      (λ i. cond (e i) (cond (a i) (settled (main i) due (put out 0 plain)) out) out)
      ∙ put-again out plain (replicate due 0) (omega (arith, lp)) (lz ∙ sym lp)
    where
      parts : (x y z : Bool) → (x && (y && z)) ≡ true → (x ≡ true) × ((y ≡ true) × (z ≡ true))
      parts true true true e = (refl, (refl, refl))
      parts true true false e = (refl, (refl, e))
      parts true false z e = (refl, (e, absurd (let w : ◌≡◌ {A = ℕ} 0 1 = cc in omega arith)))
      parts false y z e = absurd (let w : ◌≡◌ {A = ℕ} 0 1 = cc in omega arith)
