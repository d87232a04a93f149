-- Demand 3 for the openers, for every method and key.
-- Assumes nothing.
use Rattle.std.specs.Prelude.{Err, Ok, Result, None, Some}
use mathlib.Core.Path.{◌≡◌, refl, sym, ap, ap₂, ◌∙◌}
use mathlib.Core.Logic.{◌≢◌}
use mathlib.Core.Bool.{Bool, true, false, cond, ◌&&◌, and-false}
use mathlib.Core.List.{List}
use Prim.Native.Nat.{ℕ, ◌+◌, ◌-◌, ◌≤◌}
use native.Mathlib.Omega.{arith}
use lib.Dec.{leb}
use lib.ListN.{length, take, drop}
use borrow.Author.Tests.{leb-true, le-leb, lt-leb}
use Rattle.session_book.specs.Call.{Call, Decision, early, reaches}
use Rattle.session_book.specs.Demand3.{Named}
use Rattle.session_book.specs.Counts.{NoEarlyEight}
use Rattle.session_book.proofs.Demand3 as book
use Rattle.datagram_read.specs.declared.Header.{Header}
use Rattle.datagram_read.specs.Opening.{separate_of, datagram_authentic, plain_of, session_of, read_answer, read_out}
use Rattle.chacha_poly.specs.Extended.{extended_authentic}
use Rattle.protocol.specs.declared.Cipher.{Cipher}
use Rattle.protocol.specs.declared.Cipher.TheVariants.{AesGcm, ChaChaPoly}
use Rattle.protocol.specs.Method.{method_of, key_fits, cipher_of}
use Rattle.datagram_parts.specs.Headers.{fixed_length, main_start}
use Rattle.datagram_parts.specs.Parts.{overhead}
use Rattle.datagram_parts.proofs.LengthLaws.{fixed-least}
use Rattle.datagram_open.specs.Deciding.{expected, decided_by, decide, names, belongs}
use Rattle.demands.specs.Demand3.{MembershipAes, MembershipChaCha, Membership, Demand3}
use Rattle.datagram_read.proofs.OpeningLaws.{length-plain}
use Rattle.datagram_read.proofs.ReadLaws.{answer-tells, opens-long, header-session}
use Rattle.demands.proofs.DatagramWays.{among, among-answer, early-not-eight}
use Rattle.protocol.specs.declared.Refusal.{Refusal}

-- 1 where a session is reached, and its ID
abbrev reached : Decision Header → ℕ
reached (early n out) = 0
reached (reaches id p h plain) = 1

abbrev id_in : Decision Header → ℕ
id_in (early n out) = 0
id_in (reaches id p h plain) = id

-- a datagram that was read names a session: its plaintext holds a main header, and with ChaCha the IDs before it
names-there : (cipher : Cipher) (key s : List ℕ) → overhead cipher ≤ length s → main_start cipher + 11 ≤ length s - overhead cipher
    → datagram_authentic cipher key s ≡ true → names cipher key s ≡ true
names-there AesGcm key s long header good = le-leb 16 (length s) (omega arith)
names-there (ChaChaPoly n) key s long header good = ap₂ ◌&&◌ (le-leb 48 (length s) (omega arith)) good

-- by what was read
by_answer : (method : ℕ) (key : List ℕ) (c : Call) (a : Result Header Refusal)
    → read_answer method key (expected c.client) c.clock c.datagram c.output ≡ a → (o : List ℕ) (id p : ℕ) (header : Header) (text : List ℕ)
    → decided_by a o (plain_of (cipher_of method) key c.datagram) ≡ reaches id p header text → belongs method key c ≡ Some id
unfolding belongs
by_answer method key c (Ok h) ea o id p header text e =
    let s = c.datagram in
    let cipher = cipher_of method in
    let side = expected c.client in
    let d = answer-tells method key side c.clock s c.output h ea in
    let long = opens-long method key side c.clock s c.output h d in
    let whole = leb-true (main_start cipher + fixed_length side) (length (plain_of cipher key s)) d.main.long in
    let there = names-there cipher key s long (omega (arith, whole, fixed-least side, length-plain cipher key s)) d.authentic in
    let this : session_of cipher key s ≡ id = sym (header-session method key side c.clock s c.output h d) ∙ ap id_in e in
    (λ i. cond (d.fits i && there i) (Some (session_of cipher key s)) None) ∙ ap Some this
by_answer method key c (Err r) ea o id p header text e = absurd (let z : ◌≡◌ {A = ℕ} 0 1 = ap reached e in omega arith)

-- the number that the arguments decide
abbrev number_in : Decision Header → ℕ
number_in (early n out) = n
number_in (reaches id p h plain) = 0

not_eight : (a : Result Header Refusal) (o plain : List ℕ) → among a ≡ true → (n : ℕ) (out : List ℕ) → decided_by a o plain ≡ early n out → n ≢ 8
not_eight (Ok h) o plain among-a n out e f = let z : ◌≡◌ {A = ℕ} 1 0 = ap reached e in omega arith
not_eight (Err r) o plain among-a n out e f = early-not-eight r among-a (ap number_in e ∙ f)

module _ (method : ℕ) (key : List ℕ) where
  -- a datagram that reaches a session is of the one that it names
  pub named : Named (decide method key) (belongs method key)
  unfolding decide
  named c id p header text e = by_answer method key c _ refl _ id p header text e

  -- and no refusal before has the number 8
  pub no-early-eight : NoEarlyEight (decide method key)
  unfolding decide
  no-early-eight c n out e =
      let s = c.datagram in
      let side = expected c.client in
      not_eight (read_answer method key side c.clock s c.output) (read_out method key side c.clock s c.output) (plain_of (cipher_of method) key s)
      (among-answer method key side c.clock s c.output) n out e

  -- the session that a datagram names, by the method's cipher
  belongs-by : (cipher : Cipher) → cipher_of method ≡ cipher → (c : Call)
      → belongs method key c
      ≡ cond (key_fits method (length key) && names cipher key c.datagram) (Some (session_of cipher key c.datagram)) None
  unfolding belongs
  belongs-by cipher e c = λ i. cond (key_fits method (length key) && names (e i) key c.datagram) (Some (session_of (e i) key c.datagram)) None

  -- where it names one, and where it names none
  named_by : (cipher : Cipher) → cipher_of method ≡ cipher → (c : Call) → key_fits method (length key) ≡ true → names cipher key c.datagram ≡ true
      → belongs method key c ≡ Some (session_of cipher key c.datagram)
  named_by cipher e c fits there = belongs-by cipher e c ∙ (λ i. cond (fits i && there i) (Some (session_of cipher key c.datagram)) None)

  unnamed-by : (cipher : Cipher) → cipher_of method ≡ cipher → (c : Call) → names cipher key c.datagram ≡ false → belongs method key c ≡ None
  unnamed-by cipher e c none-there =
      belongs-by cipher e c
      ∙ ap (λ (b : Bool). cond (key_fits method (length key) && b) (Some (session_of cipher key c.datagram)) None) none-there
      ∙ ap (λ (b : Bool). cond b (Some (session_of cipher key c.datagram)) None) (and-false (key_fits method (length key)))

  by-aes : cipher_of method ≡ AesGcm → MembershipAes method key
  unfolding session_of separate_of
  by-aes e =
      record {
        named = λ c fits long. named_by AesGcm e c fits (le-leb 16 (length c.datagram) long);
        too_short = λ c short. unnamed-by AesGcm e c (lt-leb 16 (length c.datagram) short);
      }

  by-chacha : (n : ℕ) → cipher_of method ≡ ChaChaPoly n → MembershipChaCha n method key
  unfolding session_of
  by-chacha n e =
      record {
        named = λ c fits long good. named_by (ChaChaPoly n) e c fits (ap₂ ◌&&◌ (le-leb 48 (length c.datagram) long) good);
        not-authentic = λ c bad.
            unnamed-by (ChaChaPoly n) e c (ap (◌&&◌ (leb 48 (length c.datagram))) bad ∙ and-false (leb 48 (length c.datagram)));
        too_short = λ c short.
            unnamed-by (ChaChaPoly n) e c
            (ap (λ (b : Bool). b && extended_authentic n key (take 24 c.datagram) (drop 24 c.datagram)) (lt-leb 48 (length c.datagram) short));
      }

  membership : Membership method key
  unfolding belongs cipher_of method_of
  membership =
      record {
        aes-128 = λ e. by-aes (ap cipher_of e);
        aes-256 = λ e. by-aes (ap cipher_of e);
        chacha20 = λ e. by-chacha 10 (ap cipher_of e);
        chacha12 = λ e. by-chacha 6 (ap cipher_of e);
        chacha8 = λ e. by-chacha 4 (ap cipher_of e);
        no_key = λ c e.
            ap (λ (b : Bool). cond (b && names (cipher_of method) key c.datagram) (Some (session_of (cipher_of method) key c.datagram)) None) e;
      }

  pub demand3 : Demand3 method key
  demand3 =
      let theory = book.demand3 (decide method key) (belongs method key) in
      record {
        follows-book = theory.0;
        rearranges = theory.1.0 named;
        counts = theory.1.1 named no-early-eight;
        membership = membership;
      }
