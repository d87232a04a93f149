-- What stands after the calls about sending sessions and datagrams, case by case. Assumes nothing.
use Rattle.std.specs.Prelude.{Err, Ok, Result, Option}
use Prim.Native.Nat.{ℕ, ◌+◌}
use mathlib.Core.Bool.{Bool, true, false, cond, ◌&&◌}
use mathlib.Core.List.{List}
use mathlib.Core.Path.{◌≡◌, sym, ap, ◌∙◌}
use lib.Dec.{eqb}
use lib.ListN.{length, get_or, set}
use lib.Seq.{sets}
use borrow.Author.Tests.{eq-eqb, ne_eqb}
use Rattle.octets.specs.Buffers.{put}
use Rattle.protocol.specs.Method.{cipher_of}
use Rattle.protocol.specs.declared.Refusal.{Refusal}
use Rattle.protocol.specs.Refusal.{refusal_number}
use Rattle.session_record.specs.declared.Peer.{Peer}
use Rattle.session_book.specs.Call.{Answer}
use Rattle.datagram_read.specs.declared.Header.{Header}
use Rattle.datagram_seal.specs.declared.Sender.{Sender}
use Rattle.datagram_seal.specs.Sealing.{seal_answer, packets_of, datagram, seal_out}
use Rattle.datagram_open.specs.Deciding.{answer_of, open_answer, open_out, open_table}
use Rattle.words.specs.Answers.{answer_words, header_words}
use Rattle.words.specs.States.{session_size, session_lawful, session_in, session_words}
use Rattle.relay.specs.Datagrams.{begun_words, begins, AfterSeal, sealed, seals_datagram, AfterOpen, opened_number, opened_words, opens_told, opens_datagram}
use Rattle.words.proofs.LentLaws.{filled}

-- ---- beginning a session in lent words

module _ (x : Result Sender Refusal) (w : List ℕ) where
  tested-size : (b : Bool) → eqb (length w) session_size ≡ b → cond b (begun_words x w) (record { number = 1; session = w }) ≡ begins x w
  unfolding begins
  tested-size b e = sym (ap (λ (z : Bool). cond z (begun_words x w) (record { number = 1; session = w })) e)

  pub not-lent : (length w ≡ session_size → ⊥) → record { number = 1; session = w } ≡ begins x w
  not-lent n = tested-size false (ne_eqb (length w) session_size n)

  module _ (e : length w ≡ session_size) where
    lent : (y : Result Sender Refusal) → x ≡ y → begun_words y w ≡ begins x w
    lent y f = sym (ap (λ (z : Result Sender Refusal). begun_words z w) f) ∙ tested-size true (eq-eqb (length w) session_size e)

    pub ready : (s : Sender) (vs left : List ℕ) → x ≡ Ok s → vs ≡ session_words s → left ≡ sets w 0 vs
        → record { number = 0; session = left } ≡ begins x w
    ready s vs left f g h =
        ap (λ (z : List ℕ). record { number = 0; session = z }) (h ∙ ap (λ (v : List ℕ). sets w 0 v) g ∙ filled w (session_words s) e)
        ∙ lent (Ok s) f

    pub not-begun : (r : Refusal) (n : ℕ) → x ≡ Err r → n ≡ refusal_number r → record { number = n; session = w } ≡ begins x w
    not-begun r n f g = ap (λ (z : ℕ). record { number = z; session = w }) g ∙ lent (Err r) f

-- ---- sealing

module _ (method : ℕ) (key nonce session : List ℕ) (clock : ℕ) (address : List ℕ) (padding : ℕ) (payload out answer : List ℕ) where
  abbrev A : Result ℕ Refusal
  A = seal_answer method (length key) (length nonce) (session_in session) address padding (length payload) (length out)

  abbrev text : List ℕ
  text = datagram (cipher_of method) key nonce (session_in session) clock address padding payload

  abbrev S : AfterSeal
  S = seals_datagram method key nonce session clock address padding payload out answer

  abbrev untouched : AfterSeal
  untouched = record { number = 1; session = session; out = out; answer = answer }

  tested : (b : Bool) → eqb (length answer) answer_words && session_lawful session ≡ b → cond b (sealed A text session out answer) untouched ≡ S
  unfolding seals_datagram
  tested b e = sym (ap (λ (z : Bool). cond z (sealed A text session out answer) untouched) e)

  pub no_answer : (length answer ≡ answer_words → ⊥) → untouched ≡ S
  no_answer n = tested false (ap (λ (b : Bool). b && session_lawful session) (ne_eqb (length answer) answer_words n))

  module _ (e : length answer ≡ answer_words) (b : Bool) (g : b ≡ session_lawful session) where
    by-session : eqb (length answer) answer_words && session_lawful session ≡ b
    by-session = ap (λ (z : Bool). z && session_lawful session) (eq-eqb (length answer) answer_words e) ∙ sym g

    pub no-session : b ≡ false → untouched ≡ S
    no-session f = tested false (by-session ∙ f)

    module _ (f : b ≡ true) (y : Result ℕ Refusal) (h : y ≡ A) where
      decided : (z : Result ℕ Refusal) → y ≡ z → sealed z text session out answer ≡ S
      decided z i = ap (λ (v : Result ℕ Refusal). sealed v text session out answer) (sym i ∙ h) ∙ tested true (by-session ∙ f)

      pub a-datagram : (n p : ℕ) (o : List ℕ) → y ≡ Ok n → p ≡ get_or session 3 0 + packets_of y → o ≡ seal_out y text out
          → record { number = 0; session = set session 3 p; out = o; answer = set answer 0 n } ≡ S
      a-datagram n p o i j l =
          let q : p ≡ get_or session 3 0 + 1 = j ∙ ap (λ (z : Result ℕ Refusal). get_or session 3 0 + packets_of z) i in
          let m : o ≡ put out 0 text = l ∙ ap (λ (z : Result ℕ Refusal). seal_out z text out) i in
          (λ k. record { number = 0; session = set session 3 (q k); out = m k; answer = set answer 0 n }) ∙ decided (Ok n) i

      pub a-refusal : (r : Refusal) (n : ℕ) (o : List ℕ) → y ≡ Err r → n ≡ refusal_number r → o ≡ seal_out y text out
          → record { number = n; session = session; out = o; answer = answer } ≡ S
      a-refusal r n o i j l =
          let m : o ≡ out = l ∙ ap (λ (z : Result ℕ Refusal). seal_out z text out) i in
          (λ k. record { number = j k; session = session; out = m k; answer = answer }) ∙ decided (Err r) i

-- ---- opening

pub told-header : (x : Result Header Refusal) (h : Header) (vs answer left : List ℕ) → x ≡ Ok h → vs ≡ header_words h → left ≡ sets answer 0 vs
    → length answer ≡ answer_words → (0 ≡ opened_number (answer_of x)) × (left ≡ opened_words (answer_of x) answer)
told-header x h vs answer left e f g l = (
  sym (ap (λ (z : Result Header Refusal). opened_number (answer_of z)) e),
  g ∙ ap (λ (v : List ℕ). sets answer 0 v) f ∙ filled answer (header_words h) l
      ∙ sym (ap (λ (z : Result Header Refusal). opened_words (answer_of z) answer) e),
)

pub told-refusal : (x : Result Header Refusal) (r : Refusal) (n : ℕ) (answer : List ℕ) → x ≡ Err r → n ≡ refusal_number r
    → (n ≡ opened_number (answer_of x)) × (answer ≡ opened_words (answer_of x) answer)
told-refusal x r n answer e f = (
  f ∙ sym (ap (λ (z : Result Header Refusal). opened_number (answer_of z)) e),
  sym (ap (λ (z : Result Header Refusal). opened_words (answer_of z) answer) e),
)

module _ (method : ℕ) (key : List ℕ) (client : Option ℕ) (clock : ℕ) (peer : Peer) (s table out answer : List ℕ) where
  abbrev O : AfterOpen
  O = opens_datagram method key client clock peer s table out answer

  by_length : (b : Bool) → eqb (length answer) answer_words ≡ b
      → cond b (opens_told method key client clock peer s table out answer) (record { number = 1; table = table; out = out; answer = answer }) ≡ O
  unfolding opens_datagram
  by_length b e =
      sym (ap
      (λ (z : Bool). cond z (opens_told method key client clock peer s table out answer) (record { number = 1; table = table; out = out; answer = answer }))
      e)

  pub untold : (length answer ≡ answer_words → ⊥) → record { number = 1; table = table; out = out; answer = answer } ≡ O
  untold n = by_length false (ne_eqb (length answer) answer_words n)

  -- an answer of the right length leaves the opener's own results
  pub relays : length answer ≡ answer_words → O ≡ record {
    number = opened_number (open_answer method key client clock peer s table out);
    table = open_table method key client clock peer s table out;
    out = open_out method key client clock peer s table out;
    answer = opened_words (open_answer method key client clock peer s table out) answer;
  }
  unfolding opens_told
  relays l = sym (by_length true (eq-eqb (length answer) answer_words l))

  pub told : (x : Result Header Refusal) (n : ℕ) (t o a : List ℕ) → length answer ≡ answer_words
      → answer_of x ≡ open_answer method key client clock peer s table out
      → o ≡ open_out method key client clock peer s table out → t ≡ open_table method key client clock peer s table out
      → n ≡ opened_number (answer_of x) → a ≡ opened_words (answer_of x) answer → record { number = n; table = t; out = o; answer = a } ≡ O
  told x n t o a l e f g h i =
      let p : n ≡ opened_number (open_answer method key client clock peer s table out) = h ∙ ap opened_number e in
      let q : a ≡ opened_words (open_answer method key client clock peer s table out) answer = i ∙ ap (λ (z : Answer Header). opened_words z answer) e in
      (λ k. record { number = p k; table = g k; out = f k; answer = q k }) ∙ sym (relays l)
