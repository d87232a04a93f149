-- What stands after the calls about datagrams of SIP004, case by case. Assumes nothing.
use Rattle.std.specs.Prelude.{Err, Ok, Result}
use Prim.Native.Nat.{ℕ}
use mathlib.Core.Bool.{Bool, true, false, cond}
use mathlib.Core.List.{List}
use mathlib.Core.Path.{◌≡◌, sym, ap, ◌∙◌}
use lib.Dec.{eqb}
use lib.ListN.{length, set}
use borrow.Author.Tests.{eq-eqb, ne_eqb}
use Rattle.protocol.specs.declared.Refusal.{Refusal}
use Rattle.protocol.specs.Refusal.{refusal_number}
use Rattle.sip004.specs.Datagram.{seal_out, open_out}
use Rattle.words.specs.Answers.{answer_words}
use Rattle.relay.specs.Sip004.{AfterDatagram, tells, sealed_told, opened_told}

module _ (x : AfterDatagram) (out answer : List ℕ) where
  by_length : (b : Bool) → eqb (length answer) answer_words ≡ b → cond b x (record { number = 1; out = out; answer = answer }) ≡ tells x out answer
  unfolding tells
  by_length b e = sym (ap (λ (z : Bool). cond z x (record { number = 1; out = out; answer = answer })) e)

  pub untold : (length answer ≡ answer_words → ⊥) → record { number = 1; out = out; answer = answer } ≡ tells x out answer
  untold n = by_length false (ne_eqb (length answer) answer_words n)

  told : length answer ≡ answer_words → x ≡ tells x out answer
  told e = by_length true (eq-eqb (length answer) answer_words e)

-- y is what the sealer answered, and o what it left
module _ (x y : Result ℕ Refusal) (text out answer o : List ℕ) (e : length answer ≡ answer_words) (f : y ≡ x) (g : o ≡ seal_out y text out) where
  abbrev S : AfterDatagram
  S = tells (sealed_told x text out answer) out answer

  seal-told : (z : Result ℕ Refusal) → y ≡ z → sealed_told z text out answer ≡ S
  seal-told z h = ap (λ (v : Result ℕ Refusal). sealed_told v text out answer) (sym h ∙ f) ∙ told (sealed_told x text out answer) out answer e

  pub a-datagram : (n : ℕ) → y ≡ Ok n → record { number = 0; out = o; answer = set answer 0 n } ≡ S
  a-datagram n h =
      ap (λ (v : List ℕ). record { number = 0; out = v; answer = set answer 0 n }) (g ∙ ap (λ (v : Result ℕ Refusal). seal_out v text out) h)
      ∙ seal-told (Ok n) h

  pub no-datagram : (r : Refusal) (n : ℕ) → y ≡ Err r → n ≡ refusal_number r → record { number = n; out = o; answer = answer } ≡ S
  no-datagram r n h i =
      (λ k. record { number = i k; out = (g ∙ ap (λ (v : Result ℕ Refusal). seal_out v text out) h) k; answer = answer }) ∙ seal-told (Err r) h

-- the same of the opener
module _ (x y : Result ℕ Refusal) (text out answer o : List ℕ) (e : length answer ≡ answer_words) (f : y ≡ x) (g : o ≡ open_out y text out) where
  abbrev O : AfterDatagram
  O = tells (opened_told x text out answer) out answer

  open_told : (z : Result ℕ Refusal) → y ≡ z → opened_told z text out answer ≡ O
  open_told z h = ap (λ (v : Result ℕ Refusal). opened_told v text out answer) (sym h ∙ f) ∙ told (opened_told x text out answer) out answer e

  pub a-text : (n : ℕ) → y ≡ Ok n → record { number = 0; out = o; answer = set answer 0 n } ≡ O
  a-text n h =
      ap (λ (v : List ℕ). record { number = 0; out = v; answer = set answer 0 n }) (g ∙ ap (λ (v : Result ℕ Refusal). open_out v text out) h)
      ∙ open_told (Ok n) h

  pub no_text : (r : Refusal) (n : ℕ) → y ≡ Err r → n ≡ refusal_number r → record { number = n; out = o; answer = answer } ≡ O
  no_text r n h i =
      (λ k. record { number = i k; out = (g ∙ ap (λ (v : Result ℕ Refusal). open_out v text out) h) k; answer = answer }) ∙ open_told (Err r) h
