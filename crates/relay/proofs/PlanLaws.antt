-- What stands after the calls about plans, case by case.
-- Assumes nothing.
use Rattle.std.specs.Prelude.{Result}
use Prim.Native.Nat.{ℕ}
use mathlib.Core.Bool.{Bool, true, false, cond}
use mathlib.Core.List.{List}
use mathlib.Core.Path.{◌≡◌, sym, ap, ◌∙◌}
use lib.Dec.{eqb}
use lib.ListN.{length}
use borrow.Author.Tests.{eq-eqb, ne_eqb}
use Rattle.plan.specs.Answers.{most_of, make_answer, make_out, check_answer}
use Rattle.plan.specs.Told.{made_number, made_words, checked_number, checked_words}
use Rattle.words.specs.Answers.{answer_words}
use Rattle.relay.specs.Plans.{AfterMake, made_told, makes_plan, AfterCheck, checked_told, checks_plan}
use Rattle.protocol.specs.declared.Refusal.{Refusal}

-- ---- planning

module _ (method : ℕ) (address : List ℕ) (limit n : ℕ) (plan answer : List ℕ) where
  abbrev untouched : AfterMake
  untouched = record { number = 1; plan = plan; answer = answer }

  abbrev told : Result ℕ Refusal → AfterMake
  told x = made_told x (most_of method address limit) n plan answer

  by_answer : (b : Bool) → eqb (length answer) answer_words ≡ b
      → cond b (told (make_answer method address limit n (length plan))) untouched ≡ makes_plan method address limit n plan answer
  unfolding makes_plan
  by_answer b e = ap (λ (z : Bool). cond z (told (make_answer method address limit n (length plan))) untouched) (sym e)

  pub not_made : (length answer ≡ answer_words → ⊥) → untouched ≡ makes_plan method address limit n plan answer
  not_made f = by_answer false (ne_eqb (length answer) answer_words f)

  pub made-answer : length answer ≡ answer_words → (x : Result ℕ Refusal) → x ≡ make_answer method address limit n (length plan) → (r : ℕ) (after words : List ℕ)
      → r ≡ made_number x → after ≡ make_out x (most_of method address limit) n plan → words ≡ made_words x answer
      → record { number = r; plan = after; answer = words } ≡ makes_plan method address limit n plan answer
  made-answer l x e r after words er ep ew =
      (λ i. record { number = er i; plan = ep i; answer = ew i }) ∙ ap told e ∙ by_answer true (eq-eqb (length answer) answer_words l)

-- ---- checking

module _ (method : ℕ) (address : List ℕ) (limit n : ℕ) (plan answer : List ℕ) where
  abbrev unchecked : AfterCheck
  unchecked = record { number = 1; answer = answer }

  by-lent : (b : Bool) → eqb (length answer) answer_words ≡ b
      → cond b (checked_told (check_answer method address limit n plan) answer) unchecked ≡ checks_plan method address limit n plan answer
  unfolding checks_plan
  by-lent b e = ap (λ (z : Bool). cond z (checked_told (check_answer method address limit n plan) answer) unchecked) (sym e)

  pub not-checked : (length answer ≡ answer_words → ⊥) → unchecked ≡ checks_plan method address limit n plan answer
  not-checked f = by-lent false (ne_eqb (length answer) answer_words f)

  pub checked-answer : length answer ≡ answer_words → (x : Result Bool Refusal) → x ≡ check_answer method address limit n plan → (r : ℕ) (words : List ℕ)
      → r ≡ checked_number x → words ≡ checked_words x answer
      → record { number = r; answer = words } ≡ checks_plan method address limit n plan answer
  checked-answer l x e r words er ew =
      (λ i. record { number = er i; answer = ew i }) ∙ ap (λ (z : Result Bool Refusal). checked_told z answer) e
      ∙ by-lent true (eq-eqb (length answer) answer_words l)
