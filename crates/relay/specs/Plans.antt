-- What stands after the calls about plans: the number, and what each leaves in all that it was lent to write. A lent answer of the
-- wrong length is refusal 1.
use Rattle.std.specs.Prelude.{Bool, cond, List, ℕ, eqb, length, Result}
use Rattle.plan.specs.Answers.{most_of, make_answer, make_out, check_answer}
use Rattle.plan.specs.Told.{made_number, made_words, checked_number, checked_words}
use Rattle.words.specs.Answers.{answer_words}
use Rattle.protocol.specs.declared.Refusal.{Refusal}

-- ---- planning

pub record AfterMake : Type 0 where
  pub number : ℕ
  pub plan : List ℕ
  pub answer : List ℕ

-- x is what is answered, of a report of n bytes
abbrev pub made_told : Result ℕ Refusal → (most n : ℕ) → (plan answer : List ℕ) → AfterMake
made_told x most n plan answer = record { number = made_number x; plan = make_out x most n plan; answer = made_words x answer }

module _ (method : ℕ) (address : List ℕ) (limit n : ℕ) (plan answer : List ℕ) where
  unfoldable pub makes_plan : AfterMake
  makes_plan =
      cond (eqb (length answer) answer_words)
      (made_told (make_answer method address limit n (length plan)) (most_of method address limit) n plan answer)
      (record { number = 1; plan = plan; answer = answer })

-- ---- checking

pub record AfterCheck : Type 0 where
  pub number : ℕ
  pub answer : List ℕ

abbrev pub checked_told : Result Bool Refusal → List ℕ → AfterCheck
checked_told x answer = record { number = checked_number x; answer = checked_words x answer }

module _ (method : ℕ) (address : List ℕ) (limit n : ℕ) (plan answer : List ℕ) where
  unfoldable pub checks_plan : AfterCheck
  checks_plan =
      cond (eqb (length answer) answer_words) (checked_told (check_answer method address limit n plan) answer)
      (record { number = 1; answer = answer })
