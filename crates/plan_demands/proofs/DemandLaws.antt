-- What the answers mean: checking passes exactly the good plans, and planning makes one wherever there is room.
-- Assumes nothing.
use Rattle.std.specs.Prelude.{Err, Ok, Result}
use mathlib.Core.Path.{◌≡◌, refl, sym, ap, subst, ◌∙◌}
use mathlib.Core.Bool.{Bool, true, false, cond, true≢false}
use mathlib.Core.List.{List, ◌++◌}
use mathlib.Core.Logic.{◌↔◌}
use Prim.Native.Nat.{ℕ, ◌+◌, ◌-◌, ◌*◌, ◌≤◌, ◌<◌}
use native.Mathlib.Omega.{arith}
use lib.Dec.{leb}
use lib.ListN.{length, take, drop}
use lib.Seq.{sets-eq, length-sets, take_at, drop_at}
use borrow.Author.Tests.{leb-true, leb-false}
use Rattle.protocol.specs.declared.Refusal.TheVariants.{Settings, Argument, Room}
use Rattle.protocol.specs.Refusal.{refusal_number}
use Rattle.plan_pieces.specs.Plans.{Piece, words, fewest, passes, made}
use Rattle.plan.specs.Answers.{most_of, check_answer, make_answer, make_out, room_answer}
use Rattle.plan.proofs.AnswerLaws.{check-by, make-by, room-short, room-enough}
use Rattle.plan_demands.specs.Plans.{KnownMethod, besides, Arguments, Lawful, GoodPlan, IsGood, CheckExactly, ChecksExactly, MakeAnswers, MakesExactly, MadePasses, Leaves}
use Rattle.plan_demands.proofs.CaseLaws.{besides-most, Cases, unknown, wrong, lawful, cases}
use Rattle.plan_demands.proofs.ExactlyLaws.{Given, first, second, third, fourth, only-first, only-second, only_third, only-fourth}
use Rattle.plan_demands.proofs.PlanLaws.{length-words, length-made, good-count, made-good, passes-tells, good-passes}
use Rattle.protocol.specs.declared.Refusal.{Refusal}

-- the answers by numbers, of which no two are alike
abbrev checked_tag : Result Bool Refusal → ℕ
checked_tag (Ok true) = 2
checked_tag (Ok false) = 3
checked_tag (Err r) = cond (leb (refusal_number r) 1) 0 1

abbrev made_tag : Result ℕ Refusal → ℕ
made_tag (Ok k) = 2
made_tag (Err r) = cond (leb (refusal_number r) 1) 0 (cond (leb (refusal_number r) 3) 3 1)

abbrev made_count : Result ℕ Refusal → ℕ
made_count (Ok k) = k
made_count (Err r) = 0

module _ (method : ℕ) (address : List ℕ) (limit n : ℕ) where
  abbrev most : ℕ
  most = limit - besides method address

  some_byte : Lawful method address limit n → 0 < n → 0 < most
  some_byte l p = let r = l.1.room-for-one p in omega arith

  -- ---- checking

  module _ (w : List ℕ) where
    abbrev answer : Result Bool Refusal
    answer = check_answer method address limit n w

    abbrev Checking : Type 0
    Checking =
        Given checked_tag (KnownMethod method) (Arguments method address limit n) (IsGood method address limit n w) answer (Err Settings)
        (Err Argument) (Ok true) (Ok false) refl refl refl refl

    by-words : Lawful method address limit n → (b : Bool) → passes most n w ≡ b → answer ≡ cond b (Ok true) (Ok false) → Checking
    by-words l true e a = third l (passes-tells (besides method address) limit n (some_byte l) w e) a
    by-words l false e a =
        fourth l (λ g. true≢false (sym (good-passes (besides method address) limit n (some_byte l) w g.0 g.1.0 g.1.1) ∙ e)) a

    by-case : Cases method address limit n → Checking
    by-case (unknown f e) = first f (sym (check-by method address limit n w _ _ refl e))
    by-case (wrong k f e) = second k f (sym (check-by method address limit n w _ _ refl e))
    by-case (lawful l e) = by-words l _ refl (sym (check-by method address limit n w _ _ refl e))

    checking : Checking
    checking = by-case (cases method address limit n)

  exactly-checked : (w : List ℕ) → ChecksExactly method address limit n w
  exactly-checked w =
      let g = checking w in
      record {
        settings = only-first checked_tag _ _ _ _ _ _ _ _ refl refl refl refl g;
        argument = only-second checked_tag _ _ _ _ _ _ _ _ refl refl refl refl g;
        passed = only_third checked_tag _ _ _ _ _ _ _ _ refl refl refl refl g;
        failed = only-fourth checked_tag _ _ _ _ _ _ _ _ refl refl refl refl g;
      }

  -- ---- planning

  -- the fewest of lawful arguments
  abbrev count : ℕ
  count = fewest n most

  one-good : Lawful method address limit n → GoodPlan method address limit n (made most n count)
  one-good l = made-good (besides method address) limit n (some_byte l)

  counted : Lawful method address limit n → (p : List Piece) → GoodPlan method address limit n p → length p ≡ count
  counted l p g = good-count (besides method address) limit n (some_byte l) p g

  module _ (room : ℕ) where
    abbrev planning : Result ℕ Refusal
    planning = make_answer method address limit n room

    abbrev Making : Type 0
    Making =
        Given made_tag (KnownMethod method) (Arguments method address limit n) (2 * count ≤ room) planning (Err Settings)
        (Err Argument) (Ok count) (Err Room) refl refl refl refl

    by-room : Lawful method address limit n → (b : Bool) → leb (2 * count) room ≡ b → planning ≡ room_answer count room → Making
    by-room l true e a = let r = leb-true (2 * count) room e in third l r (a ∙ sym (room-enough count room r))
    by-room l false e a =
        let r = leb-false (2 * count) room e in
        fourth l (λ s. omega arith) (a ∙ sym (room-short count room (omega arith)))

    made_by : Cases method address limit n → Making
    made_by (unknown f e) = first f (sym (make-by method address limit n room _ _ refl e))
    made_by (wrong k f e) = second k f (sym (make-by method address limit n room _ _ refl e))
    made_by (lawful l e) = by-room l _ refl (sym (make-by method address limit n room _ _ refl e))

    making : Making
    making = made_by (cases method address limit n)

    enough : (planning ≡ Ok count) ↔ (Lawful method address limit n × (2 * count ≤ room))
    enough = only_third made_tag _ _ _ _ _ _ _ _ refl refl refl refl making

    short : (planning ≡ Err Room) ↔ (Lawful method address limit n × (2 * count ≤ room → ⊥))
    short = only-fourth made_tag _ _ _ _ _ _ _ _ refl refl refl refl making

    -- every number that is answered is the count
    planned-count : (k : ℕ) → planning ≡ Ok k → count ≡ k
    planned-count k e = go making
      where
        other : {A : Type 0} (m : Result ℕ Refusal) (i : ℕ) → planning ≡ m → made_tag m ≡ i → (i ≡ 2 → ⊥) → A
        other m i a t f = absurd (f (sym t ∙ ap made_tag (sym a ∙ e)))

        go : Making → count ≡ k
        go (first p a) = other (Err Settings) 0 a refl (λ z. omega arith)
        go (second p q a) = other (Err Argument) 1 a refl (λ z. omega arith)
        go (third l r a) = ap made_count (sym a ∙ e)
        go (fourth l r a) = other (Err Room) 3 a refl (λ z. omega arith)

    fewest-planned : (k : ℕ) → planning ≡ Ok k
        → Lawful method address limit n × ((2 * k ≤ room) × ((p : List Piece) × (GoodPlan method address limit n p × (length p ≡ k))))
    fewest-planned k e =
        let s = planned-count k e in
        let t = enough.0 (e ∙ ap Ok (sym s)) in
        let u = t.1 in
        (t.0, (omega arith, (made most n count, (one-good t.0, length-made most n count ∙ s))))

    planned-fewest : (k : ℕ)
        → Lawful method address limit n × ((2 * k ≤ room) × ((p : List Piece) × (GoodPlan method address limit n p × (length p ≡ k))))
        → planning ≡ Ok k
    planned-fewest k f =
        let c = counted f.0 f.1.1.0 f.1.1.1.0 in
        let s : count ≡ k = sym c ∙ f.1.1.1.1 in
        let u = f.1.0 in
        enough.1 (f.0, omega arith) ∙ ap Ok s

    all-longer : planning ≡ Err Room → Lawful method address limit n × ((p : List Piece) → GoodPlan method address limit n p → room < 2 * length p)
    all-longer e =
        let s = short.0 e in
        (s.0, λ p g. let c = counted s.0 p g in longer (length p) c s.1)
      where
        longer : (k : ℕ) → k ≡ count → (2 * count ≤ room → ⊥) → room < 2 * k
        longer k e f = omega arith

    longer-all : Lawful method address limit n × ((p : List Piece) → GoodPlan method address limit n p → room < 2 * length p) → planning ≡ Err Room
    longer-all f =
        let s = f.1 (made most n count) (one-good f.0) in
        let c = length-made most n count in
        short.1 (f.0, λ r. omega arith)

  exactly-made : (room : ℕ) → MakesExactly method address limit n room
  exactly-made room =
      let g = making room in
      record {
        settings = only-first made_tag _ _ _ _ _ _ _ _ refl refl refl refl g;
        argument = only-second made_tag _ _ _ _ _ _ _ _ refl refl refl refl g;
        short = (all-longer room, longer-all room);
        planned = λ k. (fewest-planned room k, planned-fewest room k);
      }

  -- ---- what is left in the lent words

  module _ (k : ℕ) (plan : List ℕ) (e : make_answer method address limit n (length plan) ≡ Ok k) where
    abbrev pieces : List Piece
    pieces = made most n k

    made-words : length (words pieces) ≡ 2 * k
    made-words = length-words pieces ∙ ap (λ (x : ℕ). 2 * x) (length-made most n k)

    planned : Lawful method address limit n × (2 * k ≤ length plan)
    planned = let f = fewest-planned (length plan) k e in (f.0, f.1.0)

    -- the plan, and behind it what was there
    written : make_out (Ok k) most n plan ≡ words pieces ++ drop (2 * k) plan
    written =
        let f = planned.1 in
        let w = made-words in
        sets-eq (words pieces) plan 0 (omega arith)
        ∙ ap (λ (j : ℕ). words pieces ++ drop j plan) (let d : 0 + length (words pieces) ≡ 2 * k = omega arith in d)

    is-good : IsGood method address limit n (take (2 * k) (make_out (Ok k) most n plan))
    is-good = (
      pieces,
      (
        ap (take (2 * k)) written ∙ take_at (words pieces) (drop (2 * k) plan) (2 * k) made-words,
        subst (λ (j : ℕ). GoodPlan method address limit n (made most n j)) (planned-count (length plan) k e) (one-good planned.0),
      ),
    )

    left : Leaves method address limit n k plan (make_out (Ok k) most n plan)
    left = record {
      fits = planned.1;
      passes = (exactly-checked (take (2 * k) (make_out (Ok k) most n plan))).passed.1 (planned.0, is-good);
      same_length = length-sets plan 0 (words pieces);
      stays = ap (drop (2 * k)) written ∙ drop_at (words pieces) (drop (2 * k) plan) (2 * k) made-words;
    }

    leaves : Leaves method address limit n k plan (make_out (Ok k) (most_of method address limit) n plan)
    leaves =
        subst (λ (m : ℕ). Leaves method address limit n k plan (make_out (Ok k) m n plan))
        (sym (besides-most method address planned.0.0 limit)) left

pub check-exactly : CheckExactly
check-exactly = exactly-checked

pub make-answers : MakeAnswers
make-answers = exactly-made

-- whatever plan is made passes, and the words behind it stay
pub made-passes : MadePasses
made-passes = leaves
