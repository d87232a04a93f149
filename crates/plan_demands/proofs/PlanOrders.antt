-- The orders of refusals of planning and checking.
-- Assumes nothing.
use Rattle.std.specs.Prelude.{Ok}
use mathlib.Core.Path.{◌≡◌, refl, sym, ap, ap₂, ◌∙◌}
use mathlib.Core.Bool.{Bool, true, false, cond, not, ◌&&◌, ◌||◌}
use mathlib.Core.List.{List, [], ◌∷◌}
use Prim.Native.Nat.{ℕ, ◌+◌, ◌-◌, ◌*◌, ◌≤◌, ◌<◌}
use native.Mathlib.Omega.{arith}
use lib.Dec.{leb, ltb}
use borrow.Author.Tests.{le-leb, le-ltb, leb-true, ltb-true, ltb-false}
use Rattle.socks5.specs.Address.{is_address}
use Rattle.plan_pieces.specs.Plans.{fewest, passes}
use Rattle.plan.specs.Answers.{check_answer, room_answer, make_answer}
use Rattle.plan.proofs.AnswerLaws.{check-by, make-by}
use Rattle.protocol.specs.Orders.{Rule, rule, first, refuses}
use Rattle.protocol.proofs.OrderLaws.{next, done, under}
use Rattle.plan_demands.specs.Plans.{KnownMethod, besides, Arguments}
use Rattle.plan_demands.specs.PlanOrders.{said_made, said_checked, other_method, bad_argument, plan_order, check_order, PlanOrders}
use Rattle.plan_demands.proofs.CaseLaws.{Cases, unknown, wrong, lawful, cases}

-- ---- which of the two first rules holds

module _ {B : Type 0} (a b : Bool) (rs : List Rule) (v : B) where
  holds-first : a ≡ true → refuses 1 0 ≡ first (rule 1 a ∷ rule 12 b ∷ rs) v
  unfolding first
  holds-first e = λ i. first (rule 1 (sym e i) ∷ rule 12 b ∷ rs) v

  holds-second : a ≡ false → b ≡ true → refuses 12 0 ≡ first (rule 1 a ∷ rule 12 b ∷ rs) v
  unfolding first
  holds-second e f = λ i. first (rule 1 (sym e i) ∷ rule 12 (sym f i) ∷ rs) v

  holds-none : a ≡ false → b ≡ false → first rs v ≡ first (rule 1 a ∷ rule 12 b ∷ rs) v
  unfolding first
  holds-none e f = λ i. first (rule 1 (sym e i) ∷ rule 12 (sym f i) ∷ rs) v

-- ---- the conditions of 1 and 12, as they hold or do not

other-method : (method : ℕ) → (KnownMethod method → ⊥) → other_method method ≡ true
other-method method f = go (leb 1 method) (leb method 5) refl refl
  where
    go : (a b : Bool) → leb 1 method ≡ a → leb method 5 ≡ b → not (a && b) ≡ true
    go true true ea eb = absurd (f (leb-true 1 method ea, leb-true method 5 eb))
    go true false ea eb = refl
    go false b ea eb = refl

known_method : (method : ℕ) → KnownMethod method → other_method method ≡ false
known_method method k = ap₂ (λ (a b : Bool). not (a && b)) (le-leb 1 method k.0) (le-leb method 5 k.1)

module _ (method : ℕ) (address : List ℕ) (limit n : ℕ) where
  abbrev least : ℕ
  least = besides method address + 1

  bad : (Arguments method address limit n → ⊥) → bad_argument method address limit n ≡ true
  bad f = go (is_address address) (ltb 65507 limit) (ltb 0 n) (ltb limit least) refl refl refl refl
    where
      good : is_address address ≡ true → ltb 65507 limit ≡ false → (0 < n → least ≤ limit) → ⊥
      good ea eb r = f (record { one_address = ea; limit-most = ltb-false 65507 limit eb; room-for-one = r })

      go : (a b c d : Bool) → is_address address ≡ a → ltb 65507 limit ≡ b → ltb 0 n ≡ c → ltb limit least ≡ d → not a || (b || c && d) ≡ true
      go false b c d ea eb ec ed = refl
      go true true c d ea eb ec ed = refl
      go true false true true ea eb ec ed = refl
      go true false true false ea eb ec ed = absurd (good ea eb (λ p. ltb-false limit least ed))
      go true false false d ea eb ec ed = absurd (good ea eb (λ p. let z = ltb-false 0 n ec in absurd (omega arith)))

  good : Arguments method address limit n → bad_argument method address limit n ≡ false
  good g = go (ltb 0 n) refl
    where
      by : (c : Bool) → ltb 0 n ≡ c → not true || (false || c && ltb limit least) ≡ bad_argument method address limit n
      by c e = λ i. not (sym g.one_address i) || (sym (le-ltb 65507 limit g.limit-most) i || sym e i && ltb limit least)

      go : (c : Bool) → ltb 0 n ≡ c → bad_argument method address limit n ≡ false
      go true e = sym (by true e) ∙ le-ltb limit least (g.room-for-one (ltb-true 0 n e))
      go false e = sym (by false e)

  -- ---- the answers

  abbrev most : ℕ
  most = limit - besides method address

  abbrev count : ℕ
  count = fewest n most

  in-room : (room : ℕ) → said_made (room_answer count room) ≡ first (rule 3 (ltb room (2 * count)) ∷ []) count
  unfolding room_answer
  in-room room = next said_made (leb (2 * count) room) (rule 3 (ltb room (2 * count))) [] count (under room (2 * count)) refl λ _. done count

  plan-by : (room : ℕ) → Cases method address limit n
      → said_made (make_answer method address limit n room) ≡ first (plan_order method address limit n room) count
  plan-by room (unknown f e) =
      sym (ap said_made (make-by method address limit n room _ _ refl e)) ∙ holds-first _ _ _ count (other-method method f)
  plan-by room (wrong k f e) =
      sym (ap said_made (make-by method address limit n room _ _ refl e)) ∙ holds-second _ _ _ count (known_method method k) (bad f)
  plan-by room (lawful l e) =
      sym (ap said_made (make-by method address limit n room _ _ refl e)) ∙ in-room room
      ∙ holds-none _ _ _ count (known_method method l.0) (good l.1)

  told : (b : Bool) → said_checked (cond b (Ok true) (Ok false)) ≡ first [] b
  told true = done true
  told false = done false

  check-by-case : (w : List ℕ) → Cases method address limit n
      → said_checked (check_answer method address limit n w) ≡ first (check_order method address limit n) (passes most n w)
  check-by-case w (unknown f e) =
      sym (ap said_checked (check-by method address limit n w _ _ refl e)) ∙ holds-first _ _ _ (passes most n w) (other-method method f)
  check-by-case w (wrong k f e) =
      sym (ap said_checked (check-by method address limit n w _ _ refl e))
      ∙ holds-second _ _ _ (passes most n w) (known_method method k) (bad f)
  check-by-case w (lawful l e) =
      sym (ap said_checked (check-by method address limit n w _ _ refl e)) ∙ told (passes most n w)
      ∙ holds-none _ _ _ (passes most n w) (known_method method l.0) (good l.1)

pub plan-orders : PlanOrders
plan-orders = record {
  planning = λ method address limit n room. plan-by method address limit n room (cases method address limit n);
  checking = λ method address limit n w. check-by-case method address limit n w (cases method address limit n);
}
