-- The orders of refusals of planning and checking, as lists to be held beside the scope's own line, with its numbers written out.
-- Assumes nothing.
use Rattle.std.specs.Prelude.{◌≡◌, Bool, true, false, not, ◌&&◌, ◌||◌, List, [], ◌∷◌, ℕ, ◌+◌, ◌-◌, ◌*◌, leb, ltb, Err, Ok, Result}
use Rattle.socks5.specs.Address.{is_address}
use Rattle.plan_pieces.specs.Plans.{fewest, passes}
use Rattle.plan.specs.Answers.{check_answer, make_answer}
use Rattle.protocol.specs.Orders.{Rule, rule, Said, gives, first, refuses_with}
use Rattle.plan_demands.specs.Plans.{besides}
use Rattle.protocol.specs.declared.Refusal.{Refusal}

abbrev pub said_made : Result ℕ Refusal → Said ℕ
said_made (Ok k) = gives k
said_made (Err r) = refuses_with r

abbrev pub said_checked : Result Bool Refusal → Said Bool
said_checked (Ok true) = gives true
said_checked (Ok false) = gives false
said_checked (Err r) = refuses_with r

-- a method outside 1 to 5
abbrev pub other_method : ℕ → Bool
other_method method = not (leb 1 method && leb method 5)

module _ (method : ℕ) (address : List ℕ) (limit n : ℕ) where
  -- a bad address, a limit over 65,507, or a report that has bytes and no room for one
  abbrev pub bad_argument : Bool
  bad_argument = not (is_address address) || (ltb 65507 limit || ltb 0 n && ltb limit (besides method address + 1))

  -- 1 and 12, of both
  abbrev pub argument_order : List Rule → List Rule
  argument_order rest = rule 1 (other_method method) ∷ rule 12 bad_argument ∷ rest

  -- planning, in so many words: 1, 12, 3
  abbrev pub plan_order : ℕ → List Rule
  plan_order room = argument_order (rule 3 (ltb room (2 * fewest n (limit - besides method address))) ∷ [])

  -- checking: 1, 12
  abbrev pub check_order : List Rule
  check_order = argument_order []

pub record PlanOrders : Type 0 where
  pub planning : (method : ℕ) (address : List ℕ) (limit n room : ℕ)
      → said_made (make_answer method address limit n room)
      ≡ first (plan_order method address limit n room) (fewest n (limit - besides method address))
  pub checking : (method : ℕ) (address : List ℕ) (limit n : ℕ) (w : List ℕ)
      → said_checked (check_answer method address limit n w)
      ≡ first (check_order method address limit n) (passes (limit - besides method address) n w)
