-- The numbers of plans as one table, as in Numbers: what the definitions compute to, and what it should be, written out.
-- Assumes nothing.
use Rattle.std.specs.Prelude.{List, [], ◌∷◌, ◌++◌, map, ℕ, ◌-◌, ◌^◌, T, get_or, replicate}
use Rattle.plan.specs.Answers.{head_of}
use Rattle.relay.specs.Plans.{makes_plan, checks_plan}
use Rattle.edges.specs.Numbers.{Fact, fact, number, every, sevens}

-- addresses of 7 bytes and of 19, and one with a byte behind it
abbrev pub home4 : List ℕ
home4 = 1 ∷ 127 ∷ 0 ∷ 0 ∷ 1 ∷ 0 ∷ 80 ∷ []

abbrev pub home6 : List ℕ
home6 = 4 ∷ replicate 16 0 ++ (0 ∷ 80 ∷ [])

abbrev pub no_address : List ℕ
no_address = home4 ++ (0 ∷ [])

-- what planning returns, the first word of its answer, and the plan
abbrev pub planned : (method : ℕ) (address : List ℕ) (limit n : ℕ) → List ℕ → List ℕ
planned method address limit n plan =
    (makes_plan method address limit n plan sevens).number ∷ get_or (makes_plan method address limit n plan sevens).answer 0 0
    ∷ (makes_plan method address limit n plan sevens).plan

-- what checking returns, and the first word of its answer
abbrev pub checked : (method : ℕ) (address : List ℕ) (limit n : ℕ) → List ℕ → List ℕ
checked method address limit n plan =
    (checks_plan method address limit n plan sevens).number ∷ get_or (checks_plan method address limit n plan sevens).answer 0 0 ∷ []

unfoldable pub plan_facts : List Fact
plan_facts =
    -- 32 + 11 bytes, by methods 3 to 5 40 + 27, and the address
    fact (map (λ (method : ℕ). head_of method []) (1 ∷ 2 ∷ 3 ∷ 4 ∷ 5 ∷ [])) (43 ∷ 43 ∷ 67 ∷ 67 ∷ 67 ∷ [])
    ∷ fact (head_of 1 home4 ∷ head_of 3 home6 ∷ []) (50 ∷ 86 ∷ [])
    -- 7 bytes of address and 1,500: 2,900 bytes take two, 2,901 take three, 0 bytes take none
    ∷ fact (planned 1 home4 1500 2900 (9 ∷ 9 ∷ 9 ∷ 9 ∷ 9 ∷ [])) (0 ∷ 2 ∷ 1450 ∷ 0 ∷ 1450 ∷ 0 ∷ 9 ∷ [])
    ∷ fact (planned 2 home4 1500 2901 (replicate 6 9)) (0 ∷ 3 ∷ 1450 ∷ 0 ∷ 1450 ∷ 0 ∷ 1 ∷ 0 ∷ [])
    ∷ fact (planned 1 home4 1500 0 (9 ∷ [])) (0 ∷ 0 ∷ 9 ∷ [])
    ∷ fact (planned 5 home6 100 15 (replicate 4 9)) (0 ∷ 2 ∷ 14 ∷ 0 ∷ 1 ∷ 0 ∷ [])
    -- too short for the fewest: nothing is written; nor are twice the fewest over 2^64 words
    ∷ fact (planned 1 home4 1500 2901 (replicate 5 9)) (3 ∷ 7 ∷ replicate 5 9)
    ∷ fact (planned 1 home4 51 (2 ^ 64 - 1) (9 ∷ 9 ∷ [])) (3 ∷ 7 ∷ 9 ∷ 9 ∷ [])
    -- a method outside 1 to 5, with a bad address too
    ∷ fact (planned 0 home4 1500 1 (9 ∷ 9 ∷ [])) (1 ∷ 7 ∷ 9 ∷ 9 ∷ [])
    ∷ fact (planned 6 no_address 1500 1 (9 ∷ 9 ∷ [])) (1 ∷ 7 ∷ 9 ∷ 9 ∷ [])
    ∷ fact (planned 257 home4 1500 1 (9 ∷ 9 ∷ [])) (1 ∷ 7 ∷ 9 ∷ 9 ∷ [])
    -- an answer of 8 words
    ∷ number (makes_plan 1 home4 1500 1 (9 ∷ 9 ∷ []) (replicate 8 7)).number 1
    ∷ number (checks_plan 1 home4 1500 1 (9 ∷ 9 ∷ []) (replicate 8 7)).number 1
    -- a bad address, of an empty report too; a limit over 65,507; no room for one byte, which an empty report does not need
    ∷ fact (planned 1 no_address 1500 0 []) (12 ∷ 7 ∷ [])
    ∷ fact (planned 1 home4 65507 1 (9 ∷ 9 ∷ [])) (0 ∷ 1 ∷ 1 ∷ 0 ∷ [])
    ∷ fact (planned 1 home4 65508 0 []) (12 ∷ 7 ∷ [])
    ∷ fact (planned 1 home4 51 1 (9 ∷ 9 ∷ [])) (0 ∷ 1 ∷ 1 ∷ 0 ∷ [])
    ∷ fact (planned 1 home4 50 1 (9 ∷ 9 ∷ [])) (12 ∷ 7 ∷ 9 ∷ 9 ∷ [])
    ∷ fact (planned 3 home4 74 1 (9 ∷ 9 ∷ [])) (12 ∷ 7 ∷ 9 ∷ 9 ∷ [])
    ∷ fact (planned 1 home4 0 0 []) (0 ∷ 0 ∷ [])
    -- 12 stands before 3, and checking has no 3
    ∷ fact (planned 1 home4 50 1 []) (12 ∷ 7 ∷ [])
    ∷ fact (checked 1 home4 51 1 []) (0 ∷ 0 ∷ [])
    -- good plans, with padding too
    ∷ fact (checked 1 home4 1500 2900 (1450 ∷ 0 ∷ 1450 ∷ 0 ∷ [])) (0 ∷ 1 ∷ [])
    ∷ fact (checked 1 home4 1500 2899 (1450 ∷ 0 ∷ 1449 ∷ 1 ∷ [])) (0 ∷ 1 ∷ [])
    ∷ fact (checked 1 home4 0 0 []) (0 ∷ 1 ∷ [])
    -- an odd count of words; one datagram too many; a byte over the limit, of padding or of the piece; an empty piece
    ∷ fact (checked 1 home4 1500 2900 (1450 ∷ 0 ∷ 1450 ∷ 0 ∷ 0 ∷ [])) (0 ∷ 0 ∷ [])
    ∷ fact (checked 1 home4 1500 2900 (1450 ∷ 0 ∷ 1449 ∷ 0 ∷ 1 ∷ 0 ∷ [])) (0 ∷ 0 ∷ [])
    ∷ fact (checked 1 home4 1500 2900 (1450 ∷ 0 ∷ 1450 ∷ 1 ∷ [])) (0 ∷ 0 ∷ [])
    ∷ fact (checked 1 home4 1500 2900 (1451 ∷ 0 ∷ 1449 ∷ 0 ∷ [])) (0 ∷ 0 ∷ [])
    ∷ fact (checked 1 home4 1500 1451 (1451 ∷ 0 ∷ 0 ∷ 0 ∷ [])) (0 ∷ 0 ∷ [])
    ∷ fact (checked 1 home4 1500 0 (0 ∷ 0 ∷ [])) (0 ∷ 0 ∷ [])
    -- sums are of whole numbers: of a datagram, and of the pieces
    ∷ fact (checked 1 home4 1500 1 (1 ∷ (2 ^ 64 - 50) ∷ [])) (0 ∷ 0 ∷ [])
    ∷ fact (checked 1 home4 1500 1 (1 ∷ 65536 ∷ [])) (0 ∷ 0 ∷ [])
    ∷ fact (checked 1 home4 52 3 ((2 ^ 64 - 1) ∷ 0 ∷ 4 ∷ 0 ∷ [])) (0 ∷ 0 ∷ [])
    ∷ []

abbrev pub PlanNumbers : Type 0
PlanNumbers = T (every plan_facts)
