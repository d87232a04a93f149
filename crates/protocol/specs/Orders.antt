-- The order of refusals: a call answers the first of a list whose condition holds, and its value if none does.
use Rattle.std.specs.Prelude.{Bool, false, cond, ◌||◌, List, [], ◌∷◌, ℕ, eqb}
use Rattle.protocol.specs.declared.Refusal.{Refusal}
use Rattle.protocol.specs.Refusal.{refusal_number, added}

-- ---- which refusals are given, by their numbers

abbrev pub among : List ℕ → ℕ → Bool
among [] n = false
among (k ∷ ks) n = eqb n k || among ks n

-- ---- the first of a list

-- a refusal's number, what it adds, and the condition under which it is given
pub record Rule : Type 0 where
  pub number : ℕ
  pub adds : ℕ
  pub when : Bool

abbrev pub rule : ℕ → Bool → Rule
rule n b = record { number = n; adds = 0; when = b }

-- number 10 adds how many bytes are wanted in all
abbrev pub more : ℕ → Bool → Rule
more wanted b = record { number = 10; adds = wanted; when = b }

-- number 15 adds the setting's number
abbrev pub unknown_setting : ℕ → Bool → Rule
unknown_setting setting b = record { number = 15; adds = setting; when = b }

-- what a call says: a refusal's number with what it adds, or its value
pub data Said (A : Type 0) : Type 0 where
  refuses : (number adds : ℕ) → Said A
  gives : A → Said A

unfoldable pub first : {A : Type 0} → List Rule → A → Said A
first [] v = gives v
first (r ∷ rs) v = cond r.when (refuses r.number r.adds) (first rs v)

abbrev pub refuses_with : {A : Type 0} → Refusal → Said A
refuses_with r = refuses (refusal_number r) (added r)
