-- A nest of tests as a list of rules, one rule at a time; and conditions that rules have, as definitions test them.
-- Assumes nothing.
use mathlib.Core.Path.{◌≡◌, refl, sym, ap, ap₂, ◌∙◌}
use mathlib.Core.Bool.{Bool, true, false, cond, not, ◌&&◌, ◌||◌, or-true}
use mathlib.Core.List.{List, [], ◌∷◌, map}
use Prim.Native.Nat.{ℕ}
use native.Mathlib.Omega.{arith}
use lib.Dec.{eqb, leb, ltb}
use borrow.Author.Tests.{leb-true, leb-false, lt-ltb, le-ltb, eqb-true, eqb-false, eq-eqb, ne_eqb}
use Rattle.protocol.specs.Orders.{among, Rule, rule, Said, refuses, gives, first}

abbrev refusing : {B : Type 0} → Said B → ℕ
refusing (refuses n adds) = 1
refusing (gives v) = 0

abbrev number_in : {B : Type 0} → Said B → ℕ
number_in (refuses n adds) = n
number_in (gives v) = 0

-- ---- one rule

module _ {A B : Type 0} (said : A → Said B) where
  -- a refusal stands behind what is good: what follows is asked only where the test is passed
  pub next : (b : Bool) {x bad : A} (r : Rule) (rs : List Rule) (v : B) → r.when ≡ not b → said bad ≡ refuses r.number r.adds
      → (b ≡ true → said x ≡ first rs v) → said (cond b x bad) ≡ first (r ∷ rs) v
  unfolding first
  next true r rs v e f g = g refl ∙ ap (λ (w : Bool). cond w (refuses r.number r.adds) (first rs v)) (sym e)
  next false r rs v e f g = f ∙ ap (λ (w : Bool). cond w (refuses r.number r.adds) (first rs v)) (sym e)

  -- a refusal stands before it
  pub unless : (b : Bool) {x bad : A} (r : Rule) (rs : List Rule) (v : B) → r.when ≡ b → said bad ≡ refuses r.number r.adds
      → (b ≡ false → said x ≡ first rs v) → said (cond b bad x) ≡ first (r ∷ rs) v
  unfolding first
  unless true r rs v e f g = f ∙ ap (λ (w : Bool). cond w (refuses r.number r.adds) (first rs v)) (sym e)
  unless false r rs v e f g = g refl ∙ ap (λ (w : Bool). cond w (refuses r.number r.adds) (first rs v)) (sym e)

-- no rule is left; a rule that holds; and one that does not
pub done : {B : Type 0} (v : B) → gives v ≡ first [] v
unfolding first
done v = refl

pub stops : {B : Type 0} (n : ℕ) (rs : List Rule) (v : B) → refuses n 0 ≡ first (rule n true ∷ rs) v
unfolding first
stops n rs v = refl

pub passes : {B : Type 0} (n : ℕ) (rs : List Rule) (v : B) → first rs v ≡ first (rule n false ∷ rs) v
unfolding first
passes n rs v = refl

-- two conditions of one refusal are two rules
pub split : {B : Type 0} (n : ℕ) (a b : Bool) (rs : List Rule) (v : B) → first (rule n a ∷ rule n b ∷ rs) v ≡ first (rule n (a || b) ∷ rs) v
unfolding first
split n true b rs v = refl
split n false b rs v = refl

-- what refuses is a rule of the list
pub of-order : {B : Type 0} (rs : List Rule) (v : B) (n adds : ℕ) → first rs v ≡ refuses n adds → among (map (λ (r : Rule). r.number) rs) n ≡ true
unfolding first
of-order [] v n adds e = absurd (let z : ◌≡◌ {A = ℕ} 0 1 = ap refusing e in omega arith)
of-order (r ∷ rs) v n adds e = go r.when e (of-order rs v n adds)
  where
    go : (b : Bool) → cond b (refuses r.number r.adds) (first rs v) ≡ refuses n adds
        → (first rs v ≡ refuses n adds → among (map (λ (q : Rule). q.number) rs) n ≡ true)
        → (eqb n r.number || among (map (λ (q : Rule). q.number) rs) n) ≡ true
    go true f rest = ap (λ (b : Bool). b || among (map (λ (q : Rule). q.number) rs) n) (eq-eqb n r.number (sym (ap number_in f)))
    go false f rest = ap (◌||◌ (eqb n r.number)) (rest f) ∙ or-true (eqb n r.number)

-- ---- conditions

pub not-and : (a b : Bool) → (not a || not b) ≡ not (a && b)
not-and true b = refl
not-and false b = refl

pub under : (a b : ℕ) → ltb a b ≡ not (leb b a)
under a b = go (leb b a) refl
  where
    go : (x : Bool) → leb b a ≡ x → ltb a b ≡ not x
    go true e = le-ltb a b (leb-true b a e)
    go false e = lt-ltb a b (leb-false b a e)

pub under-or-over : (n least most : ℕ) → (ltb n least || ltb most n) ≡ not (leb least n && leb n most)
under-or-over n least most = ap₂ ◌||◌ (under n least) (under most n) ∙ not-and (leb least n) (leb n most)

pub eqb-turned : (a b : ℕ) → eqb a b ≡ eqb b a
eqb-turned a b = go (eqb b a) refl
  where
    go : (x : Bool) → eqb b a ≡ x → eqb a b ≡ x
    go true e = eq-eqb a b (sym (eqb-true b a e))
    go false e = ne_eqb a b (λ f. eqb-false b a e (sym f))
