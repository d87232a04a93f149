-- A lawful table, a made one, and what a packet ID meets, case by case.
-- Assumes nothing.
use Prim.Native.Nat.{ℕ, suc, ◌*◌, ◌<◌, ◌≤◌}
use mathlib.Core.Bool.{Bool, true, false, ◌&&◌, cond, and-false, and-eq-true_iff}
use mathlib.Core.List.{List}
use mathlib.Core.Path.{◌≡◌, sym, ap, ◌∙◌}
use lib.Dec.{eqb}
use lib.ListN.{length, length-replicate}
use borrow.Author.Tests.{eq-eqb, ne_eqb, eqb-true}
use Rattle.session_record.specs.declared.Peer.{Peer}
use Rattle.std.specs.Prelude.{None, Option, Some}
use Rattle.retention.proofs.RetentionLaws.{within, below, above}
use Rattle.session_table.specs.Sizes.{capacity, least_retention, greatest_retention}
use Rattle.session_table.specs.Table.{table_words, record_words, lawful, new_table, made_retention, lawful_retention, make_lawful, made, session_place, free_place, meet_by, meet}

-- ---- a length n and a test of R

module _ (n : ℕ) (b : Bool) where
  pub wrong-length : (n ≡ table_words → ⊥) → (eqb n table_words && b) ≡ false
  wrong-length e = ap (λ (c : Bool). c && b) (ne_eqb n table_words e)

  pub right-length : n ≡ table_words → (eqb n table_words && b) ≡ b
  right-length e = ap (λ (c : Bool). c && b) (eq-eqb n table_words e)

-- a lawful table has its length
pub table-length : (t : List ℕ) → lawful t ≡ true → length t ≡ table_words
table-length t e = eqb-true (length t) table_words ((and-eq-true_iff (eqb (length t) table_words) _).0 e).0

-- ---- making

pub new-length : (R : ℕ) → length (new_table R) ≡ table_words
new-length R = ap suc (length-replicate {A = ℕ} (capacity * record_words) 0)

-- the retention that is made is in range, or below or above it

module _ (R : ℕ) (t : List ℕ) where
  pub made-in-range : length t ≡ table_words → least_retention ≤ made_retention R → made_retention R ≤ greatest_retention
      → (make_lawful R t ≡ true) × (made R t ≡ new_table (made_retention R))
  made-in-range e l u = (lawful-R, ap (λ (b : Bool). cond b (new_table (made_retention R)) t) lawful-R)
    where
      lawful-R : make_lawful R t ≡ true
      lawful-R = right-length (length t) (lawful_retention R) e ∙ within (made_retention R) l u

  outside : lawful_retention R ≡ false → make_lawful R t ≡ false
  outside e = ap (◌&&◌ (eqb (length t) table_words)) e ∙ and-false (eqb (length t) table_words)

  pub below-range : made_retention R < least_retention → make_lawful R t ≡ false
  below-range l = outside (below (made_retention R) l)

  pub above-range : greatest_retention < made_retention R → make_lawful R t ≡ false
  above-range l = outside (above (made_retention R) l)

-- ---- what a packet ID meets

module _ (t : List ℕ) (clock : ℕ) (a : Peer) (p id : ℕ) where
  pub met-known : (i : ℕ) → session_place t clock id ≡ Some i → meet_by (Some i) None t clock a 0 p ≡ meet t clock a id p
  unfolding meet
  met-known i e = sym (ap (λ (o : Option ℕ). meet_by o (free_place t clock) t clock a id p) e)

  pub met-new : session_place t clock id ≡ None → meet_by None (free_place t clock) t clock a id p ≡ meet t clock a id p
  unfolding meet
  met-new e = sym (ap (λ (o : Option ℕ). meet_by o (free_place t clock) t clock a id p) e)
