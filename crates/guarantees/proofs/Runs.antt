-- A mixed run, seen from one table and from one pool: what other calls do is not seen there.
-- Assumes nothing.
use Rattle.std.specs.Prelude.{None, Option, Some}
use mathlib.Core.Path.{◌≡◌, refl, sym, ap, ap₂, ◌∙◌, subst}
use mathlib.Core.Logic.{◌≢◌}
use mathlib.Core.Bool.{Bool, true, false, cond, and-eq-true_iff}
use mathlib.Core.List.{List, [], ◌∷◌}
use Prim.Native.Nat.{ℕ, ◌≤◌}
use native.Mathlib.Omega.{arith}
use lib.Dec.{eqb, leb}
use lib.ListN.{length}
use borrow.Author.Tests.{eqb-true, eqb-false, eq-eqb, ne_eqb, leb-true}
use Rattle.session_table.specs.Table as table
use Rattle.session_table.specs.Table.{lawful}
use Rattle.session_book.specs.Call as book
use Rattle.session_book.specs.Call.{Outcome, Decision}
use Rattle.session_book.specs.Runs.{table_outcome_by, table_next_by, table_outcome, table_next, table_outcomes, table_after}
use Rattle.session_book.specs.Demand3.{Each, PortFits}
use Rattle.datagram_open.specs.Deciding.{decide}
use Rattle.relay.specs.Datagrams as datagrams
use Rattle.guarantees.specs.Calls.{Call, Said, Role, Opening, nothing, makes-table, opens-datagram, makes-pool, opens-front, step, Memory, Use, lend, does, placed, next, after, role_of, opening_in, on_table, picked, book_call, outcome, calls, outcomes, decides, at}
use Rattle.guarantees.specs.Guarantees.{Demand1, Serves, Run}
use Rattle.guarantees.proofs.Every.{every_call}
use Rattle.guarantees.proofs.Roles.{OnTable, on-table}
use Rattle.guarantees.proofs.Deciding.{outcome_in_words, outcome-by, next-by, outcome-so, table-so, decides-so}

-- ---- demand 1

pub demand1 : Demand1
demand1 m [] = _
demand1 m (u ∷ us) = (every_call u.call (lend m u), demand1 (next m u) us)

-- ---- one call, seen from a table

pub placed-here : (f : ℕ → List ℕ) (k j : ℕ) (x : List ℕ) → j ≡ k → placed f j x k ≡ x
placed-here f k j x e = ap (λ (b : Bool). cond b x (f k)) (eq-eqb k j (sym e))

pub placed-elsewhere : (f : ℕ → List ℕ) (k j : ℕ) (x : List ℕ) → j ≢ k → placed f j x k ≡ f k
placed-elsewhere f k j x n = ap (λ (b : Bool). cond b x (f k)) (ne_eqb k j (λ e. n (sym e)))

-- the same where it is kept
pub placed_same : (f : ℕ → List ℕ) (k j : ℕ) (x : List ℕ) → x ≡ f j → placed f j x k ≡ f k
placed_same f k j x e = go (eqb k j) refl
  where
    go : (b : Bool) → eqb k j ≡ b → cond b x (f k) ≡ f k
    go true g = e ∙ ap f (sym (eqb-true k j g))
    go false g = refl

module _ (k method : ℕ) (key : List ℕ) where
  abbrev D : book.Call → Decision (List ℕ)
  D = decides method key

  pub same_next : (t : List ℕ) (c : book.Call) → table_next D t c ≡ table_next (decide method key) t c
  same_next t c =
      ap (λ (d : Decision (List ℕ)). cond (lawful t) (table_next_by d t c) t) (decides-so method key c)
      ∙ ap (λ (x : List ℕ). cond (lawful t) x t) (next-by (decide method key c) t c)

  pub same_outcome : (t : List ℕ) (c : book.Call) → table_outcome D t c ≡ outcome_in_words (table_outcome (decide method key) t c)
  same_outcome t c =
      ap (λ (d : Decision (List ℕ)). cond (lawful t) (table_outcome_by d t c) (record { answer = book.refused 1; output = c.output })) (decides-so method key c)
      ∙ ap (λ (x : Outcome (List ℕ)). cond (lawful t) x (record { answer = book.refused 1; output = c.output })) (outcome-by (decide method key c) t c)
      ∙ go (lawful t)
    where
      go : (b : Bool) → cond b (outcome_in_words (table_outcome_by (decide method key c) t c)) (record { answer = book.refused 1; output = c.output })
          ≡ outcome_in_words (cond b (table_outcome_by (decide method key c) t c) (record { answer = book.refused 1; output = c.output }))
      go true = refl
      go false = refl

  module _ (m : Memory) (u : Use) where
    abbrev t : List ℕ
    t = m.tables k

    abbrev StepOn : Option Opening → Type 0
    StepOn None = (next m u).tables k ≡ t
    StepOn (Some o) = ((next m u).tables k ≡ table_next D t (book_call u o)) × (outcome (does m u) ≡ table_outcome D t (book_call u o))

    kept : (does m u).left.table ≡ m.tables u.table → (next m u).tables k ≡ t
    kept e = placed_same m.tables k u.table (does m u).left.table e

    opened : (o : Opening) → u.table ≡ k → OnTable (opens-datagram o) (lend m u) (does m u) → Serves method key u (opens-datagram o) → StepOn (Some o)
    opened o e x s =
        let l = s.1.1.1 in
        let c = book_call u o in
        let there : m.tables u.table ≡ t = ap m.tables e in
        let same : decide o.method o.key ≡ decide method key = ap₂ decide s.0 s.1.0 in (
          placed-here m.tables k u.table (does m u).left.table e ∙ ap (λ (y : Said). y.left.table) x ∙ table-so (lend m u) o l
              ∙ (λ i. table_next (same i) (there i) c) ∙ sym (same_next t c),
          ap outcome x ∙ outcome-so (lend m u) o l ∙ (λ i. outcome_in_words (table_outcome (same i) (there i) c)) ∙ sym (same_outcome t c),
        )

    by-role : (r : Role) → u.table ≡ k → OnTable r (lend m u) (does m u) → Serves method key u r → StepOn (opening_in r)
    by-role nothing e x s = kept x
    by-role makes-table e x s = absurd s
    by-role (opens-datagram o) e x s = opened o e x s
    by-role makes-pool e x s = kept x
    by-role (opens-front f) e x s = kept x

    pub step-on : (u.table ≡ k → Serves method key u (role_of u.call)) → StepOn (on_table k u)
    step-on s = go (eqb u.table k) refl
      where
        go : (b : Bool) → eqb u.table k ≡ b → StepOn (cond b (opening_in (role_of u.call)) None)
        go true e = by-role (role_of u.call) (eqb-true u.table k e) (on-table u.call (lend m u)) (s (eqb-true u.table k e))
        go false e = placed-elsewhere m.tables k u.table (does m u).left.table (eqb-false u.table k e)

  -- ---- a run

  abbrev Served : List Use → Type 0
  Served us = Each (λ u. u.table ≡ k → Serves method key u (role_of u.call)) us

  pub table-run : (m : Memory) (us : List Use) → Served us → (after m us).tables k ≡ table_after D (m.tables k) (calls k us)
  table-run m [] s = refl
  table-run m (u ∷ us) s = go (on_table k u) (step-on m u s.0) (table-run (next m u) us s.1)
    where
      go : (o : Option Opening) → StepOn m u o → (after (next m u) us).tables k ≡ table_after D ((next m u).tables k) (calls k us)
          → (after (next m u) us).tables k ≡ table_after D (m.tables k) (picked o (book_call u) (calls k us))
      go None x rest = rest ∙ ap (λ (t : List ℕ). table_after D t (calls k us)) x
      go (Some o) x rest = rest ∙ ap (λ (t : List ℕ). table_after D t (calls k us)) x.0

  pub outcome-run : (m : Memory) (us : List Use) → Served us → outcomes k m us ≡ table_outcomes D (m.tables k) (calls k us)
  outcome-run m [] s = refl
  outcome-run m (u ∷ us) s = go (on_table k u) (step-on m u s.0) (outcome-run (next m u) us s.1)
    where
      go : (o : Option Opening) → StepOn m u o → outcomes k (next m u) us ≡ table_outcomes D ((next m u).tables k) (calls k us)
          → picked o (λ p. outcome (does m u)) (outcomes k (next m u) us) ≡ table_outcomes D (m.tables k) (picked o (book_call u) (calls k us))
      go None x rest = rest ∙ ap (λ (t : List ℕ). table_outcomes D t (calls k us)) x
      go (Some o) x rest = ap₂ ◌∷◌ x.1 (rest ∙ ap (λ (t : List ℕ). table_outcomes D t (calls k us)) x.0)

  -- ports have 16 bits
  pub ports : (us : List Use) → Served us → Each PortFits (calls k us)
  ports [] s = _
  ports (u ∷ us) s = go (eqb u.table k) (role_of u.call) refl s.0 (ports us s.1)
    where
      go : (b : Bool) (r : Role) → eqb u.table k ≡ b → (u.table ≡ k → Serves method key u r) → Each PortFits (calls k us)
          → Each PortFits (picked (cond b (opening_in r) None) (book_call u) (calls k us))
      go false r e f rest = rest
      go true nothing e f rest = rest
      go true makes-table e f rest = rest
      go true (opens-datagram o) e f rest = ((f (eqb-true u.table k e)).1.1.0, rest)
      go true makes-pool e f rest = rest
      go true (opens-front o) e f rest = rest

  -- ---- the table at the beginning

  pub record Begun (R : ℕ) (t : List ℕ) : Type 0 where
    pub least : 60 ≤ R
    pub greatest : R ≤ 3600
    pub new : t ≡ table.new_table R

  begun-by : (R : ℕ) (t : List ℕ) → datagrams.settings_number (table.make_lawful R t) ≡ 0 → Begun (table.made_retention R) (table.made R t)
  begun-by R t e = go (table.make_lawful R t) refl e
    where
      go : (b : Bool) → table.make_lawful R t ≡ b → datagrams.settings_number b ≡ 0
          → Begun (table.made_retention R) (cond b (table.new_table (table.made_retention R)) t)
      go true f g =
          let r = (and-eq-true_iff (leb 60 (table.made_retention R)) _).0 ((and-eq-true_iff (eqb (length t) table.table_words) _).0 f).1 in
          record { least = leb-true 60 (table.made_retention R) r.0; greatest = leb-true (table.made_retention R) 3600 r.1; new = refl }
      go false f g = absurd (omega (arith, g))

  pub begun : (m : Memory) (R : ℕ) (us : List Use) → Run k method key m R us → Begun R (m.tables k)
  unfolding step
  begun m R us run =
      let u = run.maker in
      let n : datagrams.settings_number (table.make_lawful run.retention (run.before.tables u.table)) ≡ 0 =
      sym (ap (λ (c : Call). (step c (lend run.before u)).number) run.makes) ∙ run.made in
      let b = begun-by run.retention (run.before.tables u.table) n in
      let e : m.tables k ≡ table.made run.retention (run.before.tables u.table) =
      ap (λ (x : Memory). x.tables k) run.begins ∙ placed-here run.before.tables k u.table _ run.there
      ∙ ap (λ (c : Call). (step c (lend run.before u)).left.table) run.makes in
      let r : R ≡ table.made_retention run.retention = run.remembers ∙ ap (λ (t : List ℕ). at t 0) (e ∙ b.new) in
      record {
        least = subst (λ (x : ℕ). 60 ≤ x) (sym r) b.least;
        greatest = subst (λ (x : ℕ). x ≤ 3600) (sym r) b.greatest;
        new = e ∙ b.new ∙ ap table.new_table (sym r);
      }
