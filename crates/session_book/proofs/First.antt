-- The first half of demand 3: every run of the table is a run of the book. Assumes nothing.
use Rattle.std.specs.Prelude.{None, Option, Some}
use Rattle.std.specs.Option.{option_map}
use Rattle.std.proofs.lemmas.Option.{none-some}
use mathlib.Core.Path.{◌≡◌, refl, sym, ap, ap₂, ◌∙◌, subst, fun_ext}
use mathlib.Core.Bool.{Bool, true, false, cond, not, ◌&&◌, true≢false}
use mathlib.Core.List.{List, [], ◌∷◌}
use Prim.Native.Nat.{ℕ, zero, suc, ◌-◌, ◌≤◌, zero-le}
use native.Mathlib.Omega.{arith}
use lib.Dec.{leb, ltb, eqb}
use Rattle.records.proofs.SearchLaws.{lowest-found, lowest-none}
use Rattle.session_window.specs.Window.{window, bit}
use Rattle.session_table.specs.Sizes.{capacity}
use Rattle.session_table.proofs.TableLaws.{new-length}
use Rattle.session_table.specs.Table.{Record, new_table, record_at, lowest, live, holds, session_place}
use Rattle.session_book.specs.Call.{Call, Outcome, refused, Decision}
use Rattle.session_book.specs.Book.{Page, page, member, book_next, book_outcomes, book_after}
use Rattle.session_book.specs.Runs.{table_outcome_by, table_next_by, table_outcomes, table_after}
use Rattle.session_book.specs.Demand3.{Each, Pairs, clocks, Forward, PortFits, last_of, last_reading, View, view_of_page, view_of_record, book_session, table_session, OneRecordEach, FollowsBook}
use borrow.Author.Tests.{ltb-true, leb-true, leb-false}
use Rattle.session_book.proofs.Search.{tally}
use Rattle.session_book.proofs.Window.{Match}
use Rattle.session_book.proofs.Words.{new-unused, lawful-table}
use Rattle.session_book.proofs.Refine.{alive, holds-live, holds-id, later}
use Rattle.session_book.proofs.Step.{State, step}

-- ---- a table just made

nothing : (f : ℕ → Bool) (i n : ℕ) → ((k : ℕ) → f k ≡ false) → tally f i n ≡ 0
nothing f i zero h = refl
nothing f i (suc n) h = rw (h i) (omega (arith, nothing f (suc i) n h))

new-dead : (R u i : ℕ) → live R u (record_at (new_table R) i) ≡ false
new-dead R u i = ap (λ (x : ℕ). not (eqb x 0) && alive R u (record_at (new_table R) i).last) (new-unused R i)

pub new-state : (R : ℕ) → State R 0 (new_table R) []
new-state R =
    record {
      sized = new-length R;
      retains = refl;
      related = record {
        forth = λ i l e. absurd (true≢false (sym e ∙ new-dead R 0 i));
        back = λ id q e. absurd (none-some _ e);
        unique = λ i j id _ _ e _. absurd (true≢false (sym (holds-live R 0 id (record_at (new_table R) i) e) ∙ new-dead R 0 i));
        counts = λ u _. nothing (λ i. live R u (record_at (new_table R) i)) 0 capacity (new-dead R u);
        distinct = λ id. zero-le;
      };
    }

-- ---- a run

run : {H : Type 0} (decide : Call → Decision H) (R : ℕ) → 60 ≤ R → R ≤ 3600 → (cs : List Call) (u : ℕ) (t : List ℕ) (b : List Page) → State R u t b
    → Each PortFits cs → Pairs ◌≤◌ (u ∷ clocks cs)
    → (table_outcomes decide t cs ≡ book_outcomes decide R b cs) × State R (last_of u (clocks cs)) (table_after decide t cs) (book_after decide R b cs)
run decide R lo hi [] u t b s ports forward = (refl, s)
run {H} decide R lo hi (c ∷ cs) u t b s ports forward =
    subst (λ (x : Bool).
    (◌≡◌ {A = List (Outcome H)}
    (cond x (table_outcome_by (decide c) t c) (record { answer = refused 1; output = c.output })
    ∷ table_outcomes decide (cond x (table_next_by (decide c) t c) t) cs)
    (book_outcomes decide R b (c ∷ cs)))
    × State R (last_of c.clock (clocks cs)) (table_after decide (cond x (table_next_by (decide c) t c) t) cs) (book_after decide R (book_next decide R b c) cs))
    (sym (lawful-table t R s.sized s.retains lo hi))
    (let one = step (decide c) R u t b c s forward.0.0 ports.0 in
    let rest = run decide R lo hi cs c.clock (table_next_by (decide c) t c) (book_next decide R b c) one.1 ports.1 forward.1 in
    (ap₂ {C = List (Outcome H)} (λ x l. x ∷ l) one.0 rest.0, rest.1))

-- ---- the sessions alive

session-same : (r : Record) (q : Page) → Match r q → view_of_record r ≡ view_of_page q
session-same r q m = λ k. record { h = m.h k; marked = marked k; last = m.last k; peer = m.peer k; accepted = accepted k; repeats = repeats k }
  where
    at : (p : ℕ) (x : Bool) → leb p q.h ≡ x → (y : Bool) → ltb (q.h - p) window ≡ y
        → x && (y && bit r.marks (q.h - p)) ≡ y && member p q.accepted
    at p true e true f =
        m.marks (q.h - p) (ltb-true (q.h - p) window f) (omega arith)
        ∙ ap (λ (k : ℕ). member k q.accepted) (let s : q.h - (q.h - p) ≡ p = omega (arith, leb-true p q.h e) in s)
    at p true e false f = refl
    at p false e true f = sym (pick (member p q.accepted) refl)
      where
        pick : (z : Bool) → member p q.accepted ≡ z → member p q.accepted ≡ false
        pick true g = absurd (omega (arith, m.below p g, leb-false p q.h e))
        pick false g = g
    at p false e false f = refl

    accepted : (view_of_record r).accepted ≡ (view_of_page q).accepted
    accepted = search m.accepted

    repeats : (view_of_record r).repeats ≡ (view_of_page q).repeats
    repeats = search m.repeats

    marked : (view_of_record r).marked ≡ (view_of_page q).marked
    marked =
        fun_ext (λ p. ap (λ (n : ℕ). leb p n && (ltb (n - p) window && bit r.marks (n - p))) m.h
        ∙ at p (leb p q.h) refl (ltb (q.h - p) window) refl)

pub sessions : (R u : ℕ) (t : List ℕ) (b : List Page) → State R u t b → (id : ℕ) → table_session t u id ≡ book_session R b u id
unfolding session_place
sessions R u t b s id =
    subst (λ (r : ℕ). option_map (λ i. view_of_record (record_at t i)) (lowest (λ i. holds r u id (record_at t i))) ≡ book_session R b u id) (sym s.retains)
    (go (lowest (λ i. holds R u id (record_at t i))) refl)
  where
    go : (o : Option ℕ) → lowest (λ i. holds R u id (record_at t i)) ≡ o → option_map (λ i. view_of_record (record_at t i)) o ≡ book_session R b u id
    go (Some i) e =
        let k = lowest-found (λ i. holds R u id (record_at t i)) 0 capacity i e in
        let f = s.related.forth i (omega (arith, k.1)) (holds-live R u id (record_at t i) k.2) in
        ap {B = Option View} Some (session-same (record_at t i) f.it f.matches)
        ∙ sym (ap (option_map view_of_page) (ap (λ (n : ℕ). page R u n b) (sym (holds-id R u id (record_at t i) k.2)) ∙ f.is_it))
    go None e = pick (page R u id b) refl
      where
        pick : (o : Option Page) → page R u id b ≡ o → None ≡ book_session R b u id
        pick None f = sym (ap (option_map view_of_page) f)
        pick (Some q) f =
            let k = s.related.back id q f in
            absurd (true≢false (sym k.has ∙ lowest-none (λ i. holds R u id (record_at t i)) 0 capacity e k.at zero-le (omega (arith, k.inside))))

-- at every later reading too
pub sessions-later : (R u w : ℕ) (t : List ℕ) (b : List Page) → State R u t b → u ≤ w → (id : ℕ) → table_session t w id ≡ book_session R b w id
sessions-later R u w t b s h id =
    sessions R w t b (record { sized = s.sized; retains = s.retains; related = later R u w (record_at t) b h s.related }) id

one_each : (R u : ℕ) (t : List ℕ) (b : List Page) → State R u t b → OneRecordEach t u
one_each R u t b s i j id l m e f =
    s.related.unique i j id l m
    (ap (λ (r : ℕ). holds r u id (record_at t i)) (sym s.retains) ∙ e)
    (ap (λ (r : ℕ). holds r u id (record_at t j)) (sym s.retains) ∙ f)

-- ---- the theorem

pub each-zero : (l : List ℕ) → Each (λ x. 0 ≤ x) l
each-zero [] = tt
each-zero (x ∷ l) = (zero-le, each-zero l)

-- what stands behind a list of calls
pub state-after : {H : Type 0} (decide : Call → Decision H) (R : ℕ) → 60 ≤ R → R ≤ 3600 → (cs : List Call) → Each PortFits cs → Forward cs
    → State R (last_reading cs) (table_after decide (new_table R) cs) (book_after decide R [] cs)
state-after decide R lo hi cs ports forward =
    (run decide R lo hi cs 0 (new_table R) [] (new-state R) ports (each-zero (clocks cs), forward)).1

pub follows-book : {H : Type 0} (decide : Call → Decision H) → FollowsBook decide
follows-book decide R lo hi cs ports forward =
    let r = run decide R lo hi cs 0 (new_table R) [] (new-state R) ports (each-zero (clocks cs), forward) in
    record {
      outcomes = r.0;
      sessions = sessions R (last_reading cs) (table_after decide (new_table R) cs) (book_after decide R [] cs) r.1;
      no_others = one_each R (last_reading cs) (table_after decide (new_table R) cs) (book_after decide R [] cs) r.1;
    }
