-- The table accepts no byte string twice, since it follows the book; and the run that shows why its retention is at least 60 seconds.
-- Assumes nothing.
use Rattle.std.specs.Prelude.{None, Some}
use mathlib.Core.Path.{◌≡◌, refl, sym, ap, ap₂, ◌∙◌, subst}
use mathlib.Core.Bool.{Bool, true, false, cond, ◌&&◌, ◌||◌, and-false}
use mathlib.Core.List.{List, [], ◌∷◌}
use Prim.Native.Nat.{ℕ, ◌+◌, ◌≤◌}
use native.Mathlib.Omega.{arith}
use lib.Dec.{leb, eqb}
use lib.ListN.{length}
use borrow.Author.Tests.{eq-eqb}
use Rattle.session_record.specs.declared.Peer.{Peer}
use Rattle.session_table.specs.Table.{new_table, table_words, lawful}
use Rattle.session_book.specs.Call.{Call, refused, Outcome, Decision, reaches, opened_outcome}
use Rattle.session_book.specs.Book.{Page, one, accept, refuse, new_page, BookEntry, enters, replay, judge, judge_by, tell, outcome_by, next_by, book_outcomes, book_next}
use Rattle.session_book.specs.Runs.{table_outcome_by, table_next_by, table_outcome, table_outcomes}
use Rattle.session_book.specs.Demand3.{Each, Pairs, clocks, Forward, PortFits}
use Rattle.session_book.specs.Once.{Once, Stamped, TableOnce, untested_outcomes, UntestedFollowsBook, both_accepted, second_repeats, both_unlawful, too_short, BreaksAt59}
use Rattle.session_book.proofs.BookOnce.{not-fresh, book-once}
use Rattle.session_book.proofs.Step.{State, step}
use Rattle.session_book.proofs.First.{new-state, each-zero, follows-book}

pub table-once : {H : Type 0} (decide : Call → Decision H) → Stamped decide → TableOnce decide
table-once {H} decide stamped R lo hi cs ports forward =
    subst (λ (os : List (Outcome H)). Once cs os) (sym (follows-book decide R lo hi cs ports forward).outcomes)
    (book-once decide stamped R lo cs forward)

-- ---- without the test of R

module _ {H : Type 0} (decide : Call → Decision H) where
  untested-run : (R : ℕ) (cs : List Call) (u : ℕ) (t : List ℕ) (b : List Page) → State R u t b → Each PortFits cs → Pairs ◌≤◌ (u ∷ clocks cs)
      → untested_outcomes decide t cs ≡ book_outcomes decide R b cs
  untested-run R [] u t b s ports forward = refl
  untested-run R (c ∷ cs) u t b s ports forward =
      let here = step (decide c) R u t b c s forward.0.0 ports.0 in
      ap₂ {C = List (Outcome H)} (λ x l. x ∷ l) here.0
      (untested-run R cs c.clock (table_next_by (decide c) t c) (book_next decide R b c) here.1 ports.1 forward.1)

  pub untested-follows-book : UntestedFollowsBook decide
  untested-follows-book R cs ports forward = untested-run R cs 0 (new_table R) [] (new-state R) ports (each-zero (clocks cs), forward)

-- ---- one datagram twice

-- the second meeting, by whether the page is alive then
met-again : (R v w : ℕ) (a b : Peer) (id p : ℕ) (x : Bool) → leb w (v + R) ≡ x
    → judge R (new_page v a id p ∷ []) w b id p ≡ cond x (replay (refuse id p (new_page v a id p))) (enters (new_page w b id p))
met-again R v w a b id p x e =
    (λ i. judge_by (cond (eq-eqb id id refl i && e i) (Some (new_page v a id p)) None) (leb 64 (one (e i) + 0)) w b id p) ∙ go x
  where
    go : (y : Bool) → judge_by (cond y (Some (new_page v a id p)) None) (leb 64 (one y + 0)) w b id p
        ≡ cond y (replay (refuse id p (new_page v a id p))) (enters (new_page w b id p))
    go true =
        ap (λ (z : Bool). cond z (enters (accept w b id p (new_page v a id p))) (replay (refuse id p (new_page v a id p))))
        (not-fresh (new_page v a id p) p (ap (λ (z : Bool). z || false) (eq-eqb p p refl)) (omega arith))
    go false = refl

module _ {H : Type 0} (decide : Call → Decision H) (first again : Call) (id p : ℕ) (header : H) (plaintext : List ℕ)
    (e₁ : decide first ≡ reaches id p header plaintext) (e₂ : decide again ≡ reaches id p header plaintext) where
  abbrev calls : List Call
  calls = first ∷ again ∷ []

  -- what the book answers, by whether the page is alive at the second call
  book-twice : (R : ℕ) (x : Bool) → leb again.clock (first.clock + R) ≡ x
      → book_outcomes decide R [] calls ≡ cond x (second_repeats decide first again header plaintext) (both_accepted decide first again header plaintext)
  book-twice R x e =
      (λ i. outcome_by (e₁ i) R [] first ∷ outcome_by (e₂ i) R (next_by (e₁ i) R [] first) again ∷ [])
      ∙ ap (λ (f : BookEntry). opened_outcome first header plaintext ∷ tell f again header plaintext ∷ [])
      (met-again R first.clock again.clock first.peer again.peer id p x e)
      ∙ go x
    where
      now : Page
      now = new_page first.clock first.peer id p

      go : (y : Bool)
          → ◌≡◌ {A = List (Outcome H)}
          (opened_outcome first header plaintext
          ∷ tell (cond y (replay (refuse id p now)) (enters (new_page again.clock again.peer id p))) again header plaintext ∷ [])
          (cond y (second_repeats decide first again header plaintext) (both_accepted decide first again header plaintext))
      go true = refl
      go false = refl

-- a table with 59 is not lawful, so both calls are refused
not-lawful : lawful (new_table 59) ≡ false
not-lawful = and-false (eqb (length (new_table 59)) table_words)

unlawful-59 : {H : Type 0} (decide : Call → Decision H) (first again : Call)
    → table_outcomes decide (new_table 59) (first ∷ again ∷ []) ≡ both_unlawful decide first again
unlawful-59 {H} decide first again =
    let t = new_table 59 in
    (λ i. cond (not-lawful i) (table_outcome_by (decide first) t first) (unlawful first)
    ∷ table_outcome decide (cond (not-lawful i) (table_next_by (decide first) t first) t) again ∷ [])
    ∙ (λ i. unlawful first ∷ cond (not-lawful i) (table_outcome_by (decide again) t again) (unlawful again) ∷ [])
  where
    unlawful : Call → Outcome H
    unlawful c = record { answer = refused 1; output = c.output }

pub breaks-at-59 : {H : Type 0} (decide : Call → Decision H) → BreaksAt59 decide
breaks-at-59 {H} decide first again id p header plaintext c₁ c₂ same e₁ e₂ port₁ port₂ =
    let ports : Each PortFits (first ∷ again ∷ []) = (port₁, (port₂, tt)) in
    let forward : Forward (first ∷ again ∷ []) = ((omega arith, tt), (tt, tt)) in
    let forgotten : leb again.clock (first.clock + too_short) ≡ false = ap₂ (λ (v w : ℕ). leb w (v + too_short)) c₁ c₂ in
    let alive : leb again.clock (first.clock + 60) ≡ true = ap₂ (λ (v w : ℕ). leb w (v + 60)) c₁ c₂ in
    let book-59 = book-twice decide first again id p header plaintext e₁ e₂ too_short false forgotten in
    let book-60 = book-twice decide first again id p header plaintext e₁ e₂ 60 true alive in
    record {
      book-59 = book-59;
      table-59 = untested-follows-book decide too_short (first ∷ again ∷ []) ports forward ∙ book-59;
      not-once = λ o. (subst (λ (os : List (Outcome H)). Once (first ∷ again ∷ []) os) book-59 o).0.0 same;
      refused-59 = unlawful-59 decide first again;
      book-60 = book-60;
      table-60 = (follows-book decide 60 (omega arith) (omega arith) (first ∷ again ∷ []) ports forward).outcomes ∙ book-60;
    }
