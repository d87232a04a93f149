-- One call: the table and the book answer alike, and what holds between them holds again. Assumes nothing.
use Rattle.std.specs.Prelude.{None, Option, Some}
use mathlib.Core.Path.{◌≡◌, refl, sym, ap, ap₂, ◌∙◌, subst}
use mathlib.Core.Logic.{◌≢◌}
use mathlib.Core.Bool.{Bool, true, false, cond, not, ◌&&◌, true≢false, and-eq-true_iff}
use mathlib.Core.List.{List, ◌∷◌}
use Prim.Native.Nat.{ℕ, ◌^◌, ◌≤◌, ◌<◌, zero-le}
use native.Mathlib.Nat.{le_refl}
use native.Mathlib.Omega.{arith}
use lib.ListN.{length}
use Rattle.records.proofs.SearchLaws.{lowest-found, lowest-none}
use Rattle.session_record.specs.declared.Peer.{Peer}
use Rattle.session_table.specs.Sizes.{capacity}
use Rattle.session_table.specs.Table.{Record, table_words, retention, record_at, store, repeated, accept_in, new_record, lowest, live, holds, session_place, free_place, Entry, stores, meet_by, meet, keep}
use Rattle.session_book.specs.Call.{Call, Decision, early, reaches}
use Rattle.session_book.specs.Book.{Page, one, page_alive, page, living, most, crowded, without, fresh, accept, refuse, new_page, BookEntry, enters, judge, judge_by, turn, tell, outcome_by, next_by}
use Rattle.session_book.specs.Runs.{report, table_outcome_by, table_next_by}
use Rattle.session_book.specs.Book as B
use Rattle.session_table.specs.Table as W
use borrow.Author.Tests.{le-leb, lt-leb, not-true}
use Rattle.session_book.proofs.Pages.{living_of, page-alive}
use Rattle.session_book.proofs.Swap.{accept-alive, new-alive}
use Rattle.session_book.proofs.Search.{tally-all, tally-some}
use Rattle.session_book.proofs.Window.{Match, fresh-same, match-accept, match-new, match-repeat}
use Rattle.session_book.proofs.Words.{record-other, record_same, retention-store, length-store, repeat_in, repeated-other, repeated-same, retention-repeated, length-repeated}
use Rattle.session_book.proofs.Refine.{Found, Rel, in_use, alive-same, later, put, holds-live, holds-id, live-after, living_of-none-later, living_of-some-later}

module _ (R u : ℕ) (t : List ℕ) (b : List Page) (rel : Rel R u (record_at t) b) (len : length t ≡ table_words) (a : Peer) (port : a.port < 2 ^ 16) (id p : ℕ) where
  -- a table entry and a book entry that say the same and leave the same
  pub record Agree (e : Entry) (f : BookEntry) : Type 1 where
    pub says : {H : Type 0} (c : Call) (hd : H) (pl : List ℕ) → report e c hd pl ≡ tell f c hd pl
    pub leaves : Rel R u (record_at (keep e t)) (turn f id b)
    pub same_length : length (keep e t) ≡ length t
    pub same_retention : retention (keep e t) ≡ retention t

  -- record i becomes r
  stored : (i : ℕ) → i < capacity → (r : Record) (q : Page) → Match r q → in_use r ≡ true → page_alive R u q ≡ true → q.last ≤ u → q.id ≡ id → r.peer ≡ a
      → ((j : ℕ) → j < capacity → j ≢ i → holds R u id (record_at t j) ≡ false) → (live R u (record_at t i) ≡ true → (record_at t i).id ≡ id)
      → ((w : ℕ) → u ≤ w → living_of R w id b ≡ one (live R w (record_at t i))) → Agree (stores i r) (enters q)
  stored i l r q m used living' past is_id is_a alone own counted =
      record {
        says = λ c hd pl. refl;
        leaves = subst (λ (n : ℕ). Rel R u (record_at (store t i r)) (q ∷ without n b)) is_id
            (put R u (record_at t) (record_at (store t i r)) b rel i l r q m used living' past
            (record_same t i r len l m.fits (subst (λ (x : Peer). x.port < 2 ^ 16) (sym is_a) port))
            (λ j _ n. record-other t i j r n)
            (subst (λ (n : ℕ). (j : ℕ) → j < capacity → j ≢ i → holds R u n (record_at t j) ≡ false) (sym is_id) alone)
            (λ e. own e ∙ sym is_id)
            (subst (λ (n : ℕ). (w : ℕ) → u ≤ w → living_of R w n b ≡ one (live R w (record_at t i))) (sym is_id) counted));
        same_length = length-store t i r;
        same_retention = retention-store t i r;
      }

  -- the ID has a record
  known : (i : ℕ) → i < capacity → holds R u id (record_at t i) ≡ true → (free : Option ℕ)
      → Agree (meet_by (Some i) free t u a id p) (judge R b u a id p)
  known i l h free =
      subst (λ (o : Option Page). Agree (meet_by (Some i) free t u a id p) (judge_by o (crowded R u b) u a id p)) (sym is_page)
      (subst (λ (x : Bool). Agree (cond x (stores i (accept_in u a p (record_at t i))) (W.replay i))
      (cond (fresh f.it p) (enters (accept u a id p f.it)) (B.replay (refuse id p f.it))))
      (sym (fresh-same (record_at t i) f.it f.matches p)) (go (fresh f.it p) refl))
    where
      f : Found R u (record_at t i) b
      f = rel.forth i l (holds-live R u id (record_at t i) h)

      is_id : (record_at t i).id ≡ id
      is_id = holds-id R u id (record_at t i) h

      is_page : page R u id b ≡ Some f.it
      is_page = ap (λ (n : ℕ). page R u n b) (sym is_id) ∙ f.is_it

      alone : (j : ℕ) → j < capacity → j ≢ i → holds R u id (record_at t j) ≡ false
      alone j lj n = pick (holds R u id (record_at t j)) refl
        where
          pick : (x : Bool) → holds R u id (record_at t j) ≡ x → holds R u id (record_at t j) ≡ false
          pick true e = absurd (n (rel.unique j i id lj l e h))
          pick false e = e

      used : in_use (record_at t i) ≡ true
      used = ((and-eq-true_iff (in_use (record_at t i)) _).0 (holds-live R u id (record_at t i) h)).0

      counted : (w : ℕ) → u ≤ w → living_of R w id b ≡ one (live R w (record_at t i))
      counted w g =
          living_of-some-later R u w id b f.it g (rel.distinct id) is_page
          ∙ sym (ap₂ (λ (x y : Bool). one (x && y)) used (alive-same R w (record_at t i) f.it f.matches))

      go : (x : Bool) → fresh f.it p ≡ x
          → Agree (cond x (stores i (accept_in u a p (record_at t i))) (W.replay i)) (cond x (enters (accept u a id p f.it)) (B.replay (refuse id p f.it)))
      go true e =
          stored i l (accept_in u a p (record_at t i)) (accept u a id p f.it) (match-accept (record_at t i) f.it f.matches u a id p is_id f.past e)
          used (accept-alive R u a id p f.it (page-alive R u id b f.it is_page)) (le_refl u) refl refl alone (λ _. is_id) counted
      go false e =
          record {
            says = λ c hd pl. refl;
            leaves = put R u (record_at t) (record_at (repeated t i)) b rel i l (repeat_in (record_at t i)) (refuse id p f.it)
                (match-repeat (record_at t i) f.it f.matches id p is_id) used (page-alive R u id b f.it is_page) f.past
                (repeated-same t i len l) (λ j _ n. repeated-other t i j n) alone (λ _. is_id) counted;
            same_length = length-repeated t i;
            same_retention = retention-repeated t i;
          }

  -- the book has no room exactly where no record is free
  room : (i : ℕ) → lowest (λ i. not (live R u (record_at t i))) ≡ Some i → crowded R u b ≡ false
  room i f =
      let less : living R u b < capacity =
      subst (λ (n : ℕ). n < capacity) (rel.counts u (le_refl u)) (tally-some (λ j. live R u (record_at t j)) 0 capacity i f) in
      lt-leb most (living R u b) (omega arith)

  no_room : lowest (λ i. not (live R u (record_at t i))) ≡ None → crowded R u b ≡ true
  no_room f =
      let all : living R u b ≡ capacity = sym (rel.counts u (le_refl u)) ∙ tally-all (λ j. live R u (record_at t j)) 0 capacity f in
      le-leb most (living R u b) (omega arith)

  -- the ID has none
  unknown : ((j : ℕ) → j < capacity → holds R u id (record_at t j) ≡ false) → (free : Option ℕ) → lowest (λ i. not (live R u (record_at t i))) ≡ free
      → Agree (meet_by None free t u a id p) (judge R b u a id p)
  unknown absent free e =
      subst (λ (o : Option Page). Agree (meet_by None free t u a id p) (judge_by o (crowded R u b) u a id p)) (sym no_page) (go free e)
    where
      no_page : page R u id b ≡ None
      no_page = pick (page R u id b) refl
        where
          pick : (o : Option Page) → page R u id b ≡ o → page R u id b ≡ None
          pick None f = f
          pick (Some q) f = let k = rel.back id q f in absurd (true≢false (sym k.has ∙ absent k.at k.inside))

      go : (free : Option ℕ) → lowest (λ i. not (live R u (record_at t i))) ≡ free
          → Agree (meet_by None free t u a id p) (judge_by None (crowded R u b) u a id p)
      go (Some i) f =
          let k = lowest-found (λ j. not (live R u (record_at t j))) 0 capacity i f in
          let dead = not-true (live R u (record_at t i)) k.2 in
          let l : i < capacity = omega (arith, k.1) in
          subst (λ (x : Bool). Agree (stores i (new_record u a id p)) (judge_by None x u a id p)) (sym (room i f))
          (stored i l (new_record u a id p) (new_page u a id p) (match-new u a id p) refl (new-alive R u a id p) (le_refl u) refl refl (λ j lj _. absent j lj)
          (λ e. absurd (true≢false (sym e ∙ dead)))
          (λ w g. living_of-none-later R u w id b g no_page ∙ sym (ap one (live-after R u w (record_at t i) g dead))))
      go None f =
          subst (λ (x : Bool). Agree W.full (judge_by None x u a id p)) (sym (no_room f))
          (record { says = λ c hd pl. refl; leaves = rel; same_length = refl; same_retention = refl })

  pub agree : Agree (meet_by (lowest (λ i. holds R u id (record_at t i))) (lowest (λ i. not (live R u (record_at t i)))) t u a id p) (judge R b u a id p)
  agree = go (lowest (λ i. holds R u id (record_at t i))) refl
    where
      go : (o : Option ℕ) → lowest (λ i. holds R u id (record_at t i)) ≡ o
          → Agree (meet_by o (lowest (λ i. not (live R u (record_at t i)))) t u a id p) (judge R b u a id p)
      go (Some i) e = let k = lowest-found (λ j. holds R u id (record_at t j)) 0 capacity i e in known i (omega (arith, k.1)) k.2 (lowest (λ i. not (live R u (record_at t i))))
      go None e = unknown (λ j l. lowest-none (λ j. holds R u id (record_at t j)) 0 capacity e j zero-le (omega arith)) (lowest (λ i. not (live R u (record_at t i)))) refl

-- ---- a step of a run

-- the table's words and the book at a reading
pub record State (R u : ℕ) (t : List ℕ) (b : List Page) : Type 0 where
  pub sized : length t ≡ table_words
  pub retains : retention t ≡ R
  pub related : Rel R u (record_at t) b

pub step : {H : Type 0} (d : Decision H) (R u : ℕ) (t : List ℕ) (b : List Page) (c : Call) → State R u t b → u ≤ c.clock → c.peer.port < 2 ^ 16
    → (table_outcome_by d t c ≡ outcome_by d R b c) × State R c.clock (table_next_by d t c) (next_by d R b c)
unfolding meet session_place free_place
step (early n o) R u t b c s h port =
    (refl, record { sized = s.sized; retains = s.retains; related = later R u c.clock (record_at t) b h s.related })
step (reaches id p hd pl) R u t b c s h port =
    subst (λ (r : ℕ). (report (at r) c hd pl ≡ tell (judge R b c.clock c.peer id p) c hd pl)
    × State R c.clock (keep (at r) t) (turn (judge R b c.clock c.peer id p) id b)) (sym s.retains)
    (g.says c hd pl, record { sized = g.same_length ∙ s.sized; retains = g.same_retention ∙ s.retains; related = g.leaves })
  where
    at : ℕ → Entry
    at r =
        meet_by (lowest (λ i. holds r c.clock id (record_at t i))) (lowest (λ i. not (live r c.clock (record_at t i)))) t c.clock c.peer id p

    g : Agree R c.clock t b (later R u c.clock (record_at t) b h s.related) s.sized c.peer port id p (at R) (judge R b c.clock c.peer id p)
    g = agree R c.clock t b (later R u c.clock (record_at t) b h s.related) s.sized c.peer port id p
