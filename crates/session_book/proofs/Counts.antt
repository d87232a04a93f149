-- The third part of demand 3: the counts of a session alive are those of its calls since it began. Call by call, for the pages of
-- the book, which the table follows. Assumes nothing.
use Rattle.std.specs.Prelude.{None, Option, Some}
use Rattle.std.specs.Option.{option_map}
use Rattle.std.proofs.lemmas.Option.{none-some, same_Some}
use mathlib.Core.Path.{◌≡◌, refl, sym, ap, ap₂, ◌∙◌, subst, subst₂}
use mathlib.Core.Logic.{◌≢◌}
use mathlib.Core.Bool.{Bool, true, false, cond, ◌&&◌, true≢false, and-false}
use mathlib.Core.List.{List, [], ◌∷◌, ◌++◌, append-nil, append_assoc}
use Prim.Native.Nat.{ℕ, ◌+◌, ◌-◌, ◌^◌, ◌≤◌, min}
use native.Mathlib.Omega.{arith}
use lib.Dec.{eqb}
use lib.ListN.{length}
use borrow.Author.Tests.{eqb-true, eqb-false, eq-eqb, ne_eqb}
use Rattle.session_table.specs.Table.{new_table}
use Rattle.session_book.specs.Call.{Call, Answer, refused, opened, Outcome, Decision, early, reaches}
use Rattle.session_book.specs.Book.{Page, one, page_alive, page, crowded, without, fresh, accept, refuse, new_page, enters, replay, judge, judge_by, turn, tell, outcome_by, next_by, book_next, book_after}
use Rattle.session_book.specs.Runs.{table_outcome, table_outcome_by, table_next_by, table_next, table_outcomes, table_after}
use Rattle.session_book.specs.Demand3.{Each, Pairs, clocks, PortFits, last_of, last_reading, View, view_of_page, table_session, Named}
use Rattle.session_book.specs.Counts.{is_opened, is_repeat, names, answered_so, table_behind, Begins, CountsCalls, NoEarlyEight, CallsCounted}
use Rattle.session_book.proofs.Pages.{page-alive, page-head}
use Rattle.session_book.proofs.Swap.{made, page-turn, accept-alive, new-alive}
use Rattle.session_book.proofs.Shuffle.{cons_head, cons_tail}
use Rattle.session_book.proofs.Words.{lawful-table}
use Rattle.session_book.proofs.Refine.{page-earlier}
use Rattle.session_book.proofs.Step.{State, step}
use Rattle.session_book.proofs.First.{new-state, sessions, sessions-later, each-zero}

-- ---- lists

-- a call of a list that one more call ends: it is that one, or it was there before
data Ends (l s : List Call) (c d : Call) : Type 0 where
  last : s ≡ l → d ≡ c → Ends l s c d
  before : (m : List Call) → l ≡ s ++ d ∷ m → Ends l s c d

not-nil : (s m : List Call) (d : Call) → ◌≡◌ {A = List Call} [] (s ++ d ∷ m) → ⊥
not-nil [] m d e = let l = ap length e in omega arith
not-nil (x ∷ s) m d e = let l = ap length e in omega arith

ends : (l s m : List Call) (c d : Call) → l ++ c ∷ [] ≡ s ++ d ∷ m → Ends l s c d
ends [] [] m c d e = last refl (sym (cons_head e))
ends [] (x ∷ s) m c d e = absurd (not-nil s m d (cons_tail e))
ends (x ∷ l) [] m c d e = before l (ap {B = List Call} (λ y. y ∷ l) (cons_head e))
ends (x ∷ l) (y ∷ s) m c d e = go (ends l s m c d (cons_tail e))
  where
    go : Ends l s c d → Ends (x ∷ l) (y ∷ s) c d
    go (last f g) = last (ap₂ {C = List Call} (λ z k. z ∷ k) (sym (cons_head e)) f) g
    go (before k f) = before k (ap₂ {C = List Call} (λ z w. z ∷ w) (cons_head e) f)

-- a count that stops goes on as the whole number does
stopped : (n a x : ℕ) → n ≡ min a (2 ^ 64 - 1) → min (n + x) (2 ^ 64 - 1) ≡ min (a + x) (2 ^ 64 - 1)
stopped n a x e = omega arith

-- and stays where nothing is added
within : (n a : ℕ) → n ≡ min a (2 ^ 64 - 1) → min (n + 0) (2 ^ 64 - 1) ≡ n
within n a e = omega arith

module _ {H : Type 0} (decide : Call → Decision H) (belongs : Call → Option ℕ) (R : ℕ) where
  after-append : (t : List ℕ) (l m : List Call) → table_after decide t (l ++ m) ≡ table_after decide (table_after decide t l) m
  after-append t [] m = refl
  after-append t (c ∷ l) m = after-append (table_next decide t c) l m

  book-append : (b : List Page) (l m : List Call) → book_after decide R b (l ++ m) ≡ book_after decide R (book_after decide R b l) m
  book-append b [] m = refl
  book-append b (c ∷ l) m = book-append (book_next decide R b c) l m

  -- whether a call of the session is answered so on a table
  abbrev counts : (Answer H → Bool) → (id : ℕ) → List ℕ → Call → ℕ
  counts so id t c = one (names (belongs c) id && so (table_outcome decide t c).answer)

  answered-append : (so : Answer H → Bool) (id : ℕ) (t : List ℕ) (l : List Call) (c : Call)
      → answered_so so belongs id (l ++ c ∷ []) (table_outcomes decide t (l ++ c ∷ []))
      ≡ answered_so so belongs id l (table_outcomes decide t l) + counts so id (table_after decide t l) c
  answered-append so id t [] c = omega arith
  answered-append so id t (d ∷ l) c = omega (arith, answered-append so id (table_next decide t d) l c)

  -- ---- one call more, which does not begin the session

  module _ (pre : List Call) (id n r : ℕ) (k : CountsCalls decide belongs R pre id n r) (c : Call) (no : Begins decide belongs R pre c id → ⊥) where
    abbrev from : List ℕ
    from = table_behind decide belongs R (k.before ++ k.first ∷ [])

    -- the table in which it is answered
    here : table_after decide from k.since ≡ table_behind decide belongs R pre
    here =
        sym (after-append (new_table R) (k.before ++ k.first ∷ []) k.since)
        ∙ ap (table_after decide (new_table R)) (append_assoc k.before (k.first ∷ []) k.since ∙ sym k.split)

    not-again : (s₁ s₂ : List Call) (d : Call) → k.since ++ c ∷ [] ≡ s₁ ++ d ∷ s₂ → Begins decide belongs R (k.before ++ k.first ∷ s₁) d id → ⊥
    not-again s₁ s₂ d e b = go (ends k.since s₁ s₂ c d e)
      where
        go : Ends k.since s₁ c d → ⊥
        go (last f g) =
            no (subst₂ (λ (l : List Call) (x : Call). Begins decide belongs R l x id)
            (ap (λ (l : List Call). k.before ++ k.first ∷ l) f ∙ sym k.split) g b)
        go (before m f) = k.not-again s₁ m d f b

    more : (x y : ℕ) → counts is_opened id (table_behind decide belongs R pre) c ≡ x → counts is_repeat id (table_behind decide belongs R pre) c ≡ y
        → CountsCalls decide belongs R (pre ++ c ∷ []) id (min (n + x) (2 ^ 64 - 1)) (min (r + y) (2 ^ 64 - 1))
    more x y ex ey =
        record {
          before = k.before;
          first = k.first;
          since = k.since ++ c ∷ [];
          split = ap (λ (l : List Call). l ++ c ∷ []) k.split ∙ append_assoc k.before (k.first ∷ k.since) (c ∷ []);
          begins = k.begins;
          not-again = not-again;
          accepted-so = stopped n _ x k.accepted-so ∙ ap (λ (z : ℕ). min z (2 ^ 64 - 1)) (behind-first _ is_opened x ex);
          repeated-so = stopped r _ y k.repeated-so ∙ ap (λ (z : ℕ). min z (2 ^ 64 - 1)) (sym (since-more is_repeat y ey));
        }
      where
        since-more : (so : Answer H → Bool) (z : ℕ) → counts so id (table_behind decide belongs R pre) c ≡ z
            → answered_so so belongs id (k.since ++ c ∷ []) (table_outcomes decide from (k.since ++ c ∷ []))
            ≡ answered_so so belongs id k.since (table_outcomes decide from k.since) + z
        since-more so z ez =
            answered-append so id from k.since c
            ∙ ap (λ (m : ℕ). answered_so so belongs id k.since (table_outcomes decide from k.since) + m)
            (ap (λ (t : List ℕ). counts so id t c) here ∙ ez)

        -- and with what was counted before them
        behind-first : (o : ℕ) (so : Answer H → Bool) (z : ℕ) → counts so id (table_behind decide belongs R pre) c ≡ z
            → (o + answered_so so belongs id k.since (table_outcomes decide from k.since)) + z
            ≡ o + answered_so so belongs id (k.since ++ c ∷ []) (table_outcomes decide from (k.since ++ c ∷ []))
        behind-first o so z ez = omega (arith, since-more so z ez)

    -- neither count moves
    pub unmoved : counts is_opened id (table_behind decide belongs R pre) c ≡ 0 → counts is_repeat id (table_behind decide belongs R pre) c ≡ 0
        → CountsCalls decide belongs R (pre ++ c ∷ []) id n r
    unmoved ex ey =
        subst₂ (CountsCalls decide belongs R (pre ++ c ∷ []) id) (within n _ k.accepted-so) (within r _ k.repeated-so) (more 0 0 ex ey)

    pub accepted-more : counts is_opened id (table_behind decide belongs R pre) c ≡ 1 → counts is_repeat id (table_behind decide belongs R pre) c ≡ 0
        → CountsCalls decide belongs R (pre ++ c ∷ []) id (min (n + 1) (2 ^ 64 - 1)) r
    accepted-more ex ey =
        subst (CountsCalls decide belongs R (pre ++ c ∷ []) id (min (n + 1) (2 ^ 64 - 1))) (within r _ k.repeated-so) (more 1 0 ex ey)

    pub repeated-more : counts is_opened id (table_behind decide belongs R pre) c ≡ 0 → counts is_repeat id (table_behind decide belongs R pre) c ≡ 1
        → CountsCalls decide belongs R (pre ++ c ∷ []) id n (min (r + 1) (2 ^ 64 - 1))
    repeated-more ex ey =
        subst (λ (m : ℕ). CountsCalls decide belongs R (pre ++ c ∷ []) id m (min (r + 1) (2 ^ 64 - 1))) (within n _ k.accepted-so) (more 0 1 ex ey)

-- ---- every call of a run

module _ {H : Type 0} (decide : Call → Decision H) (belongs : Call → Option ℕ) (named : Named decide belongs) (no8 : NoEarlyEight decide) (R : ℕ)
    (least : 60 ≤ R) (greatest : R ≤ 3600) where
  abbrev table_at : List Call → List ℕ
  table_at pre = table_behind decide belongs R pre

  abbrev book_at : List Call → List Page
  book_at pre = book_after decide R [] pre

  -- the pages alive have the counts of their sessions' calls
  abbrev Counted : List Call → (reading : ℕ) → Type 0
  Counted pre u = (id : ℕ) (q : Page) → page R u id (book_at pre) ≡ Some q → CountsCalls decide belongs R pre id q.acceptances q.repeats

  module _ (pre : List Call) (u : ℕ) (s : State R u (table_at pre) (book_at pre)) (ih : Counted pre u) (c : Call) (h : u ≤ c.clock) (port : PortFits c)
      (id : ℕ) (q : Page) where
    abbrev t : List ℕ
    t = table_at pre

    abbrev b : List Page
    b = book_at pre

    abbrev w : ℕ
    w = c.clock

    abbrev Goal : Type 0
    Goal = CountsCalls decide belongs R (pre ++ c ∷ []) id q.acceptances q.repeats

    -- the session that is alive at this reading, in the table
    session : table_session t w id ≡ option_map view_of_page (page R w id b)
    session = sessions-later R u w t b s h id

    -- the table answers as the book
    answers : (table_outcome decide t c).answer ≡ (outcome_by (decide c) R b c).answer
    answers =
        ap (λ (x : Bool). (cond x (table_outcome_by (decide c) t c) (record { answer = refused 1; output = c.output })).answer)
        (lawful-table t R s.sized s.retains least greatest)
        ∙ ap (λ (o : Outcome H). o.answer) (step (decide c) R u t b c s h port).0

    -- a page alive now was so before this call
    old : (p : Page) → page R w id b ≡ Some p → CountsCalls decide belongs R pre id p.acceptances p.repeats
    old p e = ih id p (page-earlier R u w id b p h (s.related.distinct id) e)

    counted-as : (so : Answer H → Bool) (x : Bool) (a : Answer H) → names (belongs c) id ≡ x → (table_outcome decide t c).answer ≡ a
        → counts decide belongs R so id t c ≡ one (x && so a)
    counted-as so x a ex ea = ap₂ (λ (y : Bool) (z : Answer H). one (y && so z)) ex ea

    -- a refusal other than 8 counts nowhere
    refused-early : (n : ℕ) → n ≢ 8 → (table_outcome decide t c).answer ≡ refused n → page R w id b ≡ Some q → Goal
    refused-early n not8 ea e =
        unmoved decide belongs R pre id _ _ (old q e) c (λ g. true≢false (sym g.accepted ∙ ap is_opened ea))
        (counted-as is_opened (names (belongs c) id) (refused n) refl ea ∙ ap one (and-false (names (belongs c) id)))
        (counted-as is_repeat (names (belongs c) id) (refused n) refl ea
        ∙ ap (λ (x : Bool). one (names (belongs c) id && x)) (ne_eqb n 8 not8) ∙ ap one (and-false (names (belongs c) id)))

    -- nor does a call of another session
    of-another : (i : ℕ) → belongs c ≡ Some i → i ≢ id → page R w id b ≡ Some q → Goal
    of-another i e n f =
        unmoved decide belongs R pre id _ _ (old q f) c (λ g. n (same_Some _ _ (sym e ∙ g.its_own)))
        (counted-as is_opened false _ other refl) (counted-as is_repeat false _ other refl)
      where
        other : names (belongs c) id ≡ false
        other = ap (λ (o : Option ℕ). names o id) e ∙ ne_eqb i id n

    -- a call of this session that reaches the window
    module _ (p : ℕ) (hd : H) (pl : List ℕ) (own : belongs c ≡ Some id) where
      named-so : names (belongs c) id ≡ true
      named-so = ap (λ (o : Option ℕ). names o id) own ∙ eq-eqb id id refl

      abbrev at : Page → Type 0
      at r = CountsCalls decide belongs R (pre ++ c ∷ []) id r.acceptances r.repeats

      -- the page found is the one that was put there
      put-there : (r : Page) → r.id ≡ id → page_alive R w r ≡ true → page R w id (r ∷ without id b) ≡ Some q → at r → Goal
      put-there r e a f g = subst at (same_Some _ _ (sym (page-head R w id r (without id b) e a) ∙ f)) g

      module _ (r : Page) (e : page R w id b ≡ Some r) where
        alive : page_alive R w r ≡ true
        alive = page-alive R w id b r e

        begun : Begins decide belongs R pre c id → ⊥
        begun g = none-some _ (sym (sym (session ∙ ap (option_map view_of_page) e) ∙ g.none-alive))

        has-page : (y : Bool) → (table_outcome decide t c).answer ≡ (tell (cond y (enters (accept w c.peer id p r)) (replay (refuse id p r))) c hd pl).answer
            → page R w id (turn (cond y (enters (accept w c.peer id p r)) (replay (refuse id p r))) id b) ≡ Some q → Goal
        has-page true ea f =
            put-there (accept w c.peer id p r) refl (accept-alive R w c.peer id p r alive) f
            (accepted-more decide belongs R pre id _ _ (old r e) c begun
            (counted-as is_opened true (opened hd) named-so ea) (counted-as is_repeat true (opened hd) named-so ea))
        has-page false ea f =
            put-there (refuse id p r) refl alive f
            (repeated-more decide belongs R pre id _ _ (old r e) c begun
            (counted-as is_opened true (refused 8) named-so ea) (counted-as is_repeat true (refused 8) named-so ea))

      -- the session begins here
      begins-here : page R w id b ≡ None → (table_outcome decide t c).answer ≡ opened hd → at (new_page w c.peer id p)
      begins-here e ea =
          record {
            before = pre;
            first = c;
            since = [];
            split = refl;
            begins = record { its_own = own; none-alive = session ∙ ap (option_map view_of_page) e; accepted = ap is_opened ea };
            not-again = λ s₁ s₂ d f _. not-nil s₁ s₂ d f;
            accepted-so = omega arith;
            repeated-so = omega arith;
          }

      by-page : (o : Option Page) (x : Bool) → page R w id b ≡ o → (table_outcome decide t c).answer ≡ (tell (judge_by o x w c.peer id p) c hd pl).answer
          → page R w id (turn (judge_by o x w c.peer id p) id b) ≡ Some q → Goal
      by-page (Some r) x e ea f = has-page r e (fresh r p) ea f
      by-page None true e ea f = absurd (none-some _ (sym e ∙ f))
      by-page None false e ea f = put-there (new_page w c.peer id p) refl (new-alive R w c.peer id p) f (begins-here e ea)

    by-decision : (d : Decision H) → decide c ≡ d → (table_outcome decide t c).answer ≡ (outcome_by d R b c).answer → page R w id (next_by d R b c) ≡ Some q → Goal
    by-decision (early n o) e ea f = refused-early n (no8 c n o e) ea f
    by-decision (reaches i p hd pl) e ea f = by_name (eqb i id) refl
      where
        by_name : (x : Bool) → eqb i id ≡ x → Goal
        by_name true g =
            let same : i ≡ id = eqb-true i id g in
            by-page p hd pl (named c i p hd pl e ∙ ap Some same) (page R w id b) (crowded R w b) refl
            (subst (λ (j : ℕ). (table_outcome decide t c).answer ≡ (tell (judge R b w c.peer j p) c hd pl).answer) same ea)
            (subst (λ (j : ℕ). page R w id (turn (judge R b w c.peer j p) j b) ≡ Some q) same f)
        by_name false g =
            let other : i ≢ id = eqb-false i id g in
            of-another i (named c i p hd pl e) other
            (sym (page-turn R w i id (judge R b w c.peer i p) (made R b w c.peer i p) b other) ∙ f)

    after_call : page R w id (book_next decide R b c) ≡ Some q → Goal
    after_call e = by-decision (decide c) refl answers e

  -- ---- a run

  abbrev Behind : List Call → ℕ → Type 0
  Behind pre u = State R u (table_at pre) (book_at pre) × Counted pre u

  one-call : (pre : List Call) (u : ℕ) → Behind pre u → (c : Call) → u ≤ c.clock → PortFits c → Behind (pre ++ c ∷ []) c.clock
  one-call pre u k c h port = (
    subst₂ (State R c.clock) (sym next-table) (sym next-book) (step (decide c) R u (table_at pre) (book_at pre) c k.0 h port).1,
    λ id q e. after_call pre u k.0 k.1 c h port id q (ap (page R c.clock id) (sym next-book) ∙ e),
  )
    where
      next-table : table_at (pre ++ c ∷ []) ≡ table_next_by (decide c) (table_at pre) c
      next-table =
          after-append decide belongs R (new_table R) pre (c ∷ [])
          ∙ ap (λ (x : Bool). cond x (table_next_by (decide c) (table_at pre) c) (table_at pre))
          (lawful-table (table_at pre) R k.0.sized k.0.retains least greatest)

      next-book : book_at (pre ++ c ∷ []) ≡ book_next decide R (book_at pre) c
      next-book = book-append decide belongs R [] pre (c ∷ [])

  behind : (cs pre : List Call) (u : ℕ) → Behind pre u → Each PortFits cs → Pairs ◌≤◌ (u ∷ clocks cs) → Behind (pre ++ cs) (last_of u (clocks cs))
  behind [] pre u k ports forward = subst (λ (l : List Call). Behind l u) (sym (append-nil pre)) k
  behind (c ∷ cs) pre u k ports forward =
      subst (λ (l : List Call). Behind l (last_of c.clock (clocks cs))) (append_assoc pre (c ∷ []) cs)
      (behind cs (pre ++ c ∷ []) c.clock (one-call pre u k c forward.0.0 ports.0) ports.1 forward.1)

pub calls-counted : {H : Type 0} (decide : Call → Decision H) (belongs : Call → Option ℕ) → Named decide belongs → NoEarlyEight decide
    → CallsCounted decide belongs
calls-counted decide belongs named no8 R least greatest cs ports forward id v e = go (page R (last_reading cs) id (book_after decide R [] cs)) refl
  where
    k : Behind decide belongs named no8 R least greatest cs (last_reading cs)
    k =
        behind decide belongs named no8 R least greatest cs [] 0 (new-state R, λ i q f. absurd (none-some _ f)) ports
        (each-zero (clocks cs), forward)

    session : table_session (table_after decide (new_table R) cs) (last_reading cs) id
        ≡ option_map view_of_page (page R (last_reading cs) id (book_after decide R [] cs))
    session = sessions R (last_reading cs) (table_after decide (new_table R) cs) (book_after decide R [] cs) k.0 id

    go : (o : Option Page) → page R (last_reading cs) id (book_after decide R [] cs) ≡ o
        → CountsCalls decide belongs R cs id v.accepted v.repeats
    go None f = absurd (none-some _ (sym (session ∙ ap (option_map view_of_page) f) ∙ e))
    go (Some q) f =
        subst (λ (x : View). CountsCalls decide belongs R cs id x.accepted x.repeats)
        (same_Some _ _ (sym (session ∙ ap (option_map view_of_page) f) ∙ e)) (k.1 id q f)
