-- Demand 3, K11, K12 and K13 of datagrams, over mixed runs.
-- Assumes nothing.
use Rattle.std.specs.Prelude.{Err, Ok, Result, None, Some}
use mathlib.Core.Path.{◌≡◌, refl, sym, ap, ap₂, ◌∙◌, subst}
use mathlib.Core.Logic.{◌≢◌, ◌↔◌}
use mathlib.Core.Bool.{Bool, true, false, cond}
use mathlib.Core.List.{List, [], ◌∷◌, map}
use Prim.Native.Nat.{ℕ, ◌≤◌}
use native.Mathlib.Omega.{arith}
use lib.Dec.{eqb}
use lib.ListN.{length, get_or}
use Rattle.session_table.specs.Table as table
use Rattle.session_book.specs.Call.{Call, Answer, Outcome, Decision, refused, opened, early, reaches}
use Rattle.session_book.specs.Runs.{table_next, table_outcomes, table_after}
use Rattle.session_book.specs.Book.{book_after, Page, next_by}
use Rattle.session_book.specs.Demand3 as abstract
use Rattle.session_book.specs.Demand3.{call_at, Each, last_reading, View, table_session, OneRecordEach, NotFull, Named}
use Rattle.session_book.specs.Counts.{CountsCalls, NoEarlyEight, is_opened}
use Rattle.session_book.specs.Once.{Once, accepted}
use Rattle.session_book.proofs.Demand3 as theory
use Rattle.datagram_read.specs.declared.Header.{Header}
use Rattle.datagram_open.specs.Deciding.{decide}
use Rattle.guarantees.specs.Calls.{Call as HostCall}
use Rattle.relay.specs.Datagrams as datagrams
use Rattle.protocol.specs.declared.Refusal.TheVariants.{Argument}
use Rattle.protocol.specs.Refusal.{refusal_number}
use Rattle.reply_session.specs.Beginning.{reply_begun}
use Rattle.demands.specs.Demand1.{BeginAnswered, begins, refused-1, refused-12}
use Rattle.demands.specs.Replies.{Clashes, RefusedByBook}
use Rattle.demands.proofs.Demand1 as demands
use Rattle.demands.proofs.Replies.{replies-by-book}
use borrow.Author.Tests.{eq-eqb}
use Rattle.replay_protection.proofs.Datagrams.{datagrams-once}
use Rattle.demands.proofs.Demand3.{no-early-eight}
use Rattle.guarantees.specs.Calls.{relay_session_begin_server, step, lend, Memory, Use, does, after, calls, outcomes, decides, alone, session_of_call, at}
use Rattle.guarantees.specs.Guarantees.{Replies, Run, LikeBook, Demand3, Rearranged}
use Rattle.guarantees.proofs.Deciding.{in_words, answer_in_words, outcome_in_words, decides-so}
use Rattle.guarantees.proofs.Runs.{same_next, same_outcome, table-run, outcome-run, ports, begun}
use Rattle.datagram_seal.specs.declared.Sender.{Sender}
use Rattle.protocol.specs.declared.Refusal.{Refusal}

module _ (method : ℕ) (key : List ℕ) where
  abbrev D : Call → Decision (List ℕ)
  D = decides method key

  -- what reaches the window is of the session that it names
  named : Named D (session_of_call method key)
  named c id p h plain e = let x = alone method key c in go (eqb x.number 0) (at x.left.answer 4) _ _ _ _ _ e
    where
      id_in : Decision (List ℕ) → ℕ
      id_in (early n o) = 0
      id_in (reaches i q x y) = i

      is_reach : Decision (List ℕ) → ℕ
      is_reach (early n o) = 0
      is_reach (reaches i q x y) = 1

      go : (b : Bool) (i q : ℕ) (a y : List ℕ) (n : ℕ) (o : List ℕ) → cond b (reaches i q a y) (early n o) ≡ reaches id p h plain
          → cond b (Some i) None ≡ Some id
      go true i q a y n o f = ap Some (ap id_in f)
      go false i q a y n o f = absurd (let z : ◌≡◌ {A = ℕ} 0 1 = ap is_reach f in omega arith)

  no-eight : NoEarlyEight D
  no-eight c n o e = go (decide method key c) refl
    where
      number_in : Decision (List ℕ) → ℕ
      number_in (early i q) = i
      number_in (reaches i q x y) = 0

      is_early : Decision (List ℕ) → ℕ
      is_early (early i q) = 1
      is_early (reaches i q x y) = 0

      go : (d : Decision Header) → decide method key c ≡ d → n ≡ 8 → ⊥
      go (early i q) f z = no-early-eight method key c i q f (ap number_in (sym (decides-so method key c ∙ ap in_words f) ∙ e) ∙ z)
      go (reaches i q x y) f z =
          let w : ◌≡◌ {A = ℕ} 0 1 = ap is_early (sym (decides-so method key c ∙ ap in_words f) ∙ e) in absurd (omega (arith, w))

  -- ---- with headers in place of words

  pub same_after : (k : ℕ) (t : List ℕ) (cs : List Call) → table_after D t cs ≡ table_after (decide method key) t cs
  same_after k t [] = refl
  same_after k t (c ∷ cs) =
      same_after k (table_next D t c) cs ∙ ap (λ (x : List ℕ). table_after (decide method key) x cs) (same_next k method key t c)

  same-outcomes : (k : ℕ) (t : List ℕ) (cs : List Call) → table_outcomes D t cs ≡ map outcome_in_words (table_outcomes (decide method key) t cs)
  same-outcomes k t [] = refl
  same-outcomes k t (c ∷ cs) =
      ap₂ ◌∷◌ (same_outcome k method key t c)
      (same-outcomes k (table_next D t c) cs
      ∙ ap (λ (x : List ℕ). map outcome_in_words (table_outcomes (decide method key) x cs)) (same_next k method key t c))

  pub same-book : (R : ℕ) (b : List Page) (cs : List Call) → book_after D R b cs ≡ book_after (decide method key) R b cs
  same-book R b [] = refl
  same-book R b (c ∷ cs) =
      same-book R (next_by (D c) R b c) cs
      ∙ ap (λ (x : List Page). book_after (decide method key) R x cs) (ap (λ (d : Decision (List ℕ)). next_by d R b c) (decides-so method key c) ∙ go (decide method key c))
    where
      go : (d : Decision Header) → next_by (in_words d) R b c ≡ next_by d R b c
      go (early n o) = refl
      go (reaches i p h x) = refl

  same-accepted : (cs : List Call) (os : List (Outcome Header)) → accepted cs (map outcome_in_words os) ≡ accepted cs os
  same-accepted [] os = refl
  same-accepted (c ∷ cs) [] = refl
  same-accepted (c ∷ cs) (o ∷ os) =
      ap₂ (λ (b : Bool) (l : List (List ℕ)). cond b (c.datagram ∷ l) l) (go o.answer) (same-accepted cs os)
    where
      go : (a : Answer Header) → is_opened (answer_in_words a) ≡ is_opened a
      go (refused n) = refl
      go (opened h) = refl

-- ---- the statements

module _ (k method : ℕ) (key : List ℕ) (m : Memory) (R : ℕ) (us : List Use) (run : Run k method key m R us) where
  abbrev cs : List Call
  cs = calls k us

  abbrev t : List ℕ
  t = table_after (D method key) (table.new_table R) cs

  pub table_is : (after m us).tables k ≡ t
  table_is =
      table-run k method key m us run.serves
      ∙ ap (λ (x : List ℕ). table_after (D method key) x cs) (begun k method key m R us run).new

  pub outcomes-are : outcomes k m us ≡ table_outcomes (D method key) (table.new_table R) cs
  outcomes-are =
      outcome-run k method key m us run.serves
      ∙ ap (λ (x : List ℕ). table_outcomes (D method key) x cs) (begun k method key m R us run).new

  abbrev Book : Type 0
  Book = abstract.LikeBook (D method key) R cs

  by-book : Book
  by-book =
      let b = begun k method key m R us run in
      (theory.demand3 (D method key) (session_of_call method key)).0 R b.least b.greatest cs (ports k method key us run.serves) run.forward

  counted : (id : ℕ) (v : View) → table_session t (last_reading cs) id ≡ Some v → CountsCalls (D method key) (session_of_call method key) R cs id v.accepted v.repeats
  counted =
      let b = begun k method key m R us run in
      (theory.demand3 (D method key) (session_of_call method key)).1.1 (named method key) (no-eight method key) R b.least b.greatest cs
      (ports k method key us run.serves) run.forward

  counted-once : Once cs (outcomes k m us)
  counted-once =
      let b = begun k method key m R us run in
      subst (λ (l : List (List ℕ)). abstract.Pairs (λ x y. x ≢ y) l)
      (sym (ap (accepted cs) (outcomes-are ∙ same-outcomes method key k (table.new_table R) cs) ∙ same-accepted method key cs _))
      (datagrams-once method key R b.least b.greatest cs (ports k method key us run.serves) run.forward)

  like-book : LikeBook k method key m R us
  like-book = record {
    answers = outcomes-are ∙ by-book.outcomes;
    sessions = λ id. ap (λ (x : List ℕ). table_session x (last_reading cs) id) table_is ∙ by-book.sessions id;
    no-others = subst (λ (x : List ℕ). OneRecordEach x (last_reading cs)) (sym table_is) by-book.no_others;
    counts = λ id v e. counted id v (sym (ap (λ (x : List ℕ). table_session x (last_reading cs) id) table_is) ∙ e);
    once = counted-once;
  }

pub demand3 : Demand3
demand3 = like-book

pub rearranged : Rearranged
rearranged k method key m R us vs run again order r e room =
    let b = begun k method key m R us run in
    let D = decides method key in
    let there : table_after D (table.new_table R) (calls k vs) ≡ table_after D (table.new_table R) (map (call_at (calls k us)) order) =
    ap (table_after D (table.new_table R)) e in
    let outcomes-there : outcomes k m vs ≡ table_outcomes D (table.new_table R) (map (call_at (calls k us)) order) =
    outcomes-are k method key m R vs again ∙ ap (table_outcomes D (table.new_table R)) e in
    let like = (theory.demand3 D (session_of_call method key)).1.0 (named method key) R b.least b.greatest (calls k us)
    (ports k method key us run.serves) run.forward
    (subst (Each NotFull) (outcomes-are k method key m R us run) room) order r in
    record {
      room = subst (Each NotFull) (sym outcomes-there) like.room;
      same-outcomes = λ o.
          outcomes-there ∙ like.outcomes o
          ∙ ap (λ (l : List (Outcome (List ℕ))). map (λ i. get_or l i o) order) (sym (outcomes-are k method key m R us run));
      same-sessions = λ id.
          ap₂ (λ (x : List ℕ) (l : List Call). table_session x (last_reading l) id) (table_is k method key m R vs again ∙ there) e
          ∙ like.sessions id
          ∙ sym (ap (λ (x : List ℕ). table_session x (last_reading (calls k us)) id) (table_is k method key m R us run));
    }

-- ---- K12

module _ (k method : ℕ) (key : List ℕ) (m : Memory) (R : ℕ) (us : List Use) (run : Run k method key m R us) (id client clock : ℕ)
    (later : last_reading (calls k us) ≤ clock) (u : Use) (c : u.call ≡ relay_session_begin_server id client clock) (there : u.table ≡ k)
    (sized : length ((after m us).sessions u.session) ≡ 4) where
  abbrev begun_here : Result Sender Refusal
  begun_here = reply_begun ((after m us).tables u.table) clock id client

  abbrev number : Result Sender Refusal → ℕ
  number (Ok s) = 0
  number (Err r) = refusal_number r

  returns : (does (after m us) u).number ≡ number begun_here
  unfolding step datagrams.begins
  returns =
      ap (λ (x : HostCall). (step x (lend (after m us) u)).number) c
      ∙ ap (λ (b : Bool). (cond b (datagrams.begun_words begun_here ((after m us).sessions u.session)) (record { number = 1; session = (after m us).sessions u.session })).number)
      (eq-eqb (length ((after m us).sessions u.session)) 4 sized)
      ∙ go begun_here
    where
      go : (x : Result Sender Refusal) → (datagrams.begun_words x ((after m us).sessions u.session)).number ≡ number x
      go (Ok s) = refl
      go (Err r) = refl

  refused-12-so : number begun_here ≡ 12 → begun_here ≡ Err Argument
  refused-12-so e = go ((demands.demand1).sessions-begun.servers-answered ((after m us).tables u.table) clock id client)
    where
      go : BeginAnswered id client begun_here → begun_here ≡ Err Argument
      go (begins f) = absurd (let z = sym (ap number f) ∙ e in omega (arith, z))
      go (refused-1 f) = absurd (let z = sym (ap number f) ∙ e in omega (arith, z))
      go (refused-12 f) = f

  by-table : begun_here ≡ reply_begun (table_after (decide method key) (table.new_table R) (calls k us)) clock id client
  by-table =
      ap (λ (x : List ℕ). reply_begun x clock id client)
      (ap (after m us).tables there ∙ table_is k method key m R us run ∙ same_after method key k (table.new_table R) (calls k us))

  by-reply : RefusedByBook method key R (calls k us) clock id client
  by-reply =
      let b = begun k method key m R us run in
      replies-by-book method key R b.least b.greatest (calls k us) (ports k method key us run.serves) run.forward clock later id client

  abbrev clashes : List Page → Type 0
  clashes b = Clashes R clock id client b

  refused-exactly : ((does (after m us) u).number ≡ 12) ↔ clashes (book_after (decides method key) R [] (calls k us))
  refused-exactly = (
    (λ e. subst clashes (sym (same-book method key R [] (calls k us))) (by-reply.only-when (sym by-table ∙ refused-12-so (sym returns ∙ e)))),
    (λ x. returns ∙ ap number (by-table ∙ by-reply.always-when (subst clashes (same-book method key R [] (calls k us)) x))),
  )

pub replies : Replies
replies = refused-exactly
