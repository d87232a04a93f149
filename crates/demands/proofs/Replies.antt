-- Reply sessions behind a run of calls. The table follows the book at every later clock too.
-- Assumes nothing.
use Rattle.std.specs.Prelude.{Err, Ok, Result, None, Option, Some}
use Rattle.std.specs.Option.{option_map}
use mathlib.Core.Path.{◌≡◌, refl, sym, ap, ◌∙◌}
use mathlib.Core.Bool.{Bool, true, false}
use mathlib.Core.List.{List, []}
use Prim.Native.Nat.{ℕ, ◌≤◌}
use native.Mathlib.Omega.{arith}
use lib.Dec.{eqb}
use borrow.Author.Tests.{eqb-true, eqb-false}
use Rattle.protocol.specs.Refusal.{refusal_number}
use Rattle.protocol.specs.declared.Refusal.TheVariants.{Argument}
use Rattle.session_table.specs.Table.{new_table, lawful, record_at, session_place, is_place, taken}
use Rattle.session_book.specs.Call.{Call}
use Rattle.session_book.specs.Book.{Page, page, book_after}
use Rattle.session_book.specs.Runs.{table_after}
use Rattle.session_book.specs.Demand3.{Each, Forward, PortFits, last_reading, view_of_page, view_of_record, table_session}
use Rattle.session_book.proofs.Words.{lawful-table}
use Rattle.session_book.proofs.First.{state-after, sessions-later}
use Rattle.session_book.proofs.Step.{State}
use Rattle.datagram_open.specs.Deciding.{decide}
use Rattle.reply_session.specs.Beginning.{reply_begun}
use Rattle.reply_session.proofs.BeginLaws.{own-client as refused-own, others-client, free}
use Rattle.demands.specs.Replies.{Clashes, page-alive, own-client, RepliesByBook}
use Rattle.datagram_seal.specs.declared.Sender.{Sender}
use Rattle.protocol.specs.declared.Refusal.{Refusal}

abbrev number_of : Result Sender Refusal → ℕ
number_of (Ok s) = 0
number_of (Err r) = refusal_number r

abbrev is_some : {A : Type 0} → Option A → Bool
is_some None = false
is_some (Some a) = true

-- an ID is taken where the table shows a session
taken-shown : (t : List ℕ) (clock id : ℕ) → taken t clock id ≡ is_some (table_session t clock id)
unfolding taken
taken-shown t clock id = go (session_place t clock id)
  where
    go : (o : Option ℕ) → is_place o ≡ is_some (option_map (λ i. view_of_record (record_at t i)) o)
    go (Some i) = refl
    go None = refl

module _ (method : ℕ) (key : List ℕ) (R : ℕ) (least : 60 ≤ R) (greatest : R ≤ 3600) (cs : List Call) (ports : Each PortFits cs) (forward : Forward cs)
    (clock : ℕ) (later : last_reading cs ≤ clock) (id client : ℕ) where
  abbrev t : List ℕ
  t = table_after (decide method key) (new_table R) cs

  abbrev b : List Page
  b = book_after (decide method key) R [] cs

  behind : State R (last_reading cs) t b
  behind = state-after (decide method key) R least greatest cs ports forward

  lawful-t : lawful t ≡ true
  lawful-t = lawful-table t R behind.sized behind.retains least greatest

  -- the table shows the book's session at this clock
  shows : table_session t clock id ≡ option_map view_of_page (page R clock id b)
  shows = sessions-later R (last_reading cs) clock t b behind later id

  -- so an ID is taken where the book has a page
  taken_here : (o : Option Page) → page R clock id b ≡ o → taken t clock id ≡ is_some (option_map view_of_page o)
  taken_here o e = taken-shown t clock id ∙ ap is_some (shows ∙ ap (option_map view_of_page) e)

  only-when : reply_begun t clock id client ≡ Err Argument → Clashes R clock id client b
  only-when e = go (eqb id client) (page R clock id b) refl refl
    where
      go : (s : Bool) (o : Option Page) → eqb id client ≡ s → page R clock id b ≡ o → Clashes R clock id client b
      go true o es eo = own-client (eqb-true id client es)
      go false (Some q) es eo = page-alive q eo
      go false None es eo =
          let begins = free t clock id client lawful-t (eqb-false id client es) (taken_here None eo) in
          absurd (let z : ◌≡◌ {A = ℕ} 0 12 = ap number_of (sym begins ∙ e) in omega arith)

  always-when : Clashes R clock id client b → reply_begun t clock id client ≡ Err Argument
  always-when (own-client e) = refused-own t clock id client lawful-t e
  always-when (page-alive q e) = others-client t clock id client lawful-t (taken_here (Some q) e)

pub replies-by-book : RepliesByBook
replies-by-book method key R least greatest cs ports forward clock later id client =
    record {
      only-when = only-when method key R least greatest cs ports forward clock later id client;
      always-when = always-when method key R least greatest cs ports forward clock later id client;
    }
