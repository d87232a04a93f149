-- Reply sessions behind a run of calls: the IDs that are refused are those of the book's pages alive, and the client's own.
-- Assumes nothing.
use Rattle.std.specs.Prelude.{◌≡◌, List, [], ℕ, ◌≤◌, Err, Some}
use Rattle.protocol.specs.declared.Refusal.TheVariants.{Argument}
use Rattle.session_table.specs.Table.{new_table}
use Rattle.session_book.specs.Call.{Call}
use Rattle.session_book.specs.Book.{Page, page, book_after}
use Rattle.session_book.specs.Runs.{table_after}
use Rattle.session_book.specs.Demand3.{Each, Forward, PortFits, last_reading}
use Rattle.datagram_open.specs.Deciding.{decide}
use Rattle.reply_session.specs.Beginning.{reply_begun}

-- the book has a page alive for the ID, or it is the client's
pub data Clashes (R clock id client : ℕ) (b : List Page) : Type 0 where
  page-alive : (q : Page) → page R clock id b ≡ Some q → Clashes R clock id client b
  own-client : id ≡ client → Clashes R clock id client b

-- behind one list of calls
pub record RefusedByBook (method : ℕ) (key : List ℕ) (R : ℕ) (cs : List Call) (clock id client : ℕ) : Type 0 where
  pub only-when : reply_begun (table_after (decide method key) (new_table R) cs) clock id client ≡ Err Argument
      → Clashes R clock id client (book_after (decide method key) R [] cs)
  pub always-when : Clashes R clock id client (book_after (decide method key) R [] cs)
      → reply_begun (table_after (decide method key) (new_table R) cs) clock id client ≡ Err Argument

-- every list of calls whose clock never goes back, from a table just made, and every clock that is not before its last reading
abbrev pub RepliesByBook : Type 0
RepliesByBook =
    (method : ℕ) (key : List ℕ) (R : ℕ) → 60 ≤ R → R ≤ 3600 → (cs : List Call) → Each PortFits cs → Forward cs
    → (clock : ℕ) → last_reading cs ≤ clock → (id client : ℕ) → RefusedByBook method key R cs clock id client
