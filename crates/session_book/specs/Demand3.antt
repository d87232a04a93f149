-- Demand 3: a run of calls on the table is a run of the plain book, and the order of calls with equal clock readings does not
-- matter, as long as each session's own datagrams keep their order and no call finds the table full.
-- Assumes nothing.
use Rattle.std.specs.Prelude.{◌≡◌, ◌≢◌, Bool, ◌&&◌, true, List, [], ◌∷◌, map, ℕ, ◌+◌, ◌-◌, ◌^◌, ◌≤◌, ◌<◌, leb, ltb, eqb, length, get_or, Option, Some}
use Rattle.std.specs.Option.{option_map}
use Rattle.session_record.specs.declared.Peer.{Peer}
use Rattle.session_window.specs.Window.{bit}
use Rattle.session_table.specs.Table.{Record, record_at, retention, new_table, holds, session_place}
use Rattle.session_book.specs.Call.{Call, no_call, refused, Outcome, Decision, reaches}
use Rattle.session_book.specs.Book.{Page, page, member, one, book_outcomes, book_after}
use Rattle.session_book.specs.Runs.{table_outcomes, table_after}

-- ---- lists

-- every element
abbrev pub Each : {A : Type 0} → (A → Type 0) → List A → Type 0
Each P [] = Unit {0}
Each P (x ∷ l) = P x × Each P l

-- every two elements, the one that comes earlier in the list first
abbrev pub Pairs : {A : Type 0} → (A → A → Type 0) → List A → Type 0
Pairs P [] = Unit {0}
Pairs P (x ∷ l) = Each (P x) l × Pairs P l

-- how often a number is in a list
abbrev pub times : ℕ → List ℕ → ℕ
times i [] = 0
times i (x ∷ l) = one (eqb x i) + times i l

-- ---- calls

abbrev pub clocks : List Call → List ℕ
clocks cs = map (λ (c : Call). c.clock) cs

-- the clock never goes back
abbrev pub Forward : List Call → Type 0
Forward cs = Pairs ◌≤◌ (clocks cs)

-- a port has 16 bits
abbrev pub PortFits : Call → Type 0
PortFits c = c.peer.port < 2 ^ 16

-- the last reading; `from` stands where there is no call
abbrev pub last_of : (from : ℕ) → List ℕ → ℕ
last_of from [] = from
last_of from (t ∷ ts) = last_of t ts

abbrev pub last_reading : List Call → ℕ
last_reading cs = last_of 0 (clocks cs)

abbrev pub call_at : List Call → ℕ → Call
call_at cs i = get_or cs i no_call

-- ---- the sessions alive

-- what is compared of a session: highest packet ID, marked packet IDs, last time, address, and how many datagrams it accepted
-- and how many repeats it refused
pub record View : Type 0 where
  pub h : ℕ
  pub marked : ℕ → Bool
  pub last : ℕ
  pub peer : Peer
  pub accepted : ℕ
  pub repeats : ℕ

-- the marks of a page are its accepted p with h - p under 256
abbrev pub view_of_page : Page → View
view_of_page q =
    record {
      h = q.h;
      marked = λ p. ltb (q.h - p) 256 && member p q.accepted;
      last = q.last;
      peer = q.peer;
      accepted = q.acceptances;
      repeats = q.repeats;
    }

abbrev pub view_of_record : Record → View
view_of_record r =
    record {
      h = r.h;
      marked = λ p. leb p r.h && (ltb (r.h - p) 256 && bit r.marks (r.h - p));
      last = r.last;
      peer = r.peer;
      accepted = r.accepted;
      repeats = r.repeats;
    }

-- the session of an ID that is alive at a clock reading, in the book and in the table
abbrev pub book_session : (R : ℕ) → List Page → (clock id : ℕ) → Option View
book_session R b clock id = option_map view_of_page (page R clock id b)

abbrev pub table_session : List ℕ → (clock id : ℕ) → Option View
table_session t clock id = option_map (λ i. view_of_record (record_at t i)) (session_place t clock id)

-- no two records are alive for one ID, so that the table has no session beside those of `table_session`
abbrev pub OneRecordEach : List ℕ → (clock : ℕ) → Type 0
OneRecordEach t clock =
    (i j id : ℕ) → i < 64 → j < 64 → holds (retention t) clock id (record_at t i) ≡ true → holds (retention t) clock id (record_at t j) ≡ true → i ≡ j

-- ---- the statements

-- `decide`: what the arguments of a call decide before refusal 8, for one method and key.
-- `belongs`: the session that a call's datagram names under the key, if it has 16 bytes or more.

-- a datagram that reaches the window is of the session that it names
abbrev pub Named : {H : Type 0} → (Call → Decision H) → (Call → Option ℕ) → Type 0
Named {H} decide belongs = (c : Call) (id p : ℕ) (header : H) (plaintext : List ℕ) → decide c ≡ reaches id p header plaintext → belongs c ≡ Some id

-- The first half, of one list of calls: the table answers as the book, and its sessions alive at the last reading are the book's.
pub record LikeBook {H : Type 0} (decide : Call → Decision H) (R : ℕ) (cs : List Call) : Type 0 where
  pub outcomes : table_outcomes decide (new_table R) cs ≡ book_outcomes decide R [] cs
  pub sessions : (id : ℕ) → table_session (table_after decide (new_table R) cs) (last_reading cs) id ≡ book_session R (book_after decide R [] cs) (last_reading cs) id
  pub no_others : OneRecordEach (table_after decide (new_table R) cs) (last_reading cs)

-- every list of calls whose clock never goes back, from a table just made
abbrev pub FollowsBook : {H : Type 0} → (Call → Decision H) → Type 0
FollowsBook decide = (R : ℕ) → 60 ≤ R → R ≤ 3600 → (cs : List Call) → Each PortFits cs → Forward cs → LikeBook decide R cs

-- `order` rearranges the calls: the second run's call number i is the first run's call number `order[i]`.
-- Each call comes once; the clock readings stand as they stood, so only calls of equal reading change places;
-- and of two calls of one session the earlier stays the earlier. Calls that name no session move freely.
pub record Rearranges (belongs : Call → Option ℕ) (cs : List Call) (order : List ℕ) : Type 0 where
  pub once : (i : ℕ) → times i order ≡ one (ltb i (length cs))
  pub same_clocks : clocks (map (call_at cs) order) ≡ clocks cs
  pub sessions_in_order : Pairs (λ i j. (id : ℕ) → belongs (call_at cs i) ≡ Some id → belongs (call_at cs j) ≡ Some id → i < j) order

-- the call did not find the table full
abbrev pub NotFull : {H : Type 0} → Outcome H → Type 0
NotFull o = o.answer ≢ refused 9

-- The second half, of one list of calls and one rearrangement: no call finds the table full, each has the outcome that it had,
-- and the sessions alive at the last reading are the same. `o` stands for an outcome past
-- the end; nothing depends on it.
pub record LikeFirst {H : Type 0} (decide : Call → Decision H) (R : ℕ) (cs : List Call) (order : List ℕ) : Type 0 where
  pub room : Each NotFull (table_outcomes decide (new_table R) (map (call_at cs) order))
  pub outcomes : (o : Outcome H) → table_outcomes decide (new_table R) (map (call_at cs) order) ≡ map (λ i. get_or (table_outcomes decide (new_table R) cs) i o) order
  pub sessions : (id : ℕ) → table_session (table_after decide (new_table R) (map (call_at cs) order)) (last_reading (map (call_at cs) order)) id
      ≡ table_session (table_after decide (new_table R) cs) (last_reading cs) id

abbrev pub Rearrangement : {H : Type 0} → (Call → Decision H) → (Call → Option ℕ) → Type 0
Rearrangement decide belongs =
    (R : ℕ) → 60 ≤ R → R ≤ 3600 → (cs : List Call) → Each PortFits cs → Forward cs → Each NotFull (table_outcomes decide (new_table R) cs)
    → (order : List ℕ) → Rearranges belongs cs order → LikeFirst decide R cs order
