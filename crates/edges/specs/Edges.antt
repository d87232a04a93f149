-- The scope's edges P1 to P12, both sides of each, as one table. A row is an edge's number, a test of the definitions and what
-- it should say:
--   P1 to P3    a time is valid up to 30 seconds from the clock, both ways, and 7 past that, also where a sum would wrap;
--   P4, P5      a session is alive up to R past its last time, and at every clock before, in the table and in the book;
--   P6 to P9    a packet ID is fresh up to 255 under the highest unless it is marked, and else 8;
--   P10, P11    a name of one byte is an address, an empty name is 5;
--   P12         entry 53 (hex) of the substitution is ed.
-- Assumes nothing.
use Rattle.std.specs.Prelude.{Bool, true, false, cond, not, ◌&&◌, List, [], ◌∷◌, ℕ, ◌-◌, ◌^◌, T, eqb, get_or, Err, None, Ok, Option, Result, Some}
use Rattle.aes_tables.specs.SBox.{s_box}
use Rattle.protocol.specs.Time.{time_valid}
use Rattle.protocol.specs.Refusal.{refusal_number}
use Rattle.socks5.specs.declared.Target.{Target}
use Rattle.socks5.specs.declared.Target.TheVariants.{V4, V6, Name}
use Rattle.socks5.specs.Address.{parse_at}
use Rattle.session_record.specs.declared.Peer.{Peer}
use Rattle.records.specs.Records.{current}
use Rattle.session_table.specs.Table.{Record, fresh_in, accept_in, new_record, new_table, store, live}
use Rattle.session_book.specs.Call.{Call, Answer, refused, opened, reaches}
use Rattle.session_book.specs.Book.{Page, until, page_alive, fresh, accept, new_page, outcome_by}
use Rattle.session_book.specs.Runs.{table_outcome_by}
use Rattle.session_book.specs.Demand3.{view_of_page, view_of_record}
use Rattle.datagram_parts.specs.declared.Side.TheVariants.{Client}
use Rattle.datagram_parts.specs.Headers.{plaintext}
use Rattle.datagram_read.specs.Opening.{read_main}
use Rattle.socks5.specs.declared.Address.{Address}
use Rattle.datagram_read.specs.declared.Header.{Header}
use Rattle.protocol.specs.declared.Refusal.{Refusal}

pub record Row : Type 0 where
  pub edge : ℕ
  pub says : Bool
  pub should : Bool

abbrev pub row : ℕ → Bool → Bool → Row
row n b c = record { edge = n; says = b; should = c }

abbrev pub agrees : Row → Bool
agrees r = cond r.should r.says (not r.says)

abbrev pub every : List Row → Bool
every [] = true
every (r ∷ rs) = agrees r && every rs

-- ---- tests of times and addresses

-- 03 01 61 00 50, and 03 00 00 50
abbrev pub name_a : List ℕ
name_a = 3 ∷ 1 ∷ 0x61 ∷ 0 ∷ 0x50 ∷ []

abbrev pub no_name : List ℕ
no_name = 3 ∷ 0 ∷ 0 ∷ 0x50 ∷ []

-- the address is a name with this place, length and port, and ends here
abbrev pub is_name : Option Address → (place n port end : ℕ) → Bool
is_name (Some a) place n port end = named a.target && eqb a.port port && eqb a.end end
  where
    named : Target → Bool
    named (V4 x) = false
    named (V6 x y) = false
    named (Name q m) = eqb q place && eqb m n
is_name None place n port end = false

abbrev pub is_malformed : Option Address → Bool
is_malformed (Some a) = false
is_malformed None = true

-- the refusal's number, 0 for a header
abbrev pub number_of : Result Header Refusal → ℕ
number_of (Ok h) = 0
number_of (Err r) = refusal_number r

-- what a client's datagram of a time with an address is answered at a clock
abbrev pub read_at : (clock time : ℕ) → List ℕ → ℕ
read_at clock time address = number_of (read_main 0 Client clock 0 0 (plaintext Client time 0 address []))

-- ---- tests of sessions

abbrev pub home : Peer
home = record { first = 1; second = 2; port = 3 }

-- session 7, only 300 accepted; then 555, or instead 556: in the book and in the table
abbrev pub page300 : Page
page300 = new_page 1000 home 7 300

abbrev pub page555 : Page
page555 = accept 1000 home 7 555 page300

abbrev pub page556 : Page
page556 = accept 1000 home 7 556 page300

abbrev pub record300 : Record
record300 = new_record 1000 home 7 300

abbrev pub record555 : Record
record555 = accept_in 1000 home 555 record300

abbrev pub record556 : Record
record556 = accept_in 1000 home 556 record300

-- the refusal's number, 0 for a header
abbrev pub answer_number : Answer ℕ → ℕ
answer_number (refused n) = n
answer_number (opened h) = 0

abbrev pub ask : Call
ask = record { clock = 1000; peer = home; datagram = []; output = []; client = None }

-- what a packet ID is answered by the book of a page, and by the table of a record
abbrev pub by_page : Page → ℕ → ℕ
by_page q p = answer_number (outcome_by (reaches 7 p 0 []) 60 (q ∷ []) ask).answer

abbrev pub by_record : Record → ℕ → ℕ
by_record r p = answer_number (table_outcome_by (reaches 7 p 0 []) (store (new_table 60) 0 r) ask).answer

-- ---- the table

unfoldable pub rows : List Row
rows =
    row 1 (time_valid 970 1000) true
    ∷ row 1 (time_valid 1030 1000) true
    ∷ row 1 (eqb (read_at 1000 970 name_a) 0) true
    ∷ row 1 (eqb (read_at 1000 1030 name_a) 0) true
    ∷ row 2 (time_valid 969 1000) false
    ∷ row 2 (time_valid 1031 1000) false
    ∷ row 2 (eqb (read_at 1000 969 name_a) 7) true
    ∷ row 2 (eqb (read_at 1000 1031 name_a) 7) true
    ∷ row 3 (time_valid (2 ^ 64 - 1) 0) false
    ∷ row 3 (eqb (read_at 0 (2 ^ 64 - 1) name_a) 7) true
    ∷ row 4 (current 60 1060 1 1000) true
    ∷ row 4 (current 60 990 1 1000) true
    ∷ row 4 (eqb (until 60 page300) 1060) true
    ∷ row 4 (page_alive 60 1060 page300) true
    ∷ row 4 (page_alive 60 990 page300) true
    ∷ row 4 (live 60 1060 record300) true
    ∷ row 4 (live 60 990 record300) true
    ∷ row 5 (current 60 1061 1 1000) false
    ∷ row 5 (page_alive 60 1061 page300) false
    ∷ row 5 (live 60 1061 record300) false
    ∷ row 6 (fresh page300 45) true
    ∷ row 6 (fresh_in record300 45) true
    ∷ row 6 (eqb (by_page page300 45) 0) true
    ∷ row 6 (eqb (by_record record300 45) 0) true
    ∷ row 7 (fresh page300 44) false
    ∷ row 7 (fresh page300 300) false
    ∷ row 7 (fresh_in record300 44) false
    ∷ row 7 (fresh_in record300 300) false
    ∷ row 7 (eqb (by_page page300 44) 8) true
    ∷ row 7 (eqb (by_page page300 300) 8) true
    ∷ row 7 (eqb (by_record record300 44) 8) true
    ∷ row 7 (eqb (by_record record300 300) 8) true
    ∷ row 8 (eqb (by_page page300 555) 0) true
    ∷ row 8 (eqb (by_record record300 555) 0) true
    ∷ row 8 ((view_of_page page555).marked 300) true
    ∷ row 8 ((view_of_record record555).marked 300) true
    ∷ row 8 (fresh page555 300) false
    ∷ row 8 (fresh_in record555 300) false
    ∷ row 9 (eqb (by_page page300 556) 0) true
    ∷ row 9 (eqb (by_record record300 556) 0) true
    ∷ row 9 ((view_of_page page556).marked 300) false
    ∷ row 9 ((view_of_record record556).marked 300) false
    ∷ row 9 (fresh page556 300) false
    ∷ row 9 (fresh_in record556 300) false
    ∷ row 9 (eqb (by_page page556 300) 8) true
    ∷ row 9 (eqb (by_record record556 300) 8) true
    ∷ row 9 (fresh page556 301) true
    ∷ row 9 (fresh_in record556 301) true
    ∷ row 9 (eqb (by_page page556 301) 0) true
    ∷ row 9 (eqb (by_record record556 301) 0) true
    ∷ row 10 (is_name (parse_at name_a 0) 2 1 80 5) true
    ∷ row 10 (eqb (get_or name_a 2 0) 0x61) true
    ∷ row 10 (eqb (read_at 1000 1000 name_a) 0) true
    ∷ row 11 (is_malformed (parse_at no_name 0)) true
    ∷ row 11 (eqb (read_at 1000 1000 no_name) 5) true
    ∷ row 12 (eqb (s_box 0x53) 0xed) true
    ∷ []

-- every row's test says what it should
abbrev pub Edges : Type 0
Edges = T (every rows)
