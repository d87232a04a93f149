-- A report that goes out by a good plan: its datagrams, sealed in order by one client and opened in order by a server with room and
-- time, show the report. By all five methods, whatever nonces that serve.
-- Assumes nothing.
use Rattle.std.specs.Prelude.{true, cond, List, [], ◌∷◌, ◌++◌, ◌≡◌, ℕ, suc, ◌+◌, ◌-◌, ◌^◌, ◌≤◌, ◌<◌, leb, length, take, drop, None}
use Rattle.octets.specs.Buffers.{Octets}
use Rattle.protocol.specs.Method.{key_fits, cipher_of}
use Rattle.protocol.specs.Time.{time_valid}
use Rattle.session_record.specs.declared.Peer.{Peer}
use Rattle.session_table.specs.Table.{new_table}
use Rattle.session_book.specs.Call.{Call, Answer, refused, opened, Outcome}
use Rattle.session_book.specs.Runs.{table_outcomes}
use Rattle.session_book.specs.Demand3.{Each}
use Rattle.datagram_seal.specs.Sealing.{datagram}
use Rattle.datagram_read.specs.declared.Header.{Header}
use Rattle.datagram_open.specs.Deciding.{call_of, decide}
use Rattle.plan_pieces.specs.Plans.{Piece}
use Rattle.plan_demands.specs.Plans.{Lawful, GoodPlan}
use Rattle.plan_demands.specs.Seals.{client_at, Serves}

-- how a datagram goes: the client's clock and the nonce that seal it; the server's clock that opens it, where it came from, and the lent
-- buffer
pub record Trip : Type 0 where
  pub time : ℕ
  pub nonce : List ℕ
  pub clock : ℕ
  pub peer : Peer
  pub out : List ℕ

-- what a datagram has besides its plaintext
abbrev pub besides_text : ℕ → ℕ
besides_text method = cond (leb method 2) 32 40

-- the server's clock does not go back, every time is valid there, every nonce serves, and every buffer has room for what the limit allows
pub record InTime (method limit : ℕ) (trip : ℕ → Trip) : Type 0 where
  pub valid : (i : ℕ) → time_valid (trip i).time (trip i).clock ≡ true
  pub forward : (i : ℕ) → (trip i).clock ≤ (trip (suc i)).clock
  pub nonce-serves : (i : ℕ) → Serves method (length (trip i).nonce)
  pub room : (i : ℕ) → limit ≤ length (trip i).out + besides_text method
  pub port-fits : (i : ℕ) → (trip i).peer.port < 2 ^ 16
  pub time-fits : (i : ℕ) → (trip i).time < 2 ^ 64

-- ---- the server's calls: the client's session is `id`, and datagram i has packet ID first + i

module _ (method : ℕ) (key address : List ℕ) (id first : ℕ) (trip : ℕ → Trip) where
  abbrev pub call_for : ℕ → Piece → List ℕ → Call
  call_for i x payload =
      call_of (trip i).clock (trip i).peer
      (datagram (cipher_of method) key (trip i).nonce (client_at id (first + i)) (trip i).time address x.padding payload) (trip i).out None

  -- for the pieces from datagram i on, of what is left of the report
  abbrev pub calls_from : ℕ → List Piece → List ℕ → List Call
  calls_from i [] report = []
  calls_from i (x ∷ p) report = call_for i x (take x.bytes report) ∷ calls_from (suc i) p (drop x.bytes report)

-- ---- what they show

-- the payload of an opened datagram, whose plaintext has so many bytes; nothing of a refused one
abbrev pub shown : Answer Header → (due : ℕ) → List ℕ → List ℕ
shown (opened h) due out = drop h.payload (take due out)
shown (refused n) due out = []

abbrev pub joined : ℕ → List Call → List (Outcome Header) → List ℕ
joined method [] os = []
joined method (c ∷ cs) [] = []
joined method (c ∷ cs) (o ∷ os) = shown o.answer (length c.datagram - besides_text method) o.output ++ joined method cs os

-- an outcome that is no refusal
abbrev pub IsOpened : Outcome Header → Type 0
IsOpened o = (h : Header) × (o.answer ≡ opened h)

pub record Received (method : ℕ) (cs : List Call) (os : List (Outcome Header)) (report : List ℕ) : Type 0 where
  pub all-opened : Each IsOpened os
  pub whole : joined method cs os ≡ report

-- ---- the statement: from a new table on, the report is received

abbrev pub PlanReceived : Type 0
PlanReceived =
    (method : ℕ) (address : List ℕ) (limit n : ℕ) → Lawful method address limit n → (p : List Piece) → GoodPlan method address limit n p
    → (report : List ℕ) → length report ≡ n → (key : List ℕ) → key_fits method (length key) ≡ true → Octets key
    → (id first : ℕ) → id < 2 ^ 64 → first + length p < 2 ^ 64 → (trip : ℕ → Trip) → InTime method limit trip
    → (R : ℕ) → 60 ≤ R → R ≤ 3600
    → Received method (calls_from method key address id first trip 0 p report)
    (table_outcomes (decide method key) (new_table R) (calls_from method key address id first trip 0 p report)) report
