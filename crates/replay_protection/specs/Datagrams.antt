-- No datagram is accepted twice, though its session may have been forgotten and begun again between; none is accepted by both sides;
-- and every sealed datagram is one that would be accepted twice with a retention of 59 seconds. About what the openers' contracts say.
-- Assumes nothing.
use Rattle.std.specs.Prelude.{◌≡◌, List, [], ◌∷◌, ℕ, ◌≤◌, ◌<◌, ◌^◌, length, replicate, Ok, Some, None}
use Rattle.session_record.specs.declared.Peer.{Peer}
use Rattle.session_table.specs.Table.{new_table}
use Rattle.session_book.specs.Call.{Call, opened}
use Rattle.session_book.specs.Runs.{table_outcomes}
use Rattle.session_book.specs.Demand3.{Each, Forward, PortFits}
use Rattle.session_book.specs.Once.{Once, Breaks}
use Rattle.protocol.specs.Method.{cipher_of}
use Rattle.socks5.specs.declared.Address.{Address}
use Rattle.socks5.specs.Address.{parse_at}
use Rattle.datagram_parts.specs.Headers.{main_start, sealed_text}
use Rattle.datagram_seal.specs.declared.Sender.{Sender}
use Rattle.datagram_seal.specs.Sealing.{client_sender, seal_answer, datagram}
use Rattle.datagram_read.specs.declared.Header.{Header}
use Rattle.datagram_open.specs.Deciding.{opener_of, decide, call_of, open_answer}
use Rattle.demands.specs.Datagrams.{header_of, Fitting}

-- ---- once

-- Every method, key and lawful R; every list of calls of both openers, refused ones included, from a table just made, each on the
-- table as the last left it, with clocks that never go back: of the byte strings of the calls that were accepted no two are equal.
-- Two calls of a list may differ in everything but method and key: side, client ID, caller, datagram and buffer.
abbrev pub DatagramsOnce : Type 0
DatagramsOnce =
    (method : ℕ) (key : List ℕ) (R : ℕ) → 60 ≤ R → R ≤ 3600 → (cs : List Call) → Each PortFits cs → Forward cs
    → Once cs (table_outcomes (decide method key) (new_table R) cs)

-- ---- by one side

-- what a server's call accepts no client's call accepts, whatever its table and clock
abbrev pub OneSideOnly : Type 0
OneSideOnly =
    (method : ℕ) (key s : List ℕ)
    → (clock : ℕ) (peer : Peer) (t out : List ℕ) (h : Header) → open_answer method key None clock peer s t out ≡ opened h
    → (client later : ℕ) (from : Peer) (table buffer : List ℕ) (g : Header) → open_answer method key (Some client) later from s table buffer ≡ opened g
    → ⊥

-- ---- at 59

-- a datagram's first caller and buffer, and its second
pub record Twice (plain : List ℕ) : Type 0 where
  pub peer : Peer
  pub out : List ℕ
  pub peer-again : Peer
  pub out-again : List ℕ
  pub port-fits : peer.port < 2 ^ 16
  pub port-fits-again : peer-again.port < 2 ^ 16
  pub room : length plain ≤ length out
  pub room-again : length plain ≤ length out-again

module _ (method : ℕ) (key nonce : List ℕ) (sender : Sender) (address : List ℕ) (padding : ℕ) (payload : List ℕ) where
  -- its plaintext and its bytes, sealed at 1,030 with that nonce, which methods 1 and 2 do not look at
  abbrev pub text : List ℕ
  text = sealed_text (cipher_of method) sender.id sender.packet sender.side 1030 padding address payload

  abbrev pub sent : List ℕ
  sent = datagram (cipher_of method) key nonce sender 1030 address padding payload

  -- the same bytes at 1,000 and at 1,060, opened by the side that they are meant for: a client names its own ID
  abbrev pub first : Twice text → Call
  first o = call_of 1000 o.peer sent o.out (opener_of sender.side)

  abbrev pub again : Twice text → Call
  again o = call_of 1060 o.peer-again sent o.out-again (opener_of sender.side)

  -- accepted by both calls where the retention is 59; where it is 60 the second is a repeat
  pub record SealedBreaks (o : Twice text) : Type 0 where
    pub target : Address
    pub target-sealed : parse_at address 0 ≡ Some target
    pub breaks : Breaks (decide method key) (first o) (again o)
        (header_of (main_start (cipher_of method)) sender.side sender.id sender.packet 1030 padding (length address) target) text

-- whatever `seal` answered a length n for, with whatever nonce
abbrev pub SealedBreaksAt59 : Type 0
SealedBreaksAt59 =
    (method : ℕ) (key nonce : List ℕ) (sender : Sender) (address : List ℕ) (padding : ℕ) (payload : List ℕ) (space n : ℕ)
    → seal_answer method (length key) (length nonce) sender address padding (length payload) space ≡ Ok n → Fitting key sender 1030
    → (o : Twice (text method key nonce sender address padding payload)) → SealedBreaks method key nonce sender address padding payload o

-- two of them: a client's to "a", port 80, without padding and payload, by methods 1 and 3, with a key and a nonce of zeros
abbrev pub sample_address : List ℕ
sample_address = 3 ∷ 1 ∷ 0x61 ∷ 0 ∷ 0x50 ∷ []

pub record Sample (method : ℕ) (key nonce : List ℕ) : Type 0 where
  pub calls : Twice (text method key nonce (client_sender 7) sample_address 0 [])
  pub breaks : SealedBreaks method key nonce (client_sender 7) sample_address 0 [] calls

pub record SampleBreaks : Type 0 where
  pub aes-128 : Sample 1 (replicate 16 0) []
  pub chacha20 : Sample 3 (replicate 32 0) (replicate 24 0)
