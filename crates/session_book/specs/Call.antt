-- A call that opens a datagram, and what its arguments decide before a session is looked at.
-- Assumes nothing.
use Rattle.std.specs.Prelude.{ℕ, List, [], ◌++◌, length, drop, replicate, None, Option}
use Rattle.session_record.specs.declared.Peer.{Peer}

-- The arguments of a call. `client` is the client session ID that a client's call brings, `none` in a server's.
pub record Call : Type 0 where
  pub clock : ℕ
  pub peer : Peer
  pub datagram : List ℕ
  pub output : List ℕ
  pub client : Option ℕ

-- a call that stands for a missing one in `get_or`; nothing depends on it
pub no_call : Call
no_call = record { clock = 0; peer = record { first = 0; second = 0; port = 0 }; datagram = []; output = []; client = None }

-- what a call answers: a refusal's number, or the opened header, of type H
pub data Answer (H : Type 0) : Type 0 where
  refused : ℕ → Answer H
  opened : H → Answer H

-- the answer, and the output buffer as the call leaves it
pub record Outcome (H : Type 0) : Type 0 where
  pub answer : Answer H
  pub output : List ℕ

-- What the arguments alone decide, for one method and key, by the rules of the datagram order before refusal 8:
-- a refusal's number with the output buffer that it leaves; or the datagram's session ID, packet ID, header and plaintext.
pub data Decision (H : Type 0) : Type 0 where
  early : (number : ℕ) (output : List ℕ) → Decision H
  reaches : (id packet : ℕ) (header : H) (plaintext : List ℕ) → Decision H

-- bytes written to the front of a buffer, the rest left as it was
abbrev pub onto : List ℕ → List ℕ → List ℕ
onto bytes out = bytes ++ drop (length bytes) out

abbrev pub opened_outcome : {H : Type 0} → Call → H → List ℕ → Outcome H
opened_outcome c header plaintext = record { answer = opened header; output = onto plaintext c.output }

-- refusals 8 and 9 set the bytes that the plaintext would have filled to zero
abbrev pub refused_outcome : {H : Type 0} → Call → ℕ → List ℕ → Outcome H
refused_outcome c number plaintext = record { answer = refused number; output = onto (replicate (length plaintext) 0) c.output }
