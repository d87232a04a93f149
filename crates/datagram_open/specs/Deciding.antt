-- Opening as a call on the session table: what the arguments of a call decide for a method and a key, which session a datagram
-- names, and the answer, the buffer and the table that a call leaves.
use Rattle.std.specs.Prelude.{Bool, cond, ◌&&◌, List, ℕ, ◌+◌, leb, length, Err, Ok, Result, None, Option, Some}
use Rattle.session_record.specs.declared.Peer.{Peer}
use Rattle.std.specs.Prelude.{Ok, Err}
use Rattle.session_table.specs.Table.{Admitted, Replay, Full, meet, admitted}
use Rattle.session_book.specs.Call.{Call, Answer, refused, opened, Decision, early, reaches}
use Rattle.session_book.specs.Runs.{table_outcome, table_next}
use Rattle.protocol.specs.declared.Cipher.{Cipher}
use Rattle.protocol.specs.declared.Cipher.TheVariants.{AesGcm, ChaChaPoly}
use Rattle.protocol.specs.Method.{key_fits, cipher_of}
use Rattle.protocol.specs.declared.Refusal.TheVariants.{Replay as RefusedReplay, Full as RefusedFull}
use Rattle.protocol.specs.Refusal.{refusal_number}
use Rattle.datagram_parts.specs.declared.Side.{Side}
use Rattle.datagram_parts.specs.declared.Side.TheVariants.{Client, Server}
use Rattle.datagram_parts.specs.Headers.{separate_length}
use Rattle.datagram_parts.specs.Parts.{overhead}
use Rattle.datagram_read.specs.declared.Header.{Header}
use Rattle.datagram_read.specs.Opening.{datagram_authentic, plain_of, session_of, read_answer, read_out}
use Rattle.protocol.specs.declared.Refusal.{Refusal}

-- whose datagram a call expects: a server's call has no client session ID, and opens clients' datagrams
abbrev pub expected : Option ℕ → Side
expected None = Client
expected (Some client) = Server client

-- the client session ID that the opener of a side's datagrams brings
abbrev pub opener_of : Side → Option ℕ
opener_of Client = None
opener_of (Server client) = Some client

abbrev pub decided_by : Result Header Refusal → List ℕ → List ℕ → Decision Header
decided_by (Ok h) out plain = reaches h.session h.packet h plain
decided_by (Err r) out plain = early (refusal_number r) out

-- whether a datagram names a session: with AES by its first 16 bytes, whatever stands behind them; with ChaCha the ID is sealed, so
-- that the datagram has to be authentic, with a plaintext of 8 bytes or more
abbrev pub names : Cipher → List ℕ → List ℕ → Bool
names AesGcm key s = leb separate_length (length s)
names (ChaChaPoly n) key s = leb (overhead (ChaChaPoly n) + 8) (length s) && datagram_authentic (ChaChaPoly n) key s

module _ (method : ℕ) (key : List ℕ) where
  unfoldable pub decide : Call → Decision Header
  decide c =
      decided_by (read_answer method key (expected c.client) c.clock c.datagram c.output)
      (read_out method key (expected c.client) c.clock c.datagram c.output) (plain_of (cipher_of method) key c.datagram)

  -- the session that a datagram names, whether it is accepted or not; none where the method or the key gives refusal 1
  unfoldable pub belongs : Call → Option ℕ
  belongs c =
      cond (key_fits method (length key) && names (cipher_of method) key c.datagram) (Some (session_of (cipher_of method) key c.datagram))
      None

-- ---- a call of the code

-- the number or the header that an answer gives
abbrev pub answer_of : Result Header Refusal → Answer Header
answer_of (Ok h) = opened h
answer_of (Err r) = refused (refusal_number r)

-- a header that was read, by what its packet ID met
abbrev pub admitted_as : Header → Admitted → Result Header Refusal
admitted_as h (Ok u) = Ok h
admitted_as h (Err Replay) = Err RefusedReplay
admitted_as h (Err Full) = Err RefusedFull

unfoldable pub entered : Header → List ℕ → ℕ → Peer → Result Header Refusal
entered h t clock peer = admitted_as h (admitted (meet t clock peer h.session h.packet))

abbrev pub call_of : ℕ → Peer → List ℕ → List ℕ → Option ℕ → Call
call_of clock peer s out client = record { clock = clock; peer = peer; datagram = s; output = out; client = client }

module _ (method : ℕ) (key : List ℕ) (client : Option ℕ) (clock : ℕ) (peer : Peer) (s t out : List ℕ) where
  unfoldable pub open_answer : Answer Header
  open_answer = (table_outcome (decide method key) t (call_of clock peer s out client)).answer

  unfoldable pub open_out : List ℕ
  open_out = (table_outcome (decide method key) t (call_of clock peer s out client)).output

  unfoldable pub open_table : List ℕ
  open_table = table_next (decide method key) t (call_of clock peer s out client)
