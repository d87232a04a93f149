-- Demands 1 and 2 for opened datagrams: what a refusal leaves, when exactly a datagram is accepted, and what is given back of a
-- datagram that was sealed here. For all five methods and both sides; a server's call has no client session ID.
-- Assumes nothing.
use Rattle.std.specs.Prelude.{◌≡◌, ◌≢◌, Bool, true, false, List, ℕ, ◌+◌, ◌-◌, ◌*◌, ◌^◌, ◌≤◌, ◌<◌, min, length, get_or, set, drop, replicate, Ok, Some, None, Option}
use Rattle.octets.specs.Buffers.{Octets, put}
use Rattle.octets.specs.Numbers.{be}
use Rattle.session_record.specs.declared.Peer.{Peer}
use Rattle.session_table.specs.Table.{retention, record_at, lawful, fresh_in, session_place, free_place}
use Rattle.session_book.specs.Call.{Answer, refused, opened}
use Rattle.protocol.specs.Method.{key_fits, cipher_of}
use Rattle.protocol.specs.declared.Refusal.{Refusal}
use Rattle.protocol.specs.declared.Refusal.TheVariants.{Settings, Length, Room, NotAuthentic, Malformed, WrongType, WrongTime, Replay, Full, More, Counter, Argument, Binding, Empty, UnknownSetting}
use Rattle.protocol.specs.Refusal.{refusal_number}
use Rattle.protocol.specs.Time.{time_valid}
use Rattle.socks5.specs.declared.Address.{Address}
use Rattle.socks5.specs.Address.{parse_at, moved}
use Rattle.datagram_parts.specs.declared.Side.{Side}
use Rattle.datagram_parts.specs.declared.Side.TheVariants.{Client, Server}
use Rattle.datagram_seal.specs.declared.Sender.{Sender}
use Rattle.datagram_parts.specs.Headers.{type_of, fixed_length, main_start, sealed_text}
use Rattle.datagram_parts.specs.Parts.{overhead, max_datagram}
use Rattle.datagram_seal.specs.Sealing.{seal_answer, datagram}
use Rattle.datagram_read.specs.declared.Header.{Header}
use Rattle.datagram_read.specs.Opening.{datagram_authentic, plain_of, session_of, packet_of, time_of, padding_of}
use Rattle.datagram_open.specs.Deciding.{expected, opener_of, open_answer, open_out, open_table}

-- ---- answers

-- the refusals of an opener: 1 to 9 and 13
abbrev pub of_opener : Refusal → Bool
of_opener Settings = true
of_opener Length = true
of_opener Room = true
of_opener NotAuthentic = true
of_opener Malformed = true
of_opener WrongType = true
of_opener WrongTime = true
of_opener Replay = true
of_opener Full = true
of_opener (More wanted) = false
of_opener Counter = false
of_opener Argument = false
of_opener Binding = true
of_opener Empty = false
of_opener (UnknownSetting setting) = false

-- a header, or the number of one of these refusals
pub data Answered (a : Answer Header) : Type 0 where
  accepts : (h : Header) → a ≡ opened h → Answered a
  refuses : (r : Refusal) → of_opener r ≡ true → a ≡ refused (refusal_number r) → Answered a

-- ---- what is asked of the arguments

-- the tag of what is sealed is good: with AES under the session's subkey, with ChaCha under the shared key and the datagram's own nonce
abbrev pub tag_good : ℕ → List ℕ → List ℕ → Bool
tag_good method key s = datagram_authentic (cipher_of method) key s

-- how long the plaintext is that such a datagram has: all but the separate header of 16 bytes, or the nonce of 24, and the tag of 16
abbrev pub due : ℕ → List ℕ → ℕ
due method s = length s - overhead (cipher_of method)

-- lawful settings (table, method and key), length and room
pub record Lawful (method : ℕ) (key s t out : List ℕ) : Type 0 where
  pub table : lawful t ≡ true
  pub key_fits : key_fits method (length key) ≡ true
  pub shortest : overhead (cipher_of method) ≤ length s
  pub longest : length s ≤ max_datagram
  pub room : due method s ≤ length out

-- why a call is refused before the tag is good
pub data BeforeTag (method : ℕ) (key s t out : List ℕ) : Type 0 where
  unlawful-table : lawful t ≡ false → BeforeTag method key s t out
  other_key : key_fits method (length key) ≡ false → BeforeTag method key s t out
  too_short : length s < overhead (cipher_of method) → BeforeTag method key s t out
  too_long : max_datagram < length s → BeforeTag method key s t out
  no_room : length out < due method s → BeforeTag method key s t out
  forged : tag_good method key s ≡ false → BeforeTag method key s t out

-- a call comes to one of the two
pub data Stage (method : ℕ) (key s t out : List ℕ) : Type 0 where
  before : BeforeTag method key s t out → Stage method key s t out
  after : Lawful method key s t out → tag_good method key s ≡ true → Stage method key s t out

-- ---- demand 1, of one call

-- A repeat is counted, and nothing else is written: the record is the lowest one that is alive with the datagram's session ID, and
-- of the whole table only its last word becomes another, one more than it was, up to 2^64 - 1.
pub record RepeatCounted (clock id : ℕ) (t t' : List ℕ) : Type 0 where
  pub place : ℕ
  pub its_own : session_place t clock id ≡ Some place
  pub one_word : t' ≡ set t (1 + 13 * place + 12) (min (get_or t (1 + 13 * place + 12) 0 + 1) (2 ^ 64 - 1))

pub record Keeps (method : ℕ) (key : List ℕ) (client : Option ℕ) (clock : ℕ) (peer : Peer) (s t out : List ℕ) : Type 0 where
  pub answered : Answered (open_answer method key client clock peer s t out)
  pub stage : Stage method key s t out
  -- no refusal but 8 changes the table
  pub refused-keeps-table : (n : ℕ) → n ≢ 8 → open_answer method key client clock peer s t out ≡ refused n → open_table method key client clock peer s t out ≡ t
  -- 8 counts a repeat in its own session
  pub repeat-counted : open_answer method key client clock peer s t out ≡ refused 8
      → RepeatCounted clock (session_of (cipher_of method) key s) t (open_table method key client clock peer s t out)
  -- no call changes how long the table remembers
  pub retention-kept : retention (open_table method key client clock peer s t out) ≡ retention t
  -- one given before the tag is good leaves the buffer
  pub untouched-before-tag : BeforeTag method key s t out → open_out method key client clock peer s t out ≡ out
  pub refused-before-tag : BeforeTag method key s t out → (h : Header) → open_answer method key client clock peer s t out ≡ opened h → ⊥
  -- one given after it sets the bytes to zero that the plaintext would have filled
  pub cleared-after-tag : Lawful method key s t out → tag_good method key s ≡ true → (n : ℕ) → open_answer method key client clock peer s t out ≡ refused n
      → open_out method key client clock peer s t out ≡ put out 0 (replicate (due method s) 0)
  -- the bytes past them never change, whatever is answered
  pub past-due-kept : drop (due method s) (open_out method key client clock peer s t out) ≡ drop (due method s) out
  pub length-kept : length (open_out method key client clock peer s t out) ≡ length out

abbrev pub OpenersKeep : Type 0
OpenersKeep =
    (method : ℕ) (key : List ℕ) (client : Option ℕ) (clock : ℕ) (peer : Peer) (s t out : List ℕ) → Keeps method key client clock peer s t out

-- ---- demand 2, of one call

-- the main header of a side's datagrams, from its start in the plaintext: it is whole and of its type, and behind its padding stands
-- an address; h has what it says
pub record ValidHeader (start : ℕ) (side : Side) (id packet : ℕ) (plain : List ℕ) (h : Header) : Type 0 where
  pub long-enough : start + fixed_length side ≤ length plain
  pub right-type : get_or plain start 0 ≡ type_of side
  pub address : Address
  pub address-found : parse_at plain (start + fixed_length side + padding_of start side plain) ≡ Some address
  pub says : h
      ≡ record {
        target = address.target;
        port = address.port;
        session = id;
        packet = packet;
        time = time_of start plain;
        padding = padding_of start side plain;
        payload = address.end;
      }

-- the packet ID is fresh in its session, which is alive; or no session of that ID is alive, and there is room for one
pub data Enters (t : List ℕ) (clock id packet : ℕ) : Type 0 where
  fresh : (i : ℕ) → session_place t clock id ≡ Some i → fresh_in (record_at t i) packet ≡ true → Enters t clock id packet
  begins : (i : ℕ) → session_place t clock id ≡ None → free_place t clock ≡ Some i → Enters t clock id packet

-- a server's call takes any client's datagrams, a client's those whose eight bytes at place 9 of the main header are its own session ID
abbrev pub ForUs : ℕ → Option ℕ → List ℕ → Type 0
ForUs start None plain = Unit {0}
ForUs start (Some client) plain = be 8 (drop (start + 9) plain) ≡ client

pub record Acceptable (method : ℕ) (key : List ℕ) (client : Option ℕ) (clock : ℕ) (s t : List ℕ) (h : Header) : Type 0 where
  pub authentic : tag_good method key s ≡ true
  pub header-valid : ValidHeader (main_start (cipher_of method)) (expected client) (session_of (cipher_of method) key s) (packet_of (cipher_of method) key s)
      (plain_of (cipher_of method) key s) h
  pub for-us : ForUs (main_start (cipher_of method)) client (plain_of (cipher_of method) key s)
  pub time-valid : time_valid h.time clock ≡ true
  pub enters : Enters t clock h.session h.packet

pub record Accepts (method : ℕ) (key : List ℕ) (client : Option ℕ) (clock : ℕ) (peer : Peer) (s t out : List ℕ) (h : Header) : Type 0 where
  pub only-when : open_answer method key client clock peer s t out ≡ opened h → Acceptable method key client clock s t h
  pub always-when : Acceptable method key client clock s t h → open_answer method key client clock peer s t out ≡ opened h
  pub opened-text : open_answer method key client clock peer s t out ≡ opened h
      → open_out method key client clock peer s t out ≡ put out 0 (plain_of (cipher_of method) key s)

abbrev pub AcceptedExactlyWhen : Type 0
AcceptedExactlyWhen =
    (method : ℕ) (key : List ℕ) (client : Option ℕ) (clock : ℕ) (peer : Peer) (s t out : List ℕ)
    → Lawful method key s t out → (h : Header) → Accepts method key client clock peer s t out h

-- ---- demand 2, of what is sealed here

-- the client session that a server's datagrams name
abbrev pub client_of : Side → ℕ
client_of Client = 0
client_of (Server client) = client

-- the header of what was written, where a is what the address says; the main header starts at a place of the plaintext, and places count
-- from the plaintext's first byte
abbrev pub header_of : ℕ → Side → ℕ → ℕ → ℕ → ℕ → ℕ → Address → Header
header_of start side id packet time padding address a =
    record {
      target = moved (start + fixed_length side + padding) a.target;
      port = a.port;
      session = id;
      packet = packet;
      time = time;
      padding = padding;
      payload = start + fixed_length side + padding + address;
    }

-- a key of bytes, and numbers that fit their 8 bytes
pub record Fitting (key : List ℕ) (sender : Sender) (time : ℕ) : Type 0 where
  pub key-bytes : Octets key
  pub id-fits : sender.id < 2 ^ 64
  pub packet-fits : sender.packet < 2 ^ 64
  pub client-fits : client_of sender.side < 2 ^ 64
  pub time-fits : time < 2 ^ 64

-- the other side's call on a datagram sealed at `time` with that nonce, at its own clock `later`, on its table t, into its buffer `out`
module _ (method : ℕ) (key nonce : List ℕ) (sender : Sender) (time : ℕ) (address : List ℕ) (padding : ℕ) (payload : List ℕ) where
  abbrev sent : List ℕ
  sent = datagram (cipher_of method) key nonce sender time address padding payload

  -- the plaintext
  abbrev sealed : List ℕ
  sealed = sealed_text (cipher_of method) sender.id sender.packet sender.side time padding address payload

  abbrev header : Address → Header
  header target = header_of (main_start (cipher_of method)) sender.side sender.id sender.packet time padding (length address) target

  pub record GivenBack (later : ℕ) (peer : Peer) (t out : List ℕ) : Type 0 where
    pub target : Address
    pub target-sealed : parse_at address 0 ≡ Some target
    pub fields : open_answer method key (opener_of sender.side) later peer sent t out ≡ opened (header target)
    pub text : open_out method key (opener_of sender.side) later peer sent t out ≡ put out 0 sealed
    pub payload-there : drop (header target).payload sealed ≡ payload

-- whatever `seal` answered a length n for, with whatever nonce, on a buffer with `space` bytes
abbrev pub SealedAccepted : Type 0
SealedAccepted =
    (method : ℕ) (key nonce : List ℕ) (sender : Sender) (time : ℕ) (address : List ℕ) (padding : ℕ) (payload : List ℕ) (space n : ℕ)
    → seal_answer method (length key) (length nonce) sender address padding (length payload) space ≡ Ok n → Fitting key sender time
    → (later : ℕ) → time_valid time later ≡ true → (peer : Peer) (t out : List ℕ) → lawful t ≡ true
    → Enters t later sender.id sender.packet
    → length (sealed_text (cipher_of method) sender.id sender.packet sender.side time padding address payload) ≤ length out
    → GivenBack method key nonce sender time address padding payload later peer t out

pub record Demand2 : Type 0 where
  pub exactly : AcceptedExactlyWhen
  pub given_back : SealedAccepted
