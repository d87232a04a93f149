-- The orders of refusals, as lists to be held beside the scope's own lines: for each call its refusals in their order, each
-- with the condition under which it is given. What a call answers is the first refusal of its list whose condition holds, and
-- its value where none does. Numbers, sizes and places are written out, as the scope has them.
-- Assumes nothing.
use Rattle.std.specs.Prelude.{◌≡◌, Bool, true, false, cond, not, ◌&&◌, ◌||◌, List, [], ◌∷◌, ℕ, ◌+◌, ◌-◌, ◌^◌, eqb, ltb, length, get_or, take, drop, Err, None, Ok, Option, Result, Some}
use Rattle.octets.specs.Buffers.{same}
use Rattle.octets.specs.Numbers.{be}
use Rattle.session_record.specs.declared.Peer.{Peer}
use Rattle.session_table.specs.Table.{record_at, lawful, fresh_in, session_place, free_place}
use Rattle.session_book.specs.Call.{Answer, refused, opened}
use Rattle.protocol.specs.Method.{salt_length, cipher_of}
use Rattle.protocol.specs.Orders.{Rule, rule, more, Said, gives, refuses, first, refuses_with}
use Rattle.protocol.specs.Subkey.{subkey}
use Rattle.protocol.specs.Time.{time_valid}
use Rattle.socks5.specs.declared.Address.{Address}
use Rattle.socks5.specs.declared.Target.TheVariants.{V4}
use Rattle.socks5.specs.Address.{parse_at, is_address}
use Rattle.datagram_parts.specs.declared.Side.{Side}
use Rattle.datagram_parts.specs.declared.Side.TheVariants.{Client, Server}
use Rattle.datagram_seal.specs.declared.Sender.{Sender as Session}
use Rattle.datagram_seal.specs.Sealing.{seal_answer}
use Rattle.reply_session.specs.Beginning.{reply_begun}
use Rattle.datagram_read.specs.declared.Header.{Header}
use Rattle.datagram_read.specs.Opening.{plain_of, session_of, packet_of}
use Rattle.datagram_open.specs.Deciding.{open_answer}
use Rattle.salt_pool.specs.Pool.{Met}
use Rattle.std.specs.Prelude.{Ok, Err}
use Rattle.salt_pool.specs.Pool.{Replay, Full}
use Rattle.salt_pool.specs.Pool.{meet, lawful as lawful_pool}
use Rattle.stream_seal.specs.declared.Sender.{Sender}
use Rattle.stream_chunks.specs.Orders.{is_ended, text_bytes, due_bytes, length_told, said_step, said_piece}
use Rattle.stream_pieces.specs.Pieces.{authentic_at, open_at, subkey_words, Keyed, salted_key}
use Rattle.stream_seal.specs.Sealing.{chunk_answer}
use Rattle.stream_seal_heads.specs.HeadSealing.{request_answer, response_answer}
use Rattle.stream_open.specs.declared.Turn.{Turn}
use Rattle.stream_open.specs.declared.Turn.TheVariants.{Variable, Length, Payload, Ended}
use Rattle.stream_open.specs.declared.Receiver.{Receiver}
use Rattle.stream_open.specs.declared.Chunk.{Chunk}
use Rattle.stream_open.specs.Chunks.{stream_key, step_answer}
use Rattle.stream_open_response.specs.declared.Response.{Response}
use Rattle.stream_open_response.specs.Responses.{opened_response}
use Rattle.stream_open_request.specs.declared.Request.{Request}
use Rattle.stream_open_request.specs.Requests.{opened_request}
use Rattle.stream_open_variable.specs.declared.VariableHeader.{VariableHeader}
use Rattle.stream_open_variable.specs.Variable.{variable_answer}
use Rattle.demands.specs.Datagrams.{tag_good}
use Rattle.protocol.specs.declared.Refusal.{Refusal}

-- ---- settings

-- methods 3 to 5
abbrev pub with_cha_cha : ℕ → Bool
with_cha_cha method = eqb method 3 || (eqb method 4 || eqb method 5)

-- there is no such method, or the key has another length than its own
abbrev pub other_method : ℕ → Bool
other_method method = not (eqb method 1 || (eqb method 2 || with_cha_cha method))

abbrev pub other_key : (method k : ℕ) → Bool
other_key method k = not (eqb method 1 && eqb k 16 || (eqb method 2 || with_cha_cha method) && eqb k 32)

-- ---- addresses

abbrev pub no_address : Option Address → Bool
no_address (Some a) = false
no_address None = true

-- the address that was found; where there is none, a refusal is given and nothing depends on it
abbrev pub address_in : Option Address → Address
address_in (Some a) = a
address_in None = record { target = V4 0; port = 0; end = 0 }

-- ---- opening a datagram: 1, 2, 3, 4, 5 (under 11 bytes, or 19 from a server; by methods 3 to 5 under 27 or 35), 6, 7, 13, 5 (padding,
-- address), 8, 9

-- what a datagram has besides its plaintext: a separate header and a tag of 16 bytes each, or a nonce of 24 and a tag
abbrev pub besides : ℕ → ℕ
besides method = cond (with_cha_cha method) 40 32

-- where the main header starts in the plaintext: behind session ID and packet ID, where they stand there
abbrev pub main_at : ℕ → ℕ
main_at method = cond (with_cha_cha method) 16 0

-- a server's call opens clients' datagrams, a client's those of its server
abbrev pub header_bytes : Option ℕ → ℕ
header_bytes None = 11
header_bytes (Some client) = 19

abbrev pub type_byte : Option ℕ → ℕ
type_byte None = 0
type_byte (Some client) = 1

-- a server's datagram for another client
abbrev pub others_datagram : Option ℕ → ℕ → Bool
others_datagram None id = false
others_datagram (Some client) id = not (eqb id client)

-- the session is alive, and the packet ID not fresh in it
abbrev pub not_fresh : Option ℕ → List ℕ → ℕ → Bool
not_fresh (Some i) t packet = not (fresh_in (record_at t i) packet)
not_fresh None t packet = false

-- no session of the ID is alive, and no record is free
abbrev pub no_room : (session free : Option ℕ) → Bool
no_room (Some i) free = false
no_room None (Some i) = false
no_room None None = true

abbrev pub said_opened : Answer Header → Said Header
said_opened (opened h) = gives h
said_opened (refused n) = refuses n 0

module _ (method : ℕ) (key : List ℕ) (client : Option ℕ) (clock : ℕ) (s t out : List ℕ) where
  abbrev plain : List ℕ
  plain = plain_of (cipher_of method) key s

  abbrev session : ℕ
  session = session_of (cipher_of method) key s

  abbrev packet : ℕ
  packet = packet_of (cipher_of method) key s

  abbrev padding : ℕ
  padding = be 2 (drop (main_at method + header_bytes client - 2) plain)

  abbrev address : Option Address
  address = parse_at plain (main_at method + header_bytes client + padding)

  abbrev pub open_order : List Rule
  open_order =
      rule 1 (not (lawful t) || other_key method (length key))
      ∷ rule 2 (ltb (length s) (besides method) || ltb 65507 (length s))
      ∷ rule 3 (ltb (length out) (length s - besides method))
      ∷ rule 4 (not (tag_good method key s))
      ∷ rule 5 (ltb (length plain) (main_at method + header_bytes client))
      ∷ rule 6 (not (eqb (get_or plain (main_at method) 0) (type_byte client)))
      ∷ rule 7 (not (time_valid (be 8 (drop (main_at method + 1) plain)) clock))
      ∷ rule 13 (others_datagram client (be 8 (drop (main_at method + 9) plain)))
      ∷ rule 5 (no_address address)
      ∷ rule 8 (not_fresh (session_place t clock session) t packet)
      ∷ rule 9 (no_room (session_place t clock session) (free_place t clock))
      ∷ []

  abbrev pub opened_header : Header
  opened_header =
      record {
        target = (address_in address).target;
        port = (address_in address).port;
        session = session;
        packet = packet;
        time = be 8 (drop (main_at method + 1) plain);
        padding = padding;
        payload = (address_in address).end;
      }

-- ---- opening a request's head, first the front: 1, 10, 4, 6, 7, 8, 9

abbrev pub is_replay : Met → Bool
is_replay (Err Replay) = true
is_replay (Ok i) = false
is_replay (Err Full) = false

abbrev pub is_full : Met → Bool
is_full (Err Full) = true
is_full (Ok i) = false
is_full (Err Replay) = false

abbrev pub said_request : Result (Request × Receiver) Refusal → Said (Request × Receiver)
said_request (Ok (h, st)) = gives (h, st)
said_request (Err r) = refuses_with r

module _ (method : ℕ) (key : List ℕ) (clock : ℕ) (s pool : List ℕ) where
  abbrev n : ℕ
  n = salt_length method

  abbrev salt : List ℕ
  salt = take n s

  abbrev k : Keyed
  k = salted_key method key salt

  abbrev fixed_piece : List ℕ
  fixed_piece = take 27 (drop n s)

  abbrev fixed : List ℕ
  fixed = open_at k 0 fixed_piece

  abbrev size : ℕ
  size = be 2 (drop 9 fixed)

  abbrev pub request_order : List Rule
  request_order =
      rule 1 (other_key method (length key) || not (lawful_pool pool method))
      ∷ more (n + 27) (ltb (length s) (n + 27))
      ∷ rule 4 (not (authentic_at k 0 fixed_piece))
      ∷ rule 6 (not (eqb (get_or fixed 0 0) 0))
      ∷ rule 7 (not (time_valid (be 8 (drop 1 fixed)) clock))
      ∷ rule 8 (is_replay (meet pool clock salt))
      ∷ rule 9 (is_full (meet pool clock salt))
      ∷ []

  abbrev pub request_opened : Request × Receiver
  request_opened = (
    record { time = be 8 (drop 1 fixed); length = size; used = n + 27 },
    record { method = method; turn = Variable size; counter = 1; subkey = subkey_words k.bytes },
  )

-- ---- then the variable header: 1, 4 (ended), 10, 3, 4, 5

-- one that is not at this turn, or not with counter 1; one that has ended is at no turn
abbrev pub other_turn : Turn → (counter : ℕ) → Bool
other_turn (Variable m) counter = not (eqb counter 1)
other_turn Length counter = true
other_turn (Payload m) counter = true
other_turn Ended counter = false

-- no address, no padding length behind it, padding over 900, padding past the chunk, or padding 0 with no payload
abbrev pub bad_variable : Option Address → List ℕ → Bool
bad_variable (Some a) v =
    let n = be 2 (drop a.end v) in
    ltb (length v) (a.end + 2) || (ltb 900 n || (ltb (length v) (a.end + 2 + n) || eqb n 0 && eqb (length v) (a.end + 2)))
bad_variable None v = true

abbrev pub header_size : Turn → ℕ
header_size (Variable m) = m
header_size Length = 0
header_size (Payload m) = 0
header_size Ended = 0

abbrev pub said_variable : Result VariableHeader Refusal → Said VariableHeader
said_variable (Ok h) = gives h
said_variable (Err r) = refuses_with r

module _ (st : Receiver) (s : List ℕ) (room : ℕ) where
  abbrev bytes : ℕ
  bytes = header_size st.turn

  abbrev variable : List ℕ
  variable = open_at (stream_key st) 1 (take (bytes + 16) s)

  abbrev found : Address
  found = address_in (parse_at variable 0)

  abbrev pub variable_order : List Rule
  variable_order =
      rule 1 (other_method st.method || other_turn st.turn st.counter)
      ∷ rule 4 (is_ended st.turn)
      ∷ more (bytes + 16) (ltb (length s) (bytes + 16))
      ∷ rule 3 (ltb room bytes)
      ∷ rule 4 (not (authentic_at (stream_key st) 1 (take (bytes + 16) s)))
      ∷ rule 5 (bad_variable (parse_at variable 0) variable)
      ∷ []

  abbrev pub header_opened : VariableHeader
  header_opened =
      record {
        target = found.target;
        port = found.port;
        padding = be 2 (drop found.end variable);
        payload = found.end + 2 + be 2 (drop found.end variable);
        length = bytes;
        used = bytes + 16;
      }

-- ---- opening a response's head: 1, 10, 4, 6, 7, 13, 14

abbrev pub said_response : Result (Response × Receiver) Refusal → Said (Response × Receiver)
said_response (Ok (h, st)) = gives (h, st)
said_response (Err r) = refuses_with r

module _ (method : ℕ) (key : List ℕ) (clock : ℕ) (request_salt s : List ℕ) where
  abbrev salt_bytes : ℕ
  salt_bytes = salt_length method

  abbrev stream_key_of : Keyed
  stream_key_of = salted_key method key (take salt_bytes s)

  abbrev head_piece : List ℕ
  head_piece = take (27 + salt_bytes) (drop salt_bytes s)

  abbrev head : List ℕ
  head = open_at stream_key_of 0 head_piece

  abbrev first_payload : ℕ
  first_payload = be 2 (drop (9 + salt_bytes) head)

  abbrev pub response_order : List Rule
  response_order =
      rule 1 (other_key method (length key) || not (eqb (length request_salt) salt_bytes))
      ∷ more (salt_bytes + 27 + salt_bytes) (ltb (length s) (salt_bytes + 27 + salt_bytes))
      ∷ rule 4 (not (authentic_at stream_key_of 0 head_piece))
      ∷ rule 6 (not (eqb (get_or head 0 0) 1))
      ∷ rule 7 (not (time_valid (be 8 (drop 1 head)) clock))
      ∷ rule 13 (not (same (take salt_bytes (drop 9 head)) request_salt))
      ∷ rule 14 (eqb first_payload 0)
      ∷ []

  abbrev pub response_opened : Response × Receiver
  response_opened = (
    record { time = be 8 (drop 1 head); length = first_payload; used = salt_bytes + 27 + salt_bytes },
    record { method = method; turn = Payload first_payload; counter = 1; subkey = subkey_words stream_key_of.bytes },
  )

-- ---- a step: 1, 4 (ended), 11, 10, 3, 4, 14 (a length of 0)

-- no step's turn: a payload of 0 bytes is next, which no length says that is accepted, or a request's variable header, which is
-- another call's
abbrev pub no_step : Turn → Bool
no_step Length = false
no_step (Payload m) = eqb m 0
no_step Ended = false
no_step (Variable m) = true

-- the length read is 0
abbrev pub empty_length : Turn → (read : ℕ) → Bool
empty_length Length read = eqb read 0
empty_length (Payload m) read = false
empty_length Ended read = false
empty_length (Variable m) read = false

module _ (st : Receiver) (s : List ℕ) (room : ℕ) where
  abbrev piece : List ℕ
  piece = take (text_bytes st.turn + 16) s

  abbrev pub step_order : List Rule
  step_order =
      rule 1 (other_method st.method || no_step st.turn)
      ∷ rule 4 (is_ended st.turn)
      ∷ rule 11 (eqb st.counter (2 ^ 64 - 1))
      ∷ more (text_bytes st.turn + 16) (ltb (length s) (text_bytes st.turn + 16))
      ∷ rule 3 (ltb room (due_bytes st.turn))
      ∷ rule 4 (not (authentic_at (stream_key st) st.counter piece))
      ∷ rule 14 (empty_length st.turn (be 2 (open_at (stream_key st) st.counter piece)))
      ∷ []

  abbrev pub chunk_opened : Chunk
  chunk_opened =
      record {
        used = text_bytes st.turn + 16;
        length = length_told st.turn (be 2 (open_at (stream_key st) st.counter piece));
      }

-- ---- sealing a datagram: 1, 12, 11, 2, 3

abbrev pub same_ids : Side → ℕ → Bool
same_ids Client id = false
same_ids (Server client) id = eqb id client

abbrev pub own_header : Side → ℕ
own_header Client = 11
own_header (Server client) = 19

abbrev pub said_sealed : Result ℕ Refusal → Said ℕ
said_sealed (Ok n) = gives n
said_sealed (Err r) = refuses_with r

module _ (method k nonce : ℕ) (sender : Session) (address : List ℕ) (padding payload room : ℕ) where
  -- separate header or nonce, and tag; the IDs that stand in the plaintext; main header, padding, address, payload
  abbrev pub datagram_bytes : ℕ
  datagram_bytes = besides method + (main_at method + own_header sender.side + padding + length address + payload)

  -- 1 also for a nonce that has not 24 bytes, by methods 3 to 5
  abbrev pub seal_order : List Rule
  seal_order =
      rule 1 (other_key method k || with_cha_cha method && not (eqb nonce 24))
      ∷ rule 12 (not (is_address address) || same_ids sender.side sender.id)
      ∷ rule 11 (eqb sender.packet (2 ^ 64 - 1))
      ∷ rule 2 (ltb 65507 datagram_bytes)
      ∷ rule 3 (ltb room datagram_bytes)
      ∷ []

-- ---- sealing a request's head: 1, 12, 2, 3; a response's: 1, 14, 2, 3; a chunk: 1, 14, 11, 2, 3

-- behind a head two counters are used
abbrev pub sender_behind : ℕ → List ℕ → List ℕ → Sender
sender_behind method key salt = record { method = method; counter = 2; subkey = subkey_words (subkey key salt) }

module _ (method : ℕ) (key salt address : List ℕ) (padding payload room : ℕ) where
  abbrev variable_bytes : ℕ
  variable_bytes = length address + 2 + padding + payload

  abbrev request_bytes : ℕ
  request_bytes = length salt + 27 + variable_bytes + 16

  abbrev pub seal_request_order : List Rule
  seal_request_order =
      rule 1 (other_key method (length key) || not (eqb (length salt) (salt_length method)))
      ∷ rule 12 (not (is_address address) || (ltb 900 padding || eqb padding 0 && eqb payload 0))
      ∷ rule 2 (ltb 65535 variable_bytes)
      ∷ rule 3 (ltb room request_bytes)
      ∷ []

  abbrev pub request_sealed : ℕ × Sender
  request_sealed = (request_bytes, sender_behind method key salt)

module _ (method : ℕ) (key salt request_salt : List ℕ) (payload room : ℕ) where
  abbrev response_bytes : ℕ
  response_bytes = length salt + 27 + length request_salt + payload + 16

  abbrev pub seal_response_order : List Rule
  seal_response_order =
      rule 1
      (other_key method (length key)
      || (not (eqb (length salt) (salt_length method)) || not (eqb (length request_salt) (salt_length method))))
      ∷ rule 14 (eqb payload 0)
      ∷ rule 2 (ltb 65535 payload)
      ∷ rule 3 (ltb room response_bytes)
      ∷ []

  abbrev pub response_sealed : ℕ × Sender
  response_sealed = (response_bytes, sender_behind method key salt)

module _ (s : Sender) (size room : ℕ) where
  -- a length of 2 bytes and the payload, each with its tag
  abbrev chunk_bytes : ℕ
  chunk_bytes = 2 + 16 + size + 16

  abbrev pub seal_chunk_order : List Rule
  seal_chunk_order =
      rule 1 (other_method s.method)
      ∷ rule 14 (eqb size 0)
      ∷ rule 11 (not (ltb s.counter (2 ^ 64 - 2)))
      ∷ rule 2 (ltb 65535 size)
      ∷ rule 3 (ltb room chunk_bytes)
      ∷ []

  abbrev pub chunk_sealed : ℕ × Sender
  chunk_sealed = (chunk_bytes, record { method = s.method; counter = s.counter + 2; subkey = s.subkey })

-- ---- beginning a server's sending session: 1, 12

abbrev pub said_begun : Result Session Refusal → Said Session
said_begun (Ok s) = gives s
said_begun (Err r) = refuses_with r

-- a session is alive
abbrev pub is_alive : Option ℕ → Bool
is_alive (Some i) = true
is_alive None = false

abbrev pub begin_order : List ℕ → (clock id client : ℕ) → List Rule
begin_order t clock id client = rule 1 (not (lawful t)) ∷ rule 12 (eqb id client || is_alive (session_place t clock id)) ∷ []

abbrev pub session_begun : (id client : ℕ) → Session
session_begun id client = record { side = Server client; id = id; packet = 0 }

-- ---- the statement: each call answers by its order

pub record Orders : Type 0 where
  pub datagram-opened : (method : ℕ) (key : List ℕ) (client : Option ℕ) (clock : ℕ) (peer : Peer) (s t out : List ℕ)
      → said_opened (open_answer method key client clock peer s t out)
      ≡ first (open_order method key client clock s t out) (opened_header method key client clock s t out)
  pub request-opened : (method : ℕ) (key : List ℕ) (clock : ℕ) (s pool : List ℕ)
      → said_request (opened_request method key clock s pool)
      ≡ first (request_order method key clock s pool) (request_opened method key clock s pool)
  pub variable-opened : (st : Receiver) (s : List ℕ) (room : ℕ)
      → said_variable (variable_answer st s room) ≡ first (variable_order st s room) (header_opened st s room)
  pub response-opened : (method : ℕ) (key : List ℕ) (clock : ℕ) (request_salt s : List ℕ)
      → said_response (opened_response method key clock request_salt s)
      ≡ first (response_order method key clock request_salt s) (response_opened method key clock request_salt s)
  pub step : (st : Receiver) (s : List ℕ) (room : ℕ) → said_step (step_answer st s room) ≡ first (step_order st s room) (chunk_opened st s room)
  pub datagram-sealed : (method k nonce : ℕ) (sender : Session) (address : List ℕ) (padding payload room : ℕ)
      → said_sealed (seal_answer method k nonce sender address padding payload room)
      ≡ first (seal_order method k nonce sender address padding payload room) (datagram_bytes method k nonce sender address padding payload room)
  pub request-sealed : (method : ℕ) (key salt address : List ℕ) (padding payload room : ℕ)
      → said_piece (request_answer method key salt address padding payload room)
      ≡ first (seal_request_order method key salt address padding payload room) (request_sealed method key salt address padding payload room)
  pub response-sealed : (method : ℕ) (key salt request_salt : List ℕ) (payload room : ℕ)
      → said_piece (response_answer method key salt request_salt payload room)
      ≡ first (seal_response_order method key salt request_salt payload room) (response_sealed method key salt request_salt payload room)
  pub chunk-sealed : (s : Sender) (payload room : ℕ)
      → said_piece (chunk_answer s payload room) ≡ first (seal_chunk_order s payload room) (chunk_sealed s payload room)
  pub session-begun : (t : List ℕ) (clock id client : ℕ)
      → said_begun (reply_begun t clock id client) ≡ first (begin_order t clock id client) (session_begun id client)
