-- What a host calls: each function of include/relay.h with what it is lent, and what it returns and leaves by the very terms of its
-- contract in crate `relay`; and runs of such calls on a host's memory. The statements about them are in `Guarantees`.
use Rattle.std.specs.Prelude.{Bool, false, cond, List, [], ◌∷◌, ℕ, ◌+◌, ◌-◌, eqb, length, get_or, take, drop, replicate, Ok, None, Option, Some}
use Rattle.protocol.specs.Method.{key_length, salt_length, cipher_of}
use Rattle.protocol.specs.declared.Cipher.{Cipher}
use Rattle.protocol.specs.declared.Cipher.TheVariants.{AesGcm}
use Rattle.datagram_parts.specs.Parts.{overhead}
use Rattle.datagram_seal.specs.Sealing.{client_sender}
use Rattle.datagram_read.specs.Opening.{datagram_authentic, session_of}
use Rattle.stream_pieces.specs.Pieces.{authentic_at, key_of, Keyed, keyed, salted_key}
use Rattle.reply_session.specs.Beginning.{reply_begun}
use Rattle.session_record.specs.declared.Peer.{Peer}
use Rattle.session_table.specs.Table as table
use Rattle.salt_pool.specs.Pool as pool
use Rattle.sip004.specs.Method as sip004
use Rattle.sip004.specs.Datagram.{body_authentic}
use Rattle.relay.specs.Datagrams as datagrams
use Rattle.relay.specs.Streams as heads
use Rattle.relay.specs.Sip004 as edition2017
use Rattle.relay.specs.Plans as plans
use Rattle.relay.specs.Recordings as recordings
use Rattle.settings_answers.specs.Told as settings
use Rattle.session_book.specs.Call as book
use Rattle.stream_answers.specs.Chunks.{AfterChunk}

-- ---- calls

-- a function with its numbers and with what it only reads
pub data Call : Type 0 where
  relay_table_new : (retention : ℕ) → Call
  relay_session_begin_client : (id : ℕ) → Call
  relay_session_begin_server : (id client clock : ℕ) → Call
  relay_datagram_seal : (method : ℕ) (key nonce : List ℕ) (clock : ℕ) (address : List ℕ) (padding : ℕ) (payload : List ℕ) → Call
  relay_datagram_open_server : (method : ℕ) (key : List ℕ) (clock first second port : ℕ) (datagram : List ℕ) → Call
  relay_datagram_open_client : (method : ℕ) (key : List ℕ) (clock client first second port : ℕ) (datagram : List ℕ) → Call
  relay_pool_new : (method : ℕ) → Call
  relay_stream_seal_request : (method : ℕ) (key salt : List ℕ) (clock : ℕ) (address : List ℕ) (padding : ℕ) (payload : List ℕ) → Call
  relay_stream_seal_response : (method : ℕ) (key salt request_salt : List ℕ) (clock : ℕ) (payload : List ℕ) → Call
  relay_stream_seal_chunk : (payload : List ℕ) → Call
  relay_stream_open_request : (method : ℕ) (key : List ℕ) (clock : ℕ) (bytes : List ℕ) → Call
  relay_stream_open_variable : (bytes : List ℕ) → Call
  relay_stream_open_response : (method : ℕ) (key : List ℕ) (clock : ℕ) (request_salt bytes : List ℕ) → Call
  relay_stream_open_chunk : (bytes : List ℕ) → Call
  relay_sip004_datagram_seal : (method : ℕ) (key salt payload : List ℕ) → Call
  relay_sip004_datagram_open : (method : ℕ) (key datagram : List ℕ) → Call
  relay_sip004_stream_begin_seal : (method : ℕ) (key salt : List ℕ) → Call
  relay_sip004_stream_begin_open : (method : ℕ) (key salt : List ℕ) → Call
  relay_sip004_stream_seal_chunk : (payload : List ℕ) → Call
  relay_sip004_stream_open_chunk : (bytes : List ℕ) → Call
  relay_plan_make : (method : ℕ) (address : List ℕ) (limit report : ℕ) → Call
  relay_plan_check : (method : ℕ) (address : List ℕ) (limit report : ℕ) (plan : List ℕ) → Call
  relay_recording_compare : (first second : List ℕ) → Call
  relay_recording_mend : Call
  relay_settings_read : (file : List ℕ) → Call
  relay_settings_write : (edition : ℕ) (settings bodies : List ℕ) → Call

-- what a call is lent to write: `out` is also the file that is mended, and `words` a plan or a report
pub record Lent : Type 0 where
  pub table : List ℕ
  pub pool : List ℕ
  pub session : List ℕ
  pub stream : List ℕ
  pub out : List ℕ
  pub words : List ℕ
  pub answer : List ℕ

-- a call that opens a datagram, for the client of a session ID or for a server, and one that opens the front of a request's head
pub record Opening : Type 0 where
  pub method : ℕ
  pub key : List ℕ
  pub client : Option ℕ
  pub clock : ℕ
  pub peer : Peer
  pub datagram : List ℕ

pub record Front : Type 0 where
  pub method : ℕ
  pub key : List ℕ
  pub clock : ℕ
  pub bytes : List ℕ

-- what a call does to a table or a pool
pub data Role : Type 0 where
  nothing : Role
  makes-table : Role
  opens-datagram : Opening → Role
  makes-pool : Role
  opens-front : Front → Role

-- What is said of a call: what it returns and leaves, by the terms of its contract; and what include/relay.h says of it: its refusals in
-- their order, those of them that are given behind a good tag, the tag's verdict, those that end the stream, how many bytes of `out`
-- are due, and how many bytes refusal 10 wants.
pub record Said : Type 0 where
  pub number : ℕ
  pub left : Lent
  pub refusals : List ℕ
  pub behind : List ℕ
  pub tag : Bool
  pub ends : List ℕ
  pub due : ℕ
  pub wanted : ℕ
  pub role : Role

-- what is not lent to a function is left
module _ (m : Lent) where
  abbrev pub leaves : (table session out words answer : List ℕ) → Lent
  leaves t s o v a = record { table = t; pool = m.pool; session = s; stream = m.stream; out = o; words = v; answer = a }

  abbrev pub leaves_stream : (pool stream out answer : List ℕ) → Lent
  leaves_stream p w o a = record { table = m.table; pool = p; session = m.session; stream = w; out = o; words = m.words; answer = a }

abbrev pub says : List ℕ → Role → ℕ → Lent → (due : ℕ) → Said
says ns r n l d = record { number = n; left = l; refusals = ns; behind = []; tag = false; ends = []; due = d; wanted = 0; role = r }

-- the same with a tag's verdict
abbrev pub verdict : Bool → Said → Said
verdict b x =
    let l = x.left in
    record { number = x.number; left = l; refusals = x.refusals; behind = x.behind; tag = b; ends = x.ends; due = x.due; wanted = x.wanted; role = x.role }

-- of a function that tells in its answer how many bytes it wrote
abbrev pub writes : List ℕ → ℕ → Lent → Said
writes ns n l = says ns nothing n l (get_or l.answer 0 0)

abbrev pub opens : Opening → datagrams.AfterOpen → Lent → Said
opens o x m = record {
  number = x.number;
  left = leaves m x.table m.session x.out m.words x.answer;
  refusals = 1 ∷ 2 ∷ 3 ∷ 4 ∷ 5 ∷ 6 ∷ 7 ∷ 13 ∷ 8 ∷ 9 ∷ [];
  behind = 5 ∷ 6 ∷ 7 ∷ 13 ∷ 8 ∷ 9 ∷ [];
  tag = datagram_authentic (cipher_of o.method) o.key o.datagram;
  ends = [];
  due = length o.datagram - overhead (cipher_of o.method);
  wanted = 0;
  role = opens-datagram o;
}

-- of a head with b bytes behind its salt and its fixed header
abbrev pub head : (f : Front) → (b : ℕ) → (refusals behind : List ℕ) → Role → ℕ → Lent → Said
head f b ns late r n l = record {
  number = n;
  left = l;
  refusals = ns;
  behind = late;
  tag = authentic_at (salted_key f.method f.key (take (salt_length f.method) f.bytes)) 0 (take (27 + b) (drop (salt_length f.method) f.bytes));
  ends = [];
  due = 0;
  wanted = salt_length f.method + 27 + b;
  role = r;
}

-- words of a stream: its turn (0 ended, 1 a length is next, 2 a payload, 3 it seals, 4 a variable header), method, counter, how many bytes
-- that payload or variable header has, and the subkey
abbrev pub at : List ℕ → ℕ → ℕ
at w i = get_or w i 0

abbrev pub key_at : List ℕ → (cipher : Cipher) → (length : ℕ) → Keyed
key_at w cipher k = keyed cipher (key_of (record { a = at w 4; b = at w 5; c = at w 6; d = at w 7 }) k)

-- how many bytes the next piece has, and how many are due at a turn
abbrev pub piece : List ℕ → ℕ
piece w = cond (eqb (at w 0) 1) 2 (at w 3)

abbrev pub due_at : (turn : ℕ) → List ℕ → ℕ
due_at turn w = cond (eqb (at w 0) turn) (at w 3) 0

abbrev pub opens_piece : AfterChunk → Lent → (bytes : List ℕ) → Keyed → (due : ℕ) → (refusals behind : List ℕ) → Said
opens_piece x m s k d ns late = record {
  number = x.number;
  left = leaves_stream m m.pool x.stream x.out x.answer;
  refusals = ns;
  behind = late;
  tag = authentic_at k (at m.stream 2) (take (piece m.stream + 16) s);
  ends = 4 ∷ late;
  due = d;
  wanted = piece m.stream + 16;
  role = nothing;
}

unfoldable pub step : Call → Lent → Said
step (relay_table_new R) m =
    says (1 ∷ []) makes-table (datagrams.settings_number (table.make_lawful R m.table))
    (leaves m (table.made R m.table) m.session m.out m.words m.answer) 0
step (relay_session_begin_client id) m =
    let x = datagrams.begins (Ok (client_sender id)) m.session in
    says (1 ∷ []) nothing x.number (leaves m m.table x.session m.out m.words m.answer) 0
step (relay_session_begin_server id client clock) m =
    let x = datagrams.begins (reply_begun m.table clock id client) m.session in
    says (1 ∷ 12 ∷ []) nothing x.number (leaves m m.table x.session m.out m.words m.answer) 0
step (relay_datagram_seal method key nonce clock address padding payload) m =
    let x = datagrams.seals_datagram method key nonce m.session clock address padding payload m.out m.answer in
    writes (1 ∷ 12 ∷ 11 ∷ 2 ∷ 3 ∷ []) x.number (leaves m m.table x.session x.out m.words x.answer)
step (relay_datagram_open_server method key clock first second port s) m =
    opens (record { method = method; key = key; client = None; clock = clock; peer = datagrams.caller_of first second port; datagram = s })
    (datagrams.opens_datagram method key None clock (datagrams.caller_of first second port) s m.table m.out m.answer) m
step (relay_datagram_open_client method key clock client first second port s) m =
    opens (record { method = method; key = key; client = Some client; clock = clock; peer = datagrams.caller_of first second port; datagram = s })
    (datagrams.opens_datagram method key (Some client) clock (datagrams.caller_of first second port) s m.table m.out m.answer) m
step (relay_pool_new method) m =
    says (1 ∷ []) makes-pool (datagrams.settings_number (pool.make_lawful method m.pool))
    (leaves_stream m (pool.made method m.pool) m.stream m.out m.answer) 0
step (relay_stream_seal_request method key salt clock address padding payload) m =
    let x = heads.seals_request method key salt clock address padding payload m.out m.stream m.answer in
    writes (1 ∷ 12 ∷ 2 ∷ 3 ∷ []) x.number (leaves_stream m m.pool x.stream x.out x.answer)
step (relay_stream_seal_response method key salt request_salt clock payload) m =
    let x = heads.seals_response method key salt request_salt clock payload m.out m.stream m.answer in
    writes (1 ∷ 14 ∷ 2 ∷ 3 ∷ []) x.number (leaves_stream m m.pool x.stream x.out x.answer)
step (relay_stream_seal_chunk payload) m =
    let x = heads.seals_chunk m.stream payload m.out m.answer in
    writes (1 ∷ 14 ∷ 4 ∷ 11 ∷ 2 ∷ 3 ∷ []) x.number (leaves_stream m m.pool x.stream x.out x.answer)
step (relay_stream_open_request method key clock s) m =
    let x = heads.opens_request method key clock s m.pool m.stream m.answer in
    let f : Front = record { method = method; key = key; clock = clock; bytes = s } in
    head f 0 (1 ∷ 10 ∷ 4 ∷ 6 ∷ 7 ∷ 8 ∷ 9 ∷ []) (6 ∷ 7 ∷ 8 ∷ 9 ∷ []) (opens-front f) x.number
    (leaves_stream m x.pool x.stream m.out x.answer)
step (relay_stream_open_variable s) m =
    opens_piece (heads.opens_variable m.stream s m.out m.answer) m s (key_at m.stream (cipher_of (at m.stream 1)) (key_length (at m.stream 1)))
    (due_at 4 m.stream) (1 ∷ 4 ∷ 10 ∷ 3 ∷ 5 ∷ []) (5 ∷ [])
step (relay_stream_open_response method key clock request_salt s) m =
    let x = heads.opens_response method key clock request_salt s m.stream m.answer in
    head (record { method = method; key = key; clock = clock; bytes = s }) (salt_length method) (1 ∷ 10 ∷ 4 ∷ 6 ∷ 7 ∷ 13 ∷ 14 ∷ []) (6 ∷ 7 ∷ 13 ∷ 14 ∷ [])
    nothing x.number (leaves_stream m m.pool x.stream m.out x.answer)
step (relay_stream_open_chunk s) m =
    opens_piece (heads.opens_chunk m.stream s m.out m.answer) m s (key_at m.stream (cipher_of (at m.stream 1)) (key_length (at m.stream 1)))
    (due_at 2 m.stream) (1 ∷ 4 ∷ 11 ∷ 10 ∷ 3 ∷ 14 ∷ []) (14 ∷ [])
step (relay_sip004_datagram_seal method key salt payload) m =
    let x = edition2017.seals_datagram method key salt payload m.out m.answer in
    writes (1 ∷ 2 ∷ 3 ∷ []) x.number (leaves m m.table m.session x.out m.words x.answer)
step (relay_sip004_datagram_open method key s) m =
    let x = edition2017.opens_datagram method key s m.out m.answer in
    verdict (body_authentic key s)
    (says (1 ∷ 2 ∷ 3 ∷ 4 ∷ []) nothing x.number (leaves m m.table m.session x.out m.words x.answer) (length s - (length key + 16)))
step (relay_sip004_stream_begin_seal method key salt) m =
    let x = edition2017.begins_sealing method key salt m.stream in
    says (1 ∷ []) nothing x.number (leaves_stream m m.pool x.stream m.out m.answer) 0
step (relay_sip004_stream_begin_open method key salt) m =
    let x = edition2017.begins_opening method key salt m.stream in
    says (1 ∷ []) nothing x.number (leaves_stream m m.pool x.stream m.out m.answer) 0
step (relay_sip004_stream_seal_chunk payload) m =
    let x = edition2017.seals_chunk m.stream payload m.out m.answer in
    writes (1 ∷ 4 ∷ 11 ∷ 2 ∷ 3 ∷ []) x.number (leaves_stream m m.pool x.stream x.out x.answer)
step (relay_sip004_stream_open_chunk s) m =
    opens_piece (edition2017.opens_chunk m.stream s m.out m.answer) m s (key_at m.stream AesGcm (sip004.key_length (at m.stream 1)))
    (due_at 2 m.stream) (1 ∷ 4 ∷ 11 ∷ 10 ∷ 3 ∷ 5 ∷ []) (5 ∷ [])
step (relay_plan_make method address limit report) m =
    let x = plans.makes_plan method address limit report m.words m.answer in
    says (1 ∷ 12 ∷ 3 ∷ []) nothing x.number (leaves m m.table m.session m.out x.plan x.answer) 0
step (relay_plan_check method address limit report plan) m =
    let x = plans.checks_plan method address limit report plan m.answer in
    says (1 ∷ 12 ∷ []) nothing x.number (leaves m m.table m.session m.out m.words x.answer) 0
step (relay_recording_compare first second) m =
    let x = recordings.compares_recordings first second m.out m.answer in
    writes (1 ∷ 2 ∷ 5 ∷ 3 ∷ []) x.number (leaves m m.table m.session x.out m.words x.answer)
step relay_recording_mend m =
    let x = recordings.mends_recording m.out m.words m.answer in
    says (1 ∷ 2 ∷ 3 ∷ []) nothing x.number (leaves m m.table m.session x.file x.report x.answer) (length m.out)
step (relay_settings_read file) m =
    let x = settings.reads_settings file m.answer in
    says (1 ∷ 2 ∷ 4 ∷ 5 ∷ 15 ∷ []) nothing x.number (leaves m m.table m.session m.out m.words x.answer) 0
step (relay_settings_write edition ws bodies) m =
    let x = settings.writes_settings edition ws bodies m.out m.answer in
    writes (1 ∷ 12 ∷ 2 ∷ 3 ∷ []) x.number (leaves m m.table m.session x.out m.words x.answer)

-- ---- runs

-- a host's memory: any number of tables, pools, sending sessions and streams, each at a place of its own
pub record Memory : Type 0 where
  pub tables : ℕ → List ℕ
  pub pools : ℕ → List ℕ
  pub sessions : ℕ → List ℕ
  pub streams : ℕ → List ℕ

-- a call, the places that it is lent, and buffers with whatever they hold
pub record Use : Type 0 where
  pub call : Call
  pub table : ℕ
  pub pool : ℕ
  pub session : ℕ
  pub stream : ℕ
  pub out : List ℕ
  pub words : List ℕ
  pub answer : List ℕ

abbrev pub lend : Memory → Use → Lent
lend m u = record {
  table = m.tables u.table;
  pool = m.pools u.pool;
  session = m.sessions u.session;
  stream = m.streams u.stream;
  out = u.out;
  words = u.words;
  answer = u.answer;
}

abbrev pub does : Memory → Use → Said
does m u = step u.call (lend m u)

abbrev pub placed : (ℕ → List ℕ) → ℕ → List ℕ → ℕ → List ℕ
placed f k x i = cond (eqb i k) x (f i)

abbrev pub next : Memory → Use → Memory
next m u = record {
  tables = placed m.tables u.table (does m u).left.table;
  pools = placed m.pools u.pool (does m u).left.pool;
  sessions = placed m.sessions u.session (does m u).left.session;
  streams = placed m.streams u.stream (does m u).left.stream;
}

abbrev pub after : Memory → List Use → Memory
after m [] = m
after m (u ∷ us) = after (next m u) us

-- ---- a run as one table sees it

-- what a call does to tables and pools does not depend on what it is lent
abbrev pub role_of : Call → Role
role_of c = (step c (record { table = []; pool = []; session = []; stream = []; out = []; words = []; answer = [] })).role

abbrev pub opening_in : Role → Option Opening
opening_in nothing = None
opening_in makes-table = None
opening_in (opens-datagram o) = Some o
opening_in makes-pool = None
opening_in (opens-front f) = None

-- the calls that open datagrams on table k, as the book is fed with them (session_book/specs/Call.antt), and what they answer
abbrev pub on_table : ℕ → Use → Option Opening
on_table k u = cond (eqb u.table k) (opening_in (role_of u.call)) None

abbrev pub picked : {A B : Type 0} → Option B → (B → A) → List A → List A
picked None f l = l
picked (Some o) f l = f o ∷ l

abbrev pub book_call : Use → Opening → book.Call
book_call u o = record { clock = o.clock; peer = o.peer; datagram = o.datagram; output = u.out; client = o.client }

-- a refusal's number, or the nine words; and the buffer
abbrev pub outcome : Said → book.Outcome (List ℕ)
outcome x = record { answer = cond (eqb x.number 0) (book.opened x.left.answer) (book.refused x.number); output = x.left.out }

abbrev pub calls : ℕ → List Use → List book.Call
calls k [] = []
calls k (u ∷ us) = picked (on_table k u) (book_call u) (calls k us)

abbrev pub outcomes : ℕ → Memory → List Use → List (book.Outcome (List ℕ))
outcomes k m [] = []
outcomes k m (u ∷ us) = picked (on_table k u) (λ o. outcome (does m u)) (outcomes k (next m u) us)

-- What the arguments of such a call decide, for a method and a key, is what the exported function answers on a table just made.
abbrev pub exported : ℕ → List ℕ → Option ℕ → book.Call → Call
exported method key None c =
    relay_datagram_open_server method key c.clock c.peer.first c.peer.second c.peer.port c.datagram
exported method key (Some id) c =
    relay_datagram_open_client method key c.clock id c.peer.first c.peer.second c.peer.port c.datagram

abbrev pub lent_alone : (table out answer : List ℕ) → Lent
lent_alone t o a = record { table = t; pool = []; session = []; stream = []; out = o; words = []; answer = a }

abbrev pub new_table : List ℕ
new_table = (step (relay_table_new 60) (lent_alone (replicate 833 0) [] [])).left.table

abbrev pub alone : ℕ → List ℕ → book.Call → Said
alone method key c = step (exported method key c.client c) (lent_alone new_table c.output (replicate 9 0))

abbrev pub decides : ℕ → List ℕ → book.Call → book.Decision (List ℕ)
decides method key c =
    let x = alone method key c in
    cond (eqb x.number 0) (book.reaches (at x.left.answer 4) (at x.left.answer 5) x.left.answer (take x.due x.left.out))
    (book.early x.number x.left.out)

-- the session that a call is of: that of the datagrams which are not refused for their arguments
abbrev pub session_of_call : ℕ → List ℕ → book.Call → Option ℕ
session_of_call method key c = let x = alone method key c in cond (eqb x.number 0) (Some (at x.left.answer 4)) None

-- ---- a run as one pool sees it

abbrev pub front_in : Role → Option Front
front_in nothing = None
front_in makes-table = None
front_in (opens-datagram o) = None
front_in makes-pool = None
front_in (opens-front f) = Some f

abbrev pub on_pool : ℕ → Use → Option Front
on_pool k u = cond (eqb u.pool k) (front_in (role_of u.call)) None

abbrev pub front_clocks : ℕ → List Use → List ℕ
front_clocks k [] = []
front_clocks k (u ∷ us) = picked (on_pool k u) (λ f. f.clock) (front_clocks k us)

-- salt and fixed part of the heads that were accepted
abbrev pub accepted_fronts : (k method : ℕ) → Memory → List Use → List (List ℕ)
accepted_fronts k method m [] = []
accepted_fronts k method m (u ∷ us) =
    cond (eqb (does m u).number 0) (picked (on_pool k u) (λ f. take (salt_length method + 27) f.bytes) (accepted_fronts k method (next m u) us))
    (accepted_fronts k method (next m u) us)

-- ---- calls on what came in

-- the calls that open what came in
pub data Opener : (List ℕ → Call) → Type 0 where
  server : (method : ℕ) (key : List ℕ) (clock first second port : ℕ) → Opener (relay_datagram_open_server method key clock first second port)
  client : (method : ℕ) (key : List ℕ) (clock id first second port : ℕ) → Opener (relay_datagram_open_client method key clock id first second port)
  request : (method : ℕ) (key : List ℕ) (clock : ℕ) → Opener (relay_stream_open_request method key clock)
  variable : Opener relay_stream_open_variable
  response : (method : ℕ) (key : List ℕ) (clock : ℕ) (request_salt : List ℕ) → Opener (relay_stream_open_response method key clock request_salt)
  chunk : Opener relay_stream_open_chunk
  datagram-2017 : (method : ℕ) (key : List ℕ) → Opener (relay_sip004_datagram_open method key)
  chunk-2017 : Opener relay_sip004_stream_open_chunk

abbrev pub session_in : Role → ℕ
session_in nothing = 0
session_in makes-table = 0
session_in (opens-datagram o) = session_of (cipher_of o.method) o.key o.datagram
session_in makes-pool = 0
session_in (opens-front f) = 0

-- a call is lent a stream, and an answer of nine words
abbrev pub on_stream : (stream out answer : List ℕ) → Lent
on_stream w o a = record { table = []; pool = []; session = []; stream = w; out = o; words = []; answer = a }

-- the bytes that a call wrote, as its answer tells
abbrev pub sent : Said → List ℕ
sent x = take (at x.left.answer 0) x.left.out

-- Datagrams: the other side's call on what a session of the words w sealed, at its own clock.
abbrev pub other_side : (w : List ℕ) → (method : ℕ) → List ℕ → (clock first second port : ℕ) → List ℕ → Call
other_side w method key clock first second port s =
    cond (eqb (at w 0) 0) (relay_datagram_open_server method key clock first second port s)
    (relay_datagram_open_client method key clock (at w 2) first second port s)
