-- What is proved of the functions in include/relay.h, whatever words and lengths a host lends them. Every statement is about `step` and
-- runs of it (`Calls`), which say what a call returns and leaves by the terms of its contract.
-- Assumes nothing.
use Rattle.std.specs.Prelude.{◌≡◌, ◌≢◌, ◌↔◌, true, false, cond, List, [], ◌∷◌, ◌++◌, map, ℕ, ◌+◌, ◌-◌, ◌*◌, ◌^◌, ◌≤◌, ◌<◌, min, eqb, length, get_or, set, take, drop, replicate, Some}
use Rattle.std.proofs.lemmas.List.Edits.{sets}
use Rattle.octets.specs.Buffers.{Octets, put}
use Rattle.protocol.specs.Orders.{among}
use Rattle.protocol.specs.Method.{key_fits, salt_length, cipher_of}
use Rattle.datagram_read.specs.Opening.{plain_of, session_of}
use Rattle.session_book.specs.Call as book
use Rattle.session_book.specs.Book.{book_outcomes, book_after}
use Rattle.session_book.specs.Demand3.{Each, Pairs, Forward, last_reading, View, book_session, table_session, OneRecordEach, Rearranges, call_at, NotFull}
use Rattle.session_book.specs.Counts.{CountsCalls}
use Rattle.session_book.specs.Once.{Once}
use Rattle.demands.specs.Replies.{Clashes}
use Rattle.protocol.specs.Time.{time_valid}
use Rattle.demands.specs.Datagrams.{Lawful, Acceptable}
use Rattle.demands.specs.StreamsOpen.{RequestOpens, VariableOpens, ResponseOpens}
use Rattle.stream_chunks.specs.Opens.{StepOpens}
use Rattle.stream_pieces.specs.Framing.{framing_of}
use Rattle.sip004_stream.specs.Streams as streams2017
use Rattle.sip004_demands.specs.Datagrams as sip004_lawful
use Rattle.stream_answers.specs.Chunks as chunks
use Rattle.words.specs.States.{receiver_in}
use Rattle.datagram_read.specs.declared.Header.{Header}
use Rattle.stream_open_request.specs.declared.Request.{Request}
use Rattle.stream_open_response.specs.declared.Response.{Response}
use Rattle.stream_open_variable.specs.declared.VariableHeader.{VariableHeader}
use Rattle.stream_open.specs.declared.Receiver.{Receiver}
use Rattle.stream_open.specs.declared.Chunk.{Chunk}
use Rattle.socks5.specs.declared.Address.{Address}
use Rattle.socks5.specs.Address.{parse_at, moved}
use Rattle.datagram_parts.specs.Headers.{main_start}
use Rattle.words.specs.Answers.{kind_of, first_of, second_of, header_words}
use Rattle.guarantees.specs.Calls.{Call, Front, Lent, Memory, Opening, Role, Said, Use, accepted_fronts, after, at, calls, decides, does, front_clocks, lend, makes-pool, makes-table, next, nothing, on_pool, opens-datagram, opens-front, outcomes, role_of, session_of_call, step, relay_datagram_seal, relay_session_begin_server, relay_sip004_datagram_open, relay_sip004_datagram_seal, relay_sip004_stream_open_chunk, relay_stream_open_chunk, relay_stream_open_request, relay_stream_open_response, relay_stream_open_variable, relay_stream_seal_chunk, relay_stream_seal_request, relay_stream_seal_response, relay_sip004_stream_seal_chunk, relay_sip004_stream_begin_seal, relay_sip004_stream_begin_open, relay_table_new, on_stream, sent, other_side, Opener, session_in}
use Rattle.guarantees.specs.DatagramOrder.{record_of, first_refusal, open_rules}

-- ---- demand 1, of one call

-- one word of the table is another: the repeats of the datagram's session, one more, up to 2^64 - 1
pub record RepeatCounted (clock id : ℕ) (t t' : List ℕ) : Type 0 where
  pub place : ℕ
  pub its_own : record_of t clock id ≡ Some place
  pub one_word : t' ≡ set t (1 + place * 13 + 12) (min (at t (1 + place * 13 + 12) + 1) (2 ^ 64 - 1))

-- what refusal 8 leaves of a table
abbrev pub Repeated : Role → List ℕ → List ℕ → Type 0
Repeated nothing t t' = t' ≡ t
Repeated makes-table t t' = t' ≡ t
Repeated (opens-datagram o) t t' = RepeatCounted o.clock (session_of (cipher_of o.method) o.key o.datagram) t t'
Repeated makes-pool t t' = t' ≡ t
Repeated (opens-front f) t t' = t' ≡ t

-- a refusal
pub record Refused (m : Lent) (x : Said) : Type 0 where
  pub table_kept : x.number ≢ 8 → x.left.table ≡ m.table
  pub repeat-counted : x.number ≡ 8 → Repeated x.role m.table x.left.table
  pub pool-kept : x.left.pool ≡ m.pool
  pub session-kept : x.left.session ≡ m.session
  pub words-kept : x.left.words ≡ m.words
  -- a stream is ended by writing its turn, or left
  pub stream-left : x.left.stream ≡ cond (among x.ends x.number) (set m.stream 0 0) m.stream
  -- before the tag is good the output is left; behind it the bytes due are zeros
  pub out-left : x.left.out ≡ cond (among x.behind x.number) (put m.out 0 (replicate x.due 0)) m.out
  pub behind-tag : among x.behind x.number ≡ true → (x.tag ≡ true) × (x.due ≤ length m.out)
  pub answer-kept : x.number ≢ 10 → x.number ≢ 15 → x.left.answer ≡ m.answer
  pub wanted-told : x.number ≡ 10 → x.left.answer ≡ set m.answer 0 x.wanted
  pub setting-told : x.number ≡ 15 → (k : ℕ) × (x.left.answer ≡ set m.answer 0 k)

pub record Ends (m : Lent) (x : Said) : Type 0 where
  pub listed : among (0 ∷ x.refusals) x.number ≡ true
  pub refused : x.number ≢ 0 → Refused m x
  pub past-due-kept : drop x.due x.left.out ≡ drop x.due m.out
  pub length-kept : length x.left.out ≡ length m.out

-- every call of every list of calls of all functions, on whatever memory; what is at other places than those lent is left by `next`
abbrev pub EachEnds : Memory → List Use → Type 0
EachEnds m [] = Unit {0}
EachEnds m (u ∷ us) = Ends (lend m u) (does m u) × EachEnds (next m u) us

abbrev pub Demand1 : Type 0
Demand1 = (m : Memory) (us : List Use) → EachEnds m us

-- ---- demand 2: accepted exactly when

-- Each of these returns 0 exactly when what it is lent has its lengths and what came in is as demands/specs says, in words of SIP022:
-- `Lawful` are table, key, length and room; `Acceptable` is an authentic datagram with a valid header for us, a time within 30 seconds of the
-- clock, and a packet ID that is fresh in its session or begins one; `RequestOpens` and `ResponseOpens` are authentic fixed headers of their
-- type and time, with a new salt and room for it, or our request's salt and a payload; `VariableOpens` and `StepOpens` are authentic pieces at
-- the stream's turn and counter, with a valid variable header or a length within the edition's. `receiver_in` reads the state of a
-- stream from its words (words/specs/States.antt), and `chunks.opens` tests that they are of one that opens.
pub record Exactly : Type 0 where
  -- what a call that opens a datagram returns is the first of its refusals whose condition holds, and 0 where none does (`DatagramOrder`)
  pub datagram-order : (c : Call) (o : Opening) (m : Lent) → role_of c ≡ opens-datagram o → (step c m).number ≡ first_refusal (open_rules o m)
  pub datagrams : (c : Call) (o : Opening) (m : Lent) → role_of c ≡ opens-datagram o → ((step c m).number ≡ 0)
      ↔ ((h : Header) × ((length m.answer ≡ 9) × (Lawful o.method o.key o.datagram m.table m.out
      × Acceptable o.method o.key o.client o.clock o.datagram m.table h)))
  -- the answer has the header's nine words then, and the output the plaintext
  pub datagram-words : (c : Call) (o : Opening) (m : Lent) → role_of c ≡ opens-datagram o → length m.answer ≡ 9
      → Lawful o.method o.key o.datagram m.table m.out
      → (h : Header) → Acceptable o.method o.key o.client o.clock o.datagram m.table h
      → ((step c m).left.answer ≡ header_words h) × ((step c m).left.out ≡ put m.out 0 (plain_of (cipher_of o.method) o.key o.datagram))
  pub fronts : (method : ℕ) (key : List ℕ) (clock : ℕ) (s : List ℕ) (m : Lent) → ((step (relay_stream_open_request method key clock s) m).number ≡ 0)
      ↔ ((h : Request) × ((st : Receiver) × ((length m.stream ≡ 8) × ((length m.answer ≡ 9) × RequestOpens method key clock s m.pool h st))))
  pub variable-headers : (s : List ℕ) (m : Lent) → ((step (relay_stream_open_variable s) m).number ≡ 0)
      ↔ ((h : VariableHeader) × ((chunks.opens m.stream m.answer ≡ true) × VariableOpens (receiver_in m.stream) s (length m.out) h))
  pub pieces : (s : List ℕ) (m : Lent) → ((step (relay_stream_open_chunk s) m).number ≡ 0)
      ↔ ((c : Chunk) × ((chunks.opens m.stream m.answer ≡ true) × StepOpens (framing_of (at m.stream 1)) (receiver_in m.stream) s (length m.out) c))
  pub pieces-2017 : (s : List ℕ) (m : Lent) → ((step (relay_sip004_stream_open_chunk s) m).number ≡ 0)
      ↔ ((c : Chunk) × ((chunks.opens m.stream m.answer ≡ true) × StepOpens (streams2017.framing_of (at m.stream 1)) (receiver_in m.stream) s (length m.out) c))
  pub responses : (method : ℕ) (key : List ℕ) (clock : ℕ) (request_salt s : List ℕ) (m : Lent)
      → ((step (relay_stream_open_response method key clock request_salt s) m).number ≡ 0)
      ↔ ((key_fits method (length key) ≡ true) × ((length request_salt ≡ salt_length method)
      × ((h : Response) × ((st : Receiver) × ((length m.stream ≡ 8) × ((length m.answer ≡ 9) × ResponseOpens method key clock request_salt s h st))))))
  pub datagrams-2017 : (method : ℕ) (key s : List ℕ) (m : Lent) → ((step (relay_sip004_datagram_open method key s) m).number ≡ 0)
      ↔ (sip004_lawful.Lawful method key s m.out × ((length m.answer ≡ 9) × sip004_lawful.TagGood key s))

-- ---- demand 2: what is sealed opens to what was given

-- Chunks of an edition: `seals` and `opens` are its two calls. The stream that opens has the sealer's words with turn 1; what comes in
-- are a chunk's bytes and whatever is behind them.
module _ (seals opens : List ℕ → Call) where
  -- the call for the length, and the one for the payload behind it
  abbrev pub length_call : (w bytes out answer : List ℕ) → Said
  length_call w bytes out answer = step (opens bytes) (on_stream w out answer)

  abbrev pub payload_call : (w bytes out answer again : List ℕ) → Said
  payload_call w bytes out answer again = step (opens (drop 18 bytes)) (on_stream (length_call w bytes out answer).left.stream out again)

  pub record ChunkBack (w payload bytes next rest out answer again : List ℕ) : Type 0 where
    pub length-read : (length_call (set w 0 1) bytes out answer).number ≡ 0
    pub length-told : (length_call (set w 0 1) bytes out answer).left.answer ≡ sets answer 0 (18 ∷ length payload ∷ [])
    pub payload-read : (payload_call (set w 0 1) bytes out answer again).number ≡ 0
    pub payload-told : (payload_call (set w 0 1) bytes out answer again).left.answer ≡ sets again 0 ((length payload + 16) ∷ length payload ∷ [])
    pub payload-there : (payload_call (set w 0 1) bytes out answer again).left.out ≡ put out 0 payload
    pub in_step : (payload_call (set w 0 1) bytes out answer again).left.stream ≡ set next 0 1
    pub left : drop (length payload + 16) (drop 18 bytes) ≡ rest

  abbrev pub ChunksBack : Type 0
  ChunksBack =
      (m : Lent) (payload rest out answer again : List ℕ) → (step (seals payload) m).number ≡ 0 → length answer ≡ 9 → length again ≡ 9
      → length payload ≤ length out
      → ChunkBack m.stream payload (sent (step (seals payload) m) ++ rest) (step (seals payload) m).left.stream rest out answer again

  -- whole streams: payloads sealed one after another from the words w, into whatever buffers were lent, which sent these bytes
  abbrev pub SealedAll : (w : List ℕ) → List (List ℕ) → (bytes next : List ℕ) → Type 0
  SealedAll w [] bytes next = (bytes ≡ []) × (next ≡ w)
  SealedAll w (p ∷ ps) bytes next =
      (m : Lent) × ((rest : List ℕ) × ((m.stream ≡ w) × (((step (seals p) m).number ≡ 0)
      × ((bytes ≡ sent (step (seals p) m) ++ rest) × SealedAll (step (seals p) m).left.stream ps rest next))))

  -- opened by two calls for each, into whatever buffers have room
  abbrev pub OpenedAll : (w bytes : List ℕ) → List (List ℕ) → (rest next : List ℕ) → Type 0
  OpenedAll w bytes [] rest next = (bytes ≡ rest) × (w ≡ next)
  OpenedAll w bytes (p ∷ ps) rest next =
      (out answer again : List ℕ) → length answer ≡ 9 → length again ≡ 9 → length p ≤ length out
      → ((length_call w bytes out answer).number ≡ 0)
      × (((payload_call w bytes out answer again).number ≡ 0)
      × (((payload_call w bytes out answer again).left.out ≡ put out 0 p)
      × OpenedAll (payload_call w bytes out answer again).left.stream (drop (length p + 16) (drop 18 bytes)) ps rest next))

  abbrev pub StreamsBack : Type 0
  StreamsBack =
      (w : List ℕ) (payloads : List (List ℕ)) (bytes next rest : List ℕ) → SealedAll w payloads bytes next
      → OpenedAll (set w 0 1) (bytes ++ rest) payloads rest (set next 0 1)

-- It is refused for no other reason than what is lent (1), room (3), its clock (7), or the session (8 and 9). Accepted, its nine words are
-- those that were given: the address, session ID, packet ID, clock and padding, and the place of the payload.
pub record DatagramBack (w : List ℕ) (method clock : ℕ) (address : List ℕ) (padding : ℕ) (payload : List ℕ) (y : Said) : Type 0 where
  pub refused-so : among (0 ∷ 1 ∷ 3 ∷ 7 ∷ 8 ∷ 9 ∷ []) y.number ≡ true
  pub target : Address
  pub target-given : parse_at address 0 ≡ Some target
  pub place : ℕ
  pub place_is : place ≡ main_start (cipher_of method) + cond (eqb (at w 0) 0) 11 19 + padding
  pub nine_words : y.number ≡ 0 → y.left.answer
      ≡ kind_of target.target ∷ first_of (moved place target.target) ∷ second_of target.target ∷ target.port
      ∷ at w 1 ∷ at w 3 ∷ clock ∷ padding ∷ (place + length address) ∷ []
  pub payload-there : y.number ≡ 0 → take (length payload) (drop (place + length address) y.left.out) ≡ payload

abbrev pub DatagramsBack : Type 0
DatagramsBack =
    (m : Lent) (method : ℕ) (key nonce : List ℕ) (clock : ℕ) (address : List ℕ) (padding : ℕ) (payload : List ℕ)
    → (step (relay_datagram_seal method key nonce clock address padding payload) m).number ≡ 0 → Octets key → ((i : ℕ) → at m.session i < 2 ^ 64) → clock < 2 ^ 64
    → (later first second port : ℕ) (b : Lent)
    → DatagramBack m.session method clock address padding payload
    (step (other_side m.session method key later first second port (sent (step (relay_datagram_seal method key nonce clock address padding payload) m))) b)

-- ---- demand 2: heads, and the 2017 edition's datagrams

-- a request's head with whatever behind it, by two calls: on a pool of its method, unless the salt is kept there (8) or it is full (9), and
-- then on the stream
module _ (method : ℕ) (key salt : List ℕ) (clock : ℕ) (address : List ℕ) (padding : ℕ) (payload : List ℕ) (x : Said) where
  abbrev pub variable_bytes : ℕ
  variable_bytes = length address + 2 + padding + length payload

  pub record RequestBack (y z : Said) (answer out again : List ℕ) : Type 0 where
    pub front_read : y.number ≡ 0
    pub front-told : y.left.answer ≡ sets answer 0 ((length salt + 27) ∷ variable_bytes ∷ clock ∷ [])
    pub target : Address
    pub target-given : parse_at address 0 ≡ Some target
    pub header_read : z.number ≡ 0
    pub header-told : z.left.answer
        ≡ sets again 0 (kind_of target.target ∷ first_of target.target ∷ second_of target.target ∷ target.port
        ∷ padding ∷ (length address + 2 + padding) ∷ (variable_bytes + 16) ∷ variable_bytes ∷ [])
    pub payload-there : take (length payload) (drop (length address + 2 + padding) z.left.out) ≡ payload
    pub in_step : z.left.stream ≡ set x.left.stream 0 1

abbrev pub RequestsBack : Type 0
RequestsBack =
    (m : Lent) (method : ℕ) (key salt : List ℕ) (clock : ℕ) (address : List ℕ) (padding : ℕ) (payload rest : List ℕ)
    → (step (relay_stream_seal_request method key salt clock address padding payload) m).number ≡ 0 → clock < 2 ^ 64
    → (later : ℕ) → time_valid clock later ≡ true → (b : Lent) → length b.stream ≡ 8 → length b.answer ≡ 9
    → length b.pool ≡ 1537 → at b.pool 0 ≡ method
    → (out again : List ℕ) → length again ≡ 9 → length address + 2 + padding + length payload ≤ length out
    → let x = step (relay_stream_seal_request method key salt clock address padding payload) m in
    let y = step (relay_stream_open_request method key later (sent x ++ rest)) b in
    y.number ≢ 8 → y.number ≢ 9 → RequestBack method key salt clock address padding payload x y
    (step (relay_stream_open_variable (drop (length salt + 27) (sent x ++ rest))) (on_stream y.left.stream out again)) b.answer out again

-- a response's head with its first payload, by two calls
pub record ResponseBack (salt request_salt : List ℕ) (clock : ℕ) (payload : List ℕ) (x y z : Said) (answer out again : List ℕ) : Type 0 where
  pub head_read : y.number ≡ 0
  pub head-told : y.left.answer ≡ sets answer 0 ((length salt + 27 + length request_salt) ∷ length payload ∷ clock ∷ [])
  pub payload-read : z.number ≡ 0
  pub payload-there : z.left.out ≡ put out 0 payload
  pub in_step : z.left.stream ≡ set x.left.stream 0 1

abbrev pub ResponsesBack : Type 0
ResponsesBack =
    (m : Lent) (method : ℕ) (key salt request_salt : List ℕ) (clock : ℕ) (payload rest : List ℕ)
    → (step (relay_stream_seal_response method key salt request_salt clock payload) m).number ≡ 0 → clock < 2 ^ 64
    → (later : ℕ) → time_valid clock later ≡ true → (b : Lent) → length b.stream ≡ 8 → length b.answer ≡ 9
    → (out again : List ℕ) → length again ≡ 9 → length payload ≤ length out
    → let x = step (relay_stream_seal_response method key salt request_salt clock payload) m in
    let y = step (relay_stream_open_response method key later request_salt (sent x ++ rest)) b in
    ResponseBack salt request_salt clock payload x y
    (step (relay_stream_open_chunk (drop (length salt + 27 + length request_salt) (sent x ++ rest))) (on_stream y.left.stream out again)) b.answer out again

-- a datagram of the 2017 edition
abbrev pub DatagramsBack2017 : Type 0
DatagramsBack2017 =
    (m : Lent) (method : ℕ) (key salt payload : List ℕ) → (step (relay_sip004_datagram_seal method key salt payload) m).number ≡ 0
    → (b : Lent) → length b.answer ≡ 9 → length payload ≤ length b.out
    → let y = step (relay_sip004_datagram_open method key (sent (step (relay_sip004_datagram_seal method key salt payload) m))) b in
    (y.number ≡ 0) × ((at y.left.answer 0 ≡ length payload) × (take (length payload) y.left.out ≡ payload))

-- a stream of the 2017 edition, begun on both sides with one key and salt
abbrev pub BegunAlike2017 : Type 0
BegunAlike2017 =
    (m b : Lent) (method : ℕ) (key salt : List ℕ) → (step (relay_sip004_stream_begin_seal method key salt) m).number ≡ 0 → length b.stream ≡ 8
    → ((step (relay_sip004_stream_begin_open method key salt) b).number ≡ 0)
    × ((step (relay_sip004_stream_begin_open method key salt) b).left.stream ≡ set (step (relay_sip004_stream_begin_seal method key salt) m).left.stream 0 1)

-- ---- demand 3, of the table that `relay_table_new` made at a place, whatever else is called between

-- What is cited of session_book/specs: the plain book has a page for each session, with every packet ID that it accepted, its last time,
-- address and counts (`Book`); `book_outcomes` are its answers to calls, by what `decides` says of each, and `book_after` its pages behind them.
-- `table_session` and `book_session` show of a session its highest packet ID, marks, last time, address and counts; `OneRecordEach`: no two
-- records are alive for one ID. `Forward`: clocks never go back. `CountsCalls`: the counts are those of the calls answered 0 and 8 since the one
-- that began the session. `Once`: no two accepted byte strings are equal. `Rearranges`: each call comes once, clocks stand as they stood,
-- each session's own calls keep their order. `Clashes`: the book has a page alive for the ID, or it is the client's.

-- table k is lent to no call that makes a table, and to those that open datagrams with one method and key, a port of 16 bits and an
-- answer of nine words
abbrev pub Serves : ℕ → List ℕ → Use → Role → Type 0
Serves method key u nothing = Unit {0}
Serves method key u makes-table = ⊥
Serves method key u (opens-datagram o) = (o.method ≡ method) × ((o.key ≡ key) × ((o.peer.port < 2 ^ 16) × (length u.answer ≡ 9)))
Serves method key u makes-pool = Unit {0}
Serves method key u (opens-front f) = Unit {0}

pub record Run (k method : ℕ) (key : List ℕ) (m : Memory) (R : ℕ) (us : List Use) : Type 0 where
  -- the table was made by an exported call, in whatever memory
  pub before : Memory
  pub maker : Use
  pub retention : ℕ
  pub makes : maker.call ≡ relay_table_new retention
  pub there : maker.table ≡ k
  pub made : (does before maker).number ≡ 0
  pub begins : m ≡ next before maker
  pub remembers : R ≡ at (m.tables k) 0
  pub serves : Each (λ u. u.table ≡ k → Serves method key u (role_of u.call)) us
  pub forward : Forward (calls k us)

-- answers, buffers and sessions are the book's, the counts of a session are those of its calls since it began (K11), and no byte string
-- is accepted twice (K13)
pub record LikeBook (k method : ℕ) (key : List ℕ) (m : Memory) (R : ℕ) (us : List Use) : Type 0 where
  pub answers : outcomes k m us ≡ book_outcomes (decides method key) R [] (calls k us)
  pub sessions : (id : ℕ) → table_session ((after m us).tables k) (last_reading (calls k us)) id
      ≡ book_session R (book_after (decides method key) R [] (calls k us)) (last_reading (calls k us)) id
  pub no-others : OneRecordEach ((after m us).tables k) (last_reading (calls k us))
  pub counts : (id : ℕ) (v : View) → table_session ((after m us).tables k) (last_reading (calls k us)) id ≡ Some v
      → CountsCalls (decides method key) (session_of_call method key) R (calls k us) id v.accepted v.repeats
  pub once : Once (calls k us) (outcomes k m us)

abbrev pub Demand3 : Type 0
Demand3 = (k method : ℕ) (key : List ℕ) (m : Memory) (R : ℕ) (us : List Use) → Run k method key m R us → LikeBook k method key m R us

-- Calls of equal clock may be rearranged, each session's own in order, where none was answered 9: vs is a run from the same memory whose
-- openings are the rearranged ones, whatever else it calls. `o` stands for an outcome past the end; nothing depends on it.
pub record LikeFirst (k : ℕ) (m : Memory) (us vs : List Use) (order : List ℕ) : Type 0 where
  pub room : Each NotFull (outcomes k m vs)
  pub same-outcomes : (o : book.Outcome (List ℕ)) → outcomes k m vs ≡ map (λ i. get_or (outcomes k m us) i o) order
  pub same-sessions : (id : ℕ) → table_session ((after m vs).tables k) (last_reading (calls k vs)) id
      ≡ table_session ((after m us).tables k) (last_reading (calls k us)) id

abbrev pub Rearranged : Type 0
Rearranged =
    (k method : ℕ) (key : List ℕ) (m : Memory) (R : ℕ) (us vs : List Use) → Run k method key m R us → Run k method key m R vs
    → (order : List ℕ) → Rearranges (session_of_call method key) (calls k us) order → calls k vs ≡ map (call_at (calls k us)) order
    → Each NotFull (outcomes k m us) → LikeFirst k m us vs order

-- K12: behind such a run a reply session's ID is refused with 12 exactly where the book has a page alive for it, or it is the client's
abbrev pub Replies : Type 0
Replies =
    (k method : ℕ) (key : List ℕ) (m : Memory) (R : ℕ) (us : List Use) → Run k method key m R us → (id client clock : ℕ) → last_reading (calls k us) ≤ clock
    → (u : Use) → u.call ≡ relay_session_begin_server id client clock → u.table ≡ k → length ((after m us).sessions u.session) ≡ 4
    → ((does (after m us) u).number ≡ 12) ↔ Clashes R clock id client (book_after (decides method key) R [] (calls k us))

-- ---- K4 and K13 of request heads, of whatever pool stands at a place

-- pool k is lent to no call that makes a pool, and to those that open fronts with one method and key, with clocks that never go back
abbrev pub Fronts : ℕ → List ℕ → Role → Type 0
Fronts method key nothing = Unit {0}
Fronts method key makes-table = Unit {0}
Fronts method key (opens-datagram o) = Unit {0}
Fronts method key makes-pool = ⊥
Fronts method key (opens-front f) = (f.method ≡ method) × (f.key ≡ key)

pub record PoolRun (k method : ℕ) (key : List ℕ) (us : List Use) : Type 0 where
  pub serves : Each (λ u. u.pool ≡ k → Fronts method key (role_of u.call)) us
  pub forward : Pairs ◌≤◌ (front_clocks k us)

abbrev pub HeadsOnce : Type 0
HeadsOnce =
    (k method : ℕ) (key : List ℕ) (m : Memory) (us : List Use) → PoolRun k method key us → Pairs (λ a b. a ≢ b) (accepted_fronts k method m us)

-- a salt that x stored stays for 60 seconds, whatever is answered between: y, with the same salt, is refused with 8 or with one before it
abbrev pub SaltStays : Type 0
SaltStays =
    (k method : ℕ) (key : List ℕ) (m : Memory) (x y : Use) (us : List Use) (f g : Front) → PoolRun k method key (x ∷ us ++ y ∷ [])
    → on_pool k x ≡ Some f → on_pool k y ≡ Some g → (does m x).number ≡ 0
    → take (salt_length method) g.bytes ≡ take (salt_length method) f.bytes → g.clock ≤ f.clock + 60
    → among (1 ∷ 10 ∷ 4 ∷ 6 ∷ 7 ∷ 8 ∷ []) (does (after m (x ∷ us)) y).number ≡ true

-- ---- what a refusal tells

-- Two runs on strings of one length, refused alike, leave all the same, provided that a repeat is of the same session: of the plaintext
-- behind a good tag they tell nothing else. Before the tag is found good they tell the length and the tag's verdict alone.
pub record Tells (x y : Said) : Type 0 where
  pub refused-alike : x.number ≢ 0 → y.number ≡ x.number → (x.number ≡ 8 → session_in y.role ≡ session_in x.role) → y.left ≡ x.left
  pub before-tag : x.number ≢ 0 → among x.behind x.number ≡ false → y.tag ≡ x.tag → (y.number ≡ x.number) × (y.left ≡ x.left)

abbrev pub RefusalsTell : Type 0
RefusalsTell = (c : List ℕ → Call) → Opener c → (s t : List ℕ) → length s ≡ length t → (m : Lent) → Tells (step (c s) m) (step (c t) m)

-- ---- all of it

pub record Guarantees : Type 0 where
  pub demand-1 : Demand1
  -- demand 2
  pub exactly : Exactly
  pub datagrams-back : DatagramsBack
  pub requests-back : RequestsBack
  pub responses-back : ResponsesBack
  pub chunks-back : ChunksBack relay_stream_seal_chunk relay_stream_open_chunk
  pub streams-back : StreamsBack relay_stream_seal_chunk relay_stream_open_chunk
  pub datagrams-back-2017 : DatagramsBack2017
  pub begun-alike-2017 : BegunAlike2017
  pub chunks-back-2017 : ChunksBack relay_sip004_stream_seal_chunk relay_sip004_stream_open_chunk
  pub streams-back-2017 : StreamsBack relay_sip004_stream_seal_chunk relay_sip004_stream_open_chunk
  -- demand 3, K11, K12 and K13
  pub demand-3 : Demand3
  pub rearranged : Rearranged
  pub replies : Replies
  pub heads-once : HeadsOnce
  pub salt-stays : SaltStays
  pub refusals-tell : RefusalsTell
