-- What an opener returns before a tag is found good: the first test that fails of a list that knows what came in by its length and by
-- the tag's verdict alone.
-- Assumes nothing.
use mathlib.Core.Path.{◌≡◌, refl, sym, ap, ◌∙◌}
use mathlib.Core.Bool.{Bool, true, false, cond, not, ◌&&◌, true≢false, and-eq-true_iff}
use mathlib.Core.List.{List, [], ◌∷◌}
use Prim.Native.Nat.{ℕ, ◌+◌, ◌-◌, ◌%◌}
use lib.Dec.{eqb, leb}
use lib.ListN.{length, get_or, take, drop}
use borrow.Author.Tests.{eqb-true}
use Rattle.octets.specs.Buffers.{same}
use Rattle.octets.specs.Numbers.{be}
use Rattle.protocol.specs.Orders.{among}
use Rattle.protocol.specs.Method.{key_fits, key_length, salt_length, cipher_of}
use Rattle.protocol.specs.Subkey.{subkey}
use Rattle.protocol.specs.Time.{time_valid}
use Rattle.protocol.specs.declared.Cipher.{Cipher}
use Rattle.protocol.specs.declared.Refusal.TheVariants.{Settings, Length as TooLong, Room, NotAuthentic, WrongType, WrongTime, More, Counter}
use Rattle.session_record.specs.declared.Peer.{Peer}
use Rattle.session_table.specs.Table.{lawful, Entry, stores, replay, full, meet}
use Rattle.session_book.specs.Call.{Outcome, refused, Call}
use Rattle.session_book.specs.Runs.{report, table_outcome_by}
use Rattle.socks5.specs.Address.{parse_at}
use Rattle.datagram_parts.specs.declared.Side.{Side}
use Rattle.datagram_parts.specs.Headers.{type_of, fixed_length, main_start}
use Rattle.datagram_parts.specs.Parts.{overhead, max_datagram}
use Rattle.datagram_read.specs.declared.Header.{Header}
use Rattle.datagram_read.specs.Opening.{datagram_authentic, plain_of, session_of, packet_of, time_of, padding_of, meant, header_with, read_address, read_main, length_lawful, read_text, read_answer, read_out}
use Rattle.datagram_open.specs.Deciding.{expected, decided_by, decide, call_of, open_answer, open_out, open_table}
use Rattle.relay.specs.Datagrams.{AfterOpen, opened_number, opened_words, opens_datagram, opens_told, caller_of}
use Rattle.salt_pool.specs.Pool.{Met}
use Rattle.std.specs.Prelude.{Ok, Err, None, Option, Result, Some}
use Rattle.salt_pool.specs.Pool.{Replay as Known, Full as NoRoom}
use Rattle.salt_pool.specs.Pool.{meet as salt_meet}
use Rattle.stream_pieces.specs.Pieces.{authentic_at, open_at, keyed, subkey_words, Keyed, last_counter}
use Rattle.stream_pieces.specs.Framing.{is_empty, under, over, unframed, framing_of}
use Rattle.stream_pieces.specs.declared.Framing.{Framing}
use Rattle.stream_heads.specs.Heads.{front_length, fixed_of, fields_of, read_fixed, open_fixed}
use Rattle.stream_open_request.specs.Requests.{settings, fixed_as, read_front, opened_as, opened_request}
use Rattle.stream_open_response.specs.Responses.{binding_of, bound_as, bound_of, response_at, opened_response}
use Rattle.stream_answers.specs.Chunks as chunks
use Rattle.stream_answers.specs.Chunks.{AfterChunk, fits}
use Rattle.stream_answers.specs.Told.{request_number, response_number, variable_number, stepped_number}
use Rattle.relay.specs.Streams.{AfterRequest, request_left, opens_request, AfterResponse, response_left, opens_response, variable_left, opens_variable}
use Rattle.guarantees.specs.Calls as page
use Rattle.guarantees.specs.Calls.{Lent, step}
use Rattle.guarantees.proofs.Base.{either}
use Rattle.stream_open.specs.Steps.{piece_answer, length_read, length_answer, key_in, turn_answer, step_answer}
use Rattle.words.specs.States.{turn_lawful}
use Rattle.sip004_stream.specs.Streams as streams2017
use Rattle.sip004_demands.proofs.FramingLaws.{none-under}
use Rattle.sip004.specs.Datagram as sip004
use Rattle.sip004.specs.Method.{key_fits as sip004_fits}
use Rattle.relay.specs.Sip004 as edition2017
use Rattle.guarantees.proofs.Pieces.{key_of_words, verdict, at-4, at-2}
use Rattle.words.specs.States.{receiver_in, method_in}
use Rattle.stream_open.specs.declared.Turn.TheVariants.{Variable, Length, Payload, Ended}
use Rattle.stream_open.specs.declared.Receiver.{Receiver}
use Rattle.stream_open_variable.specs.Variable.{header_with as variable_with, read_variable, padding_fits, variable_piece, header_answer, turn_variable, variable_answer}
use Rattle.protocol.specs.declared.Refusal.{Refusal}
use Rattle.socks5.specs.declared.Address.{Address}
use Rattle.stream_heads.specs.declared.Fixed.{Fixed}
use Rattle.stream_open_response.specs.declared.Response.{Response}
use Rattle.stream_open_variable.specs.declared.VariableHeader.{VariableHeader}
use Rattle.stream_open.specs.declared.Chunk.{Chunk}

-- ---- the first test that fails

abbrev pub chain : List (Bool × ℕ) → ℕ → ℕ
chain [] z = z
chain (p ∷ l) z = cond p.0 (chain l z) p.1

-- where one fails it does not matter what comes behind all
pub same-chain : (ns : List ℕ) (l : List (Bool × ℕ)) (z z' : ℕ) → among ns z ≡ true → among ns (chain l z) ≡ false → chain l z' ≡ chain l z
same-chain ns [] z z' e f = absurd (true≢false (sym e ∙ f))
same-chain ns (p ∷ l) z z' e f = go p.0 f (same-chain ns l z z' e)
  where
    go : (b : Bool) → among ns (cond b (chain l z) p.1) ≡ false → (among ns (chain l z) ≡ false → chain l z' ≡ chain l z)
        → cond b (chain l z') p.1 ≡ cond b (chain l z) p.1
    go true f rest = rest f
    go false f rest = refl

-- a call of whatever came in, with these numbers behind the tag
pub record Chained (behind : List ℕ) (c : List ℕ → page.Call) (m : Lent) : Type 0 where
  pub tests : ℕ → Bool → List (Bool × ℕ)
  pub last : List ℕ → ℕ
  pub number_is : (s : List ℕ) → (step (c s) m).number ≡ chain (tests (length s) (step (c s) m).tag) (last s)
  pub last-behind : (s : List ℕ) → among (0 ∷ behind) (last s) ≡ true

-- ---- datagrams

abbrev behind_datagram : List ℕ
behind_datagram = 5 ∷ 6 ∷ 7 ∷ 13 ∷ 8 ∷ 9 ∷ []

module _ (method : ℕ) (key : List ℕ) (client : Option ℕ) (clock : ℕ) (peer : Peer) (m : Lent) where
  abbrev cipher : Cipher
  cipher = cipher_of method

  abbrev side : Side
  side = expected client

  abbrev datagram_tests : ℕ → Bool → List (Bool × ℕ)
  datagram_tests n tag =
      (eqb (length m.answer) 9, 1) ∷ (lawful m.table, 1) ∷ (key_fits method (length key), 1)
      ∷ (leb (overhead cipher) n && leb n max_datagram, 2) ∷ (leb (n - overhead cipher) (length m.out), 3) ∷ (tag, 4) ∷ []

  module _ (s : List ℕ) where
    abbrev call : Call
    call = call_of clock peer s m.out client

    abbrev plain : List ℕ
    plain = plain_of cipher key s

    abbrev told : Result Header Refusal → ℕ
    told x = opened_number (table_outcome_by (decided_by x (read_out method key side clock s m.out) plain) m.table call).answer

    abbrev main : Result Header Refusal
    main = read_main (main_start cipher) side clock (session_of cipher key s) (packet_of cipher key s) plain

    datagram-number : (opens_datagram method key client clock peer s m.table m.out m.answer).number
        ≡ chain (datagram_tests (length s) (datagram_authentic cipher key s)) (told main)
    unfolding opens_datagram opens_told open_answer decide read_answer read_text length_lawful
    datagram-number =
        go (eqb (length m.answer) 9) (lawful m.table) (key_fits method (length key)) (leb (overhead cipher) (length s) && leb (length s) max_datagram)
        (leb (length s - overhead cipher) (length m.out)) (datagram_authentic cipher key s)
      where
        go : (p q a b c d : Bool)
            → (cond {A = AfterOpen} p
            (record {
              number = opened_number (cond {A = Outcome Header} q (table_outcome_by (decided_by (cond a (cond b (cond c (cond d main (Err NotAuthentic)) (Err Room)) (Err TooLong)) (Err Settings)) (read_out method key side clock s m.out) plain) m.table call) (record { answer = refused 1; output = m.out })).answer;
              table = open_table method key client clock peer s m.table m.out;
              out = open_out method key client clock peer s m.table m.out;
              answer = opened_words (open_answer method key client clock peer s m.table m.out) m.answer;
            })
            (record { number = 1; table = m.table; out = m.out; answer = m.answer })).number
            ≡ chain ((p, 1) ∷ (q, 1) ∷ (a, 1) ∷ (b, 2) ∷ (c, 3) ∷ (d, 4) ∷ []) (told main)
        go false q a b c d = refl
        go true false a b c d = refl
        go true true false b c d = refl
        go true true true false c d = refl
        go true true true true false d = refl
        go true true true true true false = refl
        go true true true true true true = refl

    abbrev Late : Result Header Refusal → Type 0
    Late x = among (0 ∷ behind_datagram) (told x) ≡ true

    by_address : (time padding : ℕ) (p : Option Address) → Late (header_with (session_of cipher key s) (packet_of cipher key s) time padding p)
    by_address time padding (Some a) = go (meet m.table clock peer (session_of cipher key s) (packet_of cipher key s))
      where
        go : (e : Entry) → among (0 ∷ behind_datagram) (opened_number (report e call
            (record { target = a.target; port = a.port; session = session_of cipher key s; packet = packet_of cipher key s; time = time; padding = padding; payload = a.end })
            plain).answer) ≡ true
        go (stores i r) = refl
        go (replay i) = refl
        go full = refl
    by_address time padding None = refl

    main-late : Late main
    unfolding read_main read_address
    main-late =
        let start = main_start cipher in
        either Late (leb (start + fixed_length side) (length plain)) _ _
        (λ e. either Late (eqb (get_or plain start 0) (type_of side)) _ _
        (λ f. either Late (time_valid (time_of start plain) clock) _ _
        (λ g. either Late (meant start side plain) _ _
        (λ h. by_address (time_of start plain) (padding_of start side plain) (parse_at plain (start + fixed_length side + padding_of start side plain))) (λ h. refl))
        (λ g. refl)) (λ f. refl)) (λ e. refl)

pub server-chained : (method : ℕ) (key : List ℕ) (clock first second port : ℕ) (m : Lent)
    → Chained behind_datagram (page.relay_datagram_open_server method key clock first second port) m
unfolding step
server-chained method key clock first second port m =
    let peer = caller_of first second port in
    record {
      tests = datagram_tests method key None clock peer m;
      last = λ s. told method key None clock peer m s (main method key None clock peer m s);
      number_is = datagram-number method key None clock peer m;
      last-behind = main-late method key None clock peer m;
    }

pub client-chained : (method : ℕ) (key : List ℕ) (clock id first second port : ℕ) (m : Lent)
    → Chained behind_datagram (page.relay_datagram_open_client method key clock id first second port) m
unfolding step
client-chained method key clock id first second port m =
    let peer = caller_of first second port in
    record {
      tests = datagram_tests method key (Some id) clock peer m;
      last = λ s. told method key (Some id) clock peer m s (main method key (Some id) clock peer m s);
      number_is = datagram-number method key (Some id) clock peer m;
      last-behind = main-late method key (Some id) clock peer m;
    }

-- ---- heads

module _ (kind clock : ℕ) (plain : List ℕ) where
  -- what a fixed header says behind its tag
  abbrev Fixes : ((Result Fixed Refusal) → Type 0) → Type 0
  Fixes P = P (read_fixed kind clock plain)

  fixed-late : (P : Result Fixed Refusal → Type 0) → P (Ok (fields_of plain)) → P (Err WrongTime) → P (Err WrongType) → Fixes P
  unfolding read_fixed
  fixed-late P a b c =
      either P (eqb (get_or plain 0 0) kind) (cond (time_valid (be 8 (drop 1 plain)) clock) (Ok (fields_of plain)) (Err WrongTime)) (Err WrongType)
      (λ e. either P (time_valid (be 8 (drop 1 plain)) clock) (Ok (fields_of plain)) (Err WrongTime) (λ f. a) (λ f. b)) (λ e. c)

module _ (method : ℕ) (key : List ℕ) (clock : ℕ) (m : Lent) where
  abbrev n : ℕ
  n = salt_length method

  abbrev fit : Bool
  fit = fits (length m.stream) (length m.answer)

  abbrev front_tests : ℕ → Bool → List (Bool × ℕ)
  front_tests k tag = (fit, 1) ∷ (settings method (length key) m.pool, 1) ∷ (leb (front_length n 0) k, 10) ∷ (tag, 4) ∷ []

  module _ (s : List ℕ) where
    abbrev k : List ℕ
    k = subkey key (take n s)

    abbrev piece : List ℕ
    piece = fixed_of n 0 s

    abbrev fixed : List ℕ
    fixed = open_at (keyed (cipher_of method) k) 0 piece

    abbrev after : Result Fixed Refusal → ℕ
    after r = request_number (opened_as method (subkey_words k) (front_length n 0) (fixed_as (salt_meet m.pool clock (take n s)) r))

    pub front-number : (opens_request method key clock s m.pool m.stream m.answer).number
        ≡ chain (front_tests (length s) (authentic_at (keyed (cipher_of method) k) 0 piece)) (after (read_fixed 0 clock fixed))
    unfolding opens_request opened_request read_front open_fixed
    front-number =
        go fit (settings method (length key) m.pool) (leb (front_length n 0) (length s)) (authentic_at (keyed (cipher_of method) k) 0 piece)
        (salt_meet m.pool clock (take n s))
      where
        go : (p q a d : Bool) (x : Met)
            → (cond {A = AfterRequest} p
            (request_left method key clock s m.pool m.stream m.answer
            (cond q (cond a (opened_as method (subkey_words k) (front_length n 0) (fixed_as x (cond d (read_fixed 0 clock fixed) (Err NotAuthentic)))) (Err (More (front_length n 0)))) (Err Settings)))
            (record { number = 1; pool = m.pool; stream = m.stream; answer = m.answer })).number
            ≡ chain ((p, 1) ∷ (q, 1) ∷ (a, 10) ∷ (d, 4) ∷ []) (request_number (opened_as method (subkey_words k) (front_length n 0) (fixed_as x (read_fixed 0 clock fixed))))
        go false q a d x = refl
        go true false a d x = refl
        go true true false d x = refl
        go true true true false x = refl
        go true true true true x = refl

    front-late : among (0 ∷ 6 ∷ 7 ∷ 8 ∷ 9 ∷ []) (after (read_fixed 0 clock fixed)) ≡ true
    front-late =
        fixed-late 0 clock fixed (λ r. among (0 ∷ 6 ∷ 7 ∷ 8 ∷ 9 ∷ []) (after r) ≡ true) (go (salt_meet m.pool clock (take n s))) refl refl
      where
        go : (x : Met) → among (0 ∷ 6 ∷ 7 ∷ 8 ∷ 9 ∷ []) (request_number (opened_as method (subkey_words k) (front_length n 0) (fixed_as x (Ok (fields_of fixed))))) ≡ true
        go (Ok i) = refl
        go (Err Known) = refl
        go (Err NoRoom) = refl

  pub request-chained : Chained (6 ∷ 7 ∷ 8 ∷ 9 ∷ []) (page.relay_stream_open_request method key clock) m
  unfolding step
  request-chained =
      record { tests = front_tests; last = λ s. after s (read_fixed 0 clock (fixed s)); number_is = front-number; last-behind = front-late }

module _ (method : ℕ) (key : List ℕ) (clock : ℕ) (request_salt : List ℕ) (m : Lent) where
  abbrev b : ℕ
  b = salt_length method

  abbrev suits : Bool
  suits = fits (length m.stream) (length m.answer)

  abbrev response_tests : ℕ → Bool → List (Bool × ℕ)
  response_tests j tag = (suits, 1) ∷ (key_fits method (length key) && eqb (length request_salt) b, 1) ∷ (leb (front_length b b) j, 10) ∷ (tag, 4) ∷ []

  module _ (s : List ℕ) where
    abbrev rk : List ℕ
    rk = subkey key (take b s)

    abbrev head_piece : List ℕ
    head_piece = fixed_of b b s

    abbrev head_text : List ℕ
    head_text = open_at (keyed (cipher_of method) rk) 0 head_piece

    abbrev ours : Bool
    ours = same (binding_of b head_text) request_salt

    abbrev bound : Result Fixed Refusal → ℕ
    bound r = response_number (bound_as method (subkey_words rk) (front_length b b) ours r)

    response-number : (opens_response method key clock request_salt s m.stream m.answer).number
        ≡ chain (response_tests (length s) (authentic_at (keyed (cipher_of method) rk) 0 head_piece)) (bound (read_fixed 1 clock head_text))
    unfolding opens_response opened_response response_at bound_of open_fixed
    response-number =
        go suits (key_fits method (length key) && eqb (length request_salt) b) (leb (front_length b b) (length s)) (authentic_at (keyed (cipher_of method) rk) 0 head_piece)
      where
        go : (p q a d : Bool)
            → (cond {A = AfterResponse} p
            (response_left
            (cond q (cond a (bound_as method (subkey_words rk) (front_length b b) ours (cond d (read_fixed 1 clock head_text) (Err NotAuthentic))) (Err (More (front_length b b)))) (Err Settings))
            m.stream m.answer)
            (record { number = 1; stream = m.stream; answer = m.answer })).number
            ≡ chain ((p, 1) ∷ (q, 1) ∷ (a, 10) ∷ (d, 4) ∷ []) (bound (read_fixed 1 clock head_text))
        go false q a d = refl
        go true false a d = refl
        go true true false d = refl
        go true true true false = refl
        go true true true true = refl

    response-late : among (0 ∷ 6 ∷ 7 ∷ 13 ∷ 14 ∷ []) (bound (read_fixed 1 clock head_text)) ≡ true
    response-late = fixed-late 1 clock head_text (λ r. among (0 ∷ 6 ∷ 7 ∷ 13 ∷ 14 ∷ []) (bound r) ≡ true) (go ours) refl refl
      where
        go : (x : Bool) → among (0 ∷ 6 ∷ 7 ∷ 13 ∷ 14 ∷ []) (response_number (bound_as method (subkey_words rk) (front_length b b) x (Ok (fields_of head_text)))) ≡ true
        go false = refl
        go true =
            either (λ (z : Result (Response × Receiver) Refusal). among (0 ∷ 6 ∷ 7 ∷ 13 ∷ 14 ∷ []) (response_number z) ≡ true) (is_empty (fields_of head_text).length) _ _ (λ e. refl) (λ e. refl)

  pub response-chained : Chained (6 ∷ 7 ∷ 13 ∷ 14 ∷ []) (page.relay_stream_open_response method key clock request_salt) m
  unfolding step
  response-chained =
      record { tests = response_tests; last = λ s. bound s (read_fixed 1 clock (head_text s)); number_is = response-number; last-behind = response-late }

-- ---- a variable header

module _ (m : Lent) where
  abbrev w : List ℕ
  w = m.stream

  abbrev size : ℕ
  size = page.at w 3 % 65536

  abbrev lent : Bool
  lent = chunks.opens w m.answer

  abbrev vkey : Keyed
  vkey = key_of_words w

  -- at a turn of the call's, and at another
  abbrev variable_tests : (a b c : Bool) → ℕ → Bool → List (Bool × ℕ)
  variable_tests true b c n tag = (false, 1) ∷ []
  variable_tests false true c n tag = (false, 1) ∷ []
  variable_tests false false true n tag =
      (eqb (page.at w 2) 1, 1) ∷ (leb (size + 16) n, 10) ∷ (leb size (length m.out), 3) ∷ (tag, 4) ∷ []
  variable_tests false false false n tag = (false, 4) ∷ []

  abbrev all_variable : ℕ → Bool → List (Bool × ℕ)
  all_variable n tag =
      (lent, 1) ∷ (not (eqb (key_length (page.at w 1)) 0), 1)
      ∷ variable_tests (eqb (page.at w 0) 1) (eqb (page.at w 0) 2) (eqb (page.at w 0) 4) n tag

  module _ (s : List ℕ) where
    abbrev st : Receiver
    st = receiver_in w

    abbrev text : List ℕ
    text = open_at vkey 1 (variable_piece size s)

    abbrev tag : Bool
    tag = authentic_at vkey (page.at w 2) (take (page.piece w + 16) s)

    abbrev last_variable : ℕ
    last_variable = variable_number (read_variable size text)

    -- the verdict on the piece of a lawful stream at its turn
    verdict-is : lent ≡ true → eqb (page.at w 0) 1 ≡ false → eqb (page.at w 0) 4 ≡ true → eqb (page.at w 2) 1 ≡ true
        → authentic_at vkey 1 (variable_piece size s) ≡ tag
    verdict-is l a c e =
        let t = ((and-eq-true_iff (eqb (length w) 8) _).0 ((and-eq-true_iff (eqb (length m.answer) 9) _).0 l).1).1 in
        verdict w s m.out ((and-eq-true_iff (eqb (length m.answer) 9) _).0 l).1 size
        (at-4 (page.at w 0) (page.at w 3) t c ∙ sym (ap (λ (x : Bool). cond x 2 (page.at w 3)) a)) (eqb-true (page.at w 2) 1 e)

    by_turn : (a b c e f g d : Bool) → (eqb (page.at w 2) 1 ≡ e) → (leb (size + 16) (length s) ≡ f) → (leb size (length m.out) ≡ g)
        → (a ≡ false → c ≡ true → e ≡ true → authentic_at vkey 1 (variable_piece size s) ≡ d)
        → variable_number (turn_variable (cond a Length (cond b (Payload size) (cond c (Variable size) Ended))) st s (length m.out))
        ≡ chain (variable_tests a b c (length s) d) last_variable
    unfolding header_answer
    by_turn true b c e f g d ee ef eg v = refl
    by_turn false true c e f g d ee ef eg v = refl
    by_turn false false true e f g d ee ef eg v = go e f g d ee ef eg (v refl refl)
      where
        go : (e f g d : Bool) → (eqb (page.at w 2) 1 ≡ e) → (leb (size + 16) (length s) ≡ f) → (leb size (length m.out) ≡ g)
            → (e ≡ true → authentic_at vkey 1 (variable_piece size s) ≡ d)
            → variable_number (cond (eqb (page.at w 2) 1) (cond (leb (size + 16) (length s)) (cond (leb size (length m.out)) (cond (authentic_at vkey 1 (variable_piece size s)) (read_variable size text) (Err NotAuthentic)) (Err Room)) (Err (More (size + 16)))) (Err Settings))
            ≡ chain ((eqb (page.at w 2) 1, 1) ∷ (leb (size + 16) (length s), 10) ∷ (leb size (length m.out), 3) ∷ (d, 4) ∷ []) last_variable
        go false f g d ee ef eg v =
            (λ i. variable_number (cond (ee i) (cond (leb (size + 16) (length s)) (cond (leb size (length m.out)) (cond (authentic_at vkey 1 (variable_piece size s)) (read_variable size text) (Err NotAuthentic)) (Err Room)) (Err (More (size + 16)))) (Err Settings)))
            ∙ sym (λ i. chain ((ee i, 1) ∷ (leb (size + 16) (length s), 10) ∷ (leb size (length m.out), 3) ∷ (d, 4) ∷ []) last_variable)
        go true f g d ee ef eg v =
            (λ i. variable_number (cond (ee i) (cond (ef i) (cond (eg i) (cond (v refl i) (read_variable size text) (Err NotAuthentic)) (Err Room)) (Err (More (size + 16)))) (Err Settings)))
            ∙ bits f g d
            ∙ sym (λ i. chain ((ee i, 1) ∷ (ef i, 10) ∷ (eg i, 3) ∷ (d, 4) ∷ []) last_variable)
          where
            bits : (f g d : Bool)
                → variable_number (cond f (cond g (cond d (read_variable size text) (Err NotAuthentic)) (Err Room)) (Err (More (size + 16))))
                ≡ chain ((f, 10) ∷ (g, 3) ∷ (d, 4) ∷ []) last_variable
            bits false g d = refl
            bits true false d = refl
            bits true true false = refl
            bits true true true = refl
    by_turn false false false e f g d ee ef eg v = refl

    variable-number : (opens_variable w s m.out m.answer).number ≡ chain (all_variable (length s) tag) last_variable
    unfolding opens_variable variable_answer
    variable-number = go lent refl (eqb (key_length (page.at w 1)) 0)
      where
        go : (p : Bool) → lent ≡ p → (k : Bool)
            → (cond {A = AfterChunk} p (variable_left (cond k (Err Settings) (turn_variable st.turn st s (length m.out))) st s m.out w m.answer)
            (record { number = 1; out = m.out; stream = w; answer = m.answer })).number
            ≡ chain ((p, 1) ∷ (not k, 1) ∷ variable_tests (eqb (page.at w 0) 1) (eqb (page.at w 0) 2) (eqb (page.at w 0) 4) (length s) tag) last_variable
        go false l k = refl
        go true l true = refl
        go true l false =
            by_turn (eqb (page.at w 0) 1) (eqb (page.at w 0) 2) (eqb (page.at w 0) 4) (eqb (page.at w 2) 1) (leb (size + 16) (length s)) (leb size (length m.out)) tag
            refl refl refl (λ a c e. verdict-is l a c e)

    variable-late : among (0 ∷ 5 ∷ []) last_variable ≡ true
    unfolding read_variable
    variable-late = go (parse_at text 0)
      where
        go : (p : Option Address) → among (0 ∷ 5 ∷ []) (variable_number (variable_with size text p)) ≡ true
        go (Some a) =
            either (λ (x : Result VariableHeader Refusal). among (0 ∷ 5 ∷ []) (variable_number x) ≡ true) (padding_fits a.end text) _ _ (λ e. refl) (λ e. refl)
        go None = refl

  pub variable-chained : Chained (5 ∷ []) page.relay_stream_open_variable m
  unfolding step
  variable-chained = record { tests = all_variable; last = last_variable; number_is = variable-number; last-behind = variable-late }

-- ---- a chunk, framed as an edition frames it

module _ (m : Lent) (f : Framing) where
  abbrev v : List ℕ
  v = m.stream

  abbrev long : ℕ
  long = page.at v 3 % 65536

  abbrev open? : Bool
  open? = chunks.opens v m.answer

  abbrev state : Receiver
  state = receiver_in v

  abbrev ckey : Keyed
  ckey = key_in f state

  abbrev piece_tests : (k asked : ℕ) → ℕ → Bool → List (Bool × ℕ)
  piece_tests k asked n d = (not (eqb (page.at v 2) last_counter), 11) ∷ (leb (k + 16) n, 10) ∷ (leb asked (length m.out), 3) ∷ (d, 4) ∷ []

  abbrev chunk_tests : (a b c : Bool) → ℕ → Bool → List (Bool × ℕ)
  chunk_tests true b c n d = piece_tests 2 0 n d
  chunk_tests false true c n d = (not (unframed f long), 1) ∷ piece_tests long long n d
  chunk_tests false false true n d = (false, 1) ∷ []
  chunk_tests false false false n d = (false, 4) ∷ []

  abbrev all_chunk : ℕ → Bool → List (Bool × ℕ)
  all_chunk n d =
      (open?, 1) ∷ (not (eqb f.key 0), 1) ∷ chunk_tests (eqb (page.at v 0) 1) (eqb (page.at v 0) 2) (eqb (page.at v 0) 4) n d

  module _ (s : List ℕ) where
    abbrev ctag : Bool
    ctag = authentic_at ckey (page.at v 2) (take (page.piece v + 16) s)

    abbrev last_at : Bool → ℕ
    last_at a = cond a (stepped_number (length_answer f (length_read ckey (page.at v 2) s))) 0

    piece-chain : (k asked : ℕ) (good : Result Chunk Refusal) (d : Bool) → authentic_at ckey (page.at v 2) (take (k + 16) s) ≡ d
        → stepped_number (piece_answer ckey (page.at v 2) k s asked (length m.out) good) ≡ chain (piece_tests k asked (length s) d) (stepped_number good)
    unfolding piece_answer
    piece-chain k asked good d e =
        (λ i. stepped_number (cond (eqb (page.at v 2) last_counter) (Err Counter) (cond (leb (k + 16) (length s)) (cond (leb asked (length m.out)) (cond (e i) good (Err NotAuthentic)) (Err Room)) (Err (More (k + 16))))))
        ∙ bits (eqb (page.at v 2) last_counter) (leb (k + 16) (length s)) (leb asked (length m.out)) d
      where
        bits : (p q r d : Bool)
            → stepped_number (cond p (Err Counter) (cond q (cond r (cond d good (Err NotAuthentic)) (Err Room)) (Err (More (k + 16)))))
            ≡ chain ((not p, 11) ∷ (q, 10) ∷ (r, 3) ∷ (d, 4) ∷ []) (stepped_number good)
        bits true q r d = refl
        bits false false r d = refl
        bits false true false d = refl
        bits false true true false = refl
        bits false true true true = refl

    module _ (l : open? ≡ true) where
      lawful-turn : turn_lawful (page.at v 0) (page.at v 3) ≡ true
      lawful-turn = ((and-eq-true_iff (eqb (length v) 8) _).0 ((and-eq-true_iff (eqb (length m.answer) 9) _).0 l).1).1

      chunk-turn : (a b c : Bool) → eqb (page.at v 0) 1 ≡ a → eqb (page.at v 0) 2 ≡ b
          → stepped_number (turn_answer f (cond a Length (cond b (Payload long) (cond c (Variable long) Ended))) state s (length m.out))
          ≡ chain (chunk_tests a b c (length s) ctag) (last_at a)
      chunk-turn true b c ea eb =
          piece-chain 2 0 (length_answer f (length_read ckey (page.at v 2) s)) ctag
          (ap (λ (x : Bool). authentic_at ckey (page.at v 2) (take (cond x 2 (page.at v 3) + 16) s)) (sym ea))
      chunk-turn false true c ea eb =
          let e : long ≡ page.piece v = at-2 (page.at v 0) (page.at v 3) lawful-turn eb ∙ sym (ap (λ (x : Bool). cond x 2 (page.at v 3)) ea) in
          bits (unframed f long) (piece-chain long long _ ctag (ap (λ (k : ℕ). authentic_at ckey (page.at v 2) (take (k + 16) s)) e))
        where
          bits : (u : Bool)
              → stepped_number (piece_answer ckey (page.at v 2) long s long (length m.out) (Ok (record { used = long + 16; length = long })))
              ≡ chain (piece_tests long long (length s) ctag) 0
              → stepped_number (cond u (Err Settings) (piece_answer ckey (page.at v 2) long s long (length m.out) (Ok (record { used = long + 16; length = long }))))
              ≡ cond (not u) (chain (piece_tests long long (length s) ctag) 0) 1
          bits true e = refl
          bits false e = e
      chunk-turn false false true ea eb = refl
      chunk-turn false false false ea eb = refl

    chunk-number : (chunks.opens_chunk f v s m.out m.answer).number ≡ chain (all_chunk (length s) ctag) (last_at (eqb (page.at v 0) 1))
    unfolding chunks.opens_chunk step_answer
    chunk-number = go open? refl (eqb f.key 0)
      where
        go : (p : Bool) → open? ≡ p → (k : Bool)
            → (cond {A = AfterChunk} p (chunks.step_told f (cond k (Err Settings) (turn_answer f state.turn state s (length m.out))) state s m.out v m.answer)
            (record { number = 1; out = m.out; stream = v; answer = m.answer })).number
            ≡ chain ((p, 1) ∷ (not k, 1) ∷ chunk_tests (eqb (page.at v 0) 1) (eqb (page.at v 0) 2) (eqb (page.at v 0) 4) (length s) ctag) (last_at (eqb (page.at v 0) 1))
        go false l k = refl
        go true l true = refl
        go true l false = chunk-turn l (eqb (page.at v 0) 1) (eqb (page.at v 0) 2) (eqb (page.at v 0) 4) refl refl

    module _ (behind : List ℕ) (has-14 : (n : ℕ) → under f n ≡ true → among (0 ∷ behind) 14 ≡ true) (has-5 : (n : ℕ) → over f n ≡ true → among (0 ∷ behind) 5 ≡ true) where
      chunk-late : (a : Bool) → among (0 ∷ behind) (last_at a) ≡ true
      chunk-late false = refl
      chunk-late true =
          let n = length_read ckey (page.at v 2) s in
          either (λ (x : Result Chunk Refusal). among (0 ∷ behind) (stepped_number x) ≡ true) (under f n) _ _ (has-14 n)
          (λ e. either (λ (x : Result Chunk Refusal). among (0 ∷ behind) (stepped_number x) ≡ true) (over f n) _ _ (has-5 n) (λ g. refl))

pub chunk-chained : (m : Lent) → Chained (14 ∷ []) page.relay_stream_open_chunk m
unfolding step
chunk-chained m =
    let f = framing_of (method_in m.stream) in
    record {
      tests = all_chunk m f;
      last = λ s. last_at m f s (eqb (page.at m.stream 0) 1);
      number_is = chunk-number m f;
      last-behind = λ s. chunk-late m f s (14 ∷ []) (λ n e. refl) (λ n e. absurd (true≢false (sym e))) (eqb (page.at m.stream 0) 1);
    }

pub chunk-chained-2017 : (m : Lent) → Chained (5 ∷ []) page.relay_sip004_stream_open_chunk m
unfolding step
chunk-chained-2017 m =
    let f = streams2017.framing_of (method_in m.stream) in
    record {
      tests = all_chunk m f;
      last = λ s. last_at m f s (eqb (page.at m.stream 0) 1);
      number_is = chunk-number m f;
      last-behind = λ s.
          chunk-late m f s (5 ∷ []) (λ n e. absurd (true≢false (sym e ∙ none-under (method_in m.stream) n))) (λ n e. refl) (eqb (page.at m.stream 0) 1);
    }

-- ---- the 2017 edition's datagrams

module _ (method : ℕ) (key : List ℕ) (m : Lent) where
  abbrev tests2017 : ℕ → Bool → List (Bool × ℕ)
  tests2017 n d =
      (eqb (length m.answer) 9, 1) ∷ (sip004_fits method (length key), 1) ∷ (leb (length key + 16) n && leb n max_datagram, 2)
      ∷ (leb (n - (length key + 16)) (length m.out), 3) ∷ (d, 4) ∷ []

  number-2017 : (s : List ℕ) → (edition2017.opens_datagram method key s m.out m.answer).number ≡ chain (tests2017 (length s) (sip004.body_authentic key s)) 0
  unfolding edition2017.tells sip004.open_answer sip004.lawful_answer sip004.due_answer
  number-2017 s =
      go (eqb (length m.answer) 9) (sip004_fits method (length key)) (leb (length key + 16) (length s) && leb (length s) max_datagram)
      (leb (length s - (length key + 16)) (length m.out)) (sip004.body_authentic key s)
    where
      go : (p a b c d : Bool)
          → (cond {A = edition2017.AfterDatagram} p
          (edition2017.opened_told (sip004.judged (cond a (cond b (cond c (Ok (length s - (length key + 16))) (Err Room)) (Err TooLong)) (Err Settings)) d) (sip004.payload_of key s) m.out m.answer)
          (record { number = 1; out = m.out; answer = m.answer })).number
          ≡ chain ((p, 1) ∷ (a, 1) ∷ (b, 2) ∷ (c, 3) ∷ (d, 4) ∷ []) 0
      go false a b c d = refl
      go true false b c d = refl
      go true true false c d = refl
      go true true true false d = refl
      go true true true true false = refl
      go true true true true true = refl

  pub datagram-chained-2017 : Chained [] (page.relay_sip004_datagram_open method key) m
  unfolding step
  datagram-chained-2017 = record { tests = tests2017; last = λ s. 0; number_is = number-2017; last-behind = λ s. refl }
