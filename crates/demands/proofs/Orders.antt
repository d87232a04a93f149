-- Each call answers by its order.
-- Assumes nothing.
use mathlib.Core.Path.{◌≡◌, refl, sym, ap, ◌∙◌}
use mathlib.Core.Bool.{Bool, true, false, cond, not, ◌&&◌, ◌||◌, false≢true}
use mathlib.Core.List.{List, [], ◌∷◌}
use Prim.Native.Nat.{ℕ, ◌+◌, ◌-◌, ◌^◌, ◌≤◌, ◌<◌}
use native.Mathlib.Omega.{arith}
use lib.Dec.{eqb, leb, ltb}
use lib.ListN.{length, get_or, take, drop, length-drop}
use lib.Seq.{length-take-le}
use borrow.Author.Tests.{leb-true, eq-eqb, ne_eqb}
use Rattle.octets.specs.Buffers.{same}
use Rattle.octets.specs.Numbers.{be}
use Rattle.session_record.specs.declared.Peer.{Peer}
use Rattle.session_table.specs.Table.{Record, record_at, lawful, fresh_in, accept_in, session_place, is_place, taken, free_place, stores, replay, meet_by, meet}
use Rattle.session_book.specs.Call.{Call, Outcome}
use Rattle.session_book.specs.Runs.{report, table_outcome_by}
use Rattle.protocol.specs.declared.Refusal.{Refusal}
use Rattle.protocol.specs.declared.Refusal.TheVariants.{Length as Long, Room as Narrow, NotAuthentic, WrongType, WrongTime, Replay, Full}
use Rattle.protocol.specs.declared.Cipher.{Cipher}
use Rattle.protocol.specs.Method.{key_fits, key_length, salt_length, cipher_of}
use Rattle.protocol.specs.Time.{time_valid}
use Rattle.socks5.specs.Address.{parse_at, is_address}
use Rattle.datagram_parts.specs.declared.Side.{Side}
use Rattle.datagram_parts.specs.declared.Side.TheVariants.{Client, Server}
use Rattle.datagram_parts.specs.Headers.{type_of, fixed_length, main_start}
use Rattle.datagram_parts.specs.Parts.{overhead, packet_overhead, max_datagram, nonce_fits}
use Rattle.datagram_seal.specs.declared.Sender.{Sender as Session}
use Rattle.reply_session.specs.Beginning.{reply_begun}
use Rattle.datagram_seal.specs.Sealing.{ids_differ, sealed_length, capped, length_answer, argument_answer, seal_answer}
use Rattle.datagram_read.specs.declared.Header.{Header}
use Rattle.datagram_read.specs.Opening.{plain_of, session_of, packet_of, time_of, meant, header_with, read_address, read_main, length_lawful, read_text, read_answer, read_out}
use Rattle.datagram_open.specs.Deciding.{expected, decided_by, decide, call_of, open_answer}
use Rattle.salt_pool.specs.Pool.{Met}
use Rattle.std.specs.Prelude.{Ok, Err, None, Option, Result, Some}
use Rattle.salt_pool.specs.Pool.{Replay as Known, Full as NoRoom}
use Rattle.salt_pool.specs.Pool.{meet as meet_salt, lawful as lawful_pool}
use Rattle.stream_seal.specs.declared.Sender.{Sender}
use Rattle.stream_pieces.specs.Pieces.{authentic_at, open_at, subkey_words, max_chunk, last_counter, Keyed, salted_key}
use Rattle.stream_seal.specs.Sealing.{moved, framed_answer, chunk_answer}
use Rattle.stream_seal_heads.specs.HeadSealing.{variable_length, begun, sizes_fit, padding_lawful, request_answer, response_answer}
use Rattle.stream_open.specs.declared.Turn.{Turn}
use Rattle.stream_open.specs.declared.Turn.TheVariants.{Variable, Length, Payload, Ended}
use Rattle.stream_open.specs.declared.Receiver.{Receiver}
use Rattle.stream_open.specs.Chunks.{stream_key, step_answer}
use Rattle.stream_open.specs.Steps.{length_read, length_answer as length_ruled, turn_answer}
use Rattle.stream_open.specs.Steps as steps
use Rattle.stream_heads.specs.declared.Fixed.{Fixed}
use Rattle.stream_open_response.specs.declared.Response.{Response}
use Rattle.stream_heads.specs.Heads.{front_length, fields_of, read_fixed, open_fixed}
use Rattle.stream_open_response.specs.Responses.{bound_as, bound_of, response_at, opened_response}
use Rattle.stream_open_request.specs.declared.Request.{Request}
use Rattle.stream_open_request.specs.Requests.{met_as, fixed_as, read_front, settings, opened_as, opened_request}
use Rattle.stream_open_variable.specs.declared.VariableHeader.{VariableHeader}
use Rattle.stream_open_variable.specs.Variable.{padding_at, padding_fits, header_with as variable_with, read_variable, header_answer, turn_variable, variable_answer}
use Rattle.stream_pieces.specs.Framing.{framing_of, is_empty}
use Rattle.stream_pieces.proofs.FramingLaws.{empty-zero, some_left}
use Rattle.stream_pieces.proofs.LengthLaws.{length-open_at}
use Rattle.demands.specs.Datagrams.{tag_good}
use Rattle.protocol.specs.Orders.{Rule, rule, more, Said, gives, first, refuses_with}
use Rattle.stream_chunks.specs.Orders.{is_ended, text_bytes, due_bytes, length_told, said_step, said_piece}
use Rattle.stream_chunks.proofs.ChunkOrders.{piece-order, size-order}
use Rattle.protocol.proofs.OrderLaws.{next, unless, done, stops, passes, split, not-and, under, under-or-over}
use Rattle.demands.specs.Orders.{other_method, other_key, besides, main_at, address_in, no_address, others_datagram, not_fresh, no_room, said_opened, open_order, opened_header, is_replay, is_full, bad_variable, said_request, request_order, request_opened, other_turn, header_size, said_variable, variable_order, header_opened, said_response, response_order, response_opened, no_step, empty_length, step_order, chunk_opened, own_header, said_sealed, datagram_bytes, seal_order, seal_request_order, request_sealed, seal_response_order, response_sealed, seal_chunk_order, chunk_sealed, said_begun, is_alive, begin_order, session_begun, Orders}
use Rattle.demands.proofs.OrderLaws.{other_key_lem, other-method, besides-overhead, main-at, unsealable, unsuited, unsuited-both, bad-padding, same-ids, bad-behind}
use Rattle.socks5.specs.declared.Address.{Address}

-- ---- opening a datagram

module _ (t : List ℕ) (c : Call) (id p : ℕ) (h : Header) (text : List ℕ) where
  -- 8 and 9: what the packet ID meets in the table
  meets : said_opened (report (meet t c.clock c.peer id p) c h text).answer
      ≡ first (rule 8 (not_fresh (session_place t c.clock id) t p) ∷ rule 9 (no_room (session_place t c.clock id) (free_place t c.clock)) ∷ []) h
  unfolding meet first
  meets = go (session_place t c.clock id) (free_place t c.clock)
    where
      fresh : (i : ℕ) (b : Bool) (r : Record)
          → said_opened (report (cond b (stores i r) (replay i)) c h text).answer
          ≡ first (rule 8 (not b) ∷ rule 9 false ∷ []) h
      fresh i true r = refl
      fresh i false r = refl

      go : (x y : Option ℕ) → said_opened (report (meet_by x y t c.clock c.peer id p) c h text).answer
          ≡ first (rule 8 (not_fresh x t p) ∷ rule 9 (no_room x y) ∷ []) h
      go (Some i) y = fresh i (fresh_in (record_at t i) p) (accept_in c.clock c.peer p (record_at t i))
      go None (Some i) = refl
      go None None = refl

module _ (method : ℕ) (key : List ℕ) (client : Option ℕ) (clock : ℕ) (peer : Peer) (s t out : List ℕ) where
  abbrev side : Side
  side = expected client

  abbrev call : Call
  call = call_of clock peer s out client

  abbrev cipher : Cipher
  cipher = cipher_of method

  abbrev start : ℕ
  start = main_start cipher

  abbrev plain : List ℕ
  plain = plain_of cipher key s

  abbrev session : ℕ
  session = session_of cipher key s

  abbrev packet : ℕ
  packet = packet_of cipher key s

  -- what is said where the arguments came to this answer
  abbrev said : Result Header Refusal → Said Header
  said a = said_opened (table_outcome_by (decided_by a (read_out method key side clock s out) plain) t call).answer

  abbrev entry : List Rule
  entry =
      rule 8 (not_fresh (session_place t clock session) t packet) ∷ rule 9 (no_room (session_place t clock session) (free_place t clock)) ∷ []

  headed : (n time : ℕ) (a : Option Address)
      → said (header_with session packet time n a)
      ≡ first (rule 5 (no_address a) ∷ entry)
      (record {
        target = (address_in a).target;
        port = (address_in a).port;
        session = session;
        packet = packet;
        time = time;
        padding = n;
        payload = (address_in a).end;
      })
  unfolding first
  headed n time (Some a) = meets t call session packet _ plain
  headed n time None = refl

  -- 5, 6, 7, 13, 5: n bytes of header from `at` on, and the type byte of the side that is expected
  module _ (at n kind : ℕ) (others : Bool) (es : start ≡ at) (en : fixed_length side ≡ n) (ek : type_of side ≡ kind)
      (eo : others ≡ not (meant start side plain)) where
    abbrev length_at : ℕ
    length_at = be 2 (drop (at + n - 2) plain)

    read-order : said (read_main start side clock session packet plain)
        ≡ first
        (rule 5 (ltb (length plain) (at + n)) ∷ rule 6 (not (eqb (get_or plain at 0) kind)) ∷ rule 7 (not (time_valid (be 8 (drop (at + 1) plain)) clock))
        ∷ rule 13 others ∷ rule 5 (no_address (parse_at plain (at + n + length_at))) ∷ entry)
        (record {
          target = (address_in (parse_at plain (at + n + length_at))).target;
          port = (address_in (parse_at plain (at + n + length_at))).port;
          session = session;
          packet = packet;
          time = be 8 (drop (at + 1) plain);
          padding = length_at;
          payload = (address_in (parse_at plain (at + n + length_at))).end;
        })
    unfolding read_main read_address
    read-order =
        next said (leb (start + fixed_length side) (length plain)) _ _ _
        (under (length plain) (at + n) ∙ (λ i. not (leb (sym es i + sym en i) (length plain)))) refl λ _.
        next said (eqb (get_or plain start 0) (type_of side)) _ _ _ (λ i. not (eqb (get_or plain (sym es i) 0) (sym ek i))) refl λ _.
        next said (time_valid (time_of start plain) clock) _ _ _ (λ i. not (time_valid (time_of (sym es i) plain) clock)) refl λ _.
        next said (meant start side plain) _ _ _ eo refl λ _.
        (λ i. said
        (header_with session packet (time_of (es i) plain) (be 2 (drop (es i + en i - 2) plain))
        (parse_at plain (es i + en i + be 2 (drop (es i + en i - 2) plain)))))
        ∙ headed length_at (time_of at plain) (parse_at plain (at + n + length_at))

  -- 1, 2, 3, 4, and what the main header's rules and the session's say
  whole : (least : ℕ) → least ≡ overhead cipher → (rs : List Rule) (v : Header) → said (read_main start side clock session packet plain) ≡ first rs v
      → said_opened (open_answer method key client clock peer s t out)
      ≡ first
      (rule 1 (not (lawful t) || other_key method (length key)) ∷ rule 2 (ltb (length s) least || ltb 65507 (length s))
      ∷ rule 3 (ltb (length out) (length s - least)) ∷ rule 4 (not (tag_good method key s)) ∷ rs)
      v
  unfolding open_answer decide read_answer read_text length_lawful
  whole least el rs v e =
      next (λ (o : Outcome Header). said_opened o.answer) (lawful t) (rule 1 (not (lawful t))) _ v refl refl
      (λ _. next said (key_fits method (length key)) (rule 1 (other_key method (length key))) _ v (other_key_lem method (length key)) refl λ _.
      next said (leb (overhead cipher) (length s) && leb (length s) max_datagram) _ _ v
      (under-or-over (length s) least max_datagram ∙ (λ i. not (leb (el i) (length s) && leb (length s) max_datagram))) refl λ _.
      next said (leb (length s - overhead cipher) (length out)) _ _ v
      (under (length out) (length s - least) ∙ (λ i. not (leb (length s - el i) (length out)))) refl λ _.
      next said (tag_good method key s) _ rs v refl refl λ _. e)
      ∙ split 1 (not (lawful t)) (other_key method (length key)) _ v

open_order_lem : (method : ℕ) (key : List ℕ) (client : Option ℕ) (clock : ℕ) (peer : Peer) (s t out : List ℕ)
    → said_opened (open_answer method key client clock peer s t out)
    ≡ first (open_order method key client clock s t out) (opened_header method key client clock s t out)
open_order_lem method key None clock peer s t out =
    whole method key None clock peer s t out (besides method) (besides-overhead method) _ _
    (read-order method key None clock peer s t out (main_at method) 11 0 false (sym (main-at method)) refl refl refl)
open_order_lem method key (Some client) clock peer s t out =
    let plain = plain_of (cipher_of method) key s in
    whole method key (Some client) clock peer s t out (besides method) (besides-overhead method) _ _
    (read-order method key (Some client) clock peer s t out (main_at method) 19 1 (others_datagram (Some client) (be 8 (drop (main_at method + 9) plain)))
    (sym (main-at method)) refl refl (λ i. not (eqb (be 8 (drop (main-at method i + 9) plain)) client)))

-- ---- a step

empty-length : (n : ℕ) → eqb n 0 ≡ is_empty n
empty-length n = go (is_empty n) refl
  where
    go : (b : Bool) → is_empty n ≡ b → eqb n 0 ≡ b
    go true e = eq-eqb n 0 (empty-zero n e)
    go false e = ne_eqb n 0 (λ z. omega (arith, z, some_left n e))

module _ (st : Receiver) (s : List ℕ) (room : ℕ) where
  step-order : said_step (step_answer st s room) ≡ first (step_order st s room) (chunk_opened st s room)
  unfolding steps.step_answer length_read
  step-order =
      (unless said_step (eqb (key_length st.method) 0) (rule 1 (other_method st.method)) _ (chunk_opened st s room) (other-method st.method) refl λ _.
      at st.turn)
      ∙ split 1 (other_method st.method) (no_step st.turn) _ _
    where
      at : (u : Turn) → said_step (turn_answer (framing_of st.method) u st s room)
          ≡ first
          (rule 1 (no_step u) ∷ rule 4 (is_ended u) ∷ rule 11 (eqb st.counter (2 ^ 64 - 1)) ∷ more (text_bytes u + 16) (ltb (length s) (text_bytes u + 16))
          ∷ rule 3 (ltb room (due_bytes u)) ∷ rule 4 (not (authentic_at (stream_key st) st.counter (take (text_bytes u + 16) s)))
          ∷ rule 14 (empty_length u (be 2 (open_at (stream_key st) st.counter (take (text_bytes u + 16) s)))) ∷ [])
          (record {
            used = text_bytes u + 16;
            length = length_told u (be 2 (open_at (stream_key st) st.counter (take (text_bytes u + 16) s)));
          })
      at Length =
          piece-order (stream_key st) st.counter s room 2 0 (length_ruled (framing_of st.method) (length_read (stream_key st) st.counter s)) _ _
          (unless said_step (is_empty (length_read (stream_key st) st.counter s)) _ [] _ (empty-length (length_read (stream_key st) st.counter s)) refl λ _. done _)
          ∙ passes 4 _ _ ∙ passes 1 _ _
      at (Payload m) =
          unless said_step (is_empty m) _ _ _ (empty-length m) refl λ _. piece-order (stream_key st) st.counter s room m m _ _ _ (done _ ∙ passes 14 [] _) ∙ passes 4 _ _
      at Ended = stops 4 _ _ ∙ passes 1 _ _
      at (Variable m) = stops 1 _ _

-- ---- sealing

chunk-order : (s : Sender) (payload room : ℕ) → said_piece (chunk_answer s payload room) ≡ first (seal_chunk_order s payload room) (chunk_sealed s payload room)
unfolding framed_answer
chunk-order s payload room =
    unless said_piece (eqb (key_length s.method) 0) _ _ _ (other-method s.method) refl λ _.
    unless said_piece (is_empty payload) _ _ _ (empty-length payload) refl λ _.
    next said_piece (ltb s.counter (last_counter - 1)) _ _ _ refl refl λ _. size-order max_chunk payload 18 room (moved s)

module _ (method : ℕ) (key salt address : List ℕ) (padding payload room : ℕ) where
  request-seal-order : said_piece (request_answer method key salt address padding payload room)
      ≡ first (seal_request_order method key salt address padding payload room) (request_sealed method key salt address padding payload room)
  unfolding request_answer sizes_fit padding_lawful variable_length
  request-seal-order =
      next said_piece (key_fits method (length key) && eqb (length salt) (salt_length method)) _ _ _ (unsuited method (length key) (length salt)) refl λ _.
      next said_piece (is_address address && (leb padding 900 && ltb 0 (padding + payload))) _ _ _
      (ap (◌||◌ (not (is_address address))) (bad-padding padding payload) ∙ not-and (is_address address) (leb padding 900 && ltb 0 (padding + payload))) refl λ _.
      size-order max_chunk (length address + 2 + padding + payload) (length salt + 27) room (begun method key salt)

module _ (method : ℕ) (key salt request_salt : List ℕ) (payload room : ℕ) where
  response-seal-order : said_piece (response_answer method key salt request_salt payload room)
      ≡ first (seal_response_order method key salt request_salt payload room) (response_sealed method key salt request_salt payload room)
  unfolding response_answer sizes_fit
  response-seal-order =
      next said_piece ((key_fits method (length key) && eqb (length salt) (salt_length method)) && eqb (length request_salt) (length salt)) _ _ _
      (unsuited-both method (length key) (length salt) (length request_salt)) refl λ _.
      unless said_piece (is_empty payload) _ _ _ (empty-length payload) refl λ _.
      size-order max_chunk payload (length salt + 27 + length request_salt) room (begun method key salt)

module _ (method k nonce : ℕ) (sender : Session) (address : List ℕ) (padding payload room : ℕ) where
  abbrev total : ℕ
  total = datagram_bytes method k nonce sender address padding payload room

  -- 2 and 3: a length that is too long counts as 0
  capped-order : (n : ℕ) → 0 < n
      → said_sealed (cond (eqb (capped n) 0) (Err Long) (cond (leb (capped n) room) (Ok (capped n)) (Err Narrow)))
      ≡ first (rule 2 (ltb 65507 n) ∷ rule 3 (ltb room n) ∷ []) n
  unfolding capped
  capped-order n h = go (leb n max_datagram) refl
    where
      go : (b : Bool) → leb n max_datagram ≡ b
          → said_sealed (cond (eqb (cond b n 0) 0) (Err Long) (cond (leb (cond b n 0) room) (Ok (cond b n 0)) (Err Narrow)))
          ≡ first (rule 2 (ltb 65507 n) ∷ rule 3 (ltb room n) ∷ []) n
      go true e =
          ap (λ (b : Bool). said_sealed (cond b (Err Long) (cond (leb n room) (Ok n) (Err Narrow)))) (ne_eqb n 0 (λ z. omega arith))
          ∙ next said_sealed true {x = cond (leb n room) (Ok n) (Err Narrow)} {bad = Err Long} (rule 2 (ltb 65507 n)) (rule 3 (ltb room n) ∷ []) n (under 65507 n ∙ ap not e) refl λ _.
          next said_sealed (leb n room) (rule 3 (ltb room n)) [] n (under room n) refl λ _. done n
      go false e =
          next said_sealed false {x = Err Long} {bad = Err Long} (rule 2 (ltb 65507 n)) (rule 3 (ltb room n) ∷ []) n (under 65507 n ∙ ap not e) refl λ z. absurd (false≢true z)

  seal-order : said_sealed (seal_answer method k nonce sender address padding payload room)
      ≡ first (seal_order method k nonce sender address padding payload room) total
  unfolding seal_answer argument_answer length_answer sealed_length
  seal-order =
      next said_sealed (key_fits method k && nonce_fits (cipher_of method) nonce) _ _ total (unsealable method k nonce) refl λ _.
      next said_sealed (is_address address && ids_differ sender) _ _ total
      (ap (◌||◌ (not (is_address address))) (same-ids sender.side sender.id) ∙ not-and (is_address address) (ids_differ sender)) refl λ _.
      unless said_sealed (eqb sender.packet (2 ^ 64 - 1)) _ _ total refl refl λ _.
      ap
      (λ (n : ℕ). said_sealed (cond (eqb (capped n) 0) (Err Long) (cond (leb (capped n) room) (Ok (capped n)) (Err Narrow))))
      (lengths sender.side)
      ∙ capped-order total (let z : 0 < total = omega (arith, besides-overhead method) in z)
    where
      lengths : (side : Side) → fixed_length side + padding + length address + payload + packet_overhead (cipher_of method)
          ≡ besides method + (main_at method + own_header side + padding + length address + payload)
      lengths Client = omega (arith, besides-overhead method, main-at method)
      lengths (Server client) = omega (arith, besides-overhead method, main-at method)

begin-order : (t : List ℕ) (clock id client : ℕ)
    → said_begun (reply_begun t clock id client) ≡ first (begin_order t clock id client) (session_begun id client)
unfolding reply_begun taken
begin-order t clock id client =
    next said_begun (lawful t) _ _ _ refl refl λ _.
    unless said_begun (eqb id client || taken t clock id) _ [] _ (ap (◌||◌ (eqb id client)) (same_place (session_place t clock id))) refl λ _. done _
  where
    same_place : (o : Option ℕ) → is_alive o ≡ is_place o
    same_place (Some i) = refl
    same_place None = refl

-- ---- heads

-- the length that a fixed header with a binding of b bytes gives stands behind 9 bytes and the binding
length-place : (k : Keyed) (n b : ℕ) (s : List ℕ) → n + 27 + b ≤ length s → length (open_at k 0 (take (27 + b) (drop n s))) - 2 ≡ 9 + b
length-place k n b s h =
    let l : length (take (27 + b) (drop n s)) ≡ 27 + b = length-take-le (27 + b) (drop n s) (omega (arith, length-drop n s)) in
    omega (arith, length-open_at k 0 (take (27 + b) (drop n s)))

-- 4, 6 and 7 of a fixed header, and what follows it
module _ {B : Type 0} (said : Result Fixed Refusal → Said B) (k : Keyed) (kind clock : ℕ) (piece : List ℕ) (rs : List Rule) (v : B) where
  abbrev text : List ℕ
  text = open_at k 0 piece

  fixed-order : ((r : Refusal) → said (Err r) ≡ refuses_with r) → said (Ok (fields_of text)) ≡ first rs v
      → said (open_fixed k kind clock piece)
      ≡ first
      (rule 4 (not (authentic_at k 0 piece)) ∷ rule 6 (not (eqb (get_or text 0 0) kind)) ∷ rule 7 (not (time_valid (be 8 (drop 1 text)) clock)) ∷ rs)
      v
  unfolding open_fixed read_fixed
  fixed-order refused e =
      next said (authentic_at k 0 piece) _ _ v refl (refused NotAuthentic) λ _.
      next said (eqb (get_or text 0 0) kind) _ _ v refl (refused WrongType) λ _.
      next said (time_valid (be 8 (drop 1 text)) clock) _ rs v refl (refused WrongTime) λ _. e

module _ (method : ℕ) (key : List ℕ) (clock : ℕ) (request_salt s : List ℕ) where
  abbrev n : ℕ
  n = salt_length method

  abbrev k : Keyed
  k = salted_key method key (take n s)

  abbrev fixed : List ℕ
  fixed = open_at k 0 (take (27 + n) (drop n s))

  abbrev ours : Bool
  ours = same (take n (drop 9 fixed)) request_salt

  -- the value, where the length stands at this place
  abbrev answered : ℕ → Response × Receiver
  answered m = (
    record { time = be 8 (drop 1 fixed); length = be 2 (drop m fixed); used = n + 27 + n },
    record { method = method; turn = Payload (be 2 (drop m fixed)); counter = 1; subkey = subkey_words k.bytes },
  )

  -- 14, likewise
  abbrev nothing : ℕ → Rule
  nothing m = rule 14 (eqb (be 2 (drop m fixed)) 0)

  response-order : said_response (opened_response method key clock request_salt s)
      ≡ first (response_order method key clock request_salt s) (response_opened method key clock request_salt s)
  unfolding opened_response response_at bound_of
  response-order =
      next said_response (key_fits method (length key) && eqb (length request_salt) n) _ _ _ (unsuited method (length key) (length request_salt)) refl λ _.
      next said_response (leb (n + 27 + n) (length s)) _ _ _ (under (length s) (n + 27 + n)) refl λ e.
      fixed-order (λ (f : Result Fixed Refusal). said_response (bound_as method (subkey_words k.bytes) (n + 27 + n) ours f)) k 1 clock (take (27 + n) (drop n s)) _ _ (λ r. refl)
      (next said_response ours (rule 13 (not ours)) (nothing (length fixed - 2) ∷ []) (answered (length fixed - 2)) refl refl (λ _.
      unless said_response (is_empty (be 2 (drop (length fixed - 2) fixed))) (nothing (length fixed - 2)) [] (answered (length fixed - 2))
      (empty-length (be 2 (drop (length fixed - 2) fixed))) refl λ _. done _)
      ∙ ap (λ (m : ℕ). first (rule 13 (not ours) ∷ nothing m ∷ []) (answered m)) (length-place k n n s (leb-true (n + 27 + n) (length s) e)))

-- 8 and 9
met-order : {B : Type 0} (said : Result Fixed Refusal → Said B) (f : Fixed) (v : B) → said (Ok f) ≡ gives v → ((r : Refusal) → said (Err r) ≡ refuses_with r)
    → (m : Met) → said (met_as m f) ≡ first (rule 8 (is_replay m) ∷ rule 9 (is_full m) ∷ []) v
met-order said f v e refused (Ok i) = e ∙ done v ∙ passes 9 _ _ ∙ passes 8 _ _
met-order said f v e refused (Err Known) = refused Replay ∙ stops 8 _ _
met-order said f v e refused (Err NoRoom) = refused Full ∙ stops 9 _ _ ∙ passes 8 _ _

module _ (method : ℕ) (key : List ℕ) (clock : ℕ) (s pool : List ℕ) where
  abbrev bytes : ℕ
  bytes = salt_length method

  abbrev stream_key_of : Keyed
  stream_key_of = salted_key method key (take bytes s)

  abbrev front : List ℕ
  front = open_at stream_key_of 0 (take 27 (drop bytes s))

  abbrev met : Met
  met = meet_salt pool clock (take bytes s)

  -- the value, where the length stands at the place m and the front has so many bytes
  abbrev begun-by : (m before : ℕ) → Request × Receiver
  begun-by m before = (
    record { time = be 8 (drop 1 front); length = be 2 (drop m front); used = before },
    record { method = method; turn = Variable (be 2 (drop m front)); counter = 1; subkey = subkey_words stream_key_of.bytes },
  )

  abbrev rules : (before : ℕ) → List Rule
  rules before =
      rule 1 (other_key method (length key) || not (lawful_pool pool method))
      ∷ more before (ltb (length s) before)
      ∷ rule 4 (not (authentic_at stream_key_of 0 (take 27 (drop bytes s))))
      ∷ rule 6 (not (eqb (get_or front 0 0) 0))
      ∷ rule 7 (not (time_valid (be 8 (drop 1 front)) clock))
      ∷ rule 8 (is_replay met)
      ∷ rule 9 (is_full met)
      ∷ []

  -- as the definitions count the front
  abbrev front_bytes : ℕ
  front_bytes = front_length bytes 0

  abbrev said_front : Result Fixed Refusal → Said (Request × Receiver)
  said_front x = said_request (opened_as method (subkey_words stream_key_of.bytes) front_bytes x)

  request-order : said_request (opened_request method key clock s pool) ≡ first (request_order method key clock s pool) (request_opened method key clock s pool)
  unfolding opened_request settings read_front
  request-order =
      next said_request (key_fits method (length key) && lawful_pool pool method) _ _ _
      (ap (λ (b : Bool). b || not (lawful_pool pool method)) (other_key_lem method (length key)) ∙ not-and (key_fits method (length key)) (lawful_pool pool method))
      refl
      (λ _. next said_request (leb front_bytes (length s)) _ _ _ (under (length s) front_bytes) refl λ e.
      fixed-order (λ (f : Result Fixed Refusal). said_front (fixed_as met f)) stream_key_of 0 clock (take 27 (drop bytes s)) _ _ (λ r. refl)
      (met-order said_front (fields_of front) (begun-by (length front - 2) front_bytes) refl (λ r. refl) met
      ∙ ap (λ (m : ℕ). first (rule 8 (is_replay met) ∷ rule 9 (is_full met) ∷ []) (begun-by m front_bytes))
      (length-place stream_key_of bytes 0 s (leb-true front_bytes (length s) e))))
      ∙ ap (λ (b : ℕ). first (rules b) (begun-by 9 b)) same-front
    where
      same-front : front_bytes ≡ bytes + 27
      same-front = omega arith

-- ---- a variable header

module _ (st : Receiver) (s : List ℕ) (room : ℕ) where
  -- of n bytes
  module _ (n : ℕ) where
    abbrev plain_header : List ℕ
    plain_header = open_at (stream_key st) 1 (take (n + 16) s)

    abbrev header_rules : List Rule
    header_rules =
        more (n + 16) (ltb (length s) (n + 16)) ∷ rule 3 (ltb room n)
        ∷ rule 4 (not (authentic_at (stream_key st) 1 (take (n + 16) s))) ∷ rule 5 (bad_variable (parse_at plain_header 0) plain_header) ∷ []

    abbrev said_by : Option Address → VariableHeader
    said_by a =
        record {
          target = (address_in a).target;
          port = (address_in a).port;
          padding = be 2 (drop (address_in a).end plain_header);
          payload = (address_in a).end + 2 + be 2 (drop (address_in a).end plain_header);
          length = n;
          used = n + 16;
        }

    headed-order : (a : Option Address) → said_variable (variable_with n plain_header a) ≡ first (rule 5 (bad_variable a plain_header) ∷ []) (said_by a)
    unfolding padding_fits
    headed-order (Some a) =
        next said_variable (padding_fits a.end plain_header) _ [] _
        (bad-behind (length plain_header) a.end (padding_at a.end plain_header)) refl λ _. done _
    headed-order None = stops 5 [] _

    piece-header : said_variable (header_answer (stream_key st) n s room) ≡ first header_rules (said_by (parse_at plain_header 0))
    unfolding header_answer read_variable
    piece-header =
        next said_variable (leb (n + 16) (length s)) _ _ _ (under (length s) (n + 16)) refl λ _.
        next said_variable (leb n room) _ _ _ (under room n) refl λ _.
        next said_variable (authentic_at (stream_key st) 1 (take (n + 16) s)) _ _ _ refl refl λ _. headed-order (parse_at plain_header 0)

  -- by the turn: 1 and 4, and the piece's
  turn-order : (u : Turn) → said_variable (turn_variable u st s room)
      ≡ first (rule 1 (other_turn u st.counter) ∷ rule 4 (is_ended u) ∷ header_rules (header_size u))
      (said_by (header_size u) (parse_at (plain_header (header_size u)) 0))
  turn-order (Variable n) =
      next said_variable (eqb st.counter 1) (rule 1 (not (eqb st.counter 1))) _ _ refl refl λ _. piece-header n ∙ passes 4 _ _
  turn-order Length = stops 1 _ _
  turn-order (Payload m) = stops 1 _ _
  turn-order Ended = stops 4 _ _ ∙ passes 1 _ _

  variable-order : said_variable (variable_answer st s room) ≡ first (variable_order st s room) (header_opened st s room)
  unfolding variable_answer
  variable-order =
      unless said_variable (eqb (key_length st.method) 0) (rule 1 (other_method st.method)) _ _ (other-method st.method) refl
      (λ _. turn-order st.turn)
      ∙ split 1 (other_method st.method) (other_turn st.turn st.counter) _ _

-- ---- all of them

pub orders : Orders
orders =
    record {
      datagram-opened = open_order_lem;
      request-opened = request-order;
      variable-opened = variable-order;
      response-opened = response-order;
      step = step-order;
      datagram-sealed = seal-order;
      request-sealed = request-seal-order;
      response-sealed = response-seal-order;
      chunk-sealed = chunk-order;
      session-begun = begin-order;
    }
