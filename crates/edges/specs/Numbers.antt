-- The scope's numbers and layouts as one table. A fact is what the definitions that contracts cite compute to, as numbers, and
-- what it should be, written out as the scope has it. A size, a layout or a byte order that is changed alike in a definition and
-- in the code still meets the contract; it does not meet this table.
-- Assumes nothing.
use Rattle.std.specs.Prelude.{◌≡◌, Bool, true, false, cond, ◌&&◌, List, [], ◌∷◌, ◌++◌, map, ℕ, zero, suc, ◌+◌, ◌-◌, ◌*◌, ◌^◌, T, length, get_or, take, drop, replicate, Err, None, Ok, Option, Result, Some}
use Rattle.octets.specs.Buffers.{same}
use Rattle.aes.specs.Keyed.{nk_of}
use Rattle.blake3.specs.Tree.{derive_key}
use Rattle.protocol.specs.declared.Cipher.{Cipher}
use Rattle.protocol.specs.declared.Cipher.TheVariants.{AesGcm, ChaChaPoly}
use Rattle.protocol.specs.declared.Method.{Method}
use Rattle.protocol.specs.Method.{method_of, key_fits, key_length, salt_length}
use Rattle.protocol.specs.declared.Refusal.{Refusal}
use Rattle.protocol.specs.declared.Refusal.TheVariants.{Settings, Length, Room, NotAuthentic, Malformed, WrongType, WrongTime, Replay, Full, More, Counter, Argument, Binding, Empty, UnknownSetting}
use Rattle.protocol.specs.Refusal.{refusal_number, added}
use Rattle.protocol.specs.Subkey.{subkey, session_subkey}
use Rattle.protocol.specs.Time.{tolerance}
use Rattle.socks5.specs.declared.Target.{Target}
use Rattle.socks5.specs.declared.Target.TheVariants.{V4, V6, Name}
use Rattle.socks5.specs.Address.{parse_at, is_address}
use Rattle.session_window.specs.Window.{window, join4}
use Rattle.session_table.specs.Sizes.{capacity}
use Rattle.session_table.specs.Table.{Record, accept_in, new_record, record_words, table_words, start, retention, lawful, new_table, make_lawful, made, record_at, words_of, store, repeated, live}
use Rattle.salt_pool.specs.Pool as pool
use Rattle.session_book.specs.Call.{refused}
use Rattle.session_book.specs.Demand3.{view_of_record}
use Rattle.datagram_parts.specs.declared.Side.{Side}
use Rattle.datagram_parts.specs.declared.Side.TheVariants.{Client, Server}
use Rattle.datagram_parts.specs.Headers.{separate_header, nonce, type_of, fixed_part, fixed_length, plaintext, main_start, sealed_text}
use Rattle.datagram_parts.specs.Parts.{max_datagram, overhead, nonce_fits}
use Rattle.datagram_seal.specs.Sealing.{sealed_length}
use Rattle.reply_session.specs.Beginning.{reply_begun}
use Rattle.datagram_read.specs.Opening.{read_main}
use Rattle.datagram_open.specs.Deciding.{belongs}
use Rattle.stream_pieces.specs.Pieces.{nonce as counter_nonce, max_chunk, last_counter}
use Rattle.stream_heads.specs.Heads.{max_padding, front_length}
use Rattle.stream_seal_heads.specs.HeadSealing.{fixed_part as fixed_header, variable_part}
use Rattle.stream_open.specs.declared.Turn.{Turn}
use Rattle.stream_open.specs.declared.Turn.TheVariants.{Variable, Length as LengthTurn, Payload, Ended}
use Rattle.stream_open.specs.declared.Receiver.{Receiver}
use Rattle.stream_pieces.specs.Framing.{framing_of}
use Rattle.stream_open.specs.Chunks.{step_answer}
use Rattle.stream_open.specs.Steps.{length_answer}
use Rattle.stream_open_variable.specs.Variable.{variable_answer, variable_next}
use Rattle.words.specs.Answers.{answer_words, kind_of, header_words, variable_words, head_words, chunk_words, refused_answer}
use Rattle.words.specs.States.{session_size, session_words, stream_size, sender_words, receiver_words, receiver_lawful}
use Rattle.stream_answers.specs.Told.{variable_number, variable_told, variable_stream, stepped_number, stepped_answer, step_stream}
use Rattle.relay.specs.Streams.{not_sealing}
use Rattle.relay.specs.Datagrams.{settings_number, begun_words, sealed, opened_number, opened_words, caller_of}
use Rattle.edges.specs.Edges.{home, name_a, number_of}
use Rattle.socks5.specs.declared.Address.{Address}
use Rattle.datagram_read.specs.declared.Header.{Header}

pub record Fact : Type 0 where
  pub says : List ℕ
  pub should : List ℕ

abbrev pub fact : List ℕ → List ℕ → Fact
fact says should = record { says = says; should = should }

-- one number
abbrev pub number : ℕ → ℕ → Fact
number says should = fact (says ∷ []) (should ∷ [])

abbrev pub every : List Fact → Bool
every [] = true
every (f ∷ fs) = same f.says f.should && every fs

-- tests as numbers
abbrev pub bits : List Bool → List ℕ
bits [] = []
bits (b ∷ bs) = cond b 1 0 ∷ bits bs

-- ---- methods and refusals

-- double rounds of ChaCha; AES has none
abbrev pub double_rounds : Cipher → ℕ
double_rounds AesGcm = 0
double_rounds (ChaChaPoly n) = n

-- number, key, salt, rounds and double rounds
abbrev pub sizes_of : Option Method → List ℕ
sizes_of (Some m) = m.number ∷ m.key ∷ m.salt ∷ m.rounds ∷ double_rounds m.cipher ∷ []
sizes_of None = []

abbrev pub refusals : List Refusal
refusals =
    Settings ∷ Length ∷ Room ∷ NotAuthentic ∷ Malformed ∷ WrongType ∷ WrongTime ∷ Replay ∷ Full ∷ More 43 ∷ Counter ∷ Argument
    ∷ Binding ∷ Empty ∷ UnknownSetting 127 ∷ []

unfoldable pub method_facts : List Fact
method_facts =
    fact (sizes_of (method_of 1)) (1 ∷ 16 ∷ 16 ∷ 10 ∷ 0 ∷ [])
    ∷ fact (sizes_of (method_of 2)) (2 ∷ 32 ∷ 32 ∷ 14 ∷ 0 ∷ [])
    ∷ fact (sizes_of (method_of 3)) (3 ∷ 32 ∷ 32 ∷ 20 ∷ 10 ∷ [])
    ∷ fact (sizes_of (method_of 4)) (4 ∷ 32 ∷ 32 ∷ 12 ∷ 6 ∷ [])
    ∷ fact (sizes_of (method_of 5)) (5 ∷ 32 ∷ 32 ∷ 8 ∷ 4 ∷ [])
    -- no other number is a method, nor is one that has 1 or 2 in its low bits
    ∷ fact (sizes_of (method_of 0)) []
    ∷ fact (sizes_of (method_of 6)) []
    ∷ fact (sizes_of (method_of 257)) []
    ∷ fact (sizes_of (method_of (2 ^ 32 + 1))) []
    ∷ fact (key_length 1 ∷ key_length 2 ∷ salt_length 1 ∷ salt_length 2 ∷ []) (16 ∷ 32 ∷ 16 ∷ 32 ∷ [])
    ∷ fact (bits (key_fits 1 16 ∷ key_fits 1 32 ∷ key_fits 2 32 ∷ key_fits 2 16 ∷ key_fits 0 0 ∷ [])) (1 ∷ 0 ∷ 1 ∷ 0 ∷ 0 ∷ [])
    ∷ fact (map refusal_number refusals) (1 ∷ 2 ∷ 3 ∷ 4 ∷ 5 ∷ 6 ∷ 7 ∷ 8 ∷ 9 ∷ 10 ∷ 11 ∷ 12 ∷ 13 ∷ 14 ∷ 15 ∷ [])
    -- only 10 adds a count, and 15 a setting
    ∷ fact (map added refusals) (0 ∷ 0 ∷ 0 ∷ 0 ∷ 0 ∷ 0 ∷ 0 ∷ 0 ∷ 0 ∷ 43 ∷ 0 ∷ 0 ∷ 0 ∷ 0 ∷ 127 ∷ [])
    ∷ number tolerance 30
    ∷ []

-- ---- the session table

-- 13 words in the order of a record: in use, ID, h, last time, marks (4), address (2), port, accepted, repeats
abbrev pub ones : List ℕ
ones = 1 ∷ 2 ∷ 3 ∷ 4 ∷ 5 ∷ 6 ∷ 7 ∷ 8 ∷ 9 ∷ 10 ∷ 11 ∷ 12 ∷ 13 ∷ []

abbrev pub ones_record : Record
ones_record =
    record {
      used = 1;
      id = 2;
      h = 3;
      last = 4;
      marks = join4 5 6 7 8;
      peer = record { first = 9; second = 10; port = 11 };
      accepted = 12;
      repeats = 13;
    }

abbrev pub fields_of : Record → List ℕ
fields_of r =
    r.used ∷ r.id ∷ r.h ∷ r.last ∷ r.marks ∷ r.peer.first ∷ r.peer.second ∷ r.peer.port ∷ r.accepted ∷ r.repeats ∷ []

-- a lent table of so many words, with this R
abbrev pub lent : (words R : ℕ) → List ℕ
lent words R = R ∷ replicate (words - 1) 0

-- h is 300; bit 0 of mark word 0, bit 3 of word 1 and bit 63 of word 3
abbrev pub marked : Record
marked = record_at (60 ∷ 1 ∷ 7 ∷ 300 ∷ 1000 ∷ 1 ∷ 8 ∷ 0 ∷ 2 ^ 63 ∷ []) 0

abbrev pub record300 : Record
record300 = new_record 1000 home 7 300

-- the words of `ones` with junk in the port word's high bits and these counts
abbrev pub junk : (accepted repeats : ℕ) → List ℕ
junk accepted repeats = 60 ∷ 1 ∷ 2 ∷ 3 ∷ 4 ∷ 5 ∷ 6 ∷ 7 ∷ 8 ∷ 9 ∷ 10 ∷ (2 ^ 63 + 80) ∷ accepted ∷ repeats ∷ []

unfoldable pub table_facts : List Fact
table_facts =
    fact (capacity ∷ record_words ∷ table_words ∷ window ∷ []) (64 ∷ 13 ∷ 833 ∷ 256 ∷ [])
    ∷ number (length (new_table 60)) 833
    ∷ fact (take 3 (new_table 60)) (60 ∷ 0 ∷ 0 ∷ [])
    ∷ fact (start 0 ∷ start 1 ∷ start 63 ∷ []) (1 ∷ 14 ∷ 820 ∷ [])
    -- R of 60 to 3,600 in a lent table of 833 words
    ∷ fact (bits (lawful (lent 833 0) ∷ lawful (lent 833 59) ∷ lawful (lent 833 60) ∷ lawful (lent 833 3600) ∷ lawful (lent 833 3601) ∷ []))
    (0 ∷ 0 ∷ 1 ∷ 1 ∷ 0 ∷ [])
    ∷ fact (bits (lawful (lent 832 60) ∷ lawful (lent 834 60) ∷ lawful (lent 705 60) ∷ [])) (0 ∷ 0 ∷ 0 ∷ [])
    -- making: 0 stands for 300
    ∷ fact
    (bits (make_lawful 0 (lent 833 7) ∷ make_lawful 1 (lent 833 7) ∷ make_lawful 59 (lent 833 7) ∷ make_lawful 60 (lent 833 7)
    ∷ make_lawful 3600 (lent 833 7) ∷ make_lawful 3601 (lent 833 7) ∷ make_lawful 60 (lent 832 7) ∷ make_lawful 60 (lent 705 7) ∷ []))
    (1 ∷ 0 ∷ 0 ∷ 1 ∷ 1 ∷ 0 ∷ 0 ∷ 0 ∷ [])
    ∷ fact
    (retention (made 0 (lent 833 7)) ∷ retention (made 60 (lent 833 7)) ∷ retention (made 3600 (lent 833 7)) ∷ retention (made 59 (lent 833 7)) ∷ [])
    (300 ∷ 60 ∷ 3600 ∷ 7 ∷ [])
    -- last time 1,000: a table made with 0 has it alive at 1,300 and not at 1,301, one made with 60 at 1,060 and not at 1,061
    ∷ fact
    (bits (live (retention (made 0 (lent 833 7))) 1300 record300 ∷ live (retention (made 0 (lent 833 7))) 1301 record300
    ∷ live (retention (made 60 (lent 833 7))) 1060 record300 ∷ live (retention (made 60 (lent 833 7))) 1061 record300 ∷ []))
    (1 ∷ 0 ∷ 1 ∷ 0 ∷ [])
    -- the words of a record, written and read, and where the second record stands
    ∷ fact (words_of ones_record) ones
    ∷ fact (take 15 (drop 13 (store (new_table 60) 1 ones_record))) (0 ∷ ones ++ (0 ∷ []))
    ∷ fact (fields_of (record_at (60 ∷ ones) 0)) (1 ∷ 2 ∷ 3 ∷ 4 ∷ (5 + 2 ^ 64 * (6 + 2 ^ 64 * (7 + 2 ^ 64 * 8))) ∷ 9 ∷ 10 ∷ 11 ∷ 12 ∷ 13 ∷ [])
    -- a port is the low 16 bits of its word
    ∷ number (record_at (60 ∷ 1 ∷ 2 ∷ 3 ∷ 4 ∷ 5 ∷ 6 ∷ 7 ∷ 8 ∷ 9 ∷ 10 ∷ 65616 ∷ []) 0).peer.port 80
    -- a record is in use where its word is not 0
    ∷ fact (bits (live 60 1060 (record_at (60 ∷ 7 ∷ 0 ∷ 0 ∷ 1000 ∷ []) 0) ∷ live 60 1060 (record_at (60 ∷ 0 ∷ 0 ∷ 0 ∷ 1000 ∷ []) 0) ∷ [])) (1 ∷ 0 ∷ [])
    -- bit i of mark word k marks h - 64 k - i
    ∷ fact
    (bits ((view_of_record marked).marked 300 ∷ (view_of_record marked).marked 299 ∷ (view_of_record marked).marked 233 ∷ (view_of_record marked).marked 45 ∷ (view_of_record marked).marked 46 ∷ []))
    (1 ∷ 0 ∷ 1 ∷ 1 ∷ 0 ∷ [])
    -- a new session: in use is 1, h is the packet ID, which alone is marked; it accepted one datagram, and there is no repeat
    ∷ fact (words_of (new_record 1000 (caller_of 8 9 80) 7 300)) (1 ∷ 7 ∷ 300 ∷ 1000 ∷ 1 ∷ 0 ∷ 0 ∷ 0 ∷ 8 ∷ 9 ∷ 80 ∷ 1 ∷ 0 ∷ [])
    -- acceptance: the larger of the old time and the clock, where that goes back and where it goes on, the caller's address, and one
    -- more accepted
    ∷ fact (words_of (accept_in 990 (caller_of 8 9 80) 301 record300)) (1 ∷ 7 ∷ 301 ∷ 1000 ∷ 3 ∷ 0 ∷ 0 ∷ 0 ∷ 8 ∷ 9 ∷ 80 ∷ 2 ∷ 0 ∷ [])
    ∷ fact (words_of (accept_in 1010 (caller_of 8 9 80) 299 record300)) (1 ∷ 7 ∷ 300 ∷ 1010 ∷ 3 ∷ 0 ∷ 0 ∷ 0 ∷ 8 ∷ 9 ∷ 80 ∷ 2 ∷ 0 ∷ [])
    -- a repeat: its count and no other word, and that of its own record
    ∷ fact (repeated (junk 12 13) 0) (junk 12 14)
    ∷ fact (take 28 (repeated (junk 12 13 ++ ones) 1)) (junk 12 13 ++ (1 ∷ 2 ∷ 3 ∷ 4 ∷ 5 ∷ 6 ∷ 7 ∷ 8 ∷ 9 ∷ 10 ∷ 11 ∷ 12 ∷ 14 ∷ []))
    -- both counts stop at 2^64 - 1
    ∷ fact (repeated (junk 12 (2 ^ 64 - 2)) 0) (junk 12 (2 ^ 64 - 1))
    ∷ fact (repeated (junk 12 (2 ^ 64 - 1)) 0) (junk 12 (2 ^ 64 - 1))
    ∷ fact
    ((accept_in 1000 home 300 (record_at (junk (2 ^ 64 - 2) 13) 0)).accepted ∷ (accept_in 1000 home 300 (record_at (junk (2 ^ 64 - 1) 13) 0)).accepted ∷ [])
    ((2 ^ 64 - 1) ∷ (2 ^ 64 - 1) ∷ [])
    ∷ []

-- ---- the salt pool

abbrev pub salt16 : List ℕ
salt16 = 1 ∷ 2 ∷ 3 ∷ 4 ∷ 5 ∷ 6 ∷ 7 ∷ 8 ∷ 9 ∷ 10 ∷ 11 ∷ 12 ∷ 13 ∷ 14 ∷ 15 ∷ 16 ∷ []

-- a pool of method 1 with one salt, stored at 1,000
abbrev pub stored16 : List ℕ
stored16 = pool.store (pool.new_pool 1) 0 1000 salt16

unfoldable pub pool_facts : List Fact
pool_facts =
    fact (pool.capacity ∷ pool.record_words ∷ pool.pool_words ∷ pool.keep_time ∷ []) (256 ∷ 6 ∷ 1537 ∷ 60 ∷ [])
    ∷ number (length (pool.new_pool 2)) 1537
    ∷ fact (take 3 (pool.new_pool 2)) (2 ∷ 0 ∷ 0 ∷ [])
    ∷ fact (pool.start 0 ∷ pool.start 1 ∷ pool.start 255 ∷ []) (1 ∷ 7 ∷ 1531 ∷ [])
    ∷ fact
    (bits (pool.lawful (lent 1537 1) 1 ∷ pool.lawful (lent 1537 1) 2 ∷ pool.lawful (lent 1536 1) 1 ∷ pool.make_lawful 2 (lent 1537 0) ∷ pool.make_lawful 5 (lent 1537 0) ∷ pool.make_lawful 6 (lent 1537 0) ∷ []))
    (1 ∷ 0 ∷ 0 ∷ 1 ∷ 1 ∷ 0 ∷ [])
    -- in use, time, salt in four words, big-endian; of a salt of 16 bytes the last two are zeros
    ∷ fact (take 8 stored16) (1 ∷ 1 ∷ 1000 ∷ 0x0102030405060708 ∷ 0x090a0b0c0d0e0f10 ∷ 0 ∷ 0 ∷ 0 ∷ [])
    ∷ fact (take 6 (drop 7 (pool.store (pool.new_pool 2) 1 1000 (salt16 ++ salt16))))
    (1 ∷ 1000 ∷ 0x0102030405060708 ∷ 0x090a0b0c0d0e0f10 ∷ 0x0102030405060708 ∷ 0x090a0b0c0d0e0f10 ∷ [])
    -- kept while the clock is not past the time, or past it by at most 60
    ∷ fact (bits (pool.kept stored16 990 0 ∷ pool.kept stored16 1060 0 ∷ pool.kept stored16 1061 0 ∷ [])) (1 ∷ 1 ∷ 0 ∷ [])
    ∷ []

-- ---- addresses

-- a target's kind, its numbers or place and length, the port, and the place behind it
abbrev pub target_words : Target → List ℕ
target_words (V4 a) = 1 ∷ a ∷ []
target_words (V6 a b) = 4 ∷ a ∷ b ∷ []
target_words (Name place n) = 3 ∷ place ∷ n ∷ []

abbrev pub parsed_words : Option Address → List ℕ
parsed_words (Some a) = target_words a.target ++ (a.port ∷ a.end ∷ [])
parsed_words None = []

-- the kind bytes below n that an address may have
abbrev pub kinds_below : ℕ → List ℕ
kinds_below zero = []
kinds_below (suc k) = kinds_below k ++ found (parsed_words (parse_at (k ∷ 1 ∷ replicate 20 0) 0))
  where
    found : List ℕ → List ℕ
    found [] = []
    found (x ∷ xs) = k ∷ []

unfoldable pub address_facts : List Fact
address_facts =
    fact (kinds_below 256) (1 ∷ 3 ∷ 4 ∷ [])
    ∷ fact (parsed_words (parse_at (1 ∷ 192 ∷ 0 ∷ 2 ∷ 7 ∷ 1 ∷ 187 ∷ []) 0)) (1 ∷ 0xc0000207 ∷ 443 ∷ 7 ∷ [])
    ∷ fact (parsed_words (parse_at (4 ∷ salt16 ++ (0 ∷ 80 ∷ [])) 0)) (4 ∷ 0x0102030405060708 ∷ 0x090a0b0c0d0e0f10 ∷ 80 ∷ 19 ∷ [])
    ∷ fact (parsed_words (parse_at (9 ∷ 3 ∷ 2 ∷ 0x61 ∷ 0x62 ∷ 0 ∷ 80 ∷ []) 1)) (3 ∷ 3 ∷ 2 ∷ 80 ∷ 7 ∷ [])
    -- exactly one, and nothing behind it
    ∷ fact (bits (is_address (1 ∷ 0 ∷ 0 ∷ 0 ∷ 0 ∷ 0 ∷ 0 ∷ []) ∷ is_address (1 ∷ 0 ∷ 0 ∷ 0 ∷ 0 ∷ 0 ∷ 0 ∷ 0 ∷ []) ∷ is_address [] ∷ [])) (1 ∷ 0 ∷ 0 ∷ [])
    ∷ fact (kind_of (V4 0) ∷ kind_of (Name 0 0) ∷ kind_of (V6 0 0) ∷ []) (1 ∷ 3 ∷ 4 ∷ [])
    ∷ []

-- ---- datagrams

abbrev pub id18 : ℕ
id18 = 0x0102030405060708

abbrev pub bytes18 : List ℕ
bytes18 = 1 ∷ 2 ∷ 3 ∷ 4 ∷ 5 ∷ 6 ∷ 7 ∷ 8 ∷ []

-- the time 1,000
abbrev pub thousand : List ℕ
thousand = 0 ∷ 0 ∷ 0 ∷ 0 ∷ 0 ∷ 0 ∷ 3 ∷ 232 ∷ []

-- what a header is answered at clock 1,000, by the opener of a side's datagrams
abbrev pub answered : Side → List ℕ → ℕ
answered side plain = number_of (read_main 0 side 1000 0 0 plain)

-- with ChaCha, where the plaintext begins with session ID and packet ID
abbrev pub answered_inner : Side → List ℕ → ℕ
answered_inner side plain = number_of (read_main (main_start (ChaChaPoly 10)) side 1000 0 0 plain)

-- the place of the payload
abbrev pub payload_at : Result Header Refusal → ℕ
payload_at (Ok h) = h.payload
payload_at (Err r) = 0

abbrev pub inner : Side → List ℕ
inner side = sealed_text (ChaChaPoly 10) id18 5 side 1000 0 name_a []

abbrev pub is_some : Option ℕ → Bool
is_some (Some id) = true
is_some None = false

-- whether a datagram of n bytes names a session under a method and a key of k bytes
abbrev pub named : (method k n : ℕ) → Bool
named method k n = is_some (belongs method (replicate k 0) (record { clock = 0; peer = home; datagram = replicate n 0; output = []; client = None }))

unfoldable pub datagram_facts : List Fact
datagram_facts =
    number max_datagram 65507
    ∷ fact (separate_header id18 5) (bytes18 ++ (0 ∷ 0 ∷ 0 ∷ 0 ∷ 0 ∷ 0 ∷ 0 ∷ 5 ∷ []))
    ∷ fact (nonce id18 5) (5 ∷ 6 ∷ 7 ∷ 8 ∷ 0 ∷ 0 ∷ 0 ∷ 0 ∷ 0 ∷ 0 ∷ 0 ∷ 5 ∷ [])
    ∷ fact (type_of Client ∷ type_of (Server 0) ∷ fixed_length Client ∷ fixed_length (Server 0) ∷ []) (0 ∷ 1 ∷ 11 ∷ 19 ∷ [])
    ∷ fact (fixed_part Client 1000 258) (0 ∷ thousand ++ (1 ∷ 2 ∷ []))
    ∷ fact (fixed_part (Server id18) 1000 258) (1 ∷ thousand ++ (bytes18 ++ (1 ∷ 2 ∷ [])))
    -- padding is zeros
    ∷ fact (plaintext Client 1000 2 name_a (7 ∷ [])) (fixed_part Client 1000 2 ++ (0 ∷ 0 ∷ 3 ∷ 1 ∷ 0x61 ∷ 0 ∷ 80 ∷ 7 ∷ []))
    -- a plaintext of 16 bytes, and a datagram of 48
    ∷ fact (sealed_length AesGcm Client 5 0 0 ∷ sealed_length AesGcm (Server 0) 5 0 0 ∷ []) (48 ∷ 56 ∷ [])
    -- with ChaCha: a nonce of 24 bytes and no other length, 40 bytes more than the plaintext, whose main header starts at 16; with an IPv4
    -- address and no payload 74 bytes from a client
    ∷ fact (bits (nonce_fits (ChaChaPoly 10) 23 ∷ nonce_fits (ChaChaPoly 10) 24 ∷ nonce_fits (ChaChaPoly 10) 25 ∷ nonce_fits AesGcm 0 ∷ [])) (0 ∷ 1 ∷ 0 ∷ 1 ∷ [])
    ∷ fact (overhead AesGcm ∷ overhead (ChaChaPoly 10) ∷ main_start AesGcm ∷ main_start (ChaChaPoly 10) ∷ []) (32 ∷ 40 ∷ 0 ∷ 16 ∷ [])
    ∷ fact (sealed_length (ChaChaPoly 10) Client 7 0 0 ∷ sealed_length (ChaChaPoly 10) (Server 0) 7 0 0 ∷ []) (74 ∷ 82 ∷ [])
    ∷ fact (take 17 (inner Client)) (bytes18 ++ (0 ∷ 0 ∷ 0 ∷ 0 ∷ 0 ∷ 0 ∷ 0 ∷ 5 ∷ 0 ∷ []))
    -- 26 bytes from a client and 34 from a server are too short, one more is not
    ∷ number (answered_inner Client (replicate 16 9 ++ (1 ∷ replicate 9 0))) 5
    ∷ number (answered_inner Client (replicate 16 9 ++ (1 ∷ replicate 10 0))) 6
    ∷ number (answered_inner (Server 7) (replicate 16 9 ++ replicate 18 0)) 5
    ∷ number (answered_inner (Server 7) (replicate 16 9 ++ replicate 19 0)) 6
    ∷ number (answered_inner Client (inner Client)) 0
    ∷ number (answered_inner (Server 7) (inner (Server 7))) 0
    ∷ number (answered_inner (Server 7) (inner (Server 8))) 13
    -- places count from the session ID
    ∷ number (payload_at (read_main (main_start (ChaChaPoly 10)) Client 1000 0 0 (inner Client))) 32
    -- two faults, for each neighbouring pair of 5, 6, 7, 13, 5
    ∷ number (answered Client (1 ∷ replicate 9 0)) 5
    ∷ number (answered Client (1 ∷ replicate 10 0)) 6
    ∷ number (answered (Server 7) (fixed_part (Server 8) 0 0)) 7
    ∷ number (answered (Server 7) (fixed_part (Server 8) 1000 0)) 13
    -- each of the faults alone, and none
    ∷ number (answered Client (0 ∷ replicate 10 0)) 7
    ∷ number (answered (Server 7) (fixed_part (Server 8) 1000 0 ++ (3 ∷ 1 ∷ 0x61 ∷ 0 ∷ 80 ∷ []))) 13
    ∷ number (answered (Server 7) (fixed_part (Server 7) 1000 0)) 5
    ∷ number (answered (Server 7) (fixed_part (Server 7) 1000 0 ++ (3 ∷ 1 ∷ 0x61 ∷ 0 ∷ 80 ∷ []))) 0
    -- a client that gets a client's datagram, and a server that gets a server's
    ∷ number (answered (Server 7) (fixed_part Client 1000 0 ++ replicate 8 0)) 6
    ∷ number (answered Client (fixed_part (Server 7) 1000 0)) 6
    -- a datagram of 16 bytes names a session, one of 15 none, and none does under a method that there is not
    ∷ fact (bits (named 1 16 15 ∷ named 1 16 16 ∷ named 1 16 32 ∷ named 2 16 32 ∷ named 6 16 32 ∷ [])) (0 ∷ 1 ∷ 1 ∷ 0 ∷ 0 ∷ [])
    -- with ChaCha one of 47 bytes names none
    ∷ fact (bits (named 3 32 16 ∷ named 4 32 32 ∷ named 5 32 47 ∷ [])) (0 ∷ 0 ∷ 0 ∷ [])
    ∷ []

-- ---- streams

-- a stream whose subkey has these words
abbrev pub stream_at : Turn → Receiver
stream_at turn = record { method = 1; turn = turn; counter = 2; subkey = record { a = 4; b = 5; c = 6; d = 7 } }

-- one that the front of a request's head began, with a variable header of n bytes next
abbrev pub between : ℕ → Receiver
between n = record { method = 1; turn = Variable n; counter = 1; subkey = record { a = 4; b = 5; c = 6; d = 7 } }

-- what its call answers where no bytes are there, and how many it wants
abbrev pub headed_number : Receiver → ℕ
headed_number st = variable_number (variable_answer st [] 65535)

abbrev pub wanted_by : Receiver → List ℕ
wanted_by st = take 1 (variable_told (variable_answer st [] 65535) (0 ∷ []))

unfoldable pub stream_facts : List Fact
stream_facts =
    fact (max_chunk ∷ max_padding ∷ last_counter ∷ []) (65535 ∷ 900 ∷ (2 ^ 64 - 1) ∷ [])
    -- salt and fixed part with its tag: of a request, and of a response
    ∷ fact (front_length 16 0 ∷ front_length 32 0 ∷ front_length 16 16 ∷ front_length 32 32 ∷ []) (43 ∷ 59 ∷ 59 ∷ 91 ∷ [])
    ∷ fact (fixed_header 0 1000 [] 258) (0 ∷ thousand ++ (1 ∷ 2 ∷ []))
    ∷ fact (fixed_header 1 1000 bytes18 258) (1 ∷ thousand ++ (bytes18 ++ (1 ∷ 2 ∷ [])))
    ∷ fact (variable_part name_a 2 (7 ∷ [])) (3 ∷ 1 ∷ 0x61 ∷ 0 ∷ 80 ∷ 0 ∷ 2 ∷ 0 ∷ 0 ∷ 7 ∷ [])
    ∷ fact (counter_nonce 258) (2 ∷ 1 ∷ 0 ∷ 0 ∷ 0 ∷ 0 ∷ 0 ∷ 0 ∷ 0 ∷ 0 ∷ 0 ∷ 0 ∷ [])
    -- a length of 0, and its neighbour; and a lent stream at a payload of 0
    ∷ fact (map stepped_number (length_answer (framing_of 1) 0 ∷ length_answer (framing_of 1) 1 ∷ length_answer (framing_of 2) 65535 ∷ [])) (14 ∷ 0 ∷ 0 ∷ [])
    ∷ number (stepped_number (step_answer (stream_at (Payload 0)) [] 0)) 1
    -- a variable header's call on a stream with counter 1 and no bytes: 10, which wants the length and the tag, also of length 0
    ∷ fact (headed_number (between 3) ∷ wanted_by (between 3)) (10 ∷ 19 ∷ [])
    ∷ fact (headed_number (between 0) ∷ wanted_by (between 0)) (10 ∷ 16 ∷ [])
    -- with another counter, and at another turn; one that has ended
    ∷ fact (map headed_number (stream_at (Variable 3) ∷ stream_at LengthTurn ∷ stream_at (Payload 3) ∷ stream_at Ended ∷ [])) (1 ∷ 1 ∷ 1 ∷ 4 ∷ [])
    -- a step at a variable header's turn
    ∷ number (stepped_number (step_answer (between 3) [] 0)) 1
    ∷ []

-- ---- words that a host lends

unfoldable pub word_facts : List Fact
word_facts =
    fact (answer_words ∷ session_size ∷ stream_size ∷ []) (9 ∷ 4 ∷ 8 ∷ [])
    -- kind, two address words, port, session ID, packet ID, time, padding length, payload's place
    ∷ fact
    (header_words
    (record { target = Name 2 3; port = 4; session = 5; packet = 6; time = 7; padding = 8; payload = 9 }))
    (3 ∷ 2 ∷ 3 ∷ 4 ∷ 5 ∷ 6 ∷ 7 ∷ 8 ∷ 9 ∷ [])
    ∷ fact
    (header_words
    (record { target = V6 2 3; port = 4; session = 5; packet = 6; time = 7; padding = 8; payload = 9 }))
    (4 ∷ 2 ∷ 3 ∷ 4 ∷ 5 ∷ 6 ∷ 7 ∷ 8 ∷ 9 ∷ [])
    ∷ fact
    (header_words
    (record { target = V4 2; port = 4; session = 5; packet = 6; time = 7; padding = 8; payload = 9 }))
    (1 ∷ 2 ∷ 0 ∷ 4 ∷ 5 ∷ 6 ∷ 7 ∷ 8 ∷ 9 ∷ [])
    -- kind, two address words, port, padding length, payload's place, bytes used, length
    ∷ fact
    (variable_words
    (record { target = V6 2 3; port = 4; padding = 5; payload = 6; length = 8; used = 7 }))
    (4 ∷ 2 ∷ 3 ∷ 4 ∷ 5 ∷ 6 ∷ 7 ∷ 8 ∷ [])
    -- bytes used, length, time
    ∷ fact (head_words 1 2 3) (1 ∷ 2 ∷ 3 ∷ [])
    -- bytes used, length
    ∷ fact (chunk_words (record { used = 1; length = 2 })) (1 ∷ 2 ∷ [])
    -- side, own ID, the client's ID, next packet ID
    ∷ fact (session_words (record { side = Server 3; id = 2; packet = 4 })) (1 ∷ 2 ∷ 3 ∷ 4 ∷ [])
    ∷ fact (session_words (record { side = Client; id = 2; packet = 4 })) (0 ∷ 2 ∷ 0 ∷ 4 ∷ [])
    -- turn, method, counter, length to come, subkey
    ∷ fact (sender_words (record { method = 1; counter = 2; subkey = record { a = 4; b = 5; c = 6; d = 7 } }))
    (3 ∷ 1 ∷ 2 ∷ 0 ∷ 4 ∷ 5 ∷ 6 ∷ 7 ∷ [])
    ∷ fact (receiver_words (stream_at LengthTurn)) (1 ∷ 1 ∷ 2 ∷ 0 ∷ 4 ∷ 5 ∷ 6 ∷ 7 ∷ [])
    ∷ fact (receiver_words (stream_at (Payload 3))) (2 ∷ 1 ∷ 2 ∷ 3 ∷ 4 ∷ 5 ∷ 6 ∷ 7 ∷ [])
    ∷ fact (receiver_words (stream_at Ended)) (0 ∷ 1 ∷ 2 ∷ 0 ∷ 4 ∷ 5 ∷ 6 ∷ 7 ∷ [])
    ∷ fact (receiver_words (between 3)) (4 ∷ 1 ∷ 1 ∷ 3 ∷ 4 ∷ 5 ∷ 6 ∷ 7 ∷ [])
    -- a payload and a variable header to come have at most 65,535 bytes
    ∷ fact
    (bits (receiver_lawful (2 ∷ 1 ∷ 2 ∷ 65535 ∷ 0 ∷ 0 ∷ 0 ∷ 0 ∷ []) ∷ receiver_lawful (2 ∷ 1 ∷ 2 ∷ 65536 ∷ 0 ∷ 0 ∷ 0 ∷ 0 ∷ []) ∷ receiver_lawful (3 ∷ 1 ∷ 2 ∷ 0 ∷ 0 ∷ 0 ∷ 0 ∷ 0 ∷ []) ∷ []))
    (1 ∷ 0 ∷ 0 ∷ [])
    ∷ fact
    (bits (receiver_lawful (4 ∷ 1 ∷ 1 ∷ 65535 ∷ 0 ∷ 0 ∷ 0 ∷ 0 ∷ []) ∷ receiver_lawful (4 ∷ 1 ∷ 1 ∷ 65536 ∷ 0 ∷ 0 ∷ 0 ∷ 0 ∷ []) ∷ receiver_lawful (5 ∷ 1 ∷ 1 ∷ 0 ∷ 0 ∷ 0 ∷ 0 ∷ 0 ∷ []) ∷ []))
    (1 ∷ 0 ∷ 0 ∷ [])
    -- a caller's two numbers and port
    ∷ fact ((caller_of 1 2 3).first ∷ (caller_of 1 2 3).second ∷ (caller_of 1 2 3).port ∷ []) (1 ∷ 2 ∷ 3 ∷ [])
    ∷ []

-- ---- what the exported functions tell

-- an answer as it was lent
abbrev pub sevens : List ℕ
sevens = replicate 9 7

-- the words of a stream as it was lent, of which the first is its turn
abbrev pub lent_stream : List ℕ
lent_stream = 1 ∷ 1 ∷ 2 ∷ 0 ∷ 4 ∷ 5 ∷ 6 ∷ 7 ∷ []

-- its turn behind a step that was refused
abbrev pub turn_behind : Refusal → ℕ
turn_behind r = get_or (step_stream (Err r) (stream_at LengthTurn) lent_stream) 0 0

-- session 7 in the last record, and what beginning a reply session answers
abbrev pub known63 : List ℕ
known63 = store (new_table 60) 63 record300

abbrev pub reply : List ℕ → (clock id client : ℕ) → ℕ
reply t clock id client = (begun_words (reply_begun t clock id client) []).number

-- and behind a variable header's call that was refused
abbrev pub turn_after_header : Refusal → ℕ
turn_after_header r =
    get_or (variable_stream (Err r) (variable_next (between 3) (Err r)) (4 ∷ 1 ∷ 1 ∷ 3 ∷ 4 ∷ 5 ∷ 6 ∷ 7 ∷ [])) 0 0

unfoldable pub host_facts : List Fact
host_facts =
    fact (settings_number true ∷ settings_number false ∷ []) (0 ∷ 1 ∷ [])
    -- beginning
    ∷ number (begun_words (Ok (record { side = Client; id = 2; packet = 0 })) []).number 0
    ∷ fact ((begun_words (Err Argument) (7 ∷ [])).number ∷ (begun_words (Err Argument) (7 ∷ [])).session) (12 ∷ 7 ∷ [])
    -- a reply session, where session 7 is in record 63 with the last time 1,000 and R is 60: its ID is taken up to 1,060 and free at
    -- 1,061; the client's own never is; another is; a table that is not lawful comes first
    ∷ fact (reply known63 1060 7 1 ∷ reply known63 1061 7 1 ∷ reply known63 1061 7 7 ∷ reply known63 1000 8 1 ∷ []) (12 ∷ 0 ∷ 12 ∷ 0 ∷ [])
    ∷ fact (reply (lent 705 60) 1000 7 7 ∷ reply (lent 833 59) 1000 7 7 ∷ reply (lent 833 60) 1000 7 7 ∷ []) (1 ∷ 1 ∷ 12 ∷ [])
    -- a sealed datagram: one packet ID further, and its length; refused, nothing
    ∷ fact (sealed (Ok 48) [] (1 ∷ 2 ∷ 3 ∷ 4 ∷ []) [] sevens).session (1 ∷ 2 ∷ 3 ∷ 5 ∷ [])
    ∷ fact (sealed (Ok 48) [] (1 ∷ 2 ∷ 3 ∷ 4 ∷ []) [] sevens).answer (48 ∷ replicate 8 7)
    ∷ fact (sealed (Err Counter) [] (1 ∷ 2 ∷ 3 ∷ 4 ∷ []) [] sevens).session (1 ∷ 2 ∷ 3 ∷ 4 ∷ [])
    ∷ fact ((sealed (Err Counter) [] [] [] sevens).number ∷ (sealed (Err Counter) [] [] [] sevens).answer) (11 ∷ sevens)
    -- an opened one: the refusal's number, and no word of the answer
    ∷ fact (opened_number (refused 8) ∷ opened_words (refused 8) sevens) (8 ∷ sevens)
    -- only 10 writes a word: how many bytes are wanted
    ∷ fact (refused_answer (More 43) sevens) (43 ∷ replicate 8 7)
    ∷ fact (refused_answer Room sevens) sevens
    ∷ fact (stepped_answer (Ok (record { used = 18; length = 5 })) sevens) (18 ∷ 5 ∷ replicate 7 7)
    -- of all refusals 4, 5 and 14 end a stream
    ∷ fact (map turn_behind refusals) (1 ∷ 1 ∷ 1 ∷ 0 ∷ 0 ∷ 1 ∷ 1 ∷ 1 ∷ 1 ∷ 1 ∷ 1 ∷ 1 ∷ 1 ∷ 0 ∷ 1 ∷ [])
    ∷ fact (map turn_after_header (Settings ∷ NotAuthentic ∷ More 19 ∷ Room ∷ Malformed ∷ [])) (4 ∷ 0 ∷ 4 ∷ 4 ∷ 0 ∷ [])
    -- sealing on a stream that has ended, and at another turn: an empty payload, one of a byte, and no method
    ∷ fact
    (map refusal_number (not_sealing 0 1 0 ∷ not_sealing 0 1 1 ∷ not_sealing 0 0 0 ∷ not_sealing 1 1 0 ∷ not_sealing 2 1 1 ∷ []))
    (14 ∷ 4 ∷ 1 ∷ 1 ∷ 1 ∷ [])
    ∷ []

abbrev pub facts : List Fact
facts = method_facts ++ (table_facts ++ (pool_facts ++ (address_facts ++ (datagram_facts ++ (stream_facts ++ (word_facts ++ host_facts))))))

-- ---- the statement

-- what no number shows: the rounds of a method are those of AES for its key, or two for each double round of ChaCha, whose key has 32
-- bytes, and its salt is as long as its key
abbrev pub RoundsFit : Cipher → (rounds key : ℕ) → Type 0
RoundsFit AesGcm rounds key = rounds ≡ nk_of key + 6
RoundsFit (ChaChaPoly d) rounds key = (rounds ≡ 2 * d) × (key ≡ 32)

abbrev pub MethodsFit : Type 0
MethodsFit = (n : ℕ) (m : Method) → method_of n ≡ Some m → RoundsFit m.cipher m.rounds m.key × (m.salt ≡ m.key)

-- "shadowsocks 2022 session subkey"
abbrev pub context : List ℕ
context =
    0x73 ∷ 0x68 ∷ 0x61 ∷ 0x64 ∷ 0x6f ∷ 0x77 ∷ 0x73 ∷ 0x6f ∷ 0x63 ∷ 0x6b ∷ 0x73 ∷ 0x20 ∷ 0x32 ∷ 0x30 ∷ 0x32 ∷ 0x32 ∷ 0x20 ∷ 0x73 ∷ 0x65 ∷ 0x73
    ∷ 0x73 ∷ 0x69 ∷ 0x6f ∷ 0x6e ∷ 0x20 ∷ 0x73 ∷ 0x75 ∷ 0x62 ∷ 0x6b ∷ 0x65 ∷ 0x79 ∷ []

-- the material is the key with the salt behind it; of a datagram, with the 8 bytes of the session ID, the highest first
pub record Material : Type 0 where
  pub of-salt : (key salt : List ℕ) → subkey key salt ≡ take (length key) (derive_key context (key ++ salt))
  pub of-session : (key : List ℕ) → session_subkey key id18 ≡ take (length key) (derive_key context (key ++ bytes18))

pub record Numbers : Type 0 where
  pub all-facts : T (every facts)
  pub methods-fit : MethodsFit
  pub material : Material
