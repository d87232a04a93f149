-- What stands after each call about tables, sending sessions and datagrams: its number, and what it leaves in all that it was
-- lent to write. A lent session or answer of the wrong length, and a session of another side than 0 and 1, are refusal 1.
use Rattle.std.specs.Prelude.{Bool, cond, ◌&&◌, List, ℕ, ◌+◌, eqb, length, get_or, set, Err, Ok, Result, Option}
use Rattle.octets.specs.Buffers.{put}
use Rattle.protocol.specs.Method.{cipher_of}
use Rattle.protocol.specs.Refusal.{refusal_number}
use Rattle.session_record.specs.declared.Peer.{Peer}
use Rattle.session_book.specs.Call.{Answer, refused, opened}
use Rattle.datagram_read.specs.declared.Header.{Header}
use Rattle.datagram_seal.specs.Sealing.{seal_answer, datagram}
use Rattle.datagram_open.specs.Deciding.{open_answer, open_out, open_table}
use Rattle.words.specs.Answers.{answer_words, header_words}
use Rattle.words.specs.States.{session_size, session_lawful, session_in, session_words}
use Rattle.datagram_seal.specs.declared.Sender.{Sender}
use Rattle.protocol.specs.declared.Refusal.{Refusal}

-- 0 where what was asked for is lawful, and refusal 1
abbrev pub settings_number : Bool → ℕ
settings_number lawful = cond lawful 0 1

-- ---- beginning a sending session

pub record AfterBegin : Type 0 where
  pub number : ℕ
  pub session : List ℕ

abbrev pub begun_words : Result Sender Refusal → List ℕ → AfterBegin
begun_words (Ok s) session = record { number = 0; session = session_words s }
begun_words (Err r) session = record { number = refusal_number r; session = session }

unfoldable pub begins : Result Sender Refusal → List ℕ → AfterBegin
begins x session = cond (eqb (length session) session_size) (begun_words x session) (record { number = 1; session = session })

-- ---- sealing

pub record AfterSeal : Type 0 where
  pub number : ℕ
  pub session : List ℕ
  pub out : List ℕ
  pub answer : List ℕ

-- a datagram is written, the session is one packet ID further, and the answer is the datagram's length
abbrev pub sealed : Result ℕ Refusal → (text session out answer : List ℕ) → AfterSeal
sealed (Ok n) text session out answer =
    record { number = 0; session = set session 3 (get_or session 3 0 + 1); out = put out 0 text; answer = set answer 0 n }
sealed (Err r) text session out answer = record { number = refusal_number r; session = session; out = out; answer = answer }

module _ (method : ℕ) (key nonce session : List ℕ) (clock : ℕ) (address : List ℕ) (padding : ℕ) (payload out answer : List ℕ) where
  unfoldable pub seals_datagram : AfterSeal
  seals_datagram =
      cond (eqb (length answer) answer_words && session_lawful session)
      (sealed (seal_answer method (length key) (length nonce) (session_in session) address padding (length payload) (length out))
      (datagram (cipher_of method) key nonce (session_in session) clock address padding payload) session out answer)
      (record { number = 1; session = session; out = out; answer = answer })

-- ---- opening

pub record AfterOpen : Type 0 where
  pub number : ℕ
  pub table : List ℕ
  pub out : List ℕ
  pub answer : List ℕ

abbrev pub opened_number : Answer Header → ℕ
opened_number (opened h) = 0
opened_number (refused n) = n

abbrev pub opened_words : Answer Header → List ℕ → List ℕ
opened_words (opened h) answer = header_words h
opened_words (refused n) answer = answer

-- the address of a caller
abbrev pub caller_of : (first second port : ℕ) → Peer
caller_of first second port = record { first = first; second = second; port = port }

module _ (method : ℕ) (key : List ℕ) (client : Option ℕ) (clock : ℕ) (peer : Peer) (s table out answer : List ℕ) where
  -- what the opener itself leaves, told in the answer
  unfoldable pub opens_told : AfterOpen
  opens_told = record {
    number = opened_number (open_answer method key client clock peer s table out);
    table = open_table method key client clock peer s table out;
    out = open_out method key client clock peer s table out;
    answer = opened_words (open_answer method key client clock peer s table out) answer;
  }

  unfoldable pub opens_datagram : AfterOpen
  opens_datagram =
      cond (eqb (length answer) answer_words) opens_told (record { number = 1; table = table; out = out; answer = answer })
