-- Demand 1, of every call: it ends with an answer or a refusal of its own list, and what a refusal leaves. Opened datagrams are
-- in `Datagrams` and streams in `StreamsKeep`; here are the rest, and all of them joined.
-- Assumes nothing.
use Rattle.std.specs.Prelude.{◌≡◌, true, false, List, [], ◌∷◌, ℕ, ◌+◌, ◌≤◌, ◌<◌, length, drop, Err, Ok, Result}
use Rattle.protocol.specs.declared.Refusal.{Refusal}
use Rattle.protocol.specs.declared.Refusal.TheVariants.{Settings, Argument}
use Rattle.protocol.specs.Method.{cipher_of}
use Rattle.protocol.specs.Refusal.{refusal_number}
use Rattle.session_table.specs.Table.{table_words, new_table, make_lawful, made}
use Rattle.salt_pool.specs.Pool.{make_lawful as make_lawful_pool, made as made_pool}
use Rattle.datagram_parts.specs.declared.Side.TheVariants.{Client, Server}
use Rattle.datagram_seal.specs.declared.Sender.{Sender}
use Rattle.reply_session.specs.Beginning.{reply_begun}
use Rattle.reply_session.specs.Exactly.{ReplyBeginsExactly}
use Rattle.datagram_seal.specs.Sealing.{client_sender, seal_answer, seal_next, datagram, seal_out}
use Rattle.demands.specs.Datagrams.{OpenersKeep}
use Rattle.demands.specs.StreamsKeep.{StreamsDemand1}
use Rattle.protocol.specs.Orders.{among}

-- ---- sealing a datagram

pub data SealAnswered (a : Result ℕ Refusal) : Type 0 where
  sealed : (n : ℕ) → a ≡ Ok n → SealAnswered a
  refused : (r : Refusal) → among (1 ∷ 12 ∷ 11 ∷ 2 ∷ 3 ∷ []) (refusal_number r) ≡ true → a ≡ Err r → SealAnswered a

-- a is what is answered to a sending session that is to seal the text
pub record SealKeeps (sender : Sender) (a : Result ℕ Refusal) (text out : List ℕ) : Type 0 where
  pub answered : SealAnswered a
  -- refused sealing writes nothing and moves no counter
  pub refused-writes-nothing : (r : Refusal) → a ≡ Err r → seal_out a text out ≡ out
  pub refused-keeps-session : (r : Refusal) → a ≡ Err r → seal_next sender a ≡ sender
  -- a datagram has the length answered, takes one packet ID, and nothing behind it is written
  pub sealed-length : (n : ℕ) → a ≡ Ok n → (length text ≡ n) × (n ≤ length out)
  pub sealed-counts : (n : ℕ) → a ≡ Ok n → seal_next sender a ≡ record { side = sender.side; id = sender.id; packet = sender.packet + 1 }
  pub past-length-kept : (n : ℕ) → a ≡ Ok n → drop n (seal_out a text out) ≡ drop n out
  pub length-kept : length (seal_out a text out) ≡ length out

abbrev pub DatagramsSealed : Type 0
DatagramsSealed =
    (method : ℕ) (key nonce : List ℕ) (sender : Sender) (time : ℕ) (address : List ℕ) (padding : ℕ) (payload out : List ℕ)
    → SealKeeps sender (seal_answer method (length key) (length nonce) sender address padding (length payload) (length out))
    (datagram (cipher_of method) key nonce sender time address padding payload) out

-- ---- beginning a sending session: a client's always begins; a server's begins, or is refused with 1 or 12, each exactly where
-- `ReplyBeginsExactly` says

pub data BeginAnswered (id client : ℕ) (b : Result Sender Refusal) : Type 0 where
  begins : b ≡ Ok (record { side = Server client; id = id; packet = 0 }) → BeginAnswered id client b
  refused-1 : b ≡ Err Settings → BeginAnswered id client b
  refused-12 : b ≡ Err Argument → BeginAnswered id client b

pub record SessionsBegun : Type 0 where
  pub clients : (id : ℕ) → client_sender id ≡ record { side = Client; id = id; packet = 0 }
  pub servers-answered : (t : List ℕ) (clock id client : ℕ) → BeginAnswered id client (reply_begun t clock id client)
  pub servers : ReplyBeginsExactly

-- ---- making a table or a pool: 0 gives a table of 300 seconds, 60 to 3,600 one of so many, and nothing else gives one; refused
-- making keeps every word, and none is added or lost

pub record Made : Type 0 where
  pub table-of-0 : (t : List ℕ) → length t ≡ table_words → made 0 t ≡ new_table 300
  pub table-of-R : (R : ℕ) (t : List ℕ) → length t ≡ table_words → 60 ≤ R → R ≤ 3600 → made R t ≡ new_table R
  pub table-made-0 : (t : List ℕ) → length t ≡ table_words → make_lawful 0 t ≡ true
  pub table-made-R : (R : ℕ) (t : List ℕ) → length t ≡ table_words → 60 ≤ R → R ≤ 3600 → make_lawful R t ≡ true
  pub too-few-seconds : (R : ℕ) (t : List ℕ) → 0 < R → R < 60 → make_lawful R t ≡ false
  pub too-many-seconds : (R : ℕ) (t : List ℕ) → 3600 < R → make_lawful R t ≡ false
  pub other_length : (R : ℕ) (t : List ℕ) → (length t ≡ table_words → ⊥) → make_lawful R t ≡ false
  pub table-refused : (R : ℕ) (t : List ℕ) → make_lawful R t ≡ false → made R t ≡ t
  pub table-length : (R : ℕ) (t : List ℕ) → length (made R t) ≡ length t
  pub pool-refused : (method : ℕ) (t : List ℕ) → make_lawful_pool method t ≡ false → made_pool method t ≡ t
  pub pool-length : (method : ℕ) (t : List ℕ) → length (made_pool method t) ≡ length t

-- ---- all calls

pub record Demand1 : Type 0 where
  pub datagrams-opened : OpenersKeep
  pub datagrams-sealed : DatagramsSealed
  pub sessions-begun : SessionsBegun
  pub tables-and-pools-made : Made
  pub streams : StreamsDemand1
