-- The states that a host holds as words, and lends at each call. Any words have a meaning.
use Rattle.std.specs.Prelude.{Bool, cond, ◌&&◌, List, [], ◌∷◌, ℕ, ◌%◌, eqb, leb, length, get_or}
use Rattle.datagram_parts.specs.declared.Side.{Side}
use Rattle.datagram_parts.specs.declared.Side.TheVariants.{Client, Server}
use Rattle.datagram_seal.specs.declared.Sender.{Sender as Session}
use Rattle.stream_pieces.specs.Pieces.{max_chunk}
use Rattle.stream_pieces.specs.declared.Subkey.{Subkey}
use Rattle.stream_seal.specs.declared.Sender.{Sender}
use Rattle.stream_open.specs.declared.Turn.{Turn}
use Rattle.stream_open.specs.declared.Turn.TheVariants.{Variable, Length, Payload, Ended}
use Rattle.stream_open.specs.declared.Receiver.{Receiver}

-- ---- a sending session: side (0 a client's, 1 a server's), own ID, the client's ID, next packet ID

abbrev pub session_size : ℕ
session_size = 4

abbrev pub session_lawful : List ℕ → Bool
session_lawful w = eqb (length w) session_size && leb (get_or w 0 0) 1

abbrev pub side_in : ℕ → ℕ → Side
side_in side client = cond (eqb side 0) Client (Server client)

abbrev pub session_in : List ℕ → Session
session_in w = record { side = side_in (get_or w 0 0) (get_or w 2 0); id = get_or w 1 0; packet = get_or w 3 0 }

abbrev pub side_number : Side → ℕ
side_number Client = 0
side_number (Server client) = 1

-- a client's session has no other ID
abbrev pub client_of : Side → ℕ
client_of Client = 0
client_of (Server client) = client

abbrev pub session_words : Session → List ℕ
session_words s = side_number s.side ∷ s.id ∷ client_of s.side ∷ s.packet ∷ []

-- ---- a stream: turn (0 ended, 1 a length is next, 2 a payload is next, 3 sealing, 4 a request's variable header is next), method,
-- counter, the length of the variable header or payload that is next, and the subkey in four words

abbrev pub stream_size : ℕ
stream_size = 8

abbrev pub turn_of : List ℕ → ℕ
turn_of w = get_or w 0 0

abbrev pub method_in : List ℕ → ℕ
method_in w = get_or w 1 0

abbrev pub subkey_in : List ℕ → Subkey
subkey_in w = record { a = get_or w 4 0; b = get_or w 5 0; c = get_or w 6 0; d = get_or w 7 0 }

abbrev pub sender_in : List ℕ → Sender
sender_in w = record { method = method_in w; counter = get_or w 2 0; subkey = subkey_in w }

abbrev pub sender_words : Sender → List ℕ
sender_words s =
    3 ∷ s.method ∷ s.counter ∷ 0 ∷ s.subkey.a ∷ s.subkey.b ∷ s.subkey.c ∷ s.subkey.d ∷ []

-- at a turn of opening, or ended; a variable header and a payload have at most 65,535 bytes
abbrev pub turn_lawful : (turn n : ℕ) → Bool
turn_lawful turn n = cond (eqb turn 2) (leb n max_chunk) (cond (eqb turn 4) (leb n max_chunk) (leb turn 1))

abbrev pub receiver_lawful : List ℕ → Bool
receiver_lawful w = eqb (length w) stream_size && turn_lawful (turn_of w) (get_or w 3 0)

abbrev pub turn_in : (turn n : ℕ) → Turn
turn_in turn n = cond (eqb turn 1) Length (cond (eqb turn 2) (Payload (n % 65536)) (cond (eqb turn 4) (Variable (n % 65536)) Ended))

abbrev pub receiver_in : List ℕ → Receiver
receiver_in w = record { method = method_in w; turn = turn_in (turn_of w) (get_or w 3 0); counter = get_or w 2 0; subkey = subkey_in w }

abbrev pub turn_number : Turn → ℕ
turn_number Length = 1
turn_number (Payload n) = 2
turn_number Ended = 0
turn_number (Variable n) = 4

abbrev pub turn_length : Turn → ℕ
turn_length Length = 0
turn_length (Payload n) = n
turn_length Ended = 0
turn_length (Variable n) = n

abbrev pub receiver_words : Receiver → List ℕ
receiver_words s =
    turn_number s.turn ∷ s.method ∷ s.counter ∷ turn_length s.turn
    ∷ s.subkey.a ∷ s.subkey.b ∷ s.subkey.c ∷ s.subkey.d ∷ []
