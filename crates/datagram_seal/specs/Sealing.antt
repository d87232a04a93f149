-- Sending sessions, and sealing datagrams (SIP022, sections 3.2 and 4): what is answered and what is written.
use Rattle.std.specs.Prelude.{Bool, true, cond, not, ◌&&◌, List, ℕ, ◌+◌, ◌-◌, ◌^◌, eqb, leb, length, Err, Ok, Result}
use Rattle.octets.specs.Buffers.{put}
use Rattle.protocol.specs.declared.Refusal.TheVariants.{Settings, Length, Room, Counter, Argument}
use Rattle.protocol.specs.declared.Cipher.{Cipher}
use Rattle.protocol.specs.Method.{key_fits, cipher_of}
use Rattle.socks5.specs.Address.{is_address}
use Rattle.datagram_parts.specs.declared.Side.{Side}
use Rattle.datagram_parts.specs.declared.Side.TheVariants.{Client, Server}
use Rattle.datagram_seal.specs.declared.Sender.{Sender}
use Rattle.datagram_parts.specs.Headers.{fixed_length, sealed_text}
use Rattle.datagram_parts.specs.Parts.{packet_overhead, max_datagram, datagram_by}
use Rattle.protocol.specs.declared.Refusal.{Refusal}
pub use Rattle.datagram_parts.specs.Parts.{nonce_fits}

-- ---- sending sessions begin at packet ID 0

abbrev pub client_sender : ℕ → Sender
client_sender id = record { side = Client; id = id; packet = 0 }

abbrev pub server_sender : (id client : ℕ) → Sender
server_sender id client = record { side = Server client; id = id; packet = 0 }

-- a server's ID is not its client's
abbrev pub differs : Side → ℕ → Bool
differs Client id = true
differs (Server client) id = not (eqb id client)

abbrev pub ids_differ : Sender → Bool
ids_differ sender = differs sender.side sender.id

-- ---- what is answered

-- the main header, padding, address, payload, and what every datagram of its cipher has besides
unfoldable pub sealed_length : Cipher → Side → ℕ → ℕ → ℕ → ℕ
sealed_length cipher side address padding payload = fixed_length side + padding + address + payload + packet_overhead cipher

-- a length, and 0 for one that no datagram has
unfoldable pub capped : ℕ → ℕ
capped n = cond (leb n max_datagram) n 0

-- refusals 11, 2 and 3, of a capped length
unfoldable pub length_answer : ℕ → ℕ → ℕ → Result ℕ Refusal
length_answer packet n room =
    cond (eqb packet (2 ^ 64 - 1)) (Err Counter)
    (cond (eqb n 0) (Err Length) (cond (leb n room) (Ok n) (Err Room)))

-- refusal 12, and those behind it
unfoldable pub argument_answer : Cipher → Sender → List ℕ → ℕ → ℕ → ℕ → Result ℕ Refusal
argument_answer cipher sender address padding payload room =
    cond (is_address address && ids_differ sender)
    (length_answer sender.packet (capped (sealed_length cipher sender.side (length address) padding payload)) room) (Err Argument)

-- refusal 1, and those behind it; a key of k bytes, a nonce and a payload of these lengths, and the room
unfoldable pub seal_answer : (method k nonce : ℕ) → Sender → List ℕ → ℕ → ℕ → ℕ → Result ℕ Refusal
seal_answer method k nonce sender address padding payload room =
    cond (key_fits method k && nonce_fits (cipher_of method) nonce) (argument_answer (cipher_of method) sender address padding payload room)
    (Err Settings)

-- ---- what becomes of the sending session: one packet further for each datagram

abbrev pub packets_of : Result ℕ Refusal → ℕ
packets_of (Ok n) = 1
packets_of (Err r) = 0

abbrev pub seal_next : Sender → Result ℕ Refusal → Sender
seal_next sender answer = record { side = sender.side; id = sender.id; packet = sender.packet + packets_of answer }

-- ---- what is written

unfoldable pub datagram : Cipher → (key nonce : List ℕ) → Sender → ℕ → List ℕ → ℕ → List ℕ → List ℕ
datagram cipher key nonce sender time address padding payload =
    datagram_by cipher key nonce sender.id sender.packet
    (sealed_text cipher sender.id sender.packet sender.side time padding address payload)

-- the datagram at the front of the buffer, and nothing for a refusal
abbrev pub seal_out : Result ℕ Refusal → List ℕ → List ℕ → List ℕ
seal_out (Ok n) s out = put out 0 s
seal_out (Err r) s out = out
