-- SIP022, sections 3.2 and 4: the headers of a datagram in the clear. An ID is the number of its 8 bytes, big-endian.
use Rattle.std.specs.Prelude.{List, [], ◌∷◌, ◌++◌, ℕ, ◌+◌, drop, replicate}
use Rattle.octets.specs.Numbers.{to_be}
use Rattle.protocol.specs.declared.Cipher.{Cipher}
use Rattle.protocol.specs.declared.Cipher.TheVariants.{AesGcm, ChaChaPoly}
use Rattle.datagram_parts.specs.declared.Side.{Side}
use Rattle.datagram_parts.specs.declared.Side.TheVariants.{Client, Server}

-- the separate header: session ID and packet ID
abbrev pub separate_length : ℕ
separate_length = 16

unfoldable pub separate_header : ℕ → ℕ → List ℕ
separate_header id packet = to_be 8 id ++ to_be 8 packet

-- the body's nonce: bytes 4 to 15 of the separate header
unfoldable pub nonce : ℕ → ℕ → List ℕ
nonce id packet = drop 4 (separate_header id packet)

-- the type of a client's datagrams and of a server's
abbrev pub type_of : Side → ℕ
type_of Client = 0
type_of (Server client) = 1

-- a server's header names the client's session
abbrev pub client_field : Side → List ℕ
client_field Client = []
client_field (Server client) = to_be 8 client

-- the main header as far as its padding: type, time, client session ID, padding length
unfoldable pub fixed_part : Side → ℕ → ℕ → List ℕ
fixed_part side time padding = type_of side ∷ (to_be 8 time ++ (client_field side ++ to_be 2 padding))

-- type, time and padding length; a server's has a session ID more
abbrev pub client_fixed : ℕ
client_fixed = 11

abbrev pub server_fixed : ℕ
server_fixed = client_fixed + 8

abbrev pub fixed_length : Side → ℕ
fixed_length Client = client_fixed
fixed_length (Server client) = server_fixed

-- the main header with its padding of zeros and its address, and the payload
unfoldable pub plaintext : Side → ℕ → ℕ → List ℕ → List ℕ → List ℕ
plaintext side time padding address payload = fixed_part side time padding ++ (replicate padding 0 ++ (address ++ payload))

-- with ChaCha there is no separate header: session ID and packet ID stand in front of the main header
abbrev pub inner_ids : Cipher → ℕ → ℕ → List ℕ
inner_ids AesGcm id packet = []
inner_ids (ChaChaPoly n) id packet = separate_header id packet

-- so the main header starts there
abbrev pub main_start : Cipher → ℕ
main_start AesGcm = 0
main_start (ChaChaPoly n) = separate_length

-- all that is sealed
unfoldable pub sealed_text : Cipher → ℕ → ℕ → Side → ℕ → ℕ → List ℕ → List ℕ → List ℕ
sealed_text cipher id packet side time padding address payload = inner_ids cipher id packet ++ plaintext side time padding address payload
