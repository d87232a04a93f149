-- Opening a datagram (SIP022, sections 3.2 and 4) as far as its arguments decide it, before any session is looked at: what is
-- answered and what the lent buffer holds then. A client's datagrams are opened by a server, a server's by the client whose
-- session ID they name, so the side here is the one whose datagrams are expected.
use Rattle.std.specs.Prelude.{Bool, true, cond, ◌&&◌, List, ℕ, ◌+◌, ◌-◌, eqb, leb, length, get_or, take, drop, replicate, Err, None, Ok, Option, Result, Some}
use Rattle.octets.specs.Buffers.{put}
use Rattle.octets.specs.Numbers.{be}
use Rattle.aes.specs.Keyed.{nk_of}
use Rattle.aes_inverse.specs.InvCipher.{inv_aes}
use Rattle.gcm.specs.Gcm as gcm
use Rattle.gcm.specs.Keyed.{ciph_of, authentic}
use Rattle.chacha_poly.specs.Extended.{extended_authentic, extended_opened}
use Rattle.protocol.specs.declared.Cipher.{Cipher}
use Rattle.protocol.specs.declared.Cipher.TheVariants.{AesGcm, ChaChaPoly}
use Rattle.protocol.specs.Method.{key_fits, cipher_of}
use Rattle.protocol.specs.declared.Refusal.TheVariants.{Settings, Length, Room, NotAuthentic, Malformed, WrongType, WrongTime, Binding}
use Rattle.protocol.specs.Subkey.{session_subkey}
use Rattle.protocol.specs.Time.{time_valid}
use Rattle.socks5.specs.Address.{parse_at}
use Rattle.datagram_parts.specs.declared.Ids.{Ids}
use Rattle.datagram_parts.specs.declared.Side.{Side}
use Rattle.datagram_parts.specs.declared.Side.TheVariants.{Client, Server}
use Rattle.datagram_parts.specs.Headers.{separate_length, nonce, type_of, fixed_length, main_start}
use Rattle.datagram_parts.specs.Parts.{nonce_length, overhead, max_datagram}
use Rattle.socks5.specs.declared.Address.{Address}
use Rattle.datagram_read.specs.declared.Header.{Header}
use Rattle.protocol.specs.declared.Refusal.{Refusal}

-- ---- with AES: the separate header and the body

-- decrypted under the shared key
unfoldable pub separate_of : List ℕ → List ℕ → List ℕ
separate_of key s = inv_aes (nk_of (length key)) key (take separate_length s)

-- whether the body's tag is good, and what it opens to, under the subkey and nonce of a session ID and a packet ID
unfoldable pub body_authentic : List ℕ → ℕ → ℕ → List ℕ → Bool
body_authentic key id packet body = authentic (ciph_of (session_subkey key id)) (nonce id packet) body

unfoldable pub body_text : List ℕ → ℕ → ℕ → List ℕ → List ℕ
body_text key id packet body = gcm.opened (ciph_of (session_subkey key id)) (nonce id packet) body

-- ---- a datagram, by its cipher: whether its tag is good, its plaintext, and its IDs

abbrev pub datagram_authentic : Cipher → List ℕ → List ℕ → Bool
datagram_authentic AesGcm key s =
    body_authentic key (be 8 (separate_of key s)) (be 8 (drop 8 (separate_of key s))) (drop separate_length s)
datagram_authentic (ChaChaPoly n) key s = extended_authentic n key (take nonce_length s) (drop nonce_length s)

abbrev pub plain_of : Cipher → List ℕ → List ℕ → List ℕ
plain_of AesGcm key s = body_text key (be 8 (separate_of key s)) (be 8 (drop 8 (separate_of key s))) (drop separate_length s)
plain_of (ChaChaPoly n) key s = extended_opened n key (take nonce_length s) (drop nonce_length s)

-- the bytes that begin with session ID and packet ID: with ChaCha these are the first of the plaintext
abbrev pub ids_of : Cipher → List ℕ → List ℕ → List ℕ
ids_of AesGcm key s = separate_of key s
ids_of (ChaChaPoly n) key s = plain_of (ChaChaPoly n) key s

unfoldable pub session_of : Cipher → List ℕ → List ℕ → ℕ
session_of cipher key s = be 8 (ids_of cipher key s)

unfoldable pub packet_of : Cipher → List ℕ → List ℕ → ℕ
packet_of cipher key s = be 8 (drop 8 (ids_of cipher key s))

unfoldable pub unsealed : Cipher → List ℕ → List ℕ → Option Ids
unsealed cipher key s =
    cond (datagram_authentic cipher key s) (Some (record { session = session_of cipher key s; packet = packet_of cipher key s })) None

-- a good tag lets the plaintext into the buffer
unfoldable pub unsealed_out : Cipher → List ℕ → List ℕ → List ℕ → List ℕ
unsealed_out cipher key s out = cond (datagram_authentic cipher key s) (put out 0 (plain_of cipher key s)) out

-- ---- the main header from its start in the plaintext, in the order 5, 6, 7, 13, 5

abbrev pub time_of : ℕ → List ℕ → ℕ
time_of start plain = be 8 (drop (start + 1) plain)

-- the last two bytes of the fixed part
abbrev pub padding_of : ℕ → Side → List ℕ → ℕ
padding_of start side plain = be 2 (drop (start + fixed_length side - 2) plain)

-- a server's datagram is meant for the client that it names
abbrev pub meant : ℕ → Side → List ℕ → Bool
meant start Client plain = true
meant start (Server client) plain = eqb (be 8 (drop (start + 9) plain)) client

abbrev pub header_with : ℕ → ℕ → ℕ → ℕ → Option Address → Result Header Refusal
header_with id packet time padding (Some a) =
    Ok
    (record {
      target = a.target;
      port = a.port;
      session = id;
      packet = packet;
      time = time;
      padding = padding;
      payload = a.end;
    })
header_with id packet time padding None = Err Malformed

unfoldable pub read_address : ℕ → Side → ℕ → ℕ → List ℕ → Result Header Refusal
read_address start side id packet plain =
    header_with id packet (time_of start plain) (padding_of start side plain)
    (parse_at plain (start + fixed_length side + padding_of start side plain))

unfoldable pub read_main : ℕ → Side → ℕ → ℕ → ℕ → List ℕ → Result Header Refusal
read_main start side clock id packet plain =
    cond (leb (start + fixed_length side) (length plain))
    (cond (eqb (get_or plain start 0) (type_of side))
    (cond (time_valid (time_of start plain) clock)
    (cond (meant start side plain) (read_address start side id packet plain) (Err Binding)) (Err WrongTime))
    (Err WrongType)) (Err Malformed)

-- ---- the whole, in the order 1, 2, 3, 4 and then the main header's

unfoldable pub length_lawful : Cipher → List ℕ → Bool
length_lawful cipher s = leb (overhead cipher) (length s) && leb (length s) max_datagram

-- the plaintext's main header
abbrev pub main_of : Cipher → Side → ℕ → List ℕ → List ℕ → Result Header Refusal
main_of cipher side clock key s =
    read_main (main_start cipher) side clock (session_of cipher key s) (packet_of cipher key s) (plain_of cipher key s)

unfoldable pub read_text : Cipher → Side → ℕ → List ℕ → List ℕ → Result Header Refusal
read_text cipher side clock key s = cond (datagram_authentic cipher key s) (main_of cipher side clock key s) (Err NotAuthentic)

unfoldable pub read_answer : ℕ → List ℕ → Side → ℕ → List ℕ → List ℕ → Result Header Refusal
read_answer method key side clock s out =
    cond (key_fits method (length key))
    (cond (length_lawful (cipher_of method) s)
    (cond (leb (length s - overhead (cipher_of method)) (length out)) (read_text (cipher_of method) side clock key s) (Err Room))
    (Err Length)) (Err Settings)

-- a refusal clears what the plaintext has filled
abbrev pub settled : Result Header Refusal → ℕ → List ℕ → List ℕ
settled (Ok h) due out = out
settled (Err r) due out = put out 0 (replicate due 0)

-- a good tag lets the plaintext into the buffer, and then a refusal clears it
unfoldable pub text_out : Cipher → Side → ℕ → List ℕ → List ℕ → List ℕ → List ℕ
text_out cipher side clock key s out =
    cond (datagram_authentic cipher key s)
    (settled (main_of cipher side clock key s) (length s - overhead cipher) (put out 0 (plain_of cipher key s))) out

unfoldable pub read_out : ℕ → List ℕ → Side → ℕ → List ℕ → List ℕ → List ℕ
read_out method key side clock s out =
    cond
    (key_fits method (length key)
    && (length_lawful (cipher_of method) s && leb (length s - overhead (cipher_of method)) (length out)))
    (text_out (cipher_of method) side clock key s out) out
