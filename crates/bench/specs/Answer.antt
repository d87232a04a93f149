-- The numbers that the exported functions answer.
use Rattle.std.specs.Prelude.{Bool, true, false, cond, ◌&&◌, List, ℕ, ◌-◌, eqb, leb, length, Err, Ok, Result}
use Rattle.octets.specs.Buffers.{put}
use Rattle.octets.specs.Numbers.{be, to_be}
use Rattle.ghash.specs.Ghash.{blocks, ghash}
use Rattle.chacha_poly.specs.Aead as aead
use Rattle.blake3.specs.Tree.{hash}
use Rattle.protocol.specs.Method.{cipher_of}
use Rattle.protocol.specs.Subkey.{subkey}
use Rattle.session_record.specs.declared.Peer.{Peer}
use Rattle.session_book.specs.Call.{Answer, refused, opened}
use Rattle.datagram_seal.specs.Sealing.{client_sender, seal_answer, datagram, seal_out}
use Rattle.datagram_read.specs.declared.Header.{Header}
use Rattle.protocol.specs.Refusal.{refusal_number}
use Rattle.stream_pieces.specs.declared.Subkey.{Subkey}
use Rattle.stream_seal.specs.declared.Sender.{Sender}
use Rattle.stream_seal.specs.Sealing.{chunk_answer, chunk, sender_key, seal_out as chunk_out}
use Rattle.stream_open.specs.declared.Turn.TheVariants.{Payload}
use Rattle.stream_open.specs.declared.Receiver.{Receiver}
use Rattle.gcm.specs.declared.OpenError.{OpenError}
use Rattle.protocol.specs.declared.Refusal.{Refusal}
use Rattle.stream_open.specs.declared.Chunk.{Chunk}
use Rattle.gcm.specs.declared.OpenError.TheVariants.{Forged, Unlawful}

-- 0 where the arguments are lawful, and 1
abbrev pub answer : Bool → ℕ
answer true = 0
answer false = 1

abbrev pub number : Result Unit OpenError → ℕ
number (Ok tt) = 0
number (Err Unlawful) = 1
number (Err Forged) = 2

-- GHASH asks for a hash key of 16 bytes and room for 16
unfoldable pub hash_lawful : List ℕ → List ℕ → Bool
hash_lawful h out = eqb (length h) 16 && leb 16 (length out)

unfoldable pub hash_out : List ℕ → List ℕ → List ℕ → List ℕ
hash_out h text out = cond (hash_lawful h out) (put out 0 (to_be 16 (ghash (be 16 h) (blocks text)))) out

-- a subkey asks for a key and a salt of 32 bytes at most, and room for 32
unfoldable pub subkey_lawful : List ℕ → List ℕ → List ℕ → Bool
subkey_lawful key salt out = leb (length key) 32 && (leb (length salt) 32 && leb 32 (length out))

unfoldable pub subkey_out : List ℕ → List ℕ → List ℕ → List ℕ
subkey_out key salt out = cond (subkey_lawful key salt out) (put out 0 (subkey key salt)) out

-- a hash asks for room for 32 bytes
unfoldable pub digest_fits : List ℕ → Bool
digest_fits out = leb 32 (length out)

unfoldable pub digest_out : List ℕ → List ℕ → List ℕ
digest_out text out = cond (digest_fits out) (put out 0 (hash text)) out

-- ChaCha and Poly1305: there is room for a tag, and what is written then
unfoldable pub tag_fits : List ℕ → Bool
tag_fits s = leb aead.tag_length (length s)

unfoldable pub where_tag_fits : (s written : List ℕ) → List ℕ
where_tag_fits s written = cond (tag_fits s) written s

-- a sealed text has a tag, and its text has room
unfoldable pub text_fits : (s out : List ℕ) → Bool
text_fits s out = tag_fits s && leb (length s - aead.tag_length) (length out)

-- what is answered by that and by the verdict on the tag, and what is written
unfoldable pub verdict_number : (fits good : Bool) → ℕ
verdict_number fits good = cond fits (cond good 0 2) 1

unfoldable pub verdict_out : (fits good : Bool) → (text out : List ℕ) → List ℕ
verdict_out fits good text out = cond (fits && good) (put out 0 text) out

-- what is answered to a client's first datagram, without padding, and what is written
abbrev pub first_datagram : (method : ℕ) → (key nonce : List ℕ) → (id : ℕ) → (address payload out : List ℕ) → Result ℕ Refusal
first_datagram method key nonce id address payload out =
    seal_answer method (length key) (length nonce) (client_sender id) address 0 (length payload) (length out)

abbrev pub first_datagram_out : (method : ℕ) → (key nonce : List ℕ) → (id clock : ℕ) → (address payload out : List ℕ) → List ℕ
first_datagram_out method key nonce id clock address payload out =
    seal_out (first_datagram method key nonce id address payload out)
    (datagram (cipher_of method) key nonce (client_sender id) clock address 0 payload) out

-- the length of a sealed datagram, and 0 for a refusal
abbrev pub sealed_number : Result ℕ Refusal → ℕ
sealed_number (Ok n) = n
sealed_number (Err r) = 0

-- 0 for an opened datagram, and the refusal's number
abbrev pub opened_number : Answer Header → ℕ
opened_number (opened h) = 0
opened_number (refused n) = n

-- the address of the benchmark's caller
abbrev pub nobody : Peer
nobody = record { first = 0; second = 0; port = 0 }

-- streams, by their subkey in four words

abbrev pub subkey_in : (a b c d : ℕ) → Subkey
subkey_in a b c d = record { a = a; b = b; c = c; d = d }

-- before the first piece
abbrev pub first_sender : ℕ → Subkey → Sender
first_sender method w = record { method = method; counter = 0; subkey = w }

-- before the second piece, a payload of n bytes
abbrev pub payload_receiver : ℕ → ℕ → Subkey → Receiver
payload_receiver method n w = record { method = method; turn = Payload n; counter = 1; subkey = w }

-- what is answered to a stream's first chunk, and what is written
abbrev pub first_chunk : (method : ℕ) → Subkey → (payload out : List ℕ) → Result (ℕ × Sender) Refusal
first_chunk method w payload out = chunk_answer (first_sender method w) (length payload) (length out)

abbrev pub first_chunk_out : (method : ℕ) → Subkey → (payload out : List ℕ) → List ℕ
first_chunk_out method w payload out =
    chunk_out (first_chunk method w payload out) (chunk (sender_key (first_sender method w)) 0 payload) out

-- the number of bytes sealed, and 0 for a refusal
abbrev pub chunk_number : Result (ℕ × Sender) Refusal → ℕ
chunk_number (Ok (n, s)) = n
chunk_number (Err r) = 0

-- 0 for an opened piece, and the refusal's number
abbrev pub stepped_number : Result Chunk Refusal → ℕ
stepped_number (Ok c) = 0
stepped_number (Err r) = refusal_number r
