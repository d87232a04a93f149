-- Sealing the head of a stream (SIP022, section 3.1): what is answered and what is written.
use Rattle.std.specs.Prelude.{Bool, cond, ◌&&◌, List, [], ◌∷◌, ◌++◌, ℕ, ◌+◌, eqb, leb, ltb, length, replicate, Err, Result}
use Rattle.octets.specs.Numbers.{to_be}
use Rattle.protocol.specs.declared.Cipher.{Cipher}
use Rattle.protocol.specs.declared.Refusal.TheVariants.{Settings, Argument, Empty}
use Rattle.protocol.specs.Method.{key_fits, salt_length}
use Rattle.protocol.specs.Subkey.{subkey}
use Rattle.socks5.specs.Address.{is_address}
use Rattle.stream_seal.specs.declared.Sender.{Sender}
use Rattle.stream_pieces.specs.Framing.{is_empty}
use Rattle.stream_pieces.specs.Pieces.{fixed_piece, seal_at, subkey_words, max_chunk, Keyed, keyed}
use Rattle.stream_seal.specs.Sealing.{size_answer}
use Rattle.stream_heads.specs.Heads.{max_padding}
use Rattle.protocol.specs.declared.Refusal.{Refusal}

-- ---- what is written

-- the fixed header: type, time, in a response the request's salt, and the length of the piece behind it
unfoldable pub fixed_part : (kind time : ℕ) → List ℕ → ℕ → List ℕ
fixed_part kind time binding n = kind ∷ (to_be 8 time ++ (binding ++ to_be 2 n))

-- the salt and the fixed header: the first piece
unfoldable pub front : Keyed → List ℕ → (kind time : ℕ) → List ℕ → ℕ → List ℕ
front key salt kind time binding n = salt ++ seal_at key 0 (fixed_part kind time binding n)

-- the variable header of a request: address, padding of zeros, and the first payload
unfoldable pub variable_part : List ℕ → ℕ → List ℕ → List ℕ
variable_part address padding payload = address ++ (to_be 2 padding ++ (replicate padding 0 ++ payload))

unfoldable pub variable_length : ℕ → ℕ → ℕ → ℕ
variable_length address padding payload = address + 2 + padding + payload

-- under the subkey of a key and the salt
unfoldable pub request_at : Keyed → List ℕ → ℕ → List ℕ → ℕ → List ℕ → List ℕ
request_at k salt time address padding payload =
    front k salt 0 time [] (length (variable_part address padding payload)) ++ seal_at k 1 (variable_part address padding payload)

unfoldable pub request : Cipher → List ℕ → List ℕ → ℕ → List ℕ → ℕ → List ℕ → List ℕ
request cipher key salt time address padding payload = request_at (keyed cipher (subkey key salt)) salt time address padding payload

unfoldable pub response_of : Keyed → List ℕ → List ℕ → ℕ → List ℕ → List ℕ
response_of k salt binding time payload = front k salt 1 time binding (length payload) ++ seal_at k 1 payload

unfoldable pub response : Cipher → List ℕ → List ℕ → List ℕ → ℕ → List ℕ → List ℕ
response cipher key salt binding time payload = response_of (keyed cipher (subkey key salt)) salt binding time payload

-- ---- what is answered

-- the stream behind a head, which uses two counters
abbrev pub begun : ℕ → List ℕ → List ℕ → Sender
begun method key salt = record { method = method; counter = 2; subkey = subkey_words (subkey key salt) }

-- a key and a salt of these lengths
unfoldable pub sizes_fit : ℕ → ℕ → ℕ → Bool
sizes_fit method key salt = key_fits method key && eqb salt (salt_length method)

-- padding within its cap, and none only where there is a payload
unfoldable pub padding_lawful : ℕ → ℕ → Bool
padding_lawful padding payload = leb padding max_padding && ltb 0 (padding + payload)

-- 1, 12, 2, 3
unfoldable pub request_answer : ℕ → List ℕ → List ℕ → List ℕ → ℕ → ℕ → ℕ → Result (ℕ × Sender) Refusal
request_answer method key salt address padding payload room =
    cond (sizes_fit method (length key) (length salt))
    (cond (is_address address && padding_lawful padding payload)
    (size_answer max_chunk (variable_length (length address) padding payload) (length salt + fixed_piece) room (begun method key salt)) (Err Argument))
    (Err Settings)

-- 1, 14, 2, 3; the request's salt is as long as the response's
unfoldable pub response_answer : ℕ → List ℕ → List ℕ → List ℕ → ℕ → ℕ → Result (ℕ × Sender) Refusal
response_answer method key salt binding payload room =
    cond (sizes_fit method (length key) (length salt) && eqb (length binding) (length salt))
    (cond (is_empty payload) (Err Empty)
    (size_answer max_chunk payload (length salt + fixed_piece + length binding) room (begun method key salt))) (Err Settings)
