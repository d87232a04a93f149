-- Opening the variable header of a request (SIP022, section 3.1), which is next behind its fixed header: what is answered, what
-- the lent buffer holds then, and the state of the stream.
use Rattle.std.specs.Prelude.{Bool, cond, ◌&&◌, List, ℕ, ◌+◌, eqb, leb, ltb, length, take, drop, replicate, Err, None, Ok, Option, Result, Some}
use Rattle.octets.specs.Buffers.{put}
use Rattle.octets.specs.Numbers.{be}
use Rattle.protocol.specs.declared.Refusal.TheVariants.{Settings, Room, NotAuthentic, Malformed, More}
use Rattle.protocol.specs.Method.{key_length}
use Rattle.socks5.specs.Address.{parse_at}
use Rattle.stream_pieces.specs.Pieces.{tag_length, authentic_at, open_at, Keyed}
use Rattle.stream_heads.specs.Heads.{max_padding}
use Rattle.stream_open.specs.declared.Turn.{Turn}
use Rattle.stream_open.specs.declared.Turn.TheVariants.{Variable, Length, Payload, Ended}
use Rattle.stream_open.specs.declared.Receiver.{Receiver}
use Rattle.stream_open.specs.Chunks.{stream_key, receiver, refused_next}
use Rattle.socks5.specs.declared.Address.{Address}
use Rattle.stream_open_variable.specs.declared.VariableHeader.{VariableHeader}
use Rattle.protocol.specs.declared.Refusal.{Refusal}

-- ---- the plaintext: an address, a padding length within the cap, the padding, and the first payload, which only a padded
-- request may lack

-- the padding length behind an address that ends at the place e
abbrev pub padding_at : ℕ → List ℕ → ℕ
padding_at e plain = be 2 (drop e plain)

unfoldable pub padding_fits : ℕ → List ℕ → Bool
padding_fits e plain =
    leb (e + 2) (length plain) && (leb (padding_at e plain) max_padding && (leb (e + 2 + padding_at e plain) (length plain) && ltb (e + 2) (length plain)))

-- of n bytes, where p is the address
abbrev pub header_with : (n : ℕ) → List ℕ → Option Address → Result VariableHeader Refusal
header_with n plain (Some a) =
    cond (padding_fits a.end plain)
    (Ok
    (record {
      target = a.target;
      port = a.port;
      padding = padding_at a.end plain;
      payload = a.end + 2 + padding_at a.end plain;
      length = n;
      used = n + tag_length;
    }))
    (Err Malformed)
header_with n plain None = Err Malformed

unfoldable pub read_variable : (n : ℕ) → List ℕ → Result VariableHeader Refusal
read_variable n plain = header_with n plain (parse_at plain 0)

-- ---- the piece of n bytes of plaintext, with counter 1: 10, 3, 4, 5

abbrev pub variable_piece : (n : ℕ) → List ℕ → List ℕ
variable_piece n s = take (n + tag_length) s

unfoldable pub header_answer : Keyed → (n : ℕ) → List ℕ → (room : ℕ) → Result VariableHeader Refusal
header_answer key n s room =
    cond (leb (n + tag_length) (length s))
    (cond (leb n room)
    (cond (authentic_at key 1 (variable_piece n s)) (read_variable n (open_at key 1 (variable_piece n s))) (Err NotAuthentic)) (Err Room))
    (Err (More (n + tag_length)))

-- a refusal clears what the plaintext has filled
abbrev pub settled : Result VariableHeader Refusal → ℕ → List ℕ → List ℕ
settled (Ok h) due out = out
settled (Err r) due out = put out 0 (replicate due 0)

-- a good tag lets the plaintext into the buffer, and then a refusal clears it
unfoldable pub header_out : Keyed → (n : ℕ) → List ℕ → List ℕ → List ℕ
header_out key n s out =
    cond (leb (n + tag_length) (length s) && (leb n (length out) && authentic_at key 1 (variable_piece n s)))
    (settled (read_variable n (open_at key 1 (variable_piece n s))) n (put out 0 (open_at key 1 (variable_piece n s)))) out

-- ---- the call: 1, 4 of a stream that has ended, and the piece's

-- a stream at another turn is 1, and so is one with another counter than the first call hands on
abbrev pub turn_variable : Turn → Receiver → List ℕ → (room : ℕ) → Result VariableHeader Refusal
turn_variable (Variable n) st s room = cond (eqb st.counter 1) (header_answer (stream_key st) n s room) (Err Settings)
turn_variable Length st s room = Err Settings
turn_variable (Payload m) st s room = Err Settings
turn_variable Ended st s room = Err NotAuthentic

unfoldable pub variable_answer : Receiver → List ℕ → (room : ℕ) → Result VariableHeader Refusal
variable_answer st s room = cond (eqb (key_length st.method) 0) (Err Settings) (turn_variable st.turn st s room)

abbrev pub turn_out : Turn → Receiver → List ℕ → List ℕ → List ℕ
turn_out (Variable n) st s out = cond (eqb st.counter 1) (header_out (stream_key st) n s out) out
turn_out Length st s out = out
turn_out (Payload m) st s out = out
turn_out Ended st s out = out

unfoldable pub variable_out : Receiver → List ℕ → List ℕ → List ℕ
variable_out st s out = cond (eqb (key_length st.method) 0) out (turn_out st.turn st s out)

-- a length is next, with counter 2; what a refusal leaves is as of a step
abbrev pub variable_next : Receiver → Result VariableHeader Refusal → Receiver
variable_next st (Ok h) = receiver st.method Length 2 st.subkey
variable_next st (Err r) = refused_next r st
