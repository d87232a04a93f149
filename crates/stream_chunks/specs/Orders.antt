-- What the orders of refusals of both editions say of chunks.
use Rattle.std.specs.Prelude.{Bool, true, false, ℕ, Err, Ok, Result}
use Rattle.protocol.specs.Orders.{Said, gives, refuses_with}
use Rattle.stream_seal.specs.declared.Sender.{Sender}
use Rattle.stream_open.specs.declared.Turn.{Turn}
use Rattle.stream_open.specs.declared.Turn.TheVariants.{Variable, Length, Payload, Ended}
use Rattle.stream_open.specs.declared.Chunk.{Chunk}
use Rattle.protocol.specs.declared.Refusal.{Refusal}

-- a stream that has ended
abbrev pub is_ended : Turn → Bool
is_ended Length = false
is_ended (Payload m) = false
is_ended Ended = true
is_ended (Variable m) = false

-- the plaintext of the piece that is next, and the bytes due, which a length has none of
abbrev pub text_bytes : Turn → ℕ
text_bytes Length = 2
text_bytes (Payload m) = m
text_bytes Ended = 0
text_bytes (Variable m) = m

abbrev pub due_bytes : Turn → ℕ
due_bytes Length = 0
due_bytes (Payload m) = m
due_bytes Ended = 0
due_bytes (Variable m) = m

-- the length read, or the payload's
abbrev pub length_told : Turn → (read : ℕ) → ℕ
length_told Length read = read
length_told (Payload m) read = m
length_told Ended read = 0
length_told (Variable m) read = m

abbrev pub said_step : Result Chunk Refusal → Said Chunk
said_step (Ok c) = gives c
said_step (Err r) = refuses_with r

-- a sealer's: how many bytes, and the sender as it is then
abbrev pub said_piece : Result (ℕ × Sender) Refusal → Said (ℕ × Sender)
said_piece (Ok (n, next)) = gives (n, next)
said_piece (Err r) = refuses_with r
