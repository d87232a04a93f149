-- Opening a stream of SIP022 behind its head (section 3.1).
use Rattle.std.specs.Prelude.{List, ℕ, Result}
use Rattle.protocol.specs.Method.{key_length, cipher_of}
use Rattle.stream_pieces.specs.declared.Subkey.{Subkey}
use Rattle.stream_pieces.specs.Framing.{framing_of}
use Rattle.stream_pieces.specs.Pieces.{key_of, Keyed, keyed}
use Rattle.stream_open.specs.declared.Turn.{Turn}
use Rattle.stream_open.specs.declared.Receiver.{Receiver}
use Rattle.stream_open.specs.Steps as steps
use Rattle.stream_open.specs.declared.Chunk.{Chunk}
use Rattle.protocol.specs.declared.Refusal.{Refusal}
pub use Rattle.stream_open.specs.Steps.{ended, refused_next, step_next}

-- the key of a stream, by its method
abbrev pub stream_key : Receiver → Keyed
stream_key st = keyed (cipher_of st.method) (key_of st.subkey (key_length st.method))

-- the state of a stream that was begun by a head
abbrev pub receiver : ℕ → Turn → ℕ → Subkey → Receiver
receiver method turn counter w = record { method = method; turn = turn; counter = counter; subkey = w }

-- the framing is the method's
abbrev pub step_answer : Receiver → List ℕ → ℕ → Result Chunk Refusal
step_answer st s room = steps.step_answer (framing_of st.method) st s room

abbrev pub step_out : Receiver → List ℕ → List ℕ → List ℕ
step_out st s out = steps.step_out (framing_of st.method) st s out
