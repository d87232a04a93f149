-- SIP004, TCP: a stream is a salt and chunks behind it, under the subkey of the key and that salt. The salt is the host's to carry, so
-- a stream is begun with it. Chunks are those of both editions, under this edition's framing.
use Rattle.std.specs.Prelude.{cond, List, ℕ, length, Err, Ok, Result}
use Rattle.protocol.specs.declared.Cipher.TheVariants.{AesGcm}
use Rattle.protocol.specs.declared.Refusal.TheVariants.{Settings}
use Rattle.stream_pieces.specs.declared.Framing.{Framing}
use Rattle.stream_pieces.specs.declared.Subkey.{Subkey}
use Rattle.stream_pieces.specs.Pieces.{subkey_words, key_of, Keyed, keyed}
use Rattle.stream_seal.specs.declared.Sender.{Sender}
use Rattle.stream_seal.specs.Sealing.{framed_answer}
use Rattle.stream_open.specs.declared.Turn.TheVariants.{Length}
use Rattle.stream_open.specs.declared.Receiver.{Receiver}
use Rattle.stream_open.specs.Steps as steps
use Rattle.sip004.specs.Method.{settings_fit, key_length}
use Rattle.sip004.specs.Subkey.{subkey}
use Rattle.protocol.specs.declared.Refusal.{Refusal}
use Rattle.stream_open.specs.declared.Chunk.{Chunk}

-- the longest payload of a chunk: the two highest bits of a length are zero
abbrev pub max_payload : ℕ
max_payload = 16383

-- by the number of the method; a payload may be empty. The key has no bytes where there is no such method.
abbrev pub framing_of : ℕ → Framing
framing_of method = record { cipher = AesGcm; key = key_length method; least = 0; greatest = max_payload }

-- ---- beginning: refusal 1, or the stream behind its salt, which has its first length next and no piece sealed

abbrev pub subkey_of : (key salt : List ℕ) → Subkey
subkey_of key salt = subkey_words (subkey key salt)

abbrev pub sender : ℕ → Subkey → Sender
sender method w = record { method = method; counter = 0; subkey = w }

unfoldable pub sender_begun : ℕ → (key salt : List ℕ) → Result Sender Refusal
sender_begun method key salt =
    cond (settings_fit method (length key) (length salt)) (Ok (sender method (subkey_of key salt))) (Err Settings)

abbrev pub receiver : ℕ → Subkey → Receiver
receiver method w = record { method = method; turn = Length; counter = 0; subkey = w }

unfoldable pub receiver_begun : ℕ → (key salt : List ℕ) → Result Receiver Refusal
receiver_begun method key salt =
    cond (settings_fit method (length key) (length salt)) (Ok (receiver method (subkey_of key salt))) (Err Settings)

-- ---- chunks: the framing is the method's

abbrev pub sender_key : Sender → Keyed
sender_key s = keyed AesGcm (key_of s.subkey (key_length s.method))

abbrev pub chunk_answer : Sender → ℕ → ℕ → Result (ℕ × Sender) Refusal
chunk_answer s payload room = framed_answer (framing_of s.method) s payload room

abbrev pub stream_key : Receiver → Keyed
stream_key st = keyed AesGcm (key_of st.subkey (key_length st.method))

abbrev pub step_answer : Receiver → List ℕ → ℕ → Result Chunk Refusal
step_answer st s room = steps.step_answer (framing_of st.method) st s room
