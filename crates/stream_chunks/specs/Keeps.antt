-- Every step and every sealing ends with an answer or a refusal, and what a refusal leaves.
-- Assumes nothing.
use Rattle.std.specs.Prelude.{◌≡◌, true, false, List, ℕ, ◌≤◌, length, drop, Err, Ok, Result}
use Rattle.protocol.specs.declared.Refusal.{Refusal}
use Rattle.protocol.specs.declared.Refusal.TheVariants.{NotAuthentic}
use Rattle.protocol.specs.Refusal.{refusal_number}
use Rattle.protocol.specs.Orders.{among}
use Rattle.stream_pieces.specs.declared.Framing.{Framing}
use Rattle.stream_seal.specs.declared.Sender.{Sender}
use Rattle.stream_seal.specs.Sealing.{seal_out}
use Rattle.stream_open.specs.declared.Turn.{Turn}
use Rattle.stream_open.specs.declared.Turn.TheVariants.{Variable, Length, Payload, Ended}
use Rattle.stream_open.specs.declared.Receiver.{Receiver}
use Rattle.stream_open.specs.declared.Chunk.{Chunk}
use Rattle.stream_open.specs.Steps.{step_answer, step_out, ended, step_next}

-- ---- a step, with these refusals, of which these end the stream

pub data StepAnswered (refusals : List ℕ) (a : Result Chunk Refusal) : Type 0 where
  opened-step : (c : Chunk) → a ≡ Ok c → StepAnswered refusals a
  refused-step : (r : Refusal) → among refusals (refusal_number r) ≡ true → a ≡ Err r → StepAnswered refusals a

-- the bytes due: a payload's
abbrev pub due_at : Turn → ℕ
due_at Length = 0
due_at (Payload n) = n
due_at Ended = 0
due_at (Variable n) = 0

pub record StepKeeps (refusals ending : List ℕ) (f : Framing) (st : Receiver) (s out : List ℕ) : Type 0 where
  pub answered : StepAnswered refusals (step_answer f st s (length out))
  pub refused-keeps-out : (r : Refusal) → step_answer f st s (length out) ≡ Err r → step_out f st s out ≡ out
  -- no refusal but these moves the stream
  pub refused-keeps-state : (r : Refusal) → step_answer f st s (length out) ≡ Err r → among ending (refusal_number r) ≡ false
      → step_next st (step_answer f st s (length out)) ≡ st
  pub ends : (r : Refusal) → step_answer f st s (length out) ≡ Err r → among ending (refusal_number r) ≡ true
      → step_next st (step_answer f st s (length out)) ≡ ended st
  -- a stream that has ended opens nothing any more
  pub ended-refuses : (f.key ≡ 0 → ⊥) → (bytes : List ℕ) (room : ℕ) → step_answer f (ended st) bytes room ≡ Err NotAuthentic
  pub past-due-kept : drop (due_at st.turn) (step_out f st s out) ≡ drop (due_at st.turn) out
  pub length-kept : length (step_out f st s out) ≡ length out

-- ---- sealing, with these refusals

pub data SealAnswered (refusals : List ℕ) (a : Result (ℕ × Sender) Refusal) : Type 0 where
  sealed-text : (n : ℕ) (next : Sender) → a ≡ Ok (n, next) → SealAnswered refusals a
  refused-text : (r : Refusal) → among refusals (refusal_number r) ≡ true → a ≡ Err r → SealAnswered refusals a

-- the text that is written, where the sealer answers `a`
pub record SealKeeps (refusals : List ℕ) (a : Result (ℕ × Sender) Refusal) (text out : List ℕ) : Type 0 where
  pub answered : SealAnswered refusals a
  pub refused-writes-nothing : (r : Refusal) → a ≡ Err r → seal_out a text out ≡ out
  pub sealed-length : (n : ℕ) (next : Sender) → a ≡ Ok (n, next) → (length text ≡ n) × (n ≤ length out)
  pub past-length-kept : (n : ℕ) (next : Sender) → a ≡ Ok (n, next) → drop n (seal_out a text out) ≡ drop n out
  pub length-kept : length (seal_out a text out) ≡ length out
