-- The 2017 edition's numbers of streams, as the definitions compute them and as they should be, written out.
-- Assumes nothing.
use Rattle.std.specs.Prelude.{◌≡◌, [], ◌∷◌, map, ℕ, replicate, Err, Ok, Result}
use Rattle.protocol.specs.Refusal.{refusal_number}
use Rattle.stream_open.specs.declared.Turn.TheVariants.{Payload}
use Rattle.stream_open.specs.declared.Receiver.{Receiver}
use Rattle.stream_open.specs.Steps.{length_answer}
use Rattle.stream_seal.specs.declared.Sender.{Sender}
use Rattle.stream_pieces.specs.declared.Subkey.{Subkey}
use Rattle.sip004_stream.specs.Streams.{framing_of, step_answer, chunk_answer}
use Rattle.sip004_demands.specs.DatagramNumbers.{others}
use Rattle.stream_open.specs.declared.Chunk.{Chunk}
use Rattle.protocol.specs.declared.Refusal.{Refusal}

abbrev pub no_subkey : Subkey
no_subkey = record { a = 0; b = 0; c = 0; d = 0 }

-- a stream at a payload of so many bytes, and one that seals
abbrev pub payload_at : (method n : ℕ) → Receiver
payload_at method n = record { method = method; turn = Payload n; counter = 1; subkey = no_subkey }

abbrev pub sender_of : (method counter : ℕ) → Sender
sender_of method counter = record { method = method; counter = counter; subkey = no_subkey }

-- a refusal's number, and 0 for a value
abbrev pub stepped : Result Chunk Refusal → ℕ
stepped (Ok c) = 0
stepped (Err r) = refusal_number r

abbrev pub sealed : Result (ℕ × Sender) Refusal → ℕ
sealed (Ok (n, next)) = 0
sealed (Err r) = refusal_number r

pub record StreamNumbers : Type 0 where
  pub keys : map (λ (m : ℕ). (framing_of m).key) (11 ∷ 12 ∷ 13 ∷ []) ≡ 16 ∷ 24 ∷ 32 ∷ []
  pub unknown : map (λ (m : ℕ). (framing_of m).key) others ≡ replicate 11 0
  -- a length that was read
  pub lengths : map (λ (n : ℕ). stepped (length_answer (framing_of 11) n)) (0 ∷ 1 ∷ 16383 ∷ 16384 ∷ 65535 ∷ []) ≡ 0 ∷ 0 ∷ 0 ∷ 5 ∷ 5 ∷ []
  -- a payload's turn without bytes: 10, and 1 where it is too long
  pub turns : map (λ (n : ℕ). stepped (step_answer (payload_at 12 n) [] 0)) (0 ∷ 16383 ∷ 16384 ∷ []) ≡ 10 ∷ 10 ∷ 1 ∷ []
  -- sealing, with room for the longest chunk: 2 above it
  pub chunks : map (λ (n : ℕ). sealed (chunk_answer (sender_of 13 0) n 16417)) (0 ∷ 16383 ∷ 16384 ∷ []) ≡ 0 ∷ 0 ∷ 2 ∷ []
  pub room : sealed (chunk_answer (sender_of 13 0) 16383 16416) ≡ 3
  -- methods of the 2022 edition and other numbers
  pub other-steps : map (λ (m : ℕ). stepped (step_answer (payload_at m 0) [] 0)) others ≡ replicate 11 1
  pub other-chunks : map (λ (m : ℕ). sealed (chunk_answer (sender_of m 0) 1 100)) others ≡ replicate 11 1
