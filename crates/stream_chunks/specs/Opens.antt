-- When exactly a step opens a piece under a framing, and when it refuses a length.
-- Assumes nothing.
use Rattle.std.specs.Prelude.{◌≡◌, true, false, List, ◌↔◌, ℕ, ◌+◌, ◌≤◌, ◌<◌, length, take, Err, Ok}
use Rattle.octets.specs.Buffers.{put}
use Rattle.octets.specs.Numbers.{be}
use Rattle.protocol.specs.declared.Refusal.TheVariants.{Malformed, Empty}
use Rattle.stream_pieces.specs.declared.Framing.{Framing}
use Rattle.stream_pieces.specs.Framing.{over}
use Rattle.stream_pieces.specs.Pieces.{authentic_at, open_at, last_counter, Keyed}
use Rattle.stream_open.specs.declared.Turn.{Turn}
use Rattle.stream_open.specs.declared.Turn.TheVariants.{Variable, Length, Payload, Ended}
use Rattle.stream_open.specs.declared.Receiver.{Receiver}
use Rattle.stream_open.specs.declared.Chunk.{Chunk}
use Rattle.stream_open.specs.Steps.{key_in, step_answer, step_out}

-- which framing the method of a number has
abbrev pub Edition : Type 0
Edition = ℕ → Framing

-- a piece of n bytes of plaintext can be opened under a key and a counter, into room for as many bytes as are asked
pub record PieceOpens (key : Keyed) (counter n : ℕ) (s : List ℕ) (asked room : ℕ) : Type 0 where
  pub usable : counter ≡ last_counter → ⊥
  pub whole : n + 16 ≤ length s
  pub has_room : asked ≤ room
  pub authentic : authentic_at key counter (take (n + 16) s) ≡ true

-- a payload may have so many bytes
abbrev pub Within : Framing → ℕ → Type 0
Within f n = (f.least ≤ n) × (over f n ≡ false)

-- by turns: a length is what the piece says; a payload is as long as the length before it said; both within the framing
abbrev pub TurnOpens : Framing → (key : Keyed) (counter : ℕ) → Turn → List ℕ → (room : ℕ) → Chunk → Type 0
TurnOpens f key counter Length s room c =
    PieceOpens key counter 2 s 0 room
    × (Within f (be 2 (open_at key counter (take 18 s)))
    × (c ≡ record { used = 18; length = be 2 (open_at key counter (take 18 s)) }))
TurnOpens f key counter (Payload n) s room c = PieceOpens key counter n s n room × (Within f n × (c ≡ record { used = n + 16; length = n }))
TurnOpens f key counter Ended s room c = ⊥
TurnOpens f key counter (Variable n) s room c = ⊥

-- what the buffer holds then
abbrev pub turn_text : (key : Keyed) (counter : ℕ) → Turn → List ℕ → List ℕ → List ℕ
turn_text key counter Length s out = out
turn_text key counter (Payload n) s out = put out 0 (open_at key counter (take (n + 16) s))
turn_text key counter Ended s out = out
turn_text key counter (Variable n) s out = out

pub record StepOpens (f : Framing) (st : Receiver) (s : List ℕ) (room : ℕ) (c : Chunk) : Type 0 where
  pub known : f.key ≡ 0 → ⊥
  pub opens : TurnOpens f (key_in f st) st.counter st.turn s room c

pub record StepExactly (f : Framing) (st : Receiver) (s out : List ℕ) (c : Chunk) : Type 0 where
  pub only-when : step_answer f st s (length out) ≡ Ok c → StepOpens f st s (length out) c
  pub always-when : StepOpens f st s (length out) c → step_answer f st s (length out) ≡ Ok c
  pub opened-text : step_answer f st s (length out) ≡ Ok c → step_out f st s out ≡ turn_text (key_in f st) st.counter st.turn s out

abbrev pub StepExactlyWhen : Edition → Type 0
StepExactlyWhen edition = (st : Receiver) (s out : List ℕ) (c : Chunk) → StepExactly (edition st.method) st s out c

-- ---- a length that is refused

-- an authentic length of n
pub record ReadsLength (f : Framing) (st : Receiver) (s : List ℕ) (room n : ℕ) : Type 0 where
  pub known : f.key ≡ 0 → ⊥
  pub at_length : st.turn ≡ Length
  pub opens : PieceOpens (key_in f st) st.counter 2 s 0 room
  pub says : n ≡ be 2 (open_at (key_in f st) st.counter (take 18 s))

-- 14: under the least
abbrev pub UnderExactlyWhen : Edition → Type 0
UnderExactlyWhen edition =
    (st : Receiver) (s : List ℕ) (room : ℕ)
    → (step_answer (edition st.method) st s room ≡ Err Empty)
    ↔ ((n : ℕ) × (ReadsLength (edition st.method) st s room n × (n < (edition st.method).least)))

-- 5: over the greatest
abbrev pub OverExactlyWhen : Edition → Type 0
OverExactlyWhen edition =
    (st : Receiver) (s : List ℕ) (room : ℕ)
    → (step_answer (edition st.method) st s room ≡ Err Malformed)
    ↔ ((n : ℕ) × (ReadsLength (edition st.method) st s room n × (((edition st.method).least ≤ n) × (over (edition st.method) n ≡ true))))
