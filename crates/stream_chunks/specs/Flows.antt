-- Steps one after another, and payloads sealed one after another.
use Rattle.std.specs.Prelude.{◌≡◌, List, [], ◌∷◌, ◌++◌, ℕ, zero, suc, ◌+◌, ◌≤◌, length, take, drop, Err, Ok, Result}
use Rattle.stream_pieces.specs.Pieces.{key_of, Keyed, keyed}
use Rattle.stream_seal.specs.declared.Sender.{Sender}
use Rattle.stream_seal.specs.Sealing.{chunk, framed_answer}
use Rattle.stream_open.specs.declared.Turn.{Turn}
use Rattle.stream_open.specs.declared.Turn.TheVariants.{Variable, Length, Payload, Ended}
use Rattle.stream_open.specs.declared.Receiver.{Receiver}
use Rattle.stream_open.specs.declared.Chunk.{Chunk}
use Rattle.stream_open.specs.Steps.{step_answer, step_out, step_next}
use Rattle.stream_chunks.specs.Opens.{Edition}
use Rattle.protocol.specs.declared.Refusal.{Refusal}

-- ---- opening

-- a stream that is being received: its state, the bytes still to be opened, and the buffer
pub record Flow : Type 0 where
  pub stream : Receiver
  pub bytes : List ℕ
  pub buffer : List ℕ

-- how many bytes a step used
abbrev pub used_by : Result Chunk Refusal → ℕ
used_by (Ok c) = c.used
used_by (Err r) = 0

-- the payload of a step, in front of others
abbrev pub gives : Result Chunk Refusal → Turn → List ℕ → List (List ℕ) → List (List ℕ)
gives (Ok c) (Payload n) out more = take n out ∷ more
gives (Ok c) Length out more = more
gives (Ok c) Ended out more = more
gives (Ok c) (Variable n) out more = more
gives (Err r) turn out more = more

module _ (edition : Edition) where
  unfoldable pub answer_to : Flow → Result Chunk Refusal
  answer_to w = step_answer (edition w.stream.method) w.stream w.bytes (length w.buffer)

  unfoldable pub written_in : Flow → List ℕ
  written_in w = step_out (edition w.stream.method) w.stream w.bytes w.buffer

  -- a step that goes on from the bytes behind it
  abbrev pub stepped : Flow → Flow
  stepped w = record { stream = step_next w.stream (answer_to w); bytes = drop (used_by (answer_to w)) w.bytes; buffer = written_in w }

  abbrev pub after : (k : ℕ) → Flow → Flow
  after zero w = w
  after (suc k) w = after k (stepped w)

  -- the payloads of k steps
  abbrev pub received : (k : ℕ) → Flow → List (List ℕ)
  received zero w = []
  received (suc k) w = gives (answer_to w) w.stream.turn (written_in w) (received k (stepped w))

  -- each of k steps is accepted
  abbrev pub AllOpened : (k : ℕ) → Flow → Type 0
  AllOpened zero w = Unit {0}
  AllOpened (suc k) w = ((c : Chunk) × (answer_to w ≡ Ok c)) × AllOpened k (stepped w)

-- ---- sealing

-- what a call of the sealer sends, and the sender it leaves
abbrev pub sent_by : Result (ℕ × Sender) Refusal → List ℕ → List ℕ
sent_by (Ok (n, next)) text = text
sent_by (Err r) text = []

abbrev pub leaves : Result (ℕ × Sender) Refusal → Sender → Sender
leaves (Ok (n, next)) s = next
leaves (Err r) s = s

-- none is longer than the buffer
abbrev pub Fit : (room : ℕ) → List (List ℕ) → Type 0
Fit room [] = Unit {0}
Fit room (p ∷ ps) = (length p ≤ room) × Fit room ps

-- chunks under one key, each two counters past the one before it
abbrev pub chunks_from : (key : Keyed) (counter : ℕ) → List (List ℕ) → List ℕ
chunks_from key counter [] = []
chunks_from key counter (p ∷ ps) = chunk key counter p ++ chunks_from key (counter + 2) ps

module _ (edition : Edition) where
  -- the key of a sender
  abbrev pub key_for : Sender → Keyed
  key_for s = keyed (edition s.method).cipher (key_of s.subkey (edition s.method).key)

  -- what the sealer answers to n bytes, on a buffer with `space` bytes
  abbrev pub sealing : Sender → (n space : ℕ) → Result (ℕ × Sender) Refusal
  sealing s n space = framed_answer (edition s.method) s n space

  -- one payload sealed into such a buffer
  abbrev pub sent_chunk : (space : ℕ) → Sender → List ℕ → List ℕ
  sent_chunk space s p = sent_by (sealing s (length p) space) (chunk (key_for s) s.counter p)

  -- payloads sealed one after another, each into such a buffer
  abbrev pub sent_all : (space : ℕ) → Sender → List (List ℕ) → List ℕ
  sent_all space s [] = []
  sent_all space s (p ∷ ps) = sent_chunk space s p ++ sent_all space (leaves (sealing s (length p) space) s) ps

  abbrev pub sender_after : (space : ℕ) → Sender → List (List ℕ) → Sender
  sender_after space s [] = s
  sender_after space s (p ∷ ps) = sender_after space (leaves (sealing s (length p) space) s) ps

  -- each of them was sealed
  abbrev pub AllSealed : (space : ℕ) → Sender → List (List ℕ) → Type 0
  AllSealed space s [] = Unit {0}
  AllSealed space s (p ∷ ps) =
      ((n : ℕ) × ((next : Sender) × (sealing s (length p) space ≡ Ok (n, next))))
      × AllSealed space (leaves (sealing s (length p) space) s) ps
