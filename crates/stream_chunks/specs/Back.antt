-- What is sealed is given back, chunk by chunk and as a whole; each piece has its own nonce.
-- Assumes nothing.
use Rattle.std.specs.Prelude.{◌≡◌, List, ◌∷◌, ◌++◌, ℕ, ◌+◌, ◌*◌, ◌^◌, ◌≤◌, ◌<◌, length, drop, Ok, Result}
use Rattle.octets.specs.Buffers.{put}
use Rattle.octets.specs.Numbers.{to_be}
use Rattle.stream_pieces.specs.Pieces.{nonce, seal_at}
use Rattle.stream_seal.specs.declared.Sender.{Sender}
use Rattle.stream_seal.specs.Sealing.{chunk}
use Rattle.stream_open.specs.declared.Turn.TheVariants.{Length, Payload}
use Rattle.stream_open.specs.declared.Receiver.{Receiver}
use Rattle.stream_open.specs.declared.Chunk.{Chunk}
use Rattle.stream_open.specs.Chunks.{receiver}
use Rattle.stream_open.specs.Steps.{key_in, step_answer, step_out, step_next}
use Rattle.stream_chunks.specs.Opens.{Edition, TurnOpens, turn_text}
use Rattle.stream_chunks.specs.Flows.{Flow, answer_to, written_in, after, received, AllOpened, key_for, sealing, sent_chunk, sent_all, sender_after, AllSealed, Fit, chunks_from}
use Rattle.protocol.specs.declared.Refusal.{Refusal}

-- ---- one chunk

-- the receiver that is in step with a sender: of its method, subkey and counter, with a length to come
abbrev pub partner : Sender → Receiver
partner s = receiver s.method Length s.counter s.subkey

-- the same behind the length, with a payload of n bytes to come
abbrev pub midway : Sender → ℕ → Receiver
midway s n = receiver s.method (Payload n) (s.counter + 1) s.subkey

module _ (edition : Edition) where
  abbrev answered : Receiver → List ℕ → ℕ → Result Chunk Refusal
  answered st s room = step_answer (edition st.method) st s room

  abbrev written : Receiver → List ℕ → List ℕ → List ℕ
  written st s out = step_out (edition st.method) st s out

  -- a chunk of n bytes that a sender sealed and that left it as `next`, with `rest` behind it: its partner's two steps
  pub record ChunkBack (s next : Sender) (n : ℕ) (payload rest out : List ℕ) : Type 0 where
    pub sealed-length : length (chunk (key_for edition s) s.counter payload) ≡ n
    -- the length
    pub length-read : (room : ℕ)
        → answered (partner s) (chunk (key_for edition s) s.counter payload ++ rest) room ≡ Ok (record { used = 18; length = length payload })
    pub length-writes-nothing : (o : List ℕ) → written (partner s) (chunk (key_for edition s) s.counter payload ++ rest) o ≡ o
    pub length-next : step_next (partner s) (Ok (record { used = 18; length = length payload })) ≡ midway s (length payload)
    -- the payload
    pub payload-read : answered (midway s (length payload)) (drop 18 (chunk (key_for edition s) s.counter payload ++ rest)) (length out)
        ≡ Ok (record { used = length payload + 16; length = length payload })
    pub payload-written : written (midway s (length payload)) (drop 18 (chunk (key_for edition s) s.counter payload ++ rest)) out
        ≡ put out 0 payload
    pub payload-next : step_next (midway s (length payload)) (Ok (record { used = length payload + 16; length = length payload }))
        ≡ partner next
    -- the two use all of it
    pub used_all : 18 + (length payload + 16) ≡ n
    pub left : drop (length payload + 16) (drop 18 (chunk (key_for edition s) s.counter payload ++ rest)) ≡ rest

  -- whatever sealing answered a length n for, on a buffer with `space` bytes
  abbrev pub ChunksGivenBack : Type 0
  ChunksGivenBack =
      (s next : Sender) (payload : List ℕ) (space n : ℕ) → sealing edition s (length payload) space ≡ Ok (n, next)
      → (rest out : List ℕ) → length payload ≤ length out → ChunkBack s next n payload rest out

  -- ---- each chunk has its own nonce

  -- behind k accepted steps the counter is k further, and the step that follows is opened under that counter
  pub record OwnNonce (k : ℕ) (w : Flow) : Type 0 where
    pub counts : (after edition k w).stream.counter ≡ w.stream.counter + k
    pub same-method : (after edition k w).stream.method ≡ w.stream.method
    pub same_key : key_in (edition w.stream.method) (after edition k w).stream ≡ key_in (edition w.stream.method) w.stream
    pub opens-there : (c : Chunk) → answer_to edition (after edition k w) ≡ Ok c
        → TurnOpens (edition w.stream.method) (key_in (edition w.stream.method) w.stream) (w.stream.counter + k)
        (after edition k w).stream.turn (after edition k w).bytes (length (after edition k w).buffer) c
    pub text-there : (c : Chunk) → answer_to edition (after edition k w) ≡ Ok c
        → written_in edition (after edition k w)
        ≡ turn_text (key_in (edition w.stream.method) w.stream) (w.stream.counter + k) (after edition k w).stream.turn
        (after edition k w).bytes (after edition k w).buffer

  abbrev pub OwnNonces : Type 0
  OwnNonces = (k : ℕ) (w : Flow) → AllOpened edition k w → OwnNonce k w

  -- ---- whole streams

  -- k steps give back these payloads, leave the receiver in step with the sender, and leave the rest of the bytes
  pub record StreamBack (k : ℕ) (w : Flow) (payloads : List (List ℕ)) (last : Sender) (rest : List ℕ) : Type 0 where
    pub same-payloads : received edition k w ≡ payloads
    pub all-opened : AllOpened edition k w
    pub in_step : (after edition k w).stream ≡ partner last
    pub left : (after edition k w).bytes ≡ rest

  -- two steps for each chunk
  abbrev pub StreamsGivenBack : Type 0
  StreamsGivenBack =
      (space : ℕ) (s : Sender) (payloads : List (List ℕ)) → AllSealed edition space s payloads → (rest out : List ℕ) → Fit (length out) payloads
      → StreamBack (2 * length payloads) (record { stream = partner s; bytes = sent_all edition space s payloads ++ rest; buffer = out }) payloads
      (sender_after edition space s payloads) rest

  -- payloads that a sender sealed: chunk m, from 0, is the one under the sender's key, with the counters 2 m and 2 m + 1 past its first
  pub record OwnCounters (space : ℕ) (s : Sender) (payloads : List (List ℕ)) : Type 0 where
    pub each-chunk : (before : List (List ℕ)) (p : List ℕ) (behind : List (List ℕ)) → payloads ≡ before ++ p ∷ behind
        → sent_chunk edition space (sender_after edition space s before) p ≡ chunk (key_for edition s) (s.counter + 2 * length before) p
    pub two-pieces : (counter : ℕ) (p : List ℕ)
        → chunk (key_for edition s) counter p
        ≡ seal_at (key_for edition s) counter (to_be 2 (length p)) ++ seal_at (key_for edition s) (counter + 1) p
    pub all-chunks : sent_all edition space s payloads ≡ chunks_from (key_for edition s) s.counter payloads
    -- and the sender behind all of them
    pub counts : (sender_after edition space s payloads).counter ≡ s.counter + 2 * length payloads
    pub same_key : key_for edition (sender_after edition space s payloads) ≡ key_for edition s

  abbrev pub SendersCount : Type 0
  SendersCount = (space : ℕ) (s : Sender) (payloads : List (List ℕ)) → AllSealed edition space s payloads → OwnCounters space s payloads

abbrev pub NoncesDiffer : Type 0
NoncesDiffer = (a b : ℕ) → a < 2 ^ 64 → b < 2 ^ 64 → nonce a ≡ nonce b → a ≡ b
