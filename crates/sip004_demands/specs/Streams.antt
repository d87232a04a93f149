-- What sealing and opening the chunks of a stream of the 2017 edition (SIP004) answer and leave. A method enters by the length of its
-- key alone. What both editions' chunks promise is stated in crate stream_chunks, over the edition's framing.
-- Assumes nothing.
use Rattle.std.specs.Prelude.{◌≡◌, true, List, [], ◌∷◌, ◌++◌, ◌↔◌, ℕ, ◌*◌, ◌≤◌, ◌<◌, length, Err, Ok}
use Rattle.hkdf.specs.Hkdf.{hkdf}
use Rattle.protocol.specs.declared.Cipher.TheVariants.{AesGcm}
use Rattle.protocol.specs.declared.Refusal.TheVariants.{Settings, Malformed}
use Rattle.stream_seal.specs.declared.Sender.{Sender}
use Rattle.stream_seal.specs.Sealing.{chunk}
use Rattle.stream_open.specs.declared.Turn.TheVariants.{Payload}
use Rattle.stream_open.specs.declared.Receiver.{Receiver}
use Rattle.stream_open.specs.declared.Chunk.{Chunk}
use Rattle.stream_chunks.specs.Opens.{StepExactlyWhen, ReadsLength}
use Rattle.stream_chunks.specs.Flows.{sent_all, sender_after, AllSealed, Fit}
use Rattle.stream_chunks.specs.Back.{ChunksGivenBack, StreamBack, StreamsGivenBack, OwnNonces, SendersCount}
use Rattle.stream_chunks.specs.Keeps.{StepKeeps, SealKeeps}
use Rattle.stream_pieces.specs.Pieces.{keyed}
use Rattle.sip004.specs.Method.{settings_fit}
use Rattle.sip004_stream.specs.Streams.{framing_of, subkey_of, sender, receiver, sender_begun, receiver_begun, sender_key, stream_key, chunk_answer, step_answer}

-- ---- a stream is begun with its salt

-- 1 where the settings do not fit; else the key, which is AES-GCM's, is HKDF_SHA1(key, salt, "ss-subkey"), and the counter 0
pub record Begins (method : ℕ) (key salt : List ℕ) : Type 0 where
  pub seals : settings_fit method (length key) (length salt) ≡ true → sender_begun method key salt ≡ Ok (sender method (subkey_of key salt))
  pub opens : settings_fit method (length key) (length salt) ≡ true → receiver_begun method key salt ≡ Ok (receiver method (subkey_of key salt))
  pub unfit-seals : (settings_fit method (length key) (length salt) ≡ true → ⊥) → sender_begun method key salt ≡ Err Settings
  pub unfit-opens : (settings_fit method (length key) (length salt) ≡ true → ⊥) → receiver_begun method key salt ≡ Err Settings
  pub sealing-key : settings_fit method (length key) (length salt) ≡ true
      → sender_key (sender method (subkey_of key salt)) ≡ keyed AesGcm (hkdf salt key (115 ∷ 115 ∷ 45 ∷ 115 ∷ 117 ∷ 98 ∷ 107 ∷ 101 ∷ 121 ∷ []) (length key))
  pub opening-key : settings_fit method (length key) (length salt) ≡ true
      → stream_key (receiver method (subkey_of key salt)) ≡ keyed AesGcm (hkdf salt key (115 ∷ 115 ∷ 45 ∷ 115 ∷ 117 ∷ 98 ∷ 107 ∷ 101 ∷ 121 ∷ []) (length key))

-- ---- a piece is opened exactly when, and 5

-- 5: an authentic length above 16,383
abbrev pub TooLongExactlyWhen : Type 0
TooLongExactlyWhen =
    (st : Receiver) (s : List ℕ) (room : ℕ)
    → (step_answer st s room ≡ Err Malformed) ↔ ((n : ℕ) × (ReadsLength (framing_of st.method) st s room n × (16383 < n)))

pub record StreamsExactly : Type 0 where
  pub steps : StepExactlyWhen framing_of
  pub too_long : TooLongExactlyWhen
  -- what a step tells as a length, or hands out, is at most so long
  pub capped : (st : Receiver) (s : List ℕ) (room : ℕ) (c : Chunk) → step_answer st s room ≡ Ok c → c.length ≤ 16383
  -- a payload's turn that is longer is none of ours
  pub capped-turn : (st : Receiver) (s : List ℕ) (room n : ℕ) → st.turn ≡ Payload n → 16383 < n → step_answer st s room ≡ Err Settings

-- ---- byte for byte, and back

pub record StreamsBytes : Type 0 where
  -- each chunk is a length of two bytes and its payload, under the stream's key and its own two counters
  pub own-counters : SendersCount framing_of
  pub own-nonces : OwnNonces framing_of

-- payloads sealed on a stream that was begun with a salt, opened on one begun with the same
abbrev pub BegunGivenBack : Type 0
BegunGivenBack =
    (method : ℕ) (key salt : List ℕ) (space : ℕ) (payloads : List (List ℕ))
    → AllSealed framing_of space (sender method (subkey_of key salt)) payloads → (rest out : List ℕ) → Fit (length out) payloads
    → StreamBack framing_of (2 * length payloads)
    (record {
      stream = receiver method (subkey_of key salt);
      bytes = sent_all framing_of space (sender method (subkey_of key salt)) payloads ++ rest;
      buffer = out;
    })
    payloads (sender_after framing_of space (sender method (subkey_of key salt)) payloads) rest

pub record StreamsBack : Type 0 where
  pub chunks : ChunksGivenBack framing_of
  pub streams : StreamsGivenBack framing_of
  pub whole : BegunGivenBack

-- ---- what refusals there are, and what is kept

abbrev pub step_refusals : List ℕ
step_refusals = 1 ∷ 3 ∷ 4 ∷ 5 ∷ 10 ∷ 11 ∷ []

-- those of them that end the stream
abbrev pub step_ends : List ℕ
step_ends = 4 ∷ 5 ∷ []

abbrev pub chunk_refusals : List ℕ
chunk_refusals = 1 ∷ 2 ∷ 3 ∷ 11 ∷ []

pub record StreamsKeep : Type 0 where
  pub steps : (st : Receiver) (s out : List ℕ) → StepKeeps step_refusals step_ends (framing_of st.method) st s out
  pub sealing : (s : Sender) (payload out : List ℕ)
      → SealKeeps chunk_refusals (chunk_answer s (length payload) (length out)) (chunk (sender_key s) s.counter payload) out
