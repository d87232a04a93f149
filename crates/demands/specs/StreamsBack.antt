-- Demand 2 for streams: what is sealed here is given back, head by head, chunk by chunk and as a whole; each piece has its own
-- nonce. For all methods at once.
-- Assumes nothing.
use Rattle.std.specs.Prelude.{◌≡◌, true, List, [], ◌∷◌, ◌++◌, ℕ, suc, ◌+◌, ◌*◌, ◌^◌, ◌≤◌, ◌<◌, length, drop, Err, Ok, Some}
use Rattle.octets.specs.Buffers.{put}
use Rattle.protocol.specs.declared.Refusal.TheVariants.{Empty}
use Rattle.protocol.specs.Method.{key_fits, key_length, salt_length, cipher_of}
use Rattle.protocol.specs.Time.{time_valid}
use Rattle.socks5.specs.declared.Address.{Address}
use Rattle.socks5.specs.Address.{parse_at}
use Rattle.std.specs.Prelude.{Ok}
use Rattle.salt_pool.specs.Pool.{lawful, meet, store}
use Rattle.stream_seal.specs.declared.Sender.{Sender}
use Rattle.stream_pieces.specs.Framing.{framing_of}
use Rattle.stream_seal.specs.Sealing.{chunk_answer}
use Rattle.stream_seal_heads.specs.HeadSealing.{variable_part, variable_length, request, response, request_answer, response_answer}
use Rattle.stream_open.specs.declared.Turn.TheVariants.{Variable, Payload}
use Rattle.stream_open.specs.declared.Receiver.{Receiver}
use Rattle.stream_open.specs.declared.Chunk.{Chunk}
use Rattle.stream_open.specs.Chunks.{receiver, step_answer, step_out, step_next}
use Rattle.stream_open_response.specs.Responses.{opened_response}
use Rattle.stream_open_request.specs.Requests.{opened_request, request_pool}
use Rattle.stream_open_variable.specs.declared.VariableHeader.{VariableHeader}
use Rattle.stream_open_variable.specs.Variable.{variable_answer, variable_out, variable_next}
use Rattle.stream_chunks.specs.Flows.{Flow, received, sent_all, sender_after, AllSealed, Fit}
use Rattle.stream_chunks.specs.Back.{partner, ChunksGivenBack, StreamBack, StreamsGivenBack, OwnNonces, NoncesDiffer, SendersCount}
use Rattle.demands.specs.StreamsOpen.{RequestExactlyWhen, VariableExactlyWhen, ResponseExactlyWhen, ResponseEmptyExactlyWhen, StepExactlyWhen, StepEmptyExactlyWhen}

-- ---- a request's head, in two calls

-- the variable header of what was sealed, where a is what the address says
abbrev pub sealed_header : (address : ℕ) → Address → (padding payload : ℕ) → VariableHeader
sealed_header address a padding payload =
    record {
      target = a.target;
      port = a.port;
      padding = padding;
      payload = address + 2 + padding;
      length = variable_length address padding payload;
      used = variable_length address padding payload + 16;
    }

-- the stream between the two calls, where the variable header has so many bytes
abbrev pub between : (method : ℕ) → Sender → (size : ℕ) → Receiver
between method next size = receiver method (Variable size) 1 next.subkey

-- a request's head of n bytes, sealed at `time`, which left its sender as `next`, with `rest` behind it: the call for the front at the
-- clock `later` on a pool with room for its salt in a place, and then the call for the variable header on the bytes behind it
pub record RequestBack (method : ℕ) (key salt : List ℕ) (time : ℕ) (address : List ℕ) (padding : ℕ) (payload : List ℕ) (n : ℕ) (next : Sender) (later : ℕ) (rest pool : List ℕ) (place : ℕ) (out : List ℕ) : Type 0 where
  pub sealed-length : length (request (cipher_of method) key salt time address padding payload) ≡ n
  -- the front
  pub accepted : opened_request method key later (request (cipher_of method) key salt time address padding payload ++ rest) pool
      ≡ Ok (record { time = time; length = variable_length (length address) padding (length payload); used = length salt + 27 }, between method next (variable_length (length address) padding (length payload)))
  pub stored : request_pool method key later (request (cipher_of method) key salt time address padding payload ++ rest) pool ≡ store pool place later salt
  -- the variable header
  pub target : Address
  pub target-sealed : parse_at address 0 ≡ Some target
  pub variable-read : variable_answer (between method next (variable_length (length address) padding (length payload)))
      (drop (length salt + 27) (request (cipher_of method) key salt time address padding payload ++ rest)) (length out)
      ≡ Ok (sealed_header (length address) target padding (length payload))
  pub text : variable_out (between method next (variable_length (length address) padding (length payload)))
      (drop (length salt + 27) (request (cipher_of method) key salt time address padding payload ++ rest)) out
      ≡ put out 0 (variable_part address padding payload)
  pub payload-there : drop (length address + 2 + padding) (variable_part address padding payload) ≡ payload
  -- a stream that goes on with a length, with counter 2, under the sender's subkey
  pub variable-next : variable_next (between method next (variable_length (length address) padding (length payload)))
      (Ok (sealed_header (length address) target padding (length payload)))
      ≡ partner next
  pub counter-two : next.counter ≡ 2
  -- the two use all of it
  pub used_all : length salt + 27 + (variable_length (length address) padding (length payload) + 16) ≡ n
  pub left : drop (variable_length (length address) padding (length payload) + 16)
      (drop (length salt + 27) (request (cipher_of method) key salt time address padding payload ++ rest))
      ≡ rest

abbrev pub RequestsGivenBack : Type 0
RequestsGivenBack =
    (method : ℕ) (key salt : List ℕ) (time : ℕ) (address : List ℕ) (padding : ℕ) (payload : List ℕ) (space n : ℕ) (next : Sender)
    → request_answer method key salt address padding (length payload) space ≡ Ok (n, next) → time < 2 ^ 64
    → (later : ℕ) → time_valid time later ≡ true → (pool : List ℕ) → lawful pool method ≡ true → (place : ℕ) → meet pool later salt ≡ Ok place
    → (rest out : List ℕ) → length (variable_part address padding payload) ≤ length out
    → RequestBack method key salt time address padding payload n next later rest pool place out

-- ---- a response's head

-- a response's head of n bytes, sealed with its first payload at `time`, which left its sender as `next`, with `rest` behind
-- it: the head's call at the clock `later`, with the request's salt, and then the payload's step
pub record ResponseBack (method : ℕ) (key salt binding : List ℕ) (time : ℕ) (payload : List ℕ) (n : ℕ) (next : Sender) (later : ℕ) (rest out : List ℕ) : Type 0 where
  pub sealed-length : length (response (cipher_of method) key salt binding time payload) ≡ n
  pub accepted : opened_response method key later binding (response (cipher_of method) key salt binding time payload ++ rest)
      ≡ Ok (record { time = time; length = length payload; used = length salt + 27 + length binding }, receiver method (Payload (length payload)) 1 next.subkey)
  pub payload-read : step_answer (receiver method (Payload (length payload)) 1 next.subkey)
      (drop (length salt + 27 + length binding) (response (cipher_of method) key salt binding time payload ++ rest)) (length out)
      ≡ Ok (record { used = length payload + 16; length = length payload })
  pub payload-written : step_out (receiver method (Payload (length payload)) 1 next.subkey)
      (drop (length salt + 27 + length binding) (response (cipher_of method) key salt binding time payload ++ rest)) out
      ≡ put out 0 payload
  -- a length is next, with counter 2
  pub payload-next : step_next (receiver method (Payload (length payload)) 1 next.subkey)
      (Ok (record { used = length payload + 16; length = length payload }))
      ≡ partner next
  pub counter-two : next.counter ≡ 2
  pub left : drop (length payload + 16) (drop (length salt + 27 + length binding) (response (cipher_of method) key salt binding time payload ++ rest)) ≡ rest

abbrev pub ResponsesGivenBack : Type 0
ResponsesGivenBack =
    (method : ℕ) (key salt binding : List ℕ) (time : ℕ) (payload : List ℕ) (space n : ℕ) (next : Sender)
    → response_answer method key salt binding (length payload) space ≡ Ok (n, next) → time < 2 ^ 64
    → (later : ℕ) → time_valid time later ≡ true → (rest out : List ℕ) → length payload ≤ length out
    → ResponseBack method key salt binding time payload n next later rest out

-- ---- no payload is empty

-- what a step tells as a length is not 0, and no payload that steps hand out, as many as there are, is empty: from every state,
-- and so behind every head that was accepted
abbrev pub NoneEmpty : List (List ℕ) → Type 0
NoneEmpty [] = Unit {0}
NoneEmpty (p ∷ ps) = (0 < length p) × NoneEmpty ps

pub record NoEmptyChunk : Type 0 where
  pub step : (st : Receiver) (s : List ℕ) (room : ℕ) (c : Chunk) → step_answer st s room ≡ Ok c → 0 < c.length
  pub steps : (k : ℕ) (w : Flow) → NoneEmpty (received framing_of k w)

-- and none is sealed: an empty payload is 14, whatever the counter and the room are, and 14 is for nothing else
pub record EmptyUnsealed : Type 0 where
  pub chunks : (s : Sender) (room : ℕ) → (key_length s.method ≡ 0 → ⊥) → chunk_answer s 0 room ≡ Err Empty
  pub chunks-only : (s : Sender) (payload room : ℕ) → chunk_answer s payload room ≡ Err Empty → payload ≡ 0
  pub responses : (method : ℕ) (key salt binding : List ℕ) (room : ℕ) → key_fits method (length key) ≡ true → length salt ≡ salt_length method
      → length binding ≡ salt_length method → response_answer method key salt binding 0 room ≡ Err Empty
  pub responses-only : (method : ℕ) (key salt binding : List ℕ) (payload room : ℕ)
      → response_answer method key salt binding payload room ≡ Err Empty → payload ≡ 0

-- ---- whole streams

-- a request's head, and the chunks behind it: the head is given back, and from the stream that it began the payloads are
pub record RequestStream (method : ℕ) (key salt : List ℕ) (time : ℕ) (address : List ℕ) (padding : ℕ) (payload : List ℕ) (n : ℕ) (next : Sender) (later : ℕ) (pool : List ℕ) (place : ℕ) (out : List ℕ) (space : ℕ) (payloads : List (List ℕ)) (rest buffer : List ℕ) : Type 0 where
  pub head : RequestBack method key salt time address padding payload n next later (sent_all framing_of space next payloads ++ rest) pool place out
  pub chunks : StreamBack framing_of (2 * length payloads)
      (record {
        stream = partner next;
        bytes =
            drop (variable_length (length address) padding (length payload) + 16)
            (drop (length salt + 27) (request (cipher_of method) key salt time address padding payload ++ (sent_all framing_of space next payloads ++ rest)));
        buffer = buffer;
      })
      payloads (sender_after framing_of space next payloads) rest

abbrev pub RequestStreamsGivenBack : Type 0
RequestStreamsGivenBack =
    (method : ℕ) (key salt : List ℕ) (time : ℕ) (address : List ℕ) (padding : ℕ) (payload : List ℕ) (room n : ℕ) (next : Sender)
    → request_answer method key salt address padding (length payload) room ≡ Ok (n, next) → time < 2 ^ 64
    → (later : ℕ) → time_valid time later ≡ true → (pool : List ℕ) → lawful pool method ≡ true → (place : ℕ) → meet pool later salt ≡ Ok place
    → (out : List ℕ) → length (variable_part address padding payload) ≤ length out
    → (space : ℕ) (payloads : List (List ℕ)) → AllSealed framing_of space next payloads → (rest buffer : List ℕ) → Fit (length buffer) payloads
    → RequestStream method key salt time address padding payload n next later pool place out space payloads rest buffer

-- a response's head likewise: its first payload and those of the chunks, one step and two for each
pub record ResponseStream (method : ℕ) (key salt binding : List ℕ) (time : ℕ) (payload : List ℕ) (n : ℕ) (next : Sender) (later space : ℕ) (payloads : List (List ℕ)) (rest buffer : List ℕ) : Type 0 where
  pub head : ResponseBack method key salt binding time payload n next later (sent_all framing_of space next payloads ++ rest) buffer
  pub chunks : StreamBack framing_of (suc (2 * length payloads))
      (record {
        stream = receiver method (Payload (length payload)) 1 next.subkey;
        bytes =
            drop (length salt + 27 + length binding) (response (cipher_of method) key salt binding time payload ++ (sent_all framing_of space next payloads ++ rest));
        buffer = buffer;
      })
      (payload ∷ payloads) (sender_after framing_of space next payloads) rest

abbrev pub ResponseStreamsGivenBack : Type 0
ResponseStreamsGivenBack =
    (method : ℕ) (key salt binding : List ℕ) (time : ℕ) (payload : List ℕ) (room n : ℕ) (next : Sender)
    → response_answer method key salt binding (length payload) room ≡ Ok (n, next) → time < 2 ^ 64
    → (later : ℕ) → time_valid time later ≡ true → (space : ℕ) (payloads : List (List ℕ)) → AllSealed framing_of space next payloads
    → (rest buffer : List ℕ) → Fit (length buffer) (payload ∷ payloads)
    → ResponseStream method key salt binding time payload n next later space payloads rest buffer

-- ---- demand 2

pub record StreamsDemand2 : Type 0 where
  -- accepted exactly when
  pub requests-exactly : RequestExactlyWhen
  pub variable-headers-exactly : VariableExactlyWhen
  pub responses-exactly : ResponseExactlyWhen
  pub steps-exactly : StepExactlyWhen
  -- 14 exactly when
  pub empty-responses-exactly : ResponseEmptyExactlyWhen
  pub empty-steps-exactly : StepEmptyExactlyWhen
  pub no-empty-chunk : NoEmptyChunk
  pub empty-unsealed : EmptyUnsealed
  -- what is sealed here is given back
  pub requests-back : RequestsGivenBack
  pub responses-back : ResponsesGivenBack
  pub chunks-back : ChunksGivenBack framing_of
  pub streams-back : StreamsGivenBack framing_of
  pub request-streams-back : RequestStreamsGivenBack
  pub response-streams-back : ResponseStreamsGivenBack
  -- each chunk has its own nonce
  pub own-nonces : OwnNonces framing_of
  pub own-counters : SendersCount framing_of
  pub nonces-differ : NoncesDiffer
