-- A stream of any number of chunks is given back behind a request's head and behind a response's.
-- Assumes nothing.
use mathlib.Core.Path.{refl, sym, ap, ◌∙◌, subst}
use mathlib.Core.List.{List, ◌++◌}
use Prim.Native.Nat.{ℕ, ◌+◌, ◌*◌, ◌≤◌}
use lib.Dec.{lit≤}
use lib.ListN.{length, take, drop}
use Rattle.octets.specs.Buffers.{put}
use Rattle.protocol.specs.Method.{cipher_of}
use Rattle.stream_pieces.specs.Framing.{framing_of}
use Rattle.stream_pieces.specs.Pieces.{max_chunk}
use Rattle.stream_seal_heads.specs.HeadSealing.{response}
use Rattle.stream_open.specs.declared.Turn.TheVariants.{Payload}
use Rattle.stream_open.specs.Chunks.{receiver, step_next}
use Rattle.stream_chunks.specs.Flows.{Flow, answer_to, written_in, used_by, sent_all, sender_after}
use Rattle.stream_chunks.specs.Back.{partner, StreamBack}
use Rattle.stream_chunks.proofs.WholeLaws.{front-put, kept-length, GivesPayload, payload-first, fit_same, stream-back}
use Rattle.demands.specs.StreamsBack.{RequestStreamsGivenBack, ResponseStreamsGivenBack}
use Rattle.demands.proofs.RequestReadBack.{request-back}
use Rattle.demands.proofs.ResponseReadBack.{response-back}

-- two bytes can say every length of SIP022
pub sayable : (method : ℕ) → (framing_of method).greatest ≤ max_chunk
sayable method = lit≤ tt

-- ---- behind heads

pub request-stream : RequestStreamsGivenBack
request-stream method key salt time address padding payload room n next answered time-fits later valid pool made place free out fits space payloads o rest buffer h =
    let head =
    request-back method key salt time address padding payload room n next answered time-fits later valid pool made place free
    (sent_all framing_of space next payloads ++ rest) out fits in
    record {
      head = head;
      chunks = subst (λ (b : List ℕ). StreamBack framing_of (2 * length payloads) (record { stream = partner next; bytes = b; buffer = buffer }) payloads
          (sender_after framing_of space next payloads) rest) (sym head.left) (stream-back framing_of sayable space next payloads o rest buffer h);
    }

pub response-stream : ResponseStreamsGivenBack
unfolding answer_to written_in
response-stream method key salt binding time payload room n next answered time-fits later valid space payloads o rest buffer h =
    let more = sent_all framing_of space next payloads ++ rest in
    let head = response-back method key salt binding time payload room n next answered time-fits later valid more buffer h.0 in
    let all = drop (length salt + 27 + length binding) (response (cipher_of method) key salt binding time payload ++ more) in
    let waiting = receiver method (Payload (length payload)) 1 next.subkey in
    let f : Flow = record { stream = waiting; bytes = all; buffer = buffer } in
    let g : Flow = record { stream = partner next; bytes = more; buffer = put buffer 0 payload } in
    let a = head.payload-read in
    let step : GivesPayload framing_of sayable f payload g =
    record {
      opened = record { used = length payload + 16; length = length payload };
      answer = a;
      at-payload = refl;
      text = ap (take (length payload)) head.payload-written ∙ front-put buffer payload h.0;
      next =
          (λ i. record { stream = step_next waiting (a i); bytes = drop (used_by (a i)) all; buffer = head.payload-written i })
          ∙ (λ i. record { stream = head.payload-next i; bytes = head.left i; buffer = put buffer 0 payload });
    } in
    record {
      head = head;
      chunks =
          payload-first framing_of sayable (2 * length payloads) f payload g payloads (sender_after framing_of space next payloads) rest step
          (stream-back framing_of sayable space next payloads o rest (put buffer 0 payload)
          (fit_same framing_of sayable (length buffer) (length (put buffer 0 payload)) (sym (kept-length buffer payload h.0)) payloads h.1));
    }
