-- What is so of a step of SIP022 alone: when exactly a length is refused as empty, and that no payload is empty.
-- Assumes nothing.
use Rattle.std.specs.Prelude.{Err, Ok, Result}
use mathlib.Core.Path.{◌≡◌, refl, sym, ap, ◌∙◌, subst}
use mathlib.Core.List.{List}
use Prim.Native.Nat.{ℕ, zero, suc, ◌+◌, ◌<◌, ◌≤◌}
use native.Mathlib.Omega.{arith}
use lib.ListN.{length, take}
use lib.Seq.{length-take-le}
use Rattle.octets.specs.Buffers.{put}
use Rattle.octets.proofs.BufferLaws.{length-put}
use Rattle.stream_pieces.specs.Framing.{framing_of}
use Rattle.stream_pieces.specs.Pieces.{open_at, Keyed}
use Rattle.stream_pieces.proofs.LengthLaws.{length-open_at}
use Rattle.stream_open.specs.declared.Turn.{Turn}
use Rattle.stream_open.specs.declared.Turn.TheVariants.{Variable, Length, Payload, Ended}
use Rattle.stream_open.specs.declared.Receiver.{Receiver}
use Rattle.stream_open.specs.declared.Chunk.{Chunk}
use Rattle.stream_open.specs.Chunks.{stream_key, step_answer, step_out}
use Rattle.stream_chunks.specs.Opens.{TurnOpens, turn_text}
use Rattle.stream_chunks.specs.Flows.{Flow, answer_to, written_in, stepped, gives, received}
use Rattle.stream_chunks.proofs.StepLaws.{step-tells, step-text, under-exactly-when}
use Rattle.demands.specs.StreamsOpen.{StepEmptyExactlyWhen}
use Rattle.demands.specs.StreamsBack.{NoneEmpty, NoEmptyChunk}
use Rattle.protocol.specs.declared.Refusal.{Refusal}

-- ---- 14 exactly when

pub step-empty-exactly-when : StepEmptyExactlyWhen
step-empty-exactly-when st s room =
    let u = under-exactly-when framing_of st s room in (
      λ e. let d = u.0 e in
          let zero-read : d.0 ≡ 0 = omega (arith, d.1.1) in
          record {
            known = d.1.0.known;
            at_length = d.1.0.at_length;
            opens = d.1.0.opens;
            says-0 = sym d.1.0.says ∙ zero-read;
          },
      λ d. u.1 (0, (record { known = d.known; at_length = d.at_length; opens = d.opens; says = sym d.says-0 }, omega arith)),
    )

-- ---- no payload is empty

turn-some : (turn : Turn) (st : Receiver) (key : Keyed) (counter : ℕ) (s : List ℕ) (room : ℕ) (c : Chunk)
    → TurnOpens (framing_of st.method) key counter turn s room c → 0 < c.length
turn-some Length st key counter s room c d = subst (λ (x : Chunk). 0 < x.length) (sym d.1.1) d.1.0.0
turn-some (Payload n) st key counter s room c d = subst (λ (x : Chunk). 0 < x.length) (sym d.1.1) d.1.0.0
turn-some Ended st key counter s room c d = absurd d
turn-some (Variable n) st key counter s room c d = absurd d

step-some : (st : Receiver) (s : List ℕ) (room : ℕ) (c : Chunk) → step_answer st s room ≡ Ok c → 0 < c.length
step-some st s room c e =
    turn-some st.turn st (stream_key st) st.counter s room c (step-tells (framing_of st.method) st s room c e).opens

-- a payload of n bytes is n bytes of the buffer
handed_out : (f : Flow) (n : ℕ) (c : Chunk) → f.stream.turn ≡ Payload n → answer_to framing_of f ≡ Ok c → 0 < length (take n (written_in framing_of f))
unfolding answer_to written_in
handed_out f n c et e =
    let st = f.stream in
    let d : TurnOpens (framing_of st.method) (stream_key st) st.counter (Payload n) f.bytes (length f.buffer) c =
    subst (λ (t : Turn). TurnOpens (framing_of st.method) (stream_key st) st.counter t f.bytes (length f.buffer) c) et
    (step-tells (framing_of st.method) st f.bytes (length f.buffer) c e).opens in
    let plain = open_at (stream_key st) st.counter (take (n + 16) f.bytes) in
    let t = length-take-le (n + 16) f.bytes d.0.whole in
    let l : length plain ≡ n = omega (arith, length-open_at (stream_key st) st.counter (take (n + 16) f.bytes), t) in
    let text : step_out st f.bytes f.buffer ≡ put f.buffer 0 plain =
    step-text (framing_of st.method) st f.bytes f.buffer c e ∙ ap (λ (x : Turn). turn_text (stream_key st) st.counter x f.bytes f.buffer) et in
    let fits : 0 + length plain ≤ length f.buffer = omega (arith, l, d.0.has_room) in
    let size : length (step_out st f.bytes f.buffer) ≡ length f.buffer = ap length text ∙ length-put f.buffer 0 plain fits in
    let h : n ≤ length (step_out st f.bytes f.buffer) = omega (arith, size, d.0.has_room) in
    let g = length-take-le n (step_out st f.bytes f.buffer) h in
    omega (arith, g, d.1.0.0)

steps-some : (k : ℕ) (f : Flow) → NoneEmpty (received framing_of k f)
steps-some zero f = tt
steps-some (suc k) f = go (answer_to framing_of f) f.stream.turn refl refl (steps-some k (stepped framing_of f))
  where
    go : (a : Result Chunk Refusal) (t : Turn) → answer_to framing_of f ≡ a → f.stream.turn ≡ t → NoneEmpty (received framing_of k (stepped framing_of f))
        → NoneEmpty (gives a t (written_in framing_of f) (received framing_of k (stepped framing_of f)))
    go (Ok c) (Payload n) ea et later = (handed_out f n c et ea, later)
    go (Ok c) Length ea et later = later
    go (Ok c) Ended ea et later = later
    go (Ok c) (Variable n) ea et later = later
    go (Err r) t ea et later = later

pub no-empty-chunk : NoEmptyChunk
no-empty-chunk = record { step = step-some; steps = steps-some }
