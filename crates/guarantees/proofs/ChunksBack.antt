-- What is sealed as a chunk opens to the same payload, of both editions.
-- Assumes nothing.
use Rattle.std.specs.Prelude.{Err, Ok, Result}
use mathlib.Core.Path.{◌≡◌, refl, sym, ap, ap₂, ◌∙◌}
use mathlib.Core.Logic.{◌≢◌}
use mathlib.Core.Bool.{Bool, true, false, cond, ◌&&◌, true≢false, and-eq-true_iff}
use mathlib.Core.List.{List, [], ◌∷◌, ◌++◌}
use Prim.Native.Nat.{ℕ, ◌+◌, ◌-◌, ◌%◌, ◌≤◌}
use native.Mathlib.Omega.{arith}
use lib.Dec.{eqb, leb, ltb}
use lib.ListN.{length, get_or, set, take, drop, length-set}
use lib.Seq.{sets, get_or-set_same, get_or-set_other}
use borrow.Author.Tests.{eq-eqb, eqb-true, le-leb, leb-true}
use Rattle.octets.specs.Buffers.{put}
use Rattle.octets.proofs.BufferLaws.{take_put}
use Rattle.protocol.specs.Refusal.{refusal_number}
use Rattle.stream_pieces.specs.declared.Framing.{Framing}
use Rattle.stream_pieces.specs.Pieces.{max_chunk, last_counter, length_piece, tag_length}
use Rattle.stream_seal.specs.declared.Sender.{Sender}
use Rattle.stream_seal.specs.Sealing.{framed_answer, size_answer, moved, chunk, seal_out}
use Rattle.stream_open.specs.declared.Turn.TheVariants.{Variable, Length, Payload, Ended}
use Rattle.stream_open.specs.declared.Receiver.{Receiver}
use Rattle.stream_open.specs.declared.Chunk.{Chunk}
use Rattle.stream_open.specs.Steps.{step_answer, step_out, step_next}
use Rattle.stream_chunks.specs.Opens.{Edition}
use Rattle.stream_chunks.specs.Flows.{sealing, key_for}
use Rattle.stream_chunks.specs.Back as back
use Rattle.stream_chunks.specs.Back.{partner, midway, ChunksGivenBack}
use Rattle.words.specs.Answers.{chunk_words}
use Rattle.words.specs.States.{turn_of, method_in, sender_in, sender_words, receiver_lawful, receiver_in, receiver_words}
use Rattle.stream_answers.specs.Chunks as chunks
use Rattle.stream_answers.specs.Told as Told
use Rattle.stream_answers.specs.Chunks.{AfterChunk, fits}
use Rattle.stream_pieces.specs.Framing.{under, framing_of}
use Rattle.protocol.specs.declared.Refusal.TheVariants.{Settings, Length as TooLong, Room, Counter, Empty}
use Rattle.sip004_stream.specs.Streams as streams2017
use Rattle.demands.proofs.StreamDemands.{seal-keeps, streams-demand2}
use Rattle.sip004_demands.proofs.Sip004.{sip004-keeps, sip004-back}
use Rattle.guarantees.specs.Calls.{Lent, step, relay_stream_seal_chunk, relay_stream_open_chunk, relay_sip004_stream_seal_chunk, relay_sip004_stream_open_chunk, sent}
use Rattle.guarantees.specs.Guarantees.{ChunkBack, ChunksBack}
use Rattle.guarantees.proofs.Deciding.{not-zero}
use Rattle.protocol.specs.declared.Refusal.{Refusal}

-- ---- words of a stream and back

-- a stream that seals, turned to open
module _ (w : List ℕ) (l : length w ≡ 8) where
  other : (i : ℕ) → i ≢ 0 → get_or (set w 0 1) i 0 ≡ get_or w i 0
  other i n = get_or-set_other w 0 i 1 0 n

  first : get_or (set w 0 1) 0 0 ≡ 1
  first = get_or-set_same w 0 1 0 (omega (arith, l))

  pub turned : receiver_in (set w 0 1) ≡ partner (sender_in w)
  turned = λ i. record {
    method = other 1 (λ e. omega (arith, e)) i;
    turn = cond (eqb (first i) 1) Length (cond (eqb (first i) 2) (Payload (get_or (set w 0 1) 3 0 % 65536)) (cond (eqb (first i) 4) (Variable (get_or (set w 0 1) 3 0 % 65536)) Ended));
    counter = other 2 (λ e. omega (arith, e)) i;
    subkey = record {
      a = other 4 (λ e. omega (arith, e)) i;
      b = other 5 (λ e. omega (arith, e)) i;
      c = other 6 (λ e. omega (arith, e)) i;
      d = other 7 (λ e. omega (arith, e)) i;
    };
  }

  pub turned-lawful : receiver_lawful (set w 0 1) ≡ true
  turned-lawful =
      let n = get_or (set w 0 1) 3 0 in
      let z = length-set w 0 1 ∙ l in
      (λ i. eqb (z i) 8 && cond (eqb (first i) 2) (leb n max_chunk) (cond (eqb (first i) 4) (leb n max_chunk) (leb (first i) 1)))

  pub turned-method : method_in (set w 0 1) ≡ method_in w
  turned-method = other 1 (λ e. omega (arith, e))

-- a stream at a payload
midway-in : (s : Sender) (n : ℕ) → n ≤ max_chunk → receiver_in (receiver_words (midway s n)) ≡ midway s n
midway-in s n l = let e : n % 65536 ≡ n = omega (arith, l) in λ i. receiver-at (e i)
  where
    receiver-at : ℕ → Receiver
    receiver-at k = record { method = s.method; turn = Payload k; counter = s.counter + 1; subkey = s.subkey }

midway-lawful : (s : Sender) (n : ℕ) → n ≤ max_chunk → receiver_lawful (receiver_words (midway s n)) ≡ true
midway-lawful s n l = le-leb n max_chunk l

-- ---- what a call about a chunk leaves

module _ (f : Framing) (w s out answer : List ℕ) (lawful : receiver_lawful w ≡ true) (nine : length answer ≡ 9) where
  pub opened-as : (st : Receiver) → receiver_in w ≡ st → (c : Chunk) → step_answer f st s (length out) ≡ Ok c
      → chunks.opens_chunk f w s out answer ≡ record { number = 0; out = step_out f st s out; stream = receiver_words (step_next st (Ok c)); answer = sets answer 0 (chunk_words c) }
  unfolding chunks.opens_chunk
  opened-as st e c g =
      let b : chunks.opens w answer ≡ true = ap₂ ◌&&◌ (eq-eqb (length answer) 9 nine) lawful in
      ap (λ (z : Bool). cond z (chunks.step_told f (step_answer f (receiver_in w) s (length out)) (receiver_in w) s out w answer)
      (record { number = 1; out = out; stream = w; answer = answer })) b
      ∙ ap (λ (y : Receiver). chunks.step_told f (step_answer f y s (length out)) y s out w answer) e
      ∙ ap (λ (x : Result Chunk Refusal). chunks.step_told f x st s out w answer) g

-- a chunk that was sealed
pub record SealTells (E : Edition) (w payload out answer : List ℕ) (x : AfterChunk) : Type 0 where
  pub n : ℕ
  pub next : Sender
  pub answered : sealing E (sender_in w) (length payload) (length out) ≡ Ok (n, next)
  pub eight : length w ≡ 8
  pub nine : length answer ≡ 9
  pub leaves : x ≡ record { number = 0; out = put out 0 (chunk (key_for E (sender_in w)) (sender_in w).counter payload); stream = sender_words next; answer = set answer 0 n }

number_of : Result (ℕ × Sender) Refusal → ℕ
number_of (Ok (n, s)) = 0
number_of (Err r) = refusal_number r

module _ (E : Edition) (w payload out answer : List ℕ) where
  abbrev sealed_here : AfterChunk
  sealed_here = chunks.seals_chunk (E (method_in w)) w payload out answer

  abbrev text : List ℕ
  text = chunk (key_for E (sender_in w)) (sender_in w).counter payload

  abbrev after_seal : Result (ℕ × Sender) Refusal → AfterChunk
  after_seal x = record { number = Told.sealed_number x; out = seal_out x text out; stream = Told.sealed_stream x w; answer = Told.sealed_words x answer }

  by-fit : (b : Bool) (x : Result (ℕ × Sender) Refusal) → fits (length w) (length answer) ≡ b → chunks.chunk_sealed (E (method_in w)) w (length payload) (length out) ≡ x
      → sealed_here ≡ cond b (after_seal x) (record { number = 1; out = out; stream = w; answer = answer })
  unfolding chunks.seals_chunk chunks.seals
  by-fit b x eb ex = λ i. cond (eb i) (after_seal (ex i)) (record { number = 1; out = out; stream = w; answer = answer })

  turn_three : (n : ℕ) (next : Sender) → chunks.chunk_sealed (E (method_in w)) w (length payload) (length out) ≡ Ok (n, next)
      → sealing E (sender_in w) (length payload) (length out) ≡ Ok (n, next)
  unfolding chunks.chunk_sealed
  turn_three n next e = go (eqb (turn_of w) 3) e
    where
      is_bytes : Result (ℕ × Sender) Refusal → ℕ
      is_bytes (Ok (n, s)) = 1
      is_bytes (Err r) = 0

      go : (b : Bool) → cond b (framed_answer (E (method_in w)) (sender_in w) (length payload) (length out)) (Err (chunks.not_sealing (E (method_in w)) (turn_of w) (length payload))) ≡ Ok (n, next)
          → framed_answer (E (method_in w)) (sender_in w) (length payload) (length out) ≡ Ok (n, next)
      go true f = f
      go false f = absurd (let z : ◌≡◌ {A = ℕ} 0 1 = ap is_bytes f in omega arith)

  pub seal-tells : sealed_here.number ≡ 0 → SealTells E w payload out answer sealed_here
  seal-tells e = go (fits (length w) (length answer)) (chunks.chunk_sealed (E (method_in w)) w (length payload) (length out)) refl refl
    where
      go : (b : Bool) (x : Result (ℕ × Sender) Refusal) → fits (length w) (length answer) ≡ b → chunks.chunk_sealed (E (method_in w)) w (length payload) (length out) ≡ x
          → SealTells E w payload out answer (chunks.seals_chunk (E (method_in w)) w payload out answer)
      go true (Ok (n, next)) eb ex =
          let q = (and-eq-true_iff (eqb (length w) 8) _).0 eb in
          record {
            n = n;
            next = next;
            answered = turn_three n next ex;
            eight = eqb-true (length w) 8 q.0;
            nine = eqb-true (length answer) 9 q.1;
            leaves = by-fit true (Ok (n, next)) eb ex;
          }
      go true (Err r) eb ex =
          absurd (true≢false (sym (ap (λ (k : ℕ). eqb k 0) (sym (ap (λ (y : AfterChunk). y.number) (by-fit true (Err r) eb ex)) ∙ e)) ∙ not-zero r))
      go false x eb ex = absurd (let z = sym (ap (λ (y : AfterChunk). y.number) (by-fit false x eb ex)) ∙ e in omega (arith, z))

-- ---- the chunk comes back

module _ (E : Edition) (given_back : ChunksGivenBack E)
    (small : (s next : Sender) (payload space n : ℕ) → sealing E s payload space ≡ Ok (n, next) → payload ≤ max_chunk)
    (w payload out answer rest room told again : List ℕ)
    (sized : (n : ℕ) (next : Sender) → sealing E (sender_in w) (length payload) (length out) ≡ Ok (n, next)
    → (length (chunk (key_for E (sender_in w)) (sender_in w).counter payload) ≡ n) × (n ≤ length out))
    (good : (chunks.seals_chunk (E (method_in w)) w payload out answer).number ≡ 0)
    (told-nine : length told ≡ 9) (again-nine : length again ≡ 9) (fits_in : length payload ≤ length room) where
  abbrev x : AfterChunk
  x = chunks.seals_chunk (E (method_in w)) w payload out answer

  abbrev bytes : List ℕ
  bytes = take (get_or x.answer 0 0) x.out ++ rest

  pub k : SealTells E w payload out answer x
  k = seal-tells E w payload out answer good

  abbrev sender : Sender
  sender = sender_in w

  abbrev sealed_text : List ℕ
  sealed_text = chunk (key_for E sender) sender.counter payload

  b : back.ChunkBack E sender k.next k.n payload rest room
  b = given_back sender k.next payload (length out) k.n k.answered rest room fits_in

  bytes-are : bytes ≡ sealed_text ++ rest
  bytes-are =
      let q = sized k.n k.next k.answered in
      let a : get_or x.answer 0 0 ≡ k.n =
      ap (λ (y : AfterChunk). get_or y.answer 0 0) k.leaves ∙ get_or-set_same answer 0 k.n 0 (let z = k.nine in omega (arith, z)) in
      let o : x.out ≡ put out 0 sealed_text = ap (λ (y : AfterChunk). y.out) k.leaves in
      let z : k.n ≡ 0 + length sealed_text = omega (arith, q) in
      ap (λ (l : List ℕ). l ++ rest)
      (ap₂ take a o ∙ ap (λ (j : ℕ). take j (put out 0 sealed_text)) z ∙ take_put out 0 sealed_text (omega (arith, q)))

  method-same : E (method_in (set w 0 1)) ≡ E sender.method
  method-same = ap E (turned-method w k.eight)

  abbrev one : AfterChunk
  one = chunks.opens_chunk (E (method_in (set w 0 1))) (set w 0 1) bytes room told

  small-payload : length payload ≤ max_chunk
  small-payload = small sender k.next (length payload) (length out) k.n k.answered

  -- the length
  abbrev one_left : AfterChunk
  one_left = record { number = 0; out = room; stream = receiver_words (midway sender (length payload)); answer = sets told 0 (18 ∷ length payload ∷ []) }

  one-is : one ≡ one_left
  one-is =
      let f = E sender.method in
      let p = partner sender in
      (λ i. chunks.opens_chunk (method-same i) (set w 0 1) (bytes-are i) room told)
      ∙ opened-as f (set w 0 1) (sealed_text ++ rest) room told (turned-lawful w k.eight) told-nine p (turned w k.eight)
      (record { used = 18; length = length payload }) (b.length-read (length room))
      ∙ (λ i. record {
        number = 0;
        out = b.length-writes-nothing room i;
        stream = receiver_words (b.length-next i);
        answer = sets told 0 (18 ∷ length payload ∷ []);
      })

  -- the payload
  abbrev v : List ℕ
  v = receiver_words (midway sender (length payload))

  abbrev two_left : AfterChunk
  two_left = record {
    number = 0;
    out = put room 0 payload;
    stream = receiver_words (partner k.next);
    answer = sets again 0 ((length payload + 16) ∷ length payload ∷ []);
  }

  two_is : chunks.opens_chunk (E (method_in v)) v (drop 18 (sealed_text ++ rest)) room again ≡ two_left
  two_is =
      opened-as (E sender.method) v (drop 18 (sealed_text ++ rest)) room again (midway-lawful sender (length payload) small-payload) again-nine
      (midway sender (length payload)) (midway-in sender (length payload) small-payload) (record { used = length payload + 16; length = length payload }) b.payload-read
      ∙ (λ i. record {
        number = 0;
        out = b.payload-written i;
        stream = receiver_words (b.payload-next i);
        answer = sets again 0 ((length payload + 16) ∷ length payload ∷ []);
      })

  pub two : chunks.opens_chunk (E (method_in one.stream)) one.stream (drop 18 bytes) room again ≡ two_left
  two = (λ i. chunks.opens_chunk (E (method_in (one-is i).stream)) (one-is i).stream (drop 18 (bytes-are i)) room again) ∙ two_is

  pub first_step : one ≡ one_left
  first_step = one-is

  pub next-stream : set x.stream 0 1 ≡ receiver_words (partner k.next)
  next-stream = ap (λ (y : AfterChunk). set y.stream 0 1) k.leaves

  pub rest-left : drop (length payload + 16) (drop 18 bytes) ≡ rest
  rest-left = ap (λ (l : List ℕ). drop (length payload + 16) (drop 18 l)) bytes-are ∙ b.left

-- ---- the two editions

-- what is sealed is at most as long as the framing's greatest
is_bytes : Result (ℕ × Sender) Refusal → ℕ
is_bytes (Ok (n, s)) = 1
is_bytes (Err r) = 0

short : (f : Framing) (s next : Sender) (payload room n : ℕ) → framed_answer f s payload room ≡ Ok (n, next) → payload ≤ f.greatest
unfolding framed_answer size_answer is_bytes
short f s next payload room n e =
    go (eqb f.key 0) (under f payload) (ltb s.counter (last_counter - 1)) (leb payload f.greatest) refl (ap is_bytes e)
  where
    go : (a b c d : Bool) → leb payload f.greatest ≡ d
        → is_bytes (cond a (Err Settings) (cond b (Err Empty) (cond c (cond d (cond (leb (length_piece + payload + tag_length) room) (Ok (length_piece + payload + tag_length, moved s)) (Err Room)) (Err TooLong)) (Err Counter)))) ≡ 1
        → payload ≤ f.greatest
    go true b c d ed z = absurd (omega (arith, z))
    go false true c d ed z = absurd (omega (arith, z))
    go false false false d ed z = absurd (omega (arith, z))
    go false false true false ed z = absurd (omega (arith, z))
    go false false true true ed z = leb-true payload f.greatest ed

module _ (m : Lent) (payload rest out answer again : List ℕ) where
  pub chunk_back : (step (relay_stream_seal_chunk payload) m).number ≡ 0 → length answer ≡ 9 → length again ≡ 9 → length payload ≤ length out
      → ChunkBack relay_stream_seal_chunk relay_stream_open_chunk m.stream payload (sent (step (relay_stream_seal_chunk payload) m) ++ rest)
      (step (relay_stream_seal_chunk payload) m).left.stream rest out answer again
  unfolding step
  chunk_back e a b l =
      let E : Edition = framing_of in
      let sized = (seal-keeps.chunks (sender_in m.stream) payload m.out).sealed-length in
      let small : (s next : Sender) (p space n : ℕ) → sealing framing_of s p space ≡ Ok (n, next) → p ≤ max_chunk =
      λ s next p space n q. short (framing_of s.method) s next p space n q in
      let one = first_step E streams-demand2.chunks-back small m.stream payload m.out m.answer rest out answer again sized e a b l in
      let second = two E streams-demand2.chunks-back small m.stream payload m.out m.answer rest out answer again sized e a b l in
      let turned-words = next-stream E streams-demand2.chunks-back small m.stream payload m.out m.answer rest out answer again sized e a b l in
      record {
        length-read = ap (λ (y : AfterChunk). y.number) one;
        length-told = ap (λ (y : AfterChunk). y.answer) one;
        payload-read = ap (λ (y : AfterChunk). y.number) second;
        payload-told = ap (λ (y : AfterChunk). y.answer) second;
        payload-there = ap (λ (y : AfterChunk). y.out) second;
        in_step = ap (λ (y : AfterChunk). y.stream) second ∙ sym turned-words;
        left = rest-left E streams-demand2.chunks-back small m.stream payload m.out m.answer rest out answer again sized e a b l;
      }

  pub chunk-back-2017 : (step (relay_sip004_stream_seal_chunk payload) m).number ≡ 0 → length answer ≡ 9 → length again ≡ 9 → length payload ≤ length out
      → ChunkBack relay_sip004_stream_seal_chunk relay_sip004_stream_open_chunk m.stream payload (sent (step (relay_sip004_stream_seal_chunk payload) m) ++ rest)
      (step (relay_sip004_stream_seal_chunk payload) m).left.stream rest out answer again
  unfolding step
  chunk-back-2017 e a b l =
      let E : Edition = streams2017.framing_of in
      let sized = (sip004-keeps.streams.sealing (sender_in m.stream) payload m.out).sealed-length in
      let small : (s next : Sender) (p space n : ℕ) → sealing streams2017.framing_of s p space ≡ Ok (n, next) → p ≤ max_chunk =
      λ s next p space n q. let z = short (streams2017.framing_of s.method) s next p space n q in omega (arith, z) in
      let given = sip004-back.streams.chunks in
      let one = first_step E given small m.stream payload m.out m.answer rest out answer again sized e a b l in
      let second = two E given small m.stream payload m.out m.answer rest out answer again sized e a b l in
      let turned-words = next-stream E given small m.stream payload m.out m.answer rest out answer again sized e a b l in
      record {
        length-read = ap (λ (y : AfterChunk). y.number) one;
        length-told = ap (λ (y : AfterChunk). y.answer) one;
        payload-read = ap (λ (y : AfterChunk). y.number) second;
        payload-told = ap (λ (y : AfterChunk). y.answer) second;
        payload-there = ap (λ (y : AfterChunk). y.out) second;
        in_step = ap (λ (y : AfterChunk). y.stream) second ∙ sym turned-words;
        left = rest-left E given small m.stream payload m.out m.answer rest out answer again sized e a b l;
      }

pub chunks-back : ChunksBack relay_stream_seal_chunk relay_stream_open_chunk
chunks-back m payload rest out answer again = chunk_back m payload rest out answer again

pub chunks-back-2017 : ChunksBack relay_sip004_stream_seal_chunk relay_sip004_stream_open_chunk
chunks-back-2017 m payload rest out answer again = chunk-back-2017 m payload rest out answer again
