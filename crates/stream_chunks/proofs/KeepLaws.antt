-- Every step and every sealing answers or refuses, and what a refusal leaves.
-- Assumes nothing.
use Rattle.std.specs.Prelude.{Err, Ok, Result}
use mathlib.Core.Path.{◌≡◌, refl, sym, ap, ◌∙◌}
use mathlib.Core.Bool.{Bool, true, false, cond}
use mathlib.Core.List.{List}
use mathlib.Core.Logic.{◌⊎◌, inl, inr}
use Prim.Native.Nat.{ℕ, ◌+◌, ◌-◌, ◌≤◌}
use native.Mathlib.Nat.{zero-add}
use native.Mathlib.Omega.{arith}
use lib.Dec.{eqb, leb, ltb}
use lib.ListN.{length, take, drop}
use lib.Seq.{length-take-le}
use borrow.Author.Tests.{ne_eqb}
use Rattle.octets.specs.Buffers.{put}
use Rattle.octets.proofs.BufferLaws.{length-put, drop-put}
use Rattle.protocol.specs.declared.Refusal.{Refusal}
use Rattle.protocol.specs.declared.Refusal.TheVariants.{Settings, Length as TooLong, Room, NotAuthentic, Malformed, More, Counter, Empty}
use Rattle.protocol.specs.Refusal.{refusal_number, ends_stream}
use Rattle.protocol.specs.Orders.{among}
use Rattle.stream_pieces.specs.declared.Framing.{Framing}
use Rattle.stream_pieces.specs.Framing.{under, over, unframed}
use Rattle.stream_pieces.specs.Pieces.{authentic_at, open_at, key_of, last_counter, Keyed, keyed}
use Rattle.stream_pieces.proofs.LengthLaws.{length-open_at}
use Rattle.stream_seal.specs.declared.Sender.{Sender}
use Rattle.stream_seal.specs.Sealing.{chunk, moved, size_answer, framed_answer, seal_out}
use Rattle.stream_seal.proofs.LengthLaws.{length-chunk}
use Rattle.stream_open.specs.declared.Turn.{Turn}
use Rattle.stream_open.specs.declared.Turn.TheVariants.{Variable, Length, Payload, Ended}
use Rattle.stream_open.specs.declared.Receiver.{Receiver}
use Rattle.stream_open.specs.declared.Chunk.{Chunk}
use Rattle.stream_open.specs.Steps.{key_in, piece_answer, length_read, length_answer, turn_answer, written_by, payload_piece, step_answer, step_out, ended, step_next}
use Rattle.stream_chunks.specs.Opens.{TurnOpens, turn_text}
use Rattle.stream_chunks.specs.Keeps.{StepAnswered, opened-step, refused-step, due_at, StepKeeps, SealAnswered, sealed-text, refused-text, SealKeeps}
use Rattle.stream_chunks.proofs.StepLaws.{step-tells, step-text}
use Rattle.stream_chunks.proofs.ChunkBackLaws.{Sized, chunkable}

-- ---- buffers

-- n bytes at the front of a buffer with room for them
pub record Front (n : ℕ) (written out : List ℕ) : Type 0 where
  pub past : drop n written ≡ drop n out
  pub size : length written ≡ length out

pub front_kept : (out b : List ℕ) (n : ℕ) → length b ≡ n → n ≤ length out → Front n (put out 0 b) out
front_kept out b n e h =
    let z : 0 + length b ≡ n = zero-add (length b) ∙ e in
    let fits : 0 + length b ≤ length out = omega (arith, z, h) in
    record {
      past = ap (λ (k : ℕ). drop k (put out 0 b)) (sym z) ∙ drop-put out 0 b fits ∙ ap (λ (k : ℕ). drop k out) z;
      size = length-put out 0 b fits;
    }

pub front_same : (n : ℕ) (written out x : List ℕ) → written ≡ x → Front n x out → Front n written out
front_same n written out x e f = record { past = ap (drop n) e ∙ f.past; size = ap length e ∙ f.size }

pub front-none : (n : ℕ) (written out : List ℕ) → written ≡ out → Front n written out
front-none n written out e = record { past = ap (drop n) e; size = ap length e }

-- ---- a step

abbrev among_steps : List ℕ → Result Chunk Refusal → Bool
among_steps ks (Ok c) = true
among_steps ks (Err r) = among ks (refusal_number r)

-- the numbers that a step answers under a framing, and those of them that end the stream
pub record StepNumbers (ks ending : List ℕ) (f : Framing) : Type 0 where
  pub settings : among ks 1 ≡ true
  pub room : among ks 3 ≡ true
  pub forged : among ks 4 ≡ true
  pub more : among ks 10 ≡ true
  pub counter : among ks 11 ≡ true
  -- those of a length that was read
  pub under-least : (n : ℕ) → (under f n ≡ false) ⊎ (among ks 14 ≡ true)
  pub over-greatest : (n : ℕ) → (over f n ≡ false) ⊎ (among ks 5 ≡ true)
  pub ends : (r : Refusal) → among ks (refusal_number r) ≡ true → among ending (refusal_number r) ≡ ends_stream r

module _ (ks : List ℕ) where
  step-among : (b : Bool) (x : Result Chunk Refusal) (r : Refusal) → among_steps ks x ≡ true → among ks (refusal_number r) ≡ true
      → among_steps ks (cond b x (Err r)) ≡ true
  step-among true x r e g = e
  step-among false x r e g = g

  step-denied : (b : Bool) (x : Result Chunk Refusal) (r : Refusal) → among_steps ks x ≡ true → among ks (refusal_number r) ≡ true
      → among_steps ks (cond b (Err r) x) ≡ true
  step-denied true x r e g = g
  step-denied false x r e g = e

  -- a test that does not hold, or a number that is listed
  step-either : (b : Bool) (x : Result Chunk Refusal) (r : Refusal) → among_steps ks x ≡ true → (b ≡ false) ⊎ (among ks (refusal_number r) ≡ true)
      → among_steps ks (cond b (Err r) x) ≡ true
  step-either b x r e (inl g) = ap (λ (y : Bool). among_steps ks (cond y (Err r) x)) g ∙ e
  step-either b x r e (inr g) = step-denied b x r e g

module _ (ks ending : List ℕ) (f : Framing) (l : StepNumbers ks ending f) where
  piece-among : (key : Keyed) (counter n : ℕ) (s : List ℕ) (asked room : ℕ) (good : Result Chunk Refusal) → among_steps ks good ≡ true
      → among_steps ks (piece_answer key counter n s asked room good) ≡ true
  unfolding piece_answer
  piece-among key counter n s asked room good g =
      step-denied ks (eqb counter last_counter) _ Counter
      (step-among ks (leb (n + 16) (length s)) _ (More (n + 16))
      (step-among ks (leb asked room) _ Room
      (step-among ks (authentic_at key counter (take (n + 16) s)) _ NotAuthentic g l.forged) l.room) l.more) l.counter

  length-among : (n : ℕ) → among_steps ks (length_answer f n) ≡ true
  length-among n =
      step-either ks (under f n) _ Empty (step-either ks (over f n) _ Malformed refl (l.over-greatest n)) (l.under-least n)

  turn-among : (turn : Turn) (st : Receiver) (s : List ℕ) (room : ℕ) → among_steps ks (turn_answer f turn st s room) ≡ true
  turn-among Length st s room =
      piece-among (key_in f st) st.counter 2 s 0 room _ (length-among (length_read (key_in f st) st.counter s))
  turn-among (Payload n) st s room =
      step-denied ks (unframed f n) _ Settings (piece-among (key_in f st) st.counter n s n room _ refl) l.settings
  turn-among Ended st s room = l.forged
  turn-among (Variable n) st s room = l.settings

  among-step : (st : Receiver) (s : List ℕ) (room : ℕ) → among_steps ks (step_answer f st s room) ≡ true
  unfolding step_answer
  among-step st s room = step-denied ks (eqb f.key 0) _ Settings (turn-among st.turn st s room) l.settings

turn-front : (f : Framing) (turn : Turn) (key : Keyed) (counter : ℕ) (s out : List ℕ) (c : Chunk)
    → TurnOpens f key counter turn s (length out) c → Front (due_at turn) (turn_text key counter turn s out) out
turn-front f Length key counter s out c d = front-none 0 out out refl
turn-front f (Payload n) key counter s out c d =
    let t = length-take-le (n + 16) s d.0.whole in
    let l : length (open_at key counter (take (n + 16) s)) ≡ n = omega (arith, length-open_at key counter (take (n + 16) s), t) in
    front_kept out (open_at key counter (take (n + 16) s)) n l d.0.has_room
turn-front f Ended key counter s out c d = absurd d
turn-front f (Variable n) key counter s out c d = absurd d

module _ (ks ending : List ℕ) (f : Framing) (l : StepNumbers ks ending f) (st : Receiver) (s out : List ℕ) where
  abbrev step : Result Chunk Refusal
  step = step_answer f st s (length out)

  listed : (r : Refusal) → step ≡ Err r → among ks (refusal_number r) ≡ true
  listed r e = ap (among_steps ks) (sym e) ∙ among-step ks ending f l st s (length out)

  step-answered : StepAnswered ks step
  step-answered = go step refl
    where
      go : (a : Result Chunk Refusal) → step ≡ a → StepAnswered ks step
      go (Ok c) e = opened-step c e
      go (Err r) e = refused-step r (listed r e) e

  refused-keeps-out : (r : Refusal) → step ≡ Err r → step_out f st s out ≡ out
  unfolding step_out
  refused-keeps-out r e =
      ap (λ (a : Result Chunk Refusal). written_by a st.turn (open_at (key_in f st) st.counter (payload_piece st.turn s)) out) e

  next-as : (r : Refusal) → step ≡ Err r → (b : Bool) → among ending (refusal_number r) ≡ b → step_next st step ≡ cond b (ended st) st
  next-as r e b eb =
      ap (step_next st) e ∙ ap (λ (x : Bool). cond x (ended st) st) (sym (l.ends r (listed r e)) ∙ eb)

  ended-refuses : (f.key ≡ 0 → ⊥) → (bytes : List ℕ) (room : ℕ) → step_answer f (ended st) bytes room ≡ Err NotAuthentic
  unfolding step_answer
  ended-refuses known bytes room = ap (λ (b : Bool). cond b (Err Settings) (Err NotAuthentic)) (ne_eqb f.key 0 known)

  step-front : Front (due_at st.turn) (step_out f st s out) out
  step-front = go step-answered
    where
      go : StepAnswered ks step → Front (due_at st.turn) (step_out f st s out) out
      go (opened-step c e) =
          front_same (due_at st.turn) (step_out f st s out) out _ (step-text f st s out c e)
          (turn-front f st.turn (key_in f st) st.counter s out c (step-tells f st s (length out) c e).opens)
      go (refused-step r o e) = front-none (due_at st.turn) (step_out f st s out) out (refused-keeps-out r e)

  pub step_keeps : StepKeeps ks ending f st s out
  step_keeps =
      record {
        answered = step-answered;
        refused-keeps-out = refused-keeps-out;
        refused-keeps-state = λ r e b. next-as r e false b;
        ends = λ r e b. next-as r e true b;
        ended-refuses = ended-refuses;
        past-due-kept = step-front.past;
        length-kept = step-front.size;
      }

-- ---- sealing

abbrev pub among_sealed : List ℕ → Result (ℕ × Sender) Refusal → Bool
among_sealed ks (Ok (n, s)) = true
among_sealed ks (Err r) = among ks (refusal_number r)

module _ (ks : List ℕ) where
  pub sealed-among : (b : Bool) (x : Result (ℕ × Sender) Refusal) (r : Refusal) → among_sealed ks x ≡ true → among ks (refusal_number r) ≡ true
      → among_sealed ks (cond b x (Err r)) ≡ true
  sealed-among true x r e g = e
  sealed-among false x r e g = g

  pub sealed-denied : (b : Bool) (x : Result (ℕ × Sender) Refusal) (r : Refusal) → among_sealed ks x ≡ true → among ks (refusal_number r) ≡ true
      → among_sealed ks (cond b (Err r) x) ≡ true
  sealed-denied true x r e g = g
  sealed-denied false x r e g = e

  -- where 2 and 3 are among them
  pub among-sizes : among ks 2 ≡ true → among ks 3 ≡ true → (greatest n before room : ℕ) (s : Sender) → among_sealed ks (size_answer greatest n before room s) ≡ true
  unfolding size_answer
  among-sizes two three greatest n before room s =
      sealed-among (leb n greatest) _ TooLong (sealed-among (leb (before + n + 16) room) _ Room refl three) two

module _ (ks : List ℕ) (a : Result (ℕ × Sender) Refusal) (text out : List ℕ) (listed : among_sealed ks a ≡ true)
    (sizes : (n : ℕ) (next : Sender) → a ≡ Ok (n, next) → (length text ≡ n) × (n ≤ length out)) where
  seal-answered : SealAnswered ks a
  seal-answered = go a refl
    where
      go : (x : Result (ℕ × Sender) Refusal) → a ≡ x → SealAnswered ks a
      go (Ok (n, next)) e = sealed-text n next e
      go (Err r) e = refused-text r (ap (among_sealed ks) (sym e) ∙ listed) e

  writes_nothing : (r : Refusal) → a ≡ Err r → seal_out a text out ≡ out
  writes_nothing r e = ap (λ (x : Result (ℕ × Sender) Refusal). seal_out x text out) e

  seal-front : (n : ℕ) (next : Sender) → a ≡ Ok (n, next) → Front n (seal_out a text out) out
  seal-front n next e =
      front_same n (seal_out a text out) out (put out 0 text) (ap (λ (x : Result (ℕ × Sender) Refusal). seal_out x text out) e)
      (front_kept out text n (sizes n next e).0 (sizes n next e).1)

  seal-length : SealAnswered ks a → length (seal_out a text out) ≡ length out
  seal-length (sealed-text n next e) = (seal-front n next e).size
  seal-length (refused-text r o e) = ap length (writes_nothing r e)

  pub keeps : SealKeeps ks a text out
  keeps =
      record {
        answered = seal-answered;
        refused-writes-nothing = writes_nothing;
        sealed-length = sizes;
        past-length-kept = λ n next e. (seal-front n next e).past;
        length-kept = seal-length seal-answered;
      }

pub sized-length : (greatest size before room : ℕ) (s : Sender) (n : ℕ) (next : Sender) (text : List ℕ) → Sized greatest size before room s n next
    → length text ≡ before + size + 16 → (length text ≡ n) × (n ≤ room)
sized-length greatest size before room s n next text d e = (e ∙ sym d.count, omega (arith, d.count, d.fits))

-- ---- a chunk, where these are listed: 1, 2, 3 and 11, and 14 if a length can be under the least

module _ (ks : List ℕ) (f : Framing) where
  chunk-among : among ks 1 ≡ true → among ks 2 ≡ true → among ks 3 ≡ true → among ks 11 ≡ true
      → ((n : ℕ) → (under f n ≡ false) ⊎ (among ks 14 ≡ true)) → (s : Sender) (payload room : ℕ)
      → among_sealed ks (framed_answer f s payload room) ≡ true
  unfolding framed_answer
  chunk-among one two three eleven empty s payload room =
      sealed-denied ks (eqb f.key 0) _ Settings
      (empty-or _ (empty payload)
      (sealed-among ks (ltb s.counter (last_counter - 1)) _ Counter (among-sizes ks two three f.greatest payload 18 room (moved s)) eleven)) one
    where
      empty-or : (x : Result (ℕ × Sender) Refusal) → (under f payload ≡ false) ⊎ (among ks 14 ≡ true) → among_sealed ks x ≡ true
          → among_sealed ks (cond (under f payload) (Err Empty) x) ≡ true
      empty-or x (inl g) e = ap (λ (b : Bool). among_sealed ks (cond b (Err Empty) x)) g ∙ e
      empty-or x (inr g) e = sealed-denied ks (under f payload) x Empty e g

  pub chunk-keeps : among ks 1 ≡ true → among ks 2 ≡ true → among ks 3 ≡ true → among ks 11 ≡ true
      → ((n : ℕ) → (under f n ≡ false) ⊎ (among ks 14 ≡ true)) → (s : Sender) (payload out : List ℕ)
      → SealKeeps ks (framed_answer f s (length payload) (length out)) (chunk (keyed f.cipher (key_of s.subkey f.key)) s.counter payload) out
  chunk-keeps one two three eleven empty s payload out =
      keeps ks (framed_answer f s (length payload) (length out)) (chunk (keyed f.cipher (key_of s.subkey f.key)) s.counter payload) out
      (chunk-among one two three eleven empty s (length payload) (length out))
      (λ n next e. sized-length _ _ _ _ _ n next (chunk (keyed f.cipher (key_of s.subkey f.key)) s.counter payload)
      (chunkable f s (length payload) (length out) n next e).sizes (length-chunk (keyed f.cipher (key_of s.subkey f.key)) s.counter payload))
