-- What stands after a call about a chunk, case by case. Assumes nothing.
use Rattle.std.specs.Prelude.{Err, Result}
use Prim.Native.Nat.{ℕ, ◌≤◌, ◌<◌}
use mathlib.Core.Bool.{Bool, true, false, cond, ◌&&◌, and-eq-true_iff}
use mathlib.Core.List.{List}
use mathlib.Core.Path.{◌≡◌, refl, sym, ap, ◌∙◌}
use lib.Dec.{eqb}
use lib.ListN.{length}
use borrow.Author.Tests.{eq-eqb, ne_eqb, eqb-true, lt-ltb, le-ltb}
use Rattle.protocol.specs.declared.Refusal.{Refusal}
use Rattle.protocol.specs.declared.Refusal.TheVariants.{Settings, NotAuthentic, Empty}
use Rattle.protocol.specs.Refusal.{refusal_number}
use Rattle.stream_pieces.specs.declared.Framing.{Framing}
use Rattle.stream_pieces.specs.Framing.{under}
use Rattle.stream_seal.specs.Sealing.{framed_answer, seal_out}
use Rattle.stream_open.specs.declared.Receiver.{Receiver}
use Rattle.stream_open.specs.Steps.{step_answer, step_out, step_next}
use Rattle.words.specs.Answers.{answer_words}
use Rattle.words.specs.States.{stream_size, turn_of, sender_in, receiver_lawful, receiver_in}
use Rattle.stream_answers.specs.Told.{sealed_number, sealed_words, sealed_stream, stepped_number, stepped_answer, step_stream}
use Rattle.stream_answers.specs.Chunks.{fits, AfterChunk, seals, not_sealing, chunk_sealed, opens, step_told, opens_chunk}
use Rattle.stream_seal.specs.declared.Sender.{Sender}
use Rattle.stream_open.specs.declared.Chunk.{Chunk}

-- ---- a stream and an answer of these lengths

module _ (k a : ℕ) (e : fits k a ≡ true) where
  pub fitting : (k ≡ stream_size) × (a ≡ answer_words)
  fitting =
      let both = (and-eq-true_iff (eqb k stream_size) (eqb a answer_words)).0 e in
      (eqb-true k stream_size both.0, eqb-true a answer_words both.1)

-- ---- sealing on lent words: x is what is answered where they fit

module _ (x : Result (ℕ × Sender) Refusal) (text out w answer : List ℕ) (b : Bool) (e : b ≡ fits (length w) (length answer)) where
  abbrev A : AfterChunk
  A = seals x text out w answer

  -- what stands after an answer y
  abbrev after : Result (ℕ × Sender) Refusal → AfterChunk
  after y = record { number = sealed_number y; out = seal_out y text out; stream = sealed_stream y w; answer = sealed_words y answer }

  by-fit : (z : Bool) → b ≡ z → cond z (after x) (record { number = 1; out = out; stream = w; answer = answer }) ≡ A
  unfolding seals
  by-fit z f = ap (λ (t : Bool). cond t (after x) (record { number = 1; out = out; stream = w; answer = answer })) (sym f ∙ e)

  pub unfit : b ≡ false → record { number = 1; out = out; stream = w; answer = answer } ≡ A
  unfit f = by-fit false f

  pub sealed-fit : b ≡ true → (y : Result (ℕ × Sender) Refusal) (n : ℕ) (o s a : List ℕ) → y ≡ x → o ≡ seal_out y text out → n ≡ sealed_number y → s ≡ sealed_stream y w
      → a ≡ sealed_words y answer → record { number = n; out = o; stream = s; answer = a } ≡ A
  sealed-fit f y n o s a g h i j l = (λ k. record { number = i k; out = h k; stream = j k; answer = l k }) ∙ ap after g ∙ by-fit true f

  pub unsealed-fit : b ≡ true → (r : Refusal) (n : ℕ) → x ≡ Err r → n ≡ refusal_number r
      → record { number = n; out = out; stream = w; answer = answer } ≡ A
  unsealed-fit f r n g h = sealed-fit f (Err r) n out w answer (sym g) refl h refl refl

-- ---- a chunk, by the stream's turn

module _ (f : Framing) (w : List ℕ) (payload room : ℕ) where
  abbrev by_turn : Bool → Result (ℕ × Sender) Refusal
  by_turn b = cond b (framed_answer f (sender_in w) payload room) (Err (not_sealing f (turn_of w) payload))

  pub at-sealing : turn_of w ≡ 3 → framed_answer f (sender_in w) payload room ≡ chunk_sealed f w payload room
  unfolding chunk_sealed
  at-sealing e = sym (ap by_turn (eq-eqb (turn_of w) 3 e))

  pub not-at-sealing : (turn_of w ≡ 3 → ⊥) → chunk_sealed f w payload room ≡ Err (not_sealing f (turn_of w) payload)
  unfolding chunk_sealed
  not-at-sealing e = ap by_turn (ne_eqb (turn_of w) 3 e)

-- ---- opening on lent words

module _ (w answer : List ℕ) where
  pub opens-none : (length answer ≡ answer_words → ⊥) → opens w answer ≡ false
  opens-none e = ap (λ (b : Bool). b && receiver_lawful w) (ne_eqb (length answer) answer_words e)

  pub opens_by : length answer ≡ answer_words → (b : Bool) → b ≡ receiver_lawful w → opens w answer ≡ b
  opens_by l b e = ap (λ (z : Bool). z && receiver_lawful w) (eq-eqb (length answer) answer_words l) ∙ sym e

module _ (f : Framing) (w s out answer : List ℕ) where
  abbrev untouched : AfterChunk
  untouched = record { number = 1; out = out; stream = w; answer = answer }

  abbrev T : AfterChunk
  T = opens_chunk f w s out answer

  abbrev stepped : AfterChunk
  stepped = step_told f (step_answer f (receiver_in w) s (length out)) (receiver_in w) s out w answer

  step_by : (b : Bool) → opens w answer ≡ b → cond b stepped untouched ≡ T
  unfolding opens_chunk
  step_by b e = sym (ap (λ (z : Bool). cond z stepped untouched) e)

  pub step-untold : (length answer ≡ answer_words → ⊥) → untouched ≡ T
  step-untold e = step_by false (opens-none w answer e)

  module _ (l : length answer ≡ answer_words) (b : Bool) (e : b ≡ receiver_lawful w) where
    pub step-unlawful : b ≡ false → untouched ≡ T
    step-unlawful g = step_by false (opens_by w answer l b e ∙ g)

    pub step-told : b ≡ true → (st : Receiver) → st ≡ receiver_in w → (x : Result Chunk Refusal) (next : Receiver) (n : ℕ) (o left a : List ℕ)
        → x ≡ step_answer f st s (length out) → next ≡ step_next st x → o ≡ step_out f st s out → n ≡ stepped_number x → left ≡ step_stream x next w
        → a ≡ stepped_answer x answer → record { number = n; out = o; stream = left; answer = a } ≡ T
    step-told t st g x next n o left a h i j m p q =
        (λ k. record { number = m k; out = j k; stream = (p ∙ ap (λ (z : Receiver). step_stream x z w) i) k; answer = q k })
        ∙ ap (λ (z : Result Chunk Refusal). step_told f z st s out w answer) h
        ∙ ap (λ (z : Receiver). step_told f (step_answer f z s (length out)) z s out w answer) g
        ∙ step_by true (opens_by w answer l b e ∙ t)
