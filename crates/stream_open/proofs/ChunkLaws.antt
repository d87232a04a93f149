-- A step of the receiving half: a law for each way out of each function.
-- Assumes nothing.
use Rattle.std.specs.Prelude.{Err, Ok, Result}
use mathlib.Core.Path.{◌≡◌, refl, sym, ap, ◌∙◌}
use mathlib.Core.Bool.{Bool, true, false, cond}
use mathlib.Core.List.{List}
use Prim.Native.Nat.{ℕ, ◌+◌, ◌<◌, ◌≤◌}
use native.Mathlib.Omega.{arith}
use lib.Dec.{eqb, leb}
use lib.ListN.{length, take}
use lib.Seq.{length-take-le}
use borrow.Author.Tests.{eq-eqb, ne_eqb, le-leb, lt-leb, lt-ltb, le-ltb}
use Rattle.octets.specs.Buffers.{put}
use Rattle.octets.specs.Numbers.{be}
use Rattle.octets.proofs.BufferLaws.{put_whole}
use Rattle.protocol.specs.declared.Refusal.{Refusal}
use Rattle.protocol.specs.declared.Refusal.TheVariants.{Settings, Room, NotAuthentic, Malformed, More, Counter, Empty}
use Rattle.protocol.specs.Refusal.{ends_stream}
use Rattle.stream_pieces.specs.declared.Framing.{Framing}
use Rattle.stream_pieces.specs.Framing.{under, over, unframed}
use Rattle.stream_pieces.specs.Pieces.{max_chunk, authentic_at, open_at, last_counter, Keyed}
use Rattle.stream_pieces.proofs.FramingLaws.{is-over, not-over, over-unframed, under-unframed, is_framed}
use Rattle.stream_pieces.proofs.LengthLaws.{length-open_at}
use Rattle.stream_open.specs.declared.Turn.{Turn}
use Rattle.stream_open.specs.declared.Turn.TheVariants.{Variable, Length, Payload, Ended}
use Rattle.stream_open.specs.declared.Receiver.{Receiver}
use Rattle.stream_open.specs.declared.Chunk.{Chunk}
use Rattle.stream_open.specs.Steps.{key_in, piece_answer, length_read, length_answer, turn_answer, step_answer, written_by, payload_piece, step_out, turn_after, ended, refused_next, advances}

-- ---- one piece, by the four tests

module _ (key : Keyed) (counter n : ℕ) (s : List ℕ) (asked room : ℕ) (good : Result Chunk Refusal) where
  piece-at : (a b c d : Bool) → eqb counter last_counter ≡ a → leb (n + 16) (length s) ≡ b → leb asked room ≡ c
      → authentic_at key counter (take (n + 16) s) ≡ d
      → cond a (Err Counter)
      (cond b (cond c (cond d good (Err NotAuthentic)) (Err Room)) (Err (More (n + 16))))
      ≡ piece_answer key counter n s asked room good
  unfolding piece_answer
  piece-at a b c d ea eb ec ed =
      λ i. cond (sym ea i) (Err Counter)
      (cond (sym eb i) (cond (sym ec i) (cond (sym ed i) good (Err NotAuthentic)) (Err Room)) (Err (More (n + 16))))

  pub piece-counter : counter ≡ last_counter → Err Counter ≡ piece_answer key counter n s asked room good
  piece-counter e = piece-at true _ _ _ (eq-eqb _ _ e) refl refl refl

  module _ (counts : counter ≡ last_counter → ⊥) where
    pub piece-more : length s < n + 16 → Err (More (n + 16)) ≡ piece_answer key counter n s asked room good
    piece-more h = piece-at false false _ _ (ne_eqb _ _ counts) (lt-leb _ _ h) refl refl

    module _ (long : n + 16 ≤ length s) where
      pub piece-room : room < asked → Err Room ≡ piece_answer key counter n s asked room good
      piece-room h = piece-at false true false _ (ne_eqb _ _ counts) (le-leb _ _ long) (lt-leb _ _ h) refl

      module _ (fits : asked ≤ room) (b : Bool) (eb : b ≡ authentic_at key counter (take (n + 16) s)) where
        piece-tag : (d : Bool) → b ≡ d → cond d good (Err NotAuthentic) ≡ piece_answer key counter n s asked room good
        piece-tag d e = piece-at false true true d (ne_eqb _ _ counts) (le-leb _ _ long) (le-leb _ _ fits) (sym eb ∙ e)

        pub piece-good : b ≡ true → good ≡ piece_answer key counter n s asked room good
        piece-good e = piece-tag true e

        pub piece-forged : b ≡ false → Err NotAuthentic ≡ piece_answer key counter n s asked room good
        piece-forged e = piece-tag false e

-- ---- a length

module _ (f : Framing) (n due : ℕ) (ed : due ≡ n) where
  answer_at : (a b : Bool) → under f n ≡ a → over f n ≡ b
      → cond a (Err Empty) (cond b (Err Malformed) (Ok (record { used = 18; length = n }))) ≡ length_answer f n
  answer_at a b ea eb =
      λ i. cond (sym ea i) (Err Empty) (cond (sym eb i) (Err Malformed) (Ok (record { used = 18; length = n })))

  pub length-under : due < f.least → Err Empty ≡ length_answer f n
  length-under h = answer_at true _ (lt-ltb n f.least (omega (arith, h, ed))) refl

  module _ (enough : f.least ≤ due) where
    pub length_over : n ≤ max_chunk → f.greatest < due → Err Malformed ≡ length_answer f n
    length_over l h = answer_at false true (le-ltb n f.least (omega (arith, enough, ed))) (is-over f n (omega (arith, h, ed)) l)

    pub length-within : due ≤ f.greatest → Ok (record { used = 18; length = n }) ≡ length_answer f n
    length-within h =
        answer_at false false (le-ltb n f.least (omega (arith, enough, ed))) (not-over f n (omega (arith, h, ed)))

module _ (f : Framing) (st : Receiver) (s : List ℕ) (room : ℕ) where
  pub length-counter : st.counter ≡ last_counter → Err Counter ≡ turn_answer f Length st s room
  length-counter e = piece-counter (key_in f st) st.counter 2 s 0 room _ e

  pub length_more : (st.counter ≡ last_counter → ⊥) → length s < 18 → Err (More 18) ≡ turn_answer f Length st s room
  length_more counts h = piece-more (key_in f st) st.counter 2 s 0 room _ counts h

  module _ (counts : st.counter ≡ last_counter → ⊥) (long : 18 ≤ length s) (b : Bool)
      (eb : b ≡ authentic_at (key_in f st) st.counter (take 18 s))
    where
      pub length-forged : b ≡ false → Err NotAuthentic ≡ turn_answer f Length st s room
      length-forged e = piece-forged (key_in f st) st.counter 2 s 0 room _ counts long (omega arith) b eb e

      -- two bytes fill the buffer that they are read from
      pub length-good : (z o : List ℕ) (r : ℕ) → length z ≡ 2 → o ≡ cond b (put z 0 (open_at (key_in f st) st.counter (take 18 s))) z
          → r ≡ be 2 o → (a : Result Chunk Refusal) → a ≡ length_answer f r → b ≡ true → a ≡ turn_answer f Length st s room
      unfolding length_read
      length-good z o r size eo er a ea e =
          let plain = open_at (key_in f st) st.counter (take 18 s) in
          let m : length (take 18 s) ≡ 18 = length-take-le 18 s long in
          let l : length z ≤ length plain = omega (arith, size, m, length-open_at (key_in f st) st.counter (take 18 s)) in
          let whole = eo ∙ (λ i. cond (e i) (put z 0 plain) z) ∙ put_whole z plain l in
          ea ∙ ap (length_answer f) (er ∙ ap (be 2) whole)
          ∙ piece-good (key_in f st) st.counter 2 s 0 room _ counts long (omega arith) b eb e

-- ---- a payload

module _ (f : Framing) (st : Receiver) (n due : ℕ) (ed : due ≡ n) (s out : List ℕ) where
  abbrev opened : Result Chunk Refusal
  opened = Ok (record { used = n + 16; length = n })

  payload-at : (b : Bool) → unframed f n ≡ b
      → cond b (Err Settings) (piece_answer (key_in f st) st.counter n s n (length out) opened)
      ≡ turn_answer f (Payload n) st s (length out)
  payload-at b e =
      ap (λ (x : Bool). cond x (Err Settings) (piece_answer (key_in f st) st.counter n s n (length out) opened)) (sym e)

  pub payload-over : n ≤ max_chunk → f.greatest < due → (Err Settings ≡ turn_answer f (Payload n) st s (length out)) × (out ≡ out)
  payload-over l h = (payload-at true (over-unframed f n (is-over f n (omega (arith, h, ed)) l)), refl)

  module _ (capped : due ≤ f.greatest) where
    pub payload-under : due < f.least → (Err Settings ≡ turn_answer f (Payload n) st s (length out)) × (out ≡ out)
    payload-under h = (payload-at true (under-unframed f n (omega (arith, h, ed)) (omega (arith, capped, ed))), refl)

    module _ (enough : f.least ≤ due) where
      as-piece : piece_answer (key_in f st) st.counter n s n (length out) opened ≡ turn_answer f (Payload n) st s (length out)
      as-piece = payload-at false (is_framed f n (omega (arith, enough, ed)) (omega (arith, capped, ed)))

      pub payload-counter : st.counter ≡ last_counter → (Err Counter ≡ turn_answer f (Payload n) st s (length out)) × (out ≡ out)
      payload-counter e = (piece-counter (key_in f st) st.counter n s n (length out) _ e ∙ as-piece, refl)

      module _ (counts : st.counter ≡ last_counter → ⊥) where
        pub payload-more : length s < due + 16
            → (Err (More (due + 16)) ≡ turn_answer f (Payload n) st s (length out)) × (out ≡ out)
        payload-more h = (
          ap (λ (x : ℕ). Err (More (x + 16))) ed
              ∙ piece-more (key_in f st) st.counter n s n (length out) _ counts (omega (arith, sym ed)) ∙ as-piece,
          refl,
        )

        module _ (long : due + 16 ≤ length s) where
          pub payload-room : length out < due → (Err Room ≡ turn_answer f (Payload n) st s (length out)) × (out ≡ out)
          payload-room h = (
            piece-room (key_in f st) st.counter n s n (length out) _ counts (omega (arith, sym ed)) (omega (arith, sym ed)) ∙ as-piece,
            refl,
          )

          module _ (fits : due ≤ length out) (b : Bool) (o : List ℕ)
              (eb : b ≡ authentic_at (key_in f st) st.counter (take (due + 16) s))
              (eo : o ≡ cond b (put out 0 (open_at (key_in f st) st.counter (take (due + 16) s))) out)
            where
              payload-tag : b ≡ authentic_at (key_in f st) st.counter (take (n + 16) s)
              payload-tag = eb ∙ (λ i. authentic_at (key_in f st) st.counter (take (ed i + 16) s))

              payload-left : (d : Bool) → b ≡ d → o ≡ cond d (put out 0 (open_at (key_in f st) st.counter (take (n + 16) s))) out
              payload-left d e =
                  eo ∙ (λ i. cond (e i) (put out 0 (open_at (key_in f st) st.counter (take (ed i + 16) s))) out)

              pub payload-good : b ≡ true → (Ok (record { used = due + 16; length = n }) ≡ turn_answer f (Payload n) st s (length out))
                  × (o ≡ put out 0 (open_at (key_in f st) st.counter (take (n + 16) s)))
              payload-good e = (
                ap (λ (x : ℕ). Ok (record { used = x + 16; length = n })) ed
                    ∙ piece-good (key_in f st) st.counter n s n (length out) _ counts (omega (arith, sym ed)) (omega (arith, sym ed)) b
                    payload-tag e
                    ∙ as-piece,
                payload-left true e,
              )

              pub payload-forged : b ≡ false → (Err NotAuthentic ≡ turn_answer f (Payload n) st s (length out)) × (o ≡ out)
              payload-forged e = (
                piece-forged (key_in f st) st.counter n s n (length out) _ counts (omega (arith, sym ed)) (omega (arith, sym ed)) b
                    payload-tag e
                    ∙ as-piece,
                payload-left false e,
              )

-- ---- the turn

-- a length is not written to the buffer
pub length-kept : (r : Result Chunk Refusal) (plain out : List ℕ) → written_by r Length plain out ≡ out
length-kept (Ok c) plain out = refl
length-kept (Err r) plain out = refl

module _ (f : Framing) (st : Receiver) (s out : List ℕ) where
  step-at : (a : Bool) (t : Turn) → eqb f.key 0 ≡ a → st.turn ≡ t
      → (cond a (Err Settings) (turn_answer f t st s (length out)) ≡ step_answer f st s (length out))
      × (written_by (cond a (Err Settings) (turn_answer f t st s (length out))) t
      (open_at (key_in f st) st.counter (payload_piece t s)) out ≡ step_out f st s out)
  unfolding step_answer step_out
  step-at a t ea et = (
    λ i. cond (sym ea i) (Err Settings) (turn_answer f (sym et i) st s (length out)),
    λ i. written_by (cond (sym ea i) (Err Settings) (turn_answer f (sym et i) st s (length out))) (sym et i)
        (open_at (key_in f st) st.counter (payload_piece (sym et i) s)) out,
  )

  pub step-settings : f.key ≡ 0 → (Err Settings ≡ step_answer f st s (length out)) × (out ≡ step_out f st s out)
  step-settings e = step-at true st.turn (eq-eqb _ _ e) refl

  module _ (known : f.key ≡ 0 → ⊥) where
    step-known : (t : Turn) → st.turn ≡ t → (turn_answer f t st s (length out) ≡ step_answer f st s (length out))
        × (written_by (turn_answer f t st s (length out)) t (open_at (key_in f st) st.counter (payload_piece t s)) out ≡ step_out f st s out)
    step-known t e = step-at false t (ne_eqb _ _ known) e

    pub step-length : st.turn ≡ Length → (r : Result Chunk Refusal) → r ≡ turn_answer f Length st s (length out)
        → (r ≡ step_answer f st s (length out)) × (out ≡ step_out f st s out)
    step-length e r er =
        let d = step-known Length e in
        (er ∙ d.0, sym (length-kept (turn_answer f Length st s (length out)) (open_at (key_in f st) st.counter s) out) ∙ d.1)

    pub step-payload : (n : ℕ) → st.turn ≡ Payload n → (r : Result Chunk Refusal) (o : List ℕ) → r ≡ turn_answer f (Payload n) st s (length out)
        → o ≡ written_by r (Payload n) (open_at (key_in f st) st.counter (take (n + 16) s)) out
        → (r ≡ step_answer f st s (length out)) × (o ≡ step_out f st s out)
    step-payload n e r o er eo =
        let d = step-known (Payload n) e in (
          er ∙ d.0,
          eo ∙ ap (λ (x : Result Chunk Refusal). written_by x (Payload n) (open_at (key_in f st) st.counter (take (n + 16) s)) out) er ∙ d.1,
        )

    pub step-ended : st.turn ≡ Ended → (Err NotAuthentic ≡ step_answer f st s (length out)) × (out ≡ step_out f st s out)
    step-ended e = step-known Ended e

    pub step-variable : (n : ℕ) → st.turn ≡ Variable n → (Err Settings ≡ step_answer f st s (length out)) × (out ≡ step_out f st s out)
    step-variable n e = step-known (Variable n) e

-- ---- the state behind a step

pub advanced-law : (st : Receiver) (n : ℕ) (t : Turn) → t ≡ turn_after st.turn n
    → record { method = st.method; turn = t; counter = st.counter + 1; subkey = st.subkey } ≡ advances st n
advanced-law st n t e = λ i. record { method = st.method; turn = e i; counter = st.counter + 1; subkey = st.subkey }

module _ (st : Receiver) (r : Refusal) (b : Bool) (eb : b ≡ ends_stream r) where
  next-at : (x : Bool) → b ≡ x → cond x (ended st) st ≡ refused_next r st
  next-at x e = ap (λ (y : Bool). cond y (ended st) st) (sym e ∙ eb)

  pub next-ended : b ≡ true → ended st ≡ refused_next r st
  next-ended e = next-at true e

  pub next-kept : b ≡ false → st ≡ refused_next r st
  next-kept e = next-at false e

-- nothing is opened with the last counter
abbrev openings : Result Chunk Refusal → ℕ
openings (Ok c) = 1
openings (Err r) = 0

module _ (f : Framing) (st : Receiver) (s : List ℕ) (room : ℕ) where
  none-at-last : st.counter ≡ last_counter → (t : Turn) → openings (turn_answer f t st s room) ≡ 0
  none-at-last e Length = ap openings (sym (length-counter f st s room e))
  none-at-last e (Payload n) = go (unframed f n)
    where
      go : (b : Bool) → openings (cond b (Err Settings) (piece_answer (key_in f st) st.counter n s n room (Ok (record { used = n + 16; length = n })))) ≡ 0
      go true = refl
      go false = ap openings (sym (piece-counter (key_in f st) st.counter n s n room _ e))
  none-at-last e Ended = refl
  none-at-last e (Variable n) = refl

  pub opened-counts : (r : Result Chunk Refusal) (c : Chunk) → r ≡ step_answer f st s room → r ≡ Ok c → st.counter ≡ last_counter → ⊥
  unfolding step_answer
  opened-counts r c er eo e =
      let z : ◌≡◌ {A = ℕ} 1 0 = ap openings (sym eo ∙ er) ∙ go (eqb f.key 0) in
      omega arith
    where
      go : (b : Bool) → openings (cond b (Err Settings) (turn_answer f st.turn st s room)) ≡ 0
      go true = refl
      go false = none-at-last e st.turn
