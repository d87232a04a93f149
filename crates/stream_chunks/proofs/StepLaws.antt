-- When exactly a step opens a piece, when it refuses a length, and with which nonce.
-- Assumes nothing.
use Rattle.std.specs.Prelude.{Err, Ok, Result}
use mathlib.Core.Path.{◌≡◌, refl, sym, ap, ap₂, ◌∙◌, subst}
use mathlib.Core.Bool.{Bool, true, false, cond, ◌||◌}
use mathlib.Core.List.{List, [], ◌∷◌}
use mathlib.Core.Logic.{◌↔◌}
use Prim.Native.Nat.{ℕ, zero, suc, ◌+◌, ◌^◌, ◌<◌, ◌≤◌}
use native.Mathlib.Nat.{add-zero, mod-eq_of_lt}
use native.Mathlib.Omega.{arith}
use lib.Dec.{eqb, leb}
use lib.ListN.{length, take}
use borrow.Author.Tests.{ne_eqb, le-leb, leb-true, eqb-false, lt-ltb, le-ltb, ltb-true, ltb-false}
use Rattle.octets.specs.Numbers.{le, to_le}
use Rattle.octets.proofs.NumberLaws.{le-to_le}
use Rattle.protocol.specs.Refusal.{refusal_number}
use Rattle.protocol.specs.declared.Refusal.{Refusal}
use Rattle.protocol.specs.declared.Refusal.TheVariants.{Settings, Room, NotAuthentic, Malformed, More, Counter, Empty}
use Rattle.stream_pieces.specs.declared.Framing.{Framing}
use Rattle.stream_pieces.specs.declared.Subkey.{Subkey}
use Rattle.stream_pieces.specs.Framing.{under, over, unframed}
use Rattle.stream_pieces.specs.Pieces.{nonce, authentic_at, open_at, key_of, last_counter, Keyed, keyed}
use Rattle.stream_open.specs.declared.Turn.{Turn}
use Rattle.stream_open.specs.declared.Turn.TheVariants.{Variable, Length, Payload, Ended}
use Rattle.stream_open.specs.declared.Receiver.{Receiver}
use Rattle.stream_open.specs.declared.Chunk.{Chunk}
use Rattle.stream_open.specs.Steps.{key_in, piece_answer, length_read, length_answer, turn_answer, written_by, payload_piece, step_answer, step_out, step_next}
use Rattle.stream_chunks.specs.Opens.{Edition, PieceOpens, Within, TurnOpens, turn_text, StepOpens, StepExactlyWhen, ReadsLength, UnderExactlyWhen, OverExactlyWhen}
use Rattle.stream_chunks.specs.Flows.{Flow, answer_to, written_in, stepped, after, AllOpened}
use Rattle.stream_chunks.specs.Back.{OwnNonces, NoncesDiffer}

-- ---- answers

abbrev is_opened : Result Chunk Refusal → ℕ
is_opened (Ok c) = 1
is_opened (Err r) = 0

not_opened : (r : Refusal) (c : Chunk) → Err r ≡ Ok c → ⊥
not_opened r c e = let z : ◌≡◌ {A = ℕ} 0 1 = ap is_opened e in omega arith

abbrev chunk_in : Result Chunk Refusal → Chunk → Chunk
chunk_in (Ok c) other = c
chunk_in (Err r) other = other

record Denied (b : Bool) (x : Result Chunk Refusal) (c : Chunk) : Type 0 where
  test : b ≡ false
  then : x ≡ Ok c

denied : (b : Bool) (x : Result Chunk Refusal) (r : Refusal) (c : Chunk) → cond b (Err r) x ≡ Ok c → Denied b x c
denied false x r c e = record { test = refl; then = e }
denied true x r c e = absurd (not_opened r c e)

-- ---- a piece

module _ (key : Keyed) (counter n : ℕ) (s : List ℕ) (asked room : ℕ) (good : Result Chunk Refusal) where
  -- what is not one of the piece's own refusals stands behind all of them
  pub piece-passed : (own : Refusal → ℕ) (is : Result Chunk Refusal → ℕ) → ((r : Refusal) → is (Err r) ≡ own r) → own Counter ≡ 0 → own Room ≡ 0
      → own NotAuthentic ≡ 0 → own (More (n + 16)) ≡ 0 → is (piece_answer key counter n s asked room good) ≡ 1
      → PieceOpens key counter n s asked room
  unfolding piece_answer
  piece-passed own is by c0 r0 a0 m0 e =
      go (eqb counter last_counter) (leb (n + 16) (length s)) (leb asked room)
      (authentic_at key counter (take (n + 16) s)) refl refl refl refl e
    where
      none : (r : Refusal) → own r ≡ 0 → is (Err r) ≡ 1 → ⊥
      none r o f = let z : ◌≡◌ {A = ℕ} 0 1 = sym o ∙ sym (by r) ∙ f in omega arith

      go : (a b c d : Bool) → eqb counter last_counter ≡ a → leb (n + 16) (length s) ≡ b → leb asked room ≡ c
          → authentic_at key counter (take (n + 16) s) ≡ d
          → is (cond a (Err Counter) (cond b (cond c (cond d good (Err NotAuthentic)) (Err Room)) (Err (More (n + 16))))) ≡ 1
          → PieceOpens key counter n s asked room
      go true b c d ea eb ec ed f = absurd (none Counter c0 f)
      go false false c d ea eb ec ed f = absurd (none (More (n + 16)) m0 f)
      go false true false d ea eb ec ed f = absurd (none Room r0 f)
      go false true true false ea eb ec ed f = absurd (none NotAuthentic a0 f)
      go false true true true ea eb ec ed f =
          record {
            usable = eqb-false counter last_counter ea;
            whole = leb-true (n + 16) (length s) eb;
            has_room = leb-true asked room ec;
            authentic = ed;
          }

  pub piece-given : PieceOpens key counter n s asked room → piece_answer key counter n s asked room good ≡ good
  unfolding piece_answer
  piece-given p =
      λ i. cond (ne_eqb counter last_counter p.usable i) (Err Counter)
      (cond (le-leb (n + 16) (length s) p.whole i)
      (cond (le-leb asked room p.has_room i) (cond (p.authentic i) good (Err NotAuthentic)) (Err Room))
      (Err (More (n + 16))))

  -- an opened one
  opened-passed : (c : Chunk) → piece_answer key counter n s asked room good ≡ Ok c → PieceOpens key counter n s asked room
  opened-passed c e = piece-passed (λ r. 0) is_opened (λ r. refl) refl refl refl refl (ap is_opened e)

  opened-good : (c : Chunk) → piece_answer key counter n s asked room good ≡ Ok c → good ≡ Ok c
  opened-good c e = sym (piece-given (opened-passed c e)) ∙ e

-- ---- a step

-- the tests that a length within the framing passes
within : (f : Framing) (n : ℕ) → under f n ≡ false → over f n ≡ false → Within f n
within f n u o = (ltb-false n f.least u, o)

framed : (f : Framing) (n : ℕ) → unframed f n ≡ false → Within f n
framed f n e = go (over f n) refl e
  where
    go : (b : Bool) → over f n ≡ b → (b || under f n) ≡ false → Within f n
    go true eb h = absurd (let z : ◌≡◌ {A = ℕ} 1 0 = ap (λ (x : Bool). cond x 1 0) h in omega arith)
    go false eb h = within f n h eb

pub allowed : (f : Framing) (n : ℕ) → Within f n → unframed f n ≡ false
allowed f n w = ap₂ ◌||◌ w.1 (le-ltb n f.least w.0)

length-allowed : (f : Framing) (n : ℕ) → Within f n → length_answer f n ≡ Ok (record { used = 18; length = n })
length-allowed f n w =
    λ i. cond (le-ltb n f.least w.0 i) (Err Empty) (cond (w.1 i) (Err Malformed) (Ok (record { used = 18; length = n })))

module _ (f : Framing) where
  turn-tells : (turn : Turn) (st : Receiver) (s : List ℕ) (room : ℕ) (c : Chunk) → turn_answer f turn st s room ≡ Ok c
      → TurnOpens f (key_in f st) st.counter turn s room c
  unfolding length_read
  turn-tells Length st s room c e =
      let n = length_read (key_in f st) st.counter s in
      let good = length_answer f n in
      let e₁ = denied (under f n) _ _ c (opened-good (key_in f st) st.counter 2 s 0 room good c e) in
      let e₂ = denied (over f n) _ _ c e₁.then in (
        opened-passed (key_in f st) st.counter 2 s 0 room good c e,
        (within f n e₁.test e₂.test, sym (ap (λ (x : Result Chunk Refusal). chunk_in x c) e₂.then)),
      )
  turn-tells (Payload n) st s room c e =
      let good = Ok (record { used = n + 16; length = n }) in
      let e₁ = denied (unframed f n) _ _ c e in (
        opened-passed (key_in f st) st.counter n s n room good c e₁.then,
        (framed f n e₁.test, sym (ap (λ (x : Result Chunk Refusal). chunk_in x c) (opened-good (key_in f st) st.counter n s n room good c e₁.then))),
      )
  turn-tells Ended st s room c e = not_opened NotAuthentic c e
  turn-tells (Variable n) st s room c e = not_opened Settings c e

  turn-given : (turn : Turn) (st : Receiver) (s : List ℕ) (room : ℕ) (c : Chunk) → TurnOpens f (key_in f st) st.counter turn s room c
      → turn_answer f turn st s room ≡ Ok c
  unfolding length_read
  turn-given Length st s room c p =
      let n = length_read (key_in f st) st.counter s in
      piece-given (key_in f st) st.counter 2 s 0 room (length_answer f n) p.0 ∙ length-allowed f n p.1.0 ∙ ap Ok (sym p.1.1)
  turn-given (Payload n) st s room c p =
      let good = Ok (record { used = n + 16; length = n }) in
      ap (λ (b : Bool). cond b (Err Settings) (piece_answer (key_in f st) st.counter n s n room good)) (allowed f n p.1.0)
      ∙ piece-given (key_in f st) st.counter n s n room good p.0 ∙ ap Ok (sym p.1.1)
  turn-given Ended st s room c p = absurd p
  turn-given (Variable n) st s room c p = absurd p

written : (turn : Turn) (key : Keyed) (counter : ℕ) (s out : List ℕ) (c : Chunk)
    → written_by (Ok c) turn (open_at key counter (payload_piece turn s)) out ≡ turn_text key counter turn s out
written Length key counter s out c = refl
written (Payload n) key counter s out c = refl
written Ended key counter s out c = refl
written (Variable n) key counter s out c = refl

module _ (f : Framing) (st : Receiver) (s : List ℕ) (room : ℕ) (c : Chunk) where
  pub step-tells : step_answer f st s room ≡ Ok c → StepOpens f st s room c
  unfolding step_answer
  step-tells e =
      let e₁ = denied (eqb f.key 0) _ _ c e in
      record { known = eqb-false f.key 0 e₁.test; opens = turn-tells f st.turn st s room c e₁.then }

  pub step_given : StepOpens f st s room c → step_answer f st s room ≡ Ok c
  unfolding step_answer
  step_given p =
      (λ i. cond (ne_eqb f.key 0 p.known i) (Err Settings) (turn_answer f st.turn st s room))
      ∙ turn-given f st.turn st s room c p.opens

pub step-text : (f : Framing) (st : Receiver) (s out : List ℕ) (c : Chunk) → step_answer f st s (length out) ≡ Ok c
    → step_out f st s out ≡ turn_text (key_in f st) st.counter st.turn s out
unfolding step_out
step-text f st s out c e =
    ap (λ (a : Result Chunk Refusal). written_by a st.turn (open_at (key_in f st) st.counter (payload_piece st.turn s)) out) e
    ∙ written st.turn (key_in f st) st.counter s out c

pub step-exactly-when : (edition : Edition) → StepExactlyWhen edition
step-exactly-when edition st s out c =
    let f = edition st.method in
    record { only-when = step-tells f st s (length out) c; always-when = step_given f st s (length out) c; opened-text = step-text f st s out c }

-- ---- a length that is refused

-- a refusal that is no piece's own, and not 1
record OwnRefusal (r : Refusal) : Type 0 where
  is : Result Chunk Refusal → ℕ
  own : Refusal → ℕ
  by-own : (q : Refusal) → is (Err q) ≡ own q
  not-opened-so : (c : Chunk) → is (Ok c) ≡ 0
  itself : own r ≡ 1
  not-counter : own Counter ≡ 0
  not-room : own Room ≡ 0
  not-forged : own NotAuthentic ≡ 0
  not_more : (n : ℕ) → own (More n) ≡ 0
  not-settings : own Settings ≡ 0

abbrev numbered : ℕ → Refusal → ℕ
numbered k r = cond (eqb (refusal_number r) k) 1 0

abbrev refused_by : ℕ → Result Chunk Refusal → ℕ
refused_by k (Ok c) = 0
refused_by k (Err r) = numbered k r

empty-own : OwnRefusal Empty
empty-own =
    record {
      is = refused_by 14;
      own = numbered 14;
      by-own = λ q. refl;
      not-opened-so = λ c. refl;
      itself = refl;
      not-counter = refl;
      not-room = refl;
      not-forged = refl;
      not_more = λ n. refl;
      not-settings = refl;
    }

malformed-own : OwnRefusal Malformed
malformed-own =
    record {
      is = refused_by 5;
      own = numbered 5;
      by-own = λ q. refl;
      not-opened-so = λ c. refl;
      itself = refl;
      not-counter = refl;
      not-room = refl;
      not-forged = refl;
      not_more = λ n. refl;
      not-settings = refl;
    }

module _ (r : Refusal) (d : OwnRefusal r) where
  other : (x : Result Chunk Refusal) → d.is x ≡ 0 → x ≡ Err r → ⊥
  other x o e = let z : ◌≡◌ {A = ℕ} 0 1 = sym o ∙ ap d.is e ∙ d.by-own r ∙ d.itself in omega arith

  other-refusal : (q : Refusal) → d.own q ≡ 0 → ◌≡◌ {A = Result Chunk Refusal} (Err q) (Err r) → ⊥
  other-refusal q o e = other (Err q) (d.by-own q ∙ o) e

  -- where a piece's answer is that refusal, the piece opens, and what is good then is the refusal
  module _ (key : Keyed) (counter n : ℕ) (s : List ℕ) (asked room : ℕ) (good : Result Chunk Refusal) (e : piece_answer key counter n s asked room good ≡ Err r) where
    piece_is : PieceOpens key counter n s asked room
    piece_is =
        piece-passed key counter n s asked room good d.own d.is d.by-own d.not-counter d.not-room d.not-forged
        (d.not_more (n + 16)) (ap d.is e ∙ d.by-own r ∙ d.itself)

    good-is : good ≡ Err r
    good-is = sym (piece-given key counter n s asked room good piece_is) ∙ e

  module _ (f : Framing) (st : Receiver) (s : List ℕ) (room : ℕ) where
    payload-not : (n : ℕ) → turn_answer f (Payload n) st s room ≡ Err r → ⊥
    payload-not n e = go (unframed f n) e
      where
        go : (b : Bool) → cond b (Err Settings)
            (piece_answer (key_in f st) st.counter n s n room (Ok (record { used = n + 16; length = n })))
            ≡ Err r → ⊥
        go true h = other-refusal Settings d.not-settings h
        go false h = other _ (d.not-opened-so _) (good-is (key_in f st) st.counter n s n room _ h)

    -- a step that is refused so has read a length, and the length is refused so
    length-refused : step_answer f st s room ≡ Err r → (n : ℕ) × (ReadsLength f st s room n × (length_answer f n ≡ Err r))
    unfolding step_answer length_read
    length-refused e = go (eqb f.key 0) st.turn refl refl e
      where
        go : (b : Bool) (t : Turn) → eqb f.key 0 ≡ b → st.turn ≡ t → cond b (Err Settings) (turn_answer f t st s room) ≡ Err r
            → (n : ℕ) × (ReadsLength f st s room n × (length_answer f n ≡ Err r))
        go true t eb et h = absurd (other-refusal Settings d.not-settings h)
        go false Length eb et h = (
          length_read (key_in f st) st.counter s,
          (
            record {
              known = eqb-false f.key 0 eb;
              at_length = et;
              opens = piece_is (key_in f st) st.counter 2 s 0 room _ h;
              says = refl;
            },
            good-is (key_in f st) st.counter 2 s 0 room _ h,
          ),
        )
        go false (Payload n) eb et h = absurd (payload-not n h)
        go false Ended eb et h = absurd (other-refusal NotAuthentic d.not-forged h)
        go false (Variable n) eb et h = absurd (other-refusal Settings d.not-settings h)

-- what a length that was read is answered
reads-length : (f : Framing) (st : Receiver) (s : List ℕ) (room n : ℕ) → ReadsLength f st s room n → step_answer f st s room ≡ length_answer f n
unfolding step_answer length_read
reads-length f st s room n d =
    (λ i. cond (ne_eqb f.key 0 d.known i) (Err Settings) (turn_answer f (d.at_length i) st s room))
    ∙ piece-given (key_in f st) st.counter 2 s 0 room (length_answer f (length_read (key_in f st) st.counter s)) d.opens
    ∙ ap (length_answer f) (sym d.says)

module _ (f : Framing) (n : ℕ) where
  under-only : length_answer f n ≡ Err Empty → n < f.least
  unfolding empty-own
  under-only e = go (under f n) (over f n) refl e
    where
      go : (a b : Bool) → under f n ≡ a
          → cond {A = Result Chunk Refusal} a (Err Empty) (cond b (Err Malformed) (Ok (record { used = 18; length = n }))) ≡ Err Empty → n < f.least
      go true b ea h = ltb-true n f.least ea
      go false true ea h = absurd (other-refusal Empty empty-own Malformed refl h)
      go false false ea h = absurd (other Empty empty-own _ refl h)

  over-only : length_answer f n ≡ Err Malformed → (f.least ≤ n) × (over f n ≡ true)
  unfolding malformed-own
  over-only e = go (under f n) (over f n) refl refl e
    where
      go : (a b : Bool) → under f n ≡ a → over f n ≡ b
          → cond {A = Result Chunk Refusal} a (Err Empty) (cond b (Err Malformed) (Ok (record { used = 18; length = n }))) ≡ Err Malformed
          → (f.least ≤ n) × (over f n ≡ true)
      go true b ea eb h = absurd (other-refusal Malformed malformed-own Empty refl h)
      go false true ea eb h = (ltb-false n f.least ea, eb)
      go false false ea eb h = absurd (other Malformed malformed-own _ refl h)

module _ (f : Framing) (st : Receiver) (s : List ℕ) (room : ℕ) where
  under-when : (step_answer f st s room ≡ Err Empty) ↔ ((n : ℕ) × (ReadsLength f st s room n × (n < f.least)))
  under-when = (
    λ e. let d = length-refused Empty empty-own f st s room e in (d.0, (d.1.0, under-only f d.0 d.1.1)),
    λ d. reads-length f st s room d.0 d.1.0
        ∙ (λ i. cond (lt-ltb d.0 f.least d.1.1 i) (Err Empty)
        (cond (over f d.0) (Err Malformed) (Ok (record { used = 18; length = d.0 })))),
  )

  over-when : (step_answer f st s room ≡ Err Malformed)
      ↔ ((n : ℕ) × (ReadsLength f st s room n × ((f.least ≤ n) × (over f n ≡ true))))
  over-when = (
    λ e. let d = length-refused Malformed malformed-own f st s room e in (d.0, (d.1.0, over-only f d.0 d.1.1)),
    λ d. reads-length f st s room d.0 d.1.0
        ∙ (λ i. cond (le-ltb d.0 f.least d.1.1.0 i) (Err Empty)
        (cond (d.1.1.1 i) (Err Malformed) (Ok (record { used = 18; length = d.0 })))),
  )

pub under-exactly-when : (edition : Edition) → UnderExactlyWhen edition
under-exactly-when edition st s room = under-when (edition st.method) st s room

pub over-exactly-when : (edition : Edition) → OverExactlyWhen edition
over-exactly-when edition st s room = over-when (edition st.method) st s room

-- ---- nonces

pub nonce-258 : nonce 258 ≡ 2 ∷ 1 ∷ 0 ∷ 0 ∷ 0 ∷ 0 ∷ 0 ∷ 0 ∷ 0 ∷ 0 ∷ 0 ∷ 0 ∷ []
unfolding nonce to_le
nonce-258 = refl

small : (x : ℕ) → x < 2 ^ 64 → x < 256 ^ 12
small x h = omega arith

pub nonce-injective : NoncesDiffer
unfolding nonce
nonce-injective a b ha hb e =
    sym (le-to_le 12 a ∙ mod-eq_of_lt (small a ha)) ∙ ap (le 12) e ∙ le-to_le 12 b ∙ mod-eq_of_lt (small b hb)

-- ---- the counter of a step

module _ (edition : Edition) where
  moves-on : (w : Flow) (c : Chunk) → answer_to edition w ≡ Ok c → (stepped edition w).stream.counter ≡ w.stream.counter + 1
  moves-on w c e = ap (λ (a : Result Chunk Refusal). (step_next w.stream a).counter) e

  keeps-method : (w : Flow) (c : Chunk) → answer_to edition w ≡ Ok c → (stepped edition w).stream.method ≡ w.stream.method
  keeps-method w c e = ap (λ (a : Result Chunk Refusal). (step_next w.stream a).method) e

  keeps-subkey : (w : Flow) (c : Chunk) → answer_to edition w ≡ Ok c → (stepped edition w).stream.subkey ≡ w.stream.subkey
  keeps-subkey w c e = ap (λ (a : Result Chunk Refusal). (step_next w.stream a).subkey) e

  counts : (k : ℕ) (w : Flow) → AllOpened edition k w → (after edition k w).stream.counter ≡ w.stream.counter + k
  counts zero w o = sym (add-zero w.stream.counter)
  counts (suc k) w o = counts k (stepped edition w) o.1 ∙ ap (λ (n : ℕ). n + k) (moves-on w o.0.0 o.0.1) ∙ omega arith

  same-method : (k : ℕ) (w : Flow) → AllOpened edition k w → (after edition k w).stream.method ≡ w.stream.method
  same-method zero w o = refl
  same-method (suc k) w o = same-method k (stepped edition w) o.1 ∙ keeps-method w o.0.0 o.0.1

  same-subkey : (k : ℕ) (w : Flow) → AllOpened edition k w → (after edition k w).stream.subkey ≡ w.stream.subkey
  same-subkey zero w o = refl
  same-subkey (suc k) w o = same-subkey k (stepped edition w) o.1 ∙ keeps-subkey w o.0.0 o.0.1

  pub own-nonce : OwnNonces edition
  unfolding answer_to written_in
  own-nonce k w o =
      let g = after edition k w in
      let em = same-method k w o in
      let ew = same-subkey k w o in
      let en = counts k w o in
      let f = edition w.stream.method in
      let ek : key_in f g.stream ≡ key_in f w.stream = ap (λ (x : Subkey). keyed f.cipher (key_of x f.key)) ew in
      let here = edition g.stream.method in
      record {
        counts = en;
        same-method = em;
        same_key = ek;
        opens-there = λ c e. subst (λ (x : Keyed). TurnOpens f x (w.stream.counter + k) g.stream.turn g.bytes (length g.buffer) c) ek
            (subst (λ (n : ℕ). TurnOpens f (key_in f g.stream) n g.stream.turn g.bytes (length g.buffer) c) en
            (subst (λ (m : ℕ). TurnOpens (edition m) (key_in (edition m) g.stream) g.stream.counter g.stream.turn g.bytes (length g.buffer) c) em
            (step-tells here g.stream g.bytes (length g.buffer) c e).opens));
        text-there = λ c e. step-text here g.stream g.bytes g.buffer c e
            ∙ ap (λ (m : ℕ). turn_text (key_in (edition m) g.stream) g.stream.counter g.stream.turn g.bytes g.buffer) em
            ∙ ap₂ (λ (x : Keyed) (n : ℕ). turn_text x n g.stream.turn g.bytes g.buffer) ek en;
      }
