-- The calls that open a piece of a stream: a request's variable header, and the chunks of both editions.
-- Assumes nothing.
use Rattle.std.specs.Prelude.{Err, None, Ok, Option, Result, Some}
use mathlib.Core.Path.{◌≡◌, refl, sym, ap, ◌∙◌, subst}
use mathlib.Core.Logic.{◌≢◌}
use mathlib.Core.Bool.{Bool, true, false, cond, ◌||◌, or-false, true≢false, and-eq-true_iff}
use mathlib.Core.List.{List, [], ◌∷◌}
use Prim.Native.Nat.{ℕ, ◌+◌, ◌%◌, ◌≤◌}
use native.Mathlib.Omega.{arith}
use lib.Dec.{eqb, leb}
use lib.ListN.{length, set, take, drop, replicate}
use borrow.Author.Tests.{leb-true, eqb-true, eqb-false, ne_eqb}
use Rattle.octets.specs.Buffers.{put}
use Rattle.protocol.specs.Orders.{among}
use Rattle.protocol.specs.Method.{key_length, cipher_of}
use Rattle.protocol.specs.declared.Refusal.{Refusal}
use Rattle.protocol.specs.declared.Refusal.TheVariants.{Settings, Length as TooLong, Room, NotAuthentic, Malformed, WrongType, WrongTime, Replay, Full, More, Counter, Argument, Binding, Empty, UnknownSetting}
use Rattle.protocol.specs.Refusal.{refusal_number, ends_stream}
use Rattle.socks5.specs.Address.{parse_at}
use Rattle.stream_pieces.specs.Pieces.{authentic_at, open_at, key_of, Keyed, keyed, max_chunk, last_counter}
use Rattle.stream_pieces.specs.declared.Framing.{Framing}
use Rattle.stream_pieces.specs.Framing.{under, over, unframed, framing_of}
use Rattle.stream_open.specs.declared.Turn.TheVariants.{Variable, Length, Payload, Ended}
use Rattle.stream_open.specs.declared.Receiver.{Receiver}
use Rattle.stream_open.specs.Steps.{piece_answer, length_read, length_answer, key_in, turn_answer, step_answer, step_out}
use Rattle.stream_open_variable.specs.Variable.{header_with, read_variable, padding_fits, variable_piece, header_answer, turn_variable, variable_answer, variable_out}
use Rattle.stream_chunks.specs.Keeps.{StepKeeps, due_at as step_due}
use Rattle.words.specs.Answers.{refused_answer}
use Rattle.words.specs.States.{turn_lawful, receiver_lawful, receiver_in, method_in}
use Rattle.stream_answers.specs.Chunks as chunks
use Rattle.stream_answers.specs.Chunks.{AfterChunk}
use Rattle.relay.specs.Streams as heads
use Rattle.demands.specs.StreamsKeep.{due_variable, VariableKeeps}
use Rattle.demands.proofs.StreamDemands.{streams-demand1}
use Rattle.sip004_stream.specs.Streams as streams2017
use Rattle.sip004_demands.proofs.Sip004.{sip004-keeps}
use Rattle.sip004_demands.proofs.FramingLaws.{none-under}
use Rattle.guarantees.specs.Calls.{Lent, at, piece, due_at, opens_piece, step, relay_stream_open_variable, relay_stream_open_chunk, relay_sip004_stream_open_chunk}
use Rattle.guarantees.specs.Guarantees.{Ends}
use Rattle.guarantees.proofs.Base.{either, never, unlisted}
use Rattle.guarantees.proofs.Heads.{Fact, early, late, missing, told-kept, told-wanted, none-due}
use Rattle.stream_open_variable.specs.declared.VariableHeader.{VariableHeader}
use Rattle.socks5.specs.declared.Address.{Address}
use Rattle.stream_open.specs.declared.Chunk.{Chunk}

-- ---- words of a stream

small : (n : ℕ) → leb n max_chunk ≡ true → n % 65536 ≡ n
small n e = let l = leb-true n max_chunk e in omega (arith, l)

-- the turn by the tests of its number
module _ (t n : ℕ) (l : turn_lawful t n ≡ true) where
  pub at-2 : eqb t 2 ≡ true → n % 65536 ≡ n
  at-2 e = small n (sym (ap (λ (b : Bool). cond b (leb n max_chunk) (cond (eqb t 4) (leb n max_chunk) (leb t 1))) e) ∙ l)

  pub at-4 : eqb t 4 ≡ true → n % 65536 ≡ n
  at-4 e =
      let z = eqb-true t 4 e in
      let f : eqb t 2 ≡ false = ne_eqb t 2 (λ g. omega (arith, z, g)) in
      small n (sym (λ i. cond (f i) (leb n max_chunk) (cond (e i) (leb n max_chunk) (leb t 1))) ∙ l)

-- two numbers are no one
apart : (t a b : ℕ) → eqb t a ≡ true → (a ≡ b → ⊥) → eqb t b ≡ false
apart t a b e n = ne_eqb t b (λ g. n (sym (eqb-true t a e) ∙ g))

-- ---- a variable header

abbrev variable_ns : List ℕ
variable_ns = 1 ∷ 4 ∷ 10 ∷ 3 ∷ 5 ∷ []

abbrev pub key_of_words : List ℕ → Keyed
key_of_words w = keyed (cipher_of (at w 1)) (key_of (receiver_in w).subkey (key_length (at w 1)))

module _ (w s out : List ℕ) (lawful : receiver_lawful w ≡ true) where
  abbrev st : Receiver
  st = receiver_in w

  abbrev key : Keyed
  key = key_of_words w

  abbrev tag : Bool
  tag = authentic_at key (at w 2) (take (piece w + 16) s)

  lawful-turn : turn_lawful (at w 0) (at w 3) ≡ true
  lawful-turn = ((and-eq-true_iff (eqb (length w) 8) _).0 lawful).1

  abbrev Heads : Result VariableHeader Refusal → Type 0
  Heads (Ok h) = Unit {0}
  Heads (Err r) = Fact variable_ns (5 ∷ []) (4 ∷ 5 ∷ []) tag (piece w + 16) r

  plainly : (r : Refusal) → among (0 ∷ variable_ns) (refusal_number r) ≡ true → among (5 ∷ []) (refusal_number r) ≡ false → refusal_number r ≢ 10
      → ends_stream r ≡ among (4 ∷ 5 ∷ []) (refusal_number r) → Heads (Err r)
  plainly r = early variable_ns (5 ∷ []) (4 ∷ 5 ∷ []) tag (piece w + 16) r

  module _ (k : ℕ) (ek : k ≡ piece w) (ec : at w 2 ≡ 1) where
    -- the piece's tag is the verdict
    pub verdict : authentic_at key 1 (variable_piece k s) ≡ tag
    verdict = λ i. authentic_at key (sym ec i) (take (ek i + 16) s)

    by-parsed : tag ≡ true → (plain : List ℕ) (p : Option Address) → Heads (header_with k plain p)
    by-parsed t plain (Some a) =
        either Heads (padding_fits a.end plain) _ (Err Malformed) (λ e. _) (λ e. late variable_ns (5 ∷ []) (4 ∷ 5 ∷ []) tag (piece w + 16) Malformed refl t (λ g. omega (arith, g)) refl)
    by-parsed t plain None = late variable_ns (5 ∷ []) (4 ∷ 5 ∷ []) tag (piece w + 16) Malformed refl t (λ g. omega (arith, g)) refl

    by-piece : Heads (header_answer key k s (length out))
    unfolding header_answer read_variable
    by-piece =
        let plain = open_at key 1 (variable_piece k s) in
        let x = cond (authentic_at key 1 (variable_piece k s)) (header_with k plain (parse_at plain 0)) (Err NotAuthentic) in
        either Heads (leb (k + 16) (length s)) (cond (leb k (length out)) x (Err Room)) (Err (More (k + 16)))
        (λ e. either Heads (leb k (length out)) x (Err Room)
        (λ f. either Heads (authentic_at key 1 (variable_piece k s)) (header_with k plain (parse_at plain 0)) (Err NotAuthentic)
        (λ g. by-parsed (sym verdict ∙ g) plain (parse_at plain 0)) (λ g. plainly NotAuthentic refl refl (λ h. omega (arith, h)) refl))
        (λ f. plainly Room refl refl (λ h. omega (arith, h)) refl))
        (λ e. missing variable_ns (5 ∷ []) (4 ∷ 5 ∷ []) tag (piece w + 16) (k + 16) refl refl refl (ap (λ (j : ℕ). j + 16) ek))

  settings : Heads (Err Settings)
  settings = plainly Settings refl refl (λ h. omega (arith, h)) refl

  by_turn : (a b c : Bool) → eqb (at w 0) 1 ≡ a → eqb (at w 0) 2 ≡ b → eqb (at w 0) 4 ≡ c
      → Heads (turn_variable (cond a Length (cond b (Payload (at w 3 % 65536)) (cond c (Variable (at w 3 % 65536)) Ended))) st s (length out))
  by_turn true b c ea eb ec = settings
  by_turn false true c ea eb ec = settings
  by_turn false false true ea eb ec =
      either Heads (eqb (at w 2) 1) (header_answer key (at w 3 % 65536) s (length out)) (Err Settings)
      (λ e. by-piece (at w 3 % 65536) (at-4 (at w 0) (at w 3) lawful-turn ec ∙ sym (ap (λ (x : Bool). cond x 2 (at w 3)) ea)) (eqb-true (at w 2) 1 e))
      (λ e. settings)
  by_turn false false false ea eb ec = plainly NotAuthentic refl refl (λ h. omega (arith, h)) refl

  variable-known : Heads (variable_answer st s (length out))
  unfolding variable_answer
  variable-known =
      either Heads (eqb (key_length (at w 1)) 0) (Err Settings) (turn_variable st.turn st s (length out)) (λ e. settings)
      (λ e. by_turn (eqb (at w 0) 1) (eqb (at w 0) 2) (eqb (at w 0) 4) refl refl refl)

  -- what is due
  due-variable : due_variable st.turn ≡ due_at 4 w
  due-variable = go (eqb (at w 0) 1) (eqb (at w 0) 2) (eqb (at w 0) 4) refl refl refl
    where
      go : (a b c : Bool) → eqb (at w 0) 1 ≡ a → eqb (at w 0) 2 ≡ b → eqb (at w 0) 4 ≡ c
          → due_variable (cond a Length (cond b (Payload (at w 3 % 65536)) (cond c (Variable (at w 3 % 65536)) Ended))) ≡ cond c (at w 3) 0
      go true b true ea eb ec = absurd (true≢false (sym ec ∙ apart (at w 0) 1 4 ea (λ g. omega (arith, g))))
      go true b false ea eb ec = refl
      go false true true ea eb ec = absurd (true≢false (sym ec ∙ apart (at w 0) 2 4 eb (λ g. omega (arith, g))))
      go false true false ea eb ec = refl
      go false false true ea eb ec = at-4 (at w 0) (at w 3) lawful-turn ec
      go false false false ea eb ec = refl

-- ---- chunks, framed as an edition frames them

module _ (f : Framing) (ns behind : List ℕ) (has_1 : among (0 ∷ ns) 1 ≡ true) (has-3 : among (0 ∷ ns) 3 ≡ true) (has-4 : among (0 ∷ ns) 4 ≡ true)
    (has-10 : among (0 ∷ ns) 10 ≡ true) (has-11 : among (0 ∷ ns) 11 ≡ true)
    (no-1 : among behind 1 ≡ false) (no-3 : among behind 3 ≡ false) (no-4 : among behind 4 ≡ false) (no-10 : among behind 10 ≡ false) (no-11 : among behind 11 ≡ false)
    (w s out : List ℕ) (lawful : receiver_lawful w ≡ true) where
  abbrev state : Receiver
  state = receiver_in w

  abbrev piece_key : Keyed
  piece_key = key_in f state

  abbrev piece_tag : Bool
  piece_tag = authentic_at piece_key (at w 2) (take (piece w + 16) s)

  -- behind the tag, at a length's turn, nothing is due
  pub record StepFact (r : Refusal) : Type 0 where
    pub fact : Fact ns behind (4 ∷ behind) piece_tag (piece w + 16) r
    pub none-is-due : among behind (refusal_number r) ≡ true → due_at 2 w ≡ 0

  abbrev Steps : Result Chunk Refusal → Type 0
  Steps (Ok c) = Unit {0}
  Steps (Err r) = StepFact r

  before : (r : Refusal) → among (0 ∷ ns) (refusal_number r) ≡ true → among behind (refusal_number r) ≡ false → refusal_number r ≢ 10
      → ends_stream r ≡ eqb (refusal_number r) 4 → Steps (Err r)
  before r l e n g = record {
    fact = early ns behind (4 ∷ behind) piece_tag (piece w + 16) r l e n (g ∙ sym (ap (◌||◌ (eqb (refusal_number r) 4)) e ∙ or-false (eqb (refusal_number r) 4)));
    none-is-due = λ h. absurd (true≢false (sym h ∙ e));
  }

  module _ (has-14 : (n : ℕ) → under f n ≡ true → (among (0 ∷ ns) 14 ≡ true) × (among behind 14 ≡ true))
      (has-5 : (n : ℕ) → over f n ≡ true → (among (0 ∷ ns) 5 ≡ true) × (among behind 5 ≡ true)) where
    module _ (k asked : ℕ) (ek : k ≡ piece w) (good : Result Chunk Refusal) (good-so : piece_tag ≡ true → Steps good) where
      opens-piece : Steps (piece_answer piece_key (at w 2) k s asked (length out) good)
      unfolding piece_answer
      opens-piece =
          let x = cond (authentic_at piece_key (at w 2) (take (k + 16) s)) good (Err NotAuthentic) in
          let e16 : k + 16 ≡ piece w + 16 = ap (λ (j : ℕ). j + 16) ek in
          either Steps (eqb (at w 2) last_counter) (Err Counter)
          (cond (leb (k + 16) (length s)) (cond (leb asked (length out)) x (Err Room)) (Err (More (k + 16))))
          (λ e. before Counter has-11 no-11 (λ h. omega (arith, h)) refl)
          (λ e. either Steps (leb (k + 16) (length s)) (cond (leb asked (length out)) x (Err Room)) (Err (More (k + 16)))
          (λ g. either Steps (leb asked (length out)) x (Err Room)
          (λ h. either Steps (authentic_at piece_key (at w 2) (take (k + 16) s)) good (Err NotAuthentic)
          (λ i. good-so (ap (λ (j : ℕ). authentic_at piece_key (at w 2) (take j s)) (sym e16) ∙ i)) (λ i. before NotAuthentic has-4 no-4 (λ j. omega (arith, j)) refl))
          (λ h. before Room has-3 no-3 (λ i. omega (arith, i)) refl))
          (λ g. record {
            fact = missing ns behind (4 ∷ behind) piece_tag (piece w + 16) (k + 16) has-10 no-10 no-10 e16;
            none-is-due = λ h. absurd (true≢false (sym h ∙ no-10));
          }))

    by_length : due_at 2 w ≡ 0 → piece_tag ≡ true → (n : ℕ) → Steps (length_answer f n)
    by_length d t n =
        either Steps (under f n) (Err Empty) _
        (λ e. record {
          fact = late ns behind (4 ∷ behind) piece_tag (piece w + 16) Empty (has-14 n e).0 t (λ h. omega (arith, h)) (sym (has-14 n e).1);
          none-is-due = λ h. d;
        })
        (λ e. either Steps (over f n) (Err Malformed) _
        (λ g. record {
          fact = late ns behind (4 ∷ behind) piece_tag (piece w + 16) Malformed (has-5 n g).0 t (λ h. omega (arith, h)) (sym (has-5 n g).1);
          none-is-due = λ h. d;
        })
        (λ g. _))

    step-by-turn : (a b c : Bool) → eqb (at w 0) 1 ≡ a → eqb (at w 0) 2 ≡ b → eqb (at w 0) 4 ≡ c
        → Steps (turn_answer f (cond a Length (cond b (Payload (at w 3 % 65536)) (cond c (Variable (at w 3 % 65536)) Ended))) state s (length out))
    step-by-turn true b c ea eb ec =
        let d : due_at 2 w ≡ 0 = ap (λ (x : Bool). cond x (at w 3) 0) (apart (at w 0) 1 2 ea (λ g. omega (arith, g))) in
        opens-piece 2 0 (sym (ap (λ (x : Bool). cond x 2 (at w 3)) ea)) (length_answer f (length_read piece_key (at w 2) s))
        (λ t. by_length d t (length_read piece_key (at w 2) s))
    step-by-turn false true c ea eb ec =
        let k = at w 3 % 65536 in
        either Steps (unframed f k) (Err Settings) _ (λ e. before Settings has_1 no-1 (λ h. omega (arith, h)) refl)
        (λ e. opens-piece k k (at-2 (at w 0) (at w 3) turn-lawful eb ∙ sym (ap (λ (x : Bool). cond x 2 (at w 3)) ea)) _ (λ t. _))
      where
        turn-lawful : turn_lawful (at w 0) (at w 3) ≡ true
        turn-lawful = ((and-eq-true_iff (eqb (length w) 8) _).0 lawful).1
    step-by-turn false false true ea eb ec = before Settings has_1 no-1 (λ h. omega (arith, h)) refl
    step-by-turn false false false ea eb ec = before NotAuthentic has-4 no-4 (λ h. omega (arith, h)) refl

    step-known : Steps (step_answer f state s (length out))
    unfolding step_answer
    step-known =
        either Steps (eqb f.key 0) (Err Settings) (turn_answer f state.turn state s (length out))
        (λ e. before Settings has_1 no-1 (λ h. omega (arith, h)) refl)
        (λ e. step-by-turn (eqb (at w 0) 1) (eqb (at w 0) 2) (eqb (at w 0) 4) refl refl refl)

  due-step : step_due state.turn ≡ due_at 2 w
  due-step = go (eqb (at w 0) 1) (eqb (at w 0) 2) (eqb (at w 0) 4) refl refl
    where
      turn-lawful : turn_lawful (at w 0) (at w 3) ≡ true
      turn-lawful = ((and-eq-true_iff (eqb (length w) 8) _).0 lawful).1

      go : (a b c : Bool) → eqb (at w 0) 1 ≡ a → eqb (at w 0) 2 ≡ b
          → step_due (cond a Length (cond b (Payload (at w 3 % 65536)) (cond c (Variable (at w 3 % 65536)) Ended))) ≡ cond b (at w 3) 0
      go true true c ea eb = absurd (true≢false (sym eb ∙ apart (at w 0) 1 2 ea (λ g. omega (arith, g))))
      go true false c ea eb = refl
      go false true c ea eb = at-2 (at w 0) (at w 3) turn-lawful eb
      go false false true ea eb = refl
      go false false false ea eb = refl

-- ---- the exported calls

-- the one refusal of number 5
five : (r : Refusal) → refusal_number r ≡ 5 → r ≡ Malformed
five Malformed e = refl
five Settings e = absurd (omega (arith, e))
five TooLong e = absurd (omega (arith, e))
five Room e = absurd (omega (arith, e))
five NotAuthentic e = absurd (omega (arith, e))
five WrongType e = absurd (omega (arith, e))
five WrongTime e = absurd (omega (arith, e))
five Replay e = absurd (omega (arith, e))
five Full e = absurd (omega (arith, e))
five (More n) e = absurd (omega (arith, e))
five Counter e = absurd (omega (arith, e))
five Argument e = absurd (omega (arith, e))
five Binding e = absurd (omega (arith, e))
five Empty e = absurd (omega (arith, e))
five (UnknownSetting n) e = absurd (omega (arith, e))

module _ (m : Lent) (s : List ℕ) (k : Keyed) (d : ℕ) (ns behind : List ℕ) (has_1 : among (0 ∷ ns) 1 ≡ true) (no-15 : among (0 ∷ ns) 15 ≡ false)
    (no-1 : among behind 1 ≡ false) where
  abbrev verdict_of : Bool
  verdict_of = authentic_at k (at m.stream 2) (take (piece m.stream + 16) s)

  abbrev Leaves : AfterChunk → Type 0
  Leaves y = Ends m (opens_piece y m s k d ns behind)

  -- what is opened leaves the bytes past the due ones
  opened-so : (o w a : List ℕ) → drop d o ≡ drop d m.out → length o ≡ length m.out → Leaves (record { number = 0; out = o; stream = w; answer = a })
  opened-so o w a e l = record { listed = refl; refused = λ z. never z; past-due-kept = e; length-kept = l }

  refused-so : (r : Refusal) → Fact ns behind (4 ∷ behind) verdict_of (piece m.stream + 16) r → (o : List ℕ)
      → o ≡ cond (among behind (refusal_number r)) (put m.out 0 (replicate d 0)) m.out → (among behind (refusal_number r) ≡ true → d ≤ length m.out)
      → drop d o ≡ drop d m.out → length o ≡ length m.out
      → Leaves (record {
        number = refusal_number r;
        out = o;
        stream = cond (ends_stream r) (set m.stream 0 0) m.stream;
        answer = refused_answer r m.answer;
      })
  refused-so r f o eo room e l = record {
    listed = f.listed;
    refused = λ z. record {
      table_kept = λ g. refl;
      repeat-counted = λ g. refl;
      pool-kept = refl;
      session-kept = refl;
      words-kept = refl;
      stream-left = ap (λ (b : Bool). cond b (set m.stream 0 0) m.stream) f.ends_so;
      out-left = eo;
      behind-tag = λ g. (f.behind-tag g, room g);
      answer-kept = λ g h. told-kept r m.answer g h;
      wanted-told = λ g. told-wanted r m.answer g ∙ ap (set m.answer 0) (f.wanted-so g);
      setting-told = λ g. absurd (unlisted ns (refusal_number r) 15 f.listed no-15 g);
    };
    past-due-kept = e;
    length-kept = l;
  }

  unopened : Leaves (record { number = 1; out = m.out; stream = m.stream; answer = m.answer })
  unopened = record {
    listed = has_1;
    refused = λ z. record {
      table_kept = λ g. refl;
      repeat-counted = λ g. refl;
      pool-kept = refl;
      session-kept = refl;
      words-kept = refl;
      stream-left = sym (ap (λ (b : Bool). cond b (set m.stream 0 0) m.stream) no-1);
      out-left = sym (ap (λ (b : Bool). cond b (put m.out 0 (replicate d 0)) m.out) no-1);
      behind-tag = λ g. absurd (true≢false (sym g ∙ no-1));
      answer-kept = λ g h. refl;
      wanted-told = λ g. absurd (omega (arith, g));
      setting-told = λ g. absurd (omega (arith, g));
    };
    past-due-kept = refl;
    length-kept = refl;
  }

-- a refusal by its number: 5 or another
by-five : {A : Type 0} (n : ℕ) → (n ≡ 5 → A) → (n ≢ 5 → A) → A
by-five {A} n f g = go (eqb n 5) refl
  where
    go : (b : Bool) → eqb n 5 ≡ b → A
    go true e = f (eqb-true n 5 e)
    go false e = g (eqb-false n 5 e)

module _ (m : Lent) (s : List ℕ) where
  abbrev w : List ℕ
  w = m.stream

  abbrev variable_answered : Result VariableHeader Refusal
  variable_answered = variable_answer (receiver_in w) s (length m.out)

  abbrev VariableLeaves : AfterChunk → Type 0
  VariableLeaves y = Leaves m s (key_of_words w) (due_at 4 w) variable_ns (5 ∷ []) refl refl refl y

  module _ (l : receiver_lawful w ≡ true) where
    keeps : VariableKeeps (receiver_in w) s m.out
    keeps = streams-demand1.variable-headers (receiver_in w) s m.out

    abbrev left : List ℕ
    left = variable_out (receiver_in w) s m.out

    past : drop (due_at 4 w) left ≡ drop (due_at 4 w) m.out
    past = let d = due-variable w s m.out l in
        sym (ap (λ (k : ℕ). drop k left) d) ∙ keeps.past-due-kept ∙ ap (λ (k : ℕ). drop k m.out) d

    by-variable : (x : Result VariableHeader Refusal) → variable_answered ≡ x → Heads w s m.out l x
        → VariableLeaves (heads.variable_left x (receiver_in w) s m.out w m.answer)
    by-variable (Ok h) e k = opened-so m s (key_of_words w) (due_at 4 w) variable_ns (5 ∷ []) refl refl refl left _ _ past keeps.length-kept
    by-variable (Err r) e k =
        refused-so m s (key_of_words w) (due_at 4 w) variable_ns (5 ∷ []) refl refl refl r k left
        (by-five (refusal_number r)
        (λ f. (cleared-out f).1 ∙ sym (ap (λ (n : ℕ). cond (among (5 ∷ []) n) (put m.out 0 (replicate (due_at 4 w) 0)) m.out) f))
        (λ f. keeps.untouched r e f ∙ sym (ap (λ (b : Bool). cond (b || false) (put m.out 0 (replicate (due_at 4 w) 0)) m.out) (ne_eqb (refusal_number r) 5 f))))
        (λ g. by-five (refusal_number r) (λ f. (cleared-out f).0)
        (λ f. absurd (true≢false (sym g ∙ ap (λ (b : Bool). b || false) (ne_eqb (refusal_number r) 5 f))))) past keeps.length-kept
      where
        cleared-out : refusal_number r ≡ 5 → (due_at 4 w ≤ length m.out) × (variable_out (receiver_in w) s m.out ≡ put m.out 0 (replicate (due_at 4 w) 0))
        cleared-out f =
            let c = (streams-demand1.variable-headers (receiver_in w) s m.out).cleared (e ∙ ap Err (five r f)) in
            subst (λ (n : ℕ). (n ≤ length m.out) × (variable_out (receiver_in w) s m.out ≡ put m.out 0 (replicate n 0)))
            (due-variable w s m.out l) c

  pub open-variable : Ends m (step (relay_stream_open_variable s) m)
  unfolding step heads.opens_variable
  open-variable =
      either VariableLeaves (chunks.opens w m.answer)
      (heads.variable_left variable_answered (receiver_in w) s m.out w m.answer) (record { number = 1; out = m.out; stream = w; answer = m.answer })
      (λ e.
      let l = ((and-eq-true_iff (eqb (length m.answer) 9) _).0 e).1 in
      by-variable l variable_answered refl (variable-known w s m.out l))
      (λ e. unopened m s (key_of_words w) (due_at 4 w) variable_ns (5 ∷ []) refl refl refl)

-- a chunk, by its framing
module _ (m : Lent) (s : List ℕ) (f : Framing) (ns behind : List ℕ) (has_1 : among (0 ∷ ns) 1 ≡ true) (has-3 : among (0 ∷ ns) 3 ≡ true)
    (has-4 : among (0 ∷ ns) 4 ≡ true) (has-10 : among (0 ∷ ns) 10 ≡ true) (has-11 : among (0 ∷ ns) 11 ≡ true) (no-15 : among (0 ∷ ns) 15 ≡ false)
    (no-1 : among behind 1 ≡ false) (no-3 : among behind 3 ≡ false) (no-4 : among behind 4 ≡ false) (no-10 : among behind 10 ≡ false) (no-11 : among behind 11 ≡ false)
    (has-14 : (n : ℕ) → under f n ≡ true → (among (0 ∷ ns) 14 ≡ true) × (among behind 14 ≡ true))
    (has-5 : (n : ℕ) → over f n ≡ true → (among (0 ∷ ns) 5 ≡ true) × (among behind 5 ≡ true))
    (ks es : List ℕ) (kept : StepKeeps ks es f (receiver_in m.stream) s m.out) where
  abbrev v : List ℕ
  v = m.stream

  abbrev ChunkLeaves : AfterChunk → Type 0
  ChunkLeaves y = Leaves m s (key_in f (receiver_in v)) (due_at 2 v) ns behind has_1 no-15 no-1 y

  module _ (l : receiver_lawful v ≡ true) where
    abbrev Stepping : Result Chunk Refusal → Type 0
    Stepping x = Steps f ns behind has_1 has-3 has-4 has-10 has-11 no-1 no-3 no-4 no-10 no-11 v s m.out l x

    abbrev step_left : List ℕ
    step_left = step_out f (receiver_in v) s m.out

    past-step : drop (due_at 2 v) step_left ≡ drop (due_at 2 v) m.out
    past-step =
        let d = due-step f ns behind has_1 has-3 has-4 has-10 has-11 no-1 no-3 no-4 no-10 no-11 v s m.out l in
        sym (ap (λ (k : ℕ). drop k step_left) d) ∙ kept.past-due-kept ∙ ap (λ (k : ℕ). drop k m.out) d

    by-step : (x : Result Chunk Refusal) → step_answer f (receiver_in v) s (length m.out) ≡ x → Stepping x
        → ChunkLeaves (chunks.step_told f x (receiver_in v) s m.out v m.answer)
    by-step (Ok c) e k = opened-so m s (key_in f (receiver_in v)) (due_at 2 v) ns behind has_1 no-15 no-1 step_left _ _ past-step kept.length-kept
    by-step (Err r) e k =
        refused-so m s (key_in f (receiver_in v)) (due_at 2 v) ns behind has_1 no-15 no-1 r k.fact step_left
        (kept.refused-keeps-out r e ∙ none_written (among behind (refusal_number r)) k.none-is-due)
        (λ g. let z = k.none-is-due g in omega (arith, z)) past-step kept.length-kept
      where
        none_written : (b : Bool) → (b ≡ true → due_at 2 v ≡ 0) → m.out ≡ cond b (put m.out 0 (replicate (due_at 2 v) 0)) m.out
        none_written true z = none-due true m.out ∙ sym (ap (λ (k : ℕ). put m.out 0 (replicate k 0)) (z refl))
        none_written false z = refl

  open-chunk-by : ChunkLeaves (chunks.opens_chunk f v s m.out m.answer)
  unfolding chunks.opens_chunk
  open-chunk-by =
      either ChunkLeaves (chunks.opens v m.answer)
      (chunks.step_told f (step_answer f (receiver_in v) s (length m.out)) (receiver_in v) s m.out v m.answer)
      (record { number = 1; out = m.out; stream = v; answer = m.answer })
      (λ e.
      let l = ((and-eq-true_iff (eqb (length m.answer) 9) _).0 e).1 in
      by-step l (step_answer f (receiver_in v) s (length m.out)) refl
      (step-known f ns behind has_1 has-3 has-4 has-10 has-11 no-1 no-3 no-4 no-10 no-11 v s m.out l has-14 has-5))
      (λ e. unopened m s (key_in f (receiver_in v)) (due_at 2 v) ns behind has_1 no-15 no-1)

pub open-chunk : (m : Lent) (s : List ℕ) → Ends m (step (relay_stream_open_chunk s) m)
unfolding step
open-chunk m s =
    open-chunk-by m s (framing_of (method_in m.stream)) (1 ∷ 4 ∷ 11 ∷ 10 ∷ 3 ∷ 14 ∷ []) (14 ∷ []) refl refl refl refl refl refl refl refl refl refl refl
    (λ n e. (refl, refl)) (λ n e. absurd (true≢false (sym e))) _ _ (streams-demand1.steps (receiver_in m.stream) s m.out)

pub open-chunk-2017 : (m : Lent) (s : List ℕ) → Ends m (step (relay_sip004_stream_open_chunk s) m)
unfolding step
open-chunk-2017 m s =
    open-chunk-by m s (streams2017.framing_of (method_in m.stream)) (1 ∷ 4 ∷ 11 ∷ 10 ∷ 3 ∷ 5 ∷ []) (5 ∷ []) refl refl refl refl refl refl refl refl refl refl refl
    (λ n e. absurd (true≢false (sym e ∙ none-under (method_in m.stream) n))) (λ n e. (refl, refl)) _ _ (sip004-keeps.streams.steps (receiver_in m.stream) s m.out)
