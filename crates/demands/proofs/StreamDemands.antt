-- Demands 1 and 2 for streams. Demand 1: each call answers or refuses, and what a refusal leaves.
-- Assumes nothing.
use Rattle.std.specs.Prelude.{Err, Ok, Result}
use mathlib.Core.Path.{◌≡◌, refl, sym, ap, ap₂, ◌∙◌, subst}
use mathlib.Core.Bool.{Bool, true, false, cond, ◌&&◌}
use mathlib.Core.List.{List, ◌++◌}
use mathlib.Core.Logic.{inl, inr}
use Prim.Native.Nat.{ℕ, ◌+◌, ◌-◌, ◌≤◌}
use native.Mathlib.Omega.{arith}
use lib.Dec.{eqb, leb, ltb}
use lib.ListN.{length, replicate, length-replicate}
use borrow.Author.Tests.{eq-eqb, ne_eqb}
use Rattle.octets.specs.Buffers.{put}
use Rattle.protocol.specs.declared.Refusal.{Refusal}
use Rattle.protocol.specs.declared.Refusal.TheVariants.{Settings, Length as TooLong, Room, NotAuthentic, Malformed, WrongType, WrongTime, Replay, Full, More, Counter, Argument, Binding, Empty, UnknownSetting}
use Rattle.protocol.specs.Refusal.{refusal_number, ends_stream}
use Rattle.protocol.specs.Orders.{among}
use Rattle.protocol.specs.Method.{key_fits, key_length, salt_length, cipher_of}
use Rattle.socks5.specs.Address.{is_address}
use Rattle.stream_seal.specs.declared.Sender.{Sender}
use Rattle.stream_pieces.specs.Framing.{framing_of, is_empty}
use Rattle.stream_pieces.specs.Pieces.{open_at, max_chunk, last_counter, salted_key}
use Rattle.stream_pieces.proofs.FramingLaws.{empty-zero}
use Rattle.stream_seal.specs.Sealing.{moved, size_answer, framed_answer, chunk_answer}
use Rattle.stream_seal_heads.specs.HeadSealing.{variable_length, request, response, begun, sizes_fit, padding_lawful, request_answer, response_answer}
use Rattle.stream_open.specs.declared.Turn.{Turn}
use Rattle.stream_open.specs.declared.Turn.TheVariants.{Variable, Length, Payload, Ended}
use Rattle.stream_open.specs.declared.Receiver.{Receiver}
use Rattle.stream_open_variable.specs.Variable.{header_answer, variable_answer, variable_out, variable_next}
use Rattle.stream_open.specs.Chunks.{stream_key, step_answer, ended, step_next}
use Rattle.stream_open.specs.Steps.{turn_answer, written_by, payload_piece}
use Rattle.stream_open.specs.Steps as steps
use Rattle.demands.specs.StreamsKeep.{of_variable, step_refusals, step_ends, request_sealer, response_sealer, chunk_sealer, ends_variable, VariableAnswered, opened-variable, refused-variable, due_variable, VariableKeeps, MoreAsksAgain, Turns, SealersKeep, StreamsDemand1}
use Rattle.demands.specs.StreamsOpen.{variable_at}
use Rattle.demands.specs.StreamsBack.{EmptyUnsealed, StreamsDemand2}
use Rattle.stream_seal.proofs.SealAnswerLaws.{chunk-under}
use Rattle.stream_seal_heads.proofs.HeadAnswerLaws.{response-empty}
use Rattle.stream_seal_heads.proofs.HeadLengthLaws.{length-request_at, length-response_of}
use Rattle.stream_chunks.specs.Keeps.{StepKeeps}
use Rattle.stream_chunks.proofs.StepLaws.{step-exactly-when, nonce-injective, own-nonce}
use Rattle.stream_chunks.proofs.ChunkBackLaws.{chunk_back}
use Rattle.stream_chunks.proofs.WholeLaws.{stream-back, own-counters}
use Rattle.stream_chunks.proofs.KeepLaws.{Front, front_kept, front_same, front-none, StepNumbers, step_keeps, among_sealed, sealed-among, sealed-denied, among-sizes, keeps, sized-length, chunk-keeps}
use Rattle.demands.proofs.ResponseReadBack.{responds, response-back}
use Rattle.demands.proofs.RequestReadBack.{requests, request-back}
use Rattle.demands.proofs.WholeStreams.{sayable, request-stream, response-stream}
use Rattle.demands.proofs.StreamTells.{step-empty-exactly-when, no-empty-chunk}
use Rattle.demands.proofs.RequestTells.{request-keeps, request-exactly-when}
use Rattle.demands.proofs.VariableTells.{not-header, same-refusal, not_five, length-plain, Way, refused, missing, zeroed, opened, way, more-tells, answer-by, variable-exactly-when}
use Rattle.demands.proofs.HeadTells.{response-keeps, response-exactly-when, response-empty-exactly-when}
use Rattle.stream_open_variable.specs.declared.VariableHeader.{VariableHeader}
use Rattle.stream_open.specs.declared.Chunk.{Chunk}

-- ---- a variable header

-- of the refusals that it gives, those that end a stream are 4 and 5
ends-alike : (r : Refusal) → (of_variable r && ends_stream r) ≡ (of_variable r && ends_variable r)
ends-alike Settings = refl
ends-alike TooLong = refl
ends-alike Room = refl
ends-alike NotAuthentic = refl
ends-alike Malformed = refl
ends-alike WrongType = refl
ends-alike WrongTime = refl
ends-alike Replay = refl
ends-alike Full = refl
ends-alike (More wanted) = refl
ends-alike Counter = refl
ends-alike Argument = refl
ends-alike Binding = refl
ends-alike Empty = refl
ends-alike (UnknownSetting setting) = refl

module _ (st : Receiver) (s out : List ℕ) where
  abbrev answer : Result VariableHeader Refusal
  answer = variable_answer st s (length out)

  abbrev buffer : List ℕ
  buffer = variable_out st s out

  abbrev due : ℕ
  due = due_variable st.turn

  abbrev Ways : Type 0
  Ways = Way st s out

  here : Ways
  here = way st s out

  answered : VariableAnswered answer
  answered = go here
    where
      go : Ways → VariableAnswered answer
      go (refused r o p er eo) = refused-variable r o er
      go (missing n eu short er eo) = refused-variable (More (n + 16)) refl er
      go (zeroed n eu room er eo) = refused-variable Malformed refl er
      go (opened h d q) = opened-variable h q.answers

  untouched : (r : Refusal) → answer ≡ Err r → (refusal_number r ≡ 5 → ⊥) → buffer ≡ out
  untouched r e other = go here
    where
      go : Ways → buffer ≡ out
      go (refused t o p er eo) = eo
      go (missing n eu short er eo) = eo
      go (zeroed n eu room er eo) = absurd (other (ap refusal_number (same-refusal answer r Malformed e er)))
      go (opened h d q) = absurd (not-header answer r h e q.answers)

  -- what a turn of n bytes owes
  owed : (n : ℕ) → st.turn ≡ Variable n → n ≡ due
  owed n eu = ap due_variable (sym eu)

  cleared : answer ≡ Err Malformed → (due ≤ length out) × (buffer ≡ put out 0 (replicate due 0))
  cleared e = go here
    where
      go : Ways → (due ≤ length out) × (buffer ≡ put out 0 (replicate due 0))
      go (refused t o p er eo) = absurd (not_five t p (ap refusal_number (same-refusal answer t Malformed er e)))
      go (missing n eu short er eo) =
          absurd (let z : ◌≡◌ {A = ℕ} 10 5 = ap refusal_number (same-refusal answer (More (n + 16)) Malformed er e) in omega arith)
      go (zeroed n eu room er eo) = subst (λ (k : ℕ). (k ≤ length out) × (buffer ≡ put out 0 (replicate k 0))) (owed n eu) (room, eo)
      go (opened h d q) = absurd (not-header answer Malformed h e q.answers)

  front : Front due buffer out
  front = go here
    where
      go : Ways → Front due buffer out
      go (refused t o p er eo) = front-none due buffer out eo
      go (missing n eu short er eo) = front-none due buffer out eo
      go (zeroed n eu room er eo) =
          subst (λ (k : ℕ). Front k buffer out) (owed n eu)
          (front_same n buffer out _ eo (front_kept out (replicate n 0) n (length-replicate n 0) room))
      go (opened h d q) =
          subst (λ (k : ℕ). Front k buffer out) (owed d.size d.at_turn)
          (front_same d.size buffer out _ q.writes
          (front_kept out (open_at (stream_key st) 1 (variable_at d.size s)) d.size (length-plain st s out d.size d.whole) d.has_room))

  -- a refusal of its list ends the stream by its own number
  next-by : (r : Refusal) → answer ≡ Err r → variable_next st answer ≡ cond (ends_variable r) (ended st) st
  next-by r e = go answered
    where
      go : VariableAnswered answer → variable_next st answer ≡ cond (ends_variable r) (ended st) st
      go (opened-variable h eh) = absurd (not-header answer r h e eh)
      go (refused-variable t o et) =
          let among : of_variable r ≡ true = ap of_variable (same-refusal answer r t e et) ∙ o in
          let alike : ends_stream r ≡ ends_variable r =
          sym (ap (λ (b : Bool). b && ends_stream r) among) ∙ ends-alike r ∙ ap (λ (b : Bool). b && ends_variable r) among in
          ap (variable_next st) e ∙ ap (λ (b : Bool). cond b (ended st) st) alike

  variable-ends : (r : Refusal) → answer ≡ Err r → ends_variable r ≡ true → variable_next st answer ≡ ended st
  variable-ends r e t = next-by r e ∙ ap (λ (b : Bool). cond b (ended st) st) t

  variable-stays : (r : Refusal) → answer ≡ Err r → ends_variable r ≡ false → variable_next st answer ≡ st
  variable-stays r e t = next-by r e ∙ ap (λ (b : Bool). cond b (ended st) st) t

  ended-unheaded : (key_length st.method ≡ 0 → ⊥) → (bytes : List ℕ) (room : ℕ) → variable_answer (ended st) bytes room ≡ Err NotAuthentic
  unfolding variable_answer
  ended-unheaded known bytes room =
      ap (λ (b : Bool). cond b (Err Settings) (Err NotAuthentic)) (ne_eqb (key_length st.method) 0 known)

  pub variable-keeps : VariableKeeps st s out
  variable-keeps =
      record {
        answered = answered;
        untouched = untouched;
        cleared = cleared;
        past-due-kept = front.past;
        length-kept = front.size;
        ends = variable-ends;
        refused-keeps-state = variable-stays;
        ended-refuses = ended-unheaded;
      }

-- where bytes are missing

pub more-again : MoreAsksAgain
more-again st s out wanted e t =
    let kept : variable_next st (variable_answer st s (length out)) ≡ st = variable-stays st s out (More wanted) e refl in
    let same : variable_out st s out ≡ out = untouched st s out (More wanted) e (λ z. omega arith) in
    record {
      state-kept = kept;
      buffer-kept = same;
      same_answer = λ i. variable_answer (kept i) (s ++ t) (length (same i));
      same-buffer = λ i. variable_out (kept i) (s ++ t) (same i);
      same-stream = λ i. variable_next (kept i) (variable_answer st (s ++ t) (length out));
      enough = λ there more again.
          let a = more-tells st s out wanted e in
          let b = more-tells st (s ++ t) out more again in
          let size : a.size ≡ b.size = ap due_variable (sym a.at_turn ∙ b.at_turn) in
          omega (arith, there, a.asks, b.short, size);
    }

-- ---- turns

either_way : {A : Type 0} (b : Bool) (x : A) → cond b x x ≡ x
either_way true x = refl
either_way false x = refl

module _ (st : Receiver) (s out : List ℕ) where
  -- refusal 1 of the call for a variable header, and what it leaves
  variable-settings : variable_answer st s (length out) ≡ Err Settings
      → (variable_answer st s (length out) ≡ Err Settings)
      × ((variable_next st (variable_answer st s (length out)) ≡ st) × (variable_out st s out ≡ out))
  variable-settings e = (e, (variable-stays st s out Settings e refl, untouched st s out Settings e (λ z. omega arith)))

  other-counter : (st.counter ≡ 1 → ⊥) → (st.turn ≡ Ended → ⊥) → (u : Turn) → st.turn ≡ u → variable_answer st s (length out) ≡ Err Settings
  other-counter h g (Variable n) e =
      answer-by st s out (eqb (key_length st.method) 0) (Variable n) refl e
      ∙ ap (λ (b : Bool). cond (eqb (key_length st.method) 0) (Err Settings) (cond b (header_answer (stream_key st) n s (length out)) (Err Settings)))
      (ne_eqb st.counter 1 h)
      ∙ either_way (eqb (key_length st.method) 0) (Err Settings)
  other-counter h g Length e =
      answer-by st s out (eqb (key_length st.method) 0) Length refl e ∙ either_way (eqb (key_length st.method) 0) (Err Settings)
  other-counter h g (Payload n) e =
      answer-by st s out (eqb (key_length st.method) 0) (Payload n) refl e ∙ either_way (eqb (key_length st.method) 0) (Err Settings)
  other-counter h g Ended e = absurd (g e)

  step-at-variable : (n : ℕ) → st.turn ≡ Variable n → step_answer st s (length out) ≡ Err Settings
  unfolding steps.step_answer
  step-at-variable n e =
      ap (λ (u : Turn). cond (eqb (key_length st.method) 0) (Err Settings) (turn_answer (framing_of st.method) u st s (length out))) e
      ∙ either_way (eqb (key_length st.method) 0) (Err Settings)

  step-at-end : (key_length st.method ≡ 0 → ⊥) → st.turn ≡ Ended → step_answer st s (length out) ≡ Err NotAuthentic
  unfolding steps.step_answer
  step-at-end known e =
      λ i. cond (ne_eqb (key_length st.method) 0 known i) (Err Settings) (turn_answer (framing_of st.method) (e i) st s (length out))

  turns : Turns st s out
  unfolding steps.step_out
  turns =
      record {
        step-at-variable = λ n e.
            let a = step-at-variable n e in (
              a,
              (
                ap (step_next st) a,
                ap (λ (x : Result Chunk Refusal). written_by x st.turn (open_at (stream_key st) st.counter (payload_piece st.turn s)) out) a,
              ),
            );
        variable-at-length = λ e. variable-settings (answer-by st s out (eqb (key_length st.method) 0) Length refl e
            ∙ either_way (eqb (key_length st.method) 0) (Err Settings));
        variable-at-payload = λ n e. variable-settings (answer-by st s out (eqb (key_length st.method) 0) (Payload n) refl e
            ∙ either_way (eqb (key_length st.method) 0) (Err Settings));
        variable-at-other-counter = λ h g. variable-settings (other-counter h g st.turn refl);
        step-ended = step-at-end;
        variable-ended = λ known e. answer-by st s out false Ended (ne_eqb (key_length st.method) 0 known) e;
      }

-- ---- a step

-- 5 is no refusal of it, and 4 and 14 end the stream
step-numbers : (method : ℕ) → StepNumbers step_refusals step_ends (framing_of method)
step-numbers method =
    record {
      settings = refl;
      room = refl;
      forged = refl;
      more = refl;
      counter = refl;
      under-least = λ n. inr refl;
      over-greatest = λ n. inl refl;
      ends = ends;
    }
  where
    ends : (r : Refusal) → among step_refusals (refusal_number r) ≡ true → among step_ends (refusal_number r) ≡ ends_stream r
    ends NotAuthentic of = refl
    ends Empty of = refl
    ends Malformed of = of
    ends Settings of = refl
    ends TooLong of = refl
    ends Room of = refl
    ends WrongType of = refl
    ends WrongTime of = refl
    ends Replay of = refl
    ends Full of = refl
    ends (More wanted) of = refl
    ends Counter of = refl
    ends Argument of = refl
    ends Binding of = refl
    ends (UnknownSetting setting) of = refl

steps-keep : (st : Receiver) (s out : List ℕ) → StepKeeps step_refusals step_ends (framing_of st.method) st s out
steps-keep st s out = step_keeps step_refusals step_ends (framing_of st.method) (step-numbers st.method) st s out

-- ---- sealing

among-request : (method : ℕ) (key salt address : List ℕ) (padding payload room : ℕ)
    → among_sealed request_sealer (request_answer method key salt address padding payload room) ≡ true
unfolding request_answer
among-request method key salt address padding payload room =
    sealed-among request_sealer (sizes_fit method (length key) (length salt)) _ Settings
    (sealed-among request_sealer (is_address address && padding_lawful padding payload) _ Argument
    (among-sizes request_sealer refl refl max_chunk (variable_length (length address) padding payload) (length salt + 27) room (begun method key salt)) refl) refl

among-response : (method : ℕ) (key salt binding : List ℕ) (payload room : ℕ)
    → among_sealed response_sealer (response_answer method key salt binding payload room) ≡ true
unfolding response_answer
among-response method key salt binding payload room =
    sealed-among response_sealer (sizes_fit method (length key) (length salt) && eqb (length binding) (length salt)) _ Settings
    (sealed-denied response_sealer (is_empty payload) _ Empty
    (among-sizes response_sealer refl refl max_chunk payload (length salt + 27 + length binding) room (begun method key salt)) refl) refl

length-request : (method : ℕ) (key salt : List ℕ) (time : ℕ) (address : List ℕ) (padding : ℕ) (payload : List ℕ)
    → length (request (cipher_of method) key salt time address padding payload) ≡ length salt + 27 + variable_length (length address) padding (length payload) + 16
unfolding request
length-request method key salt time address padding payload = length-request_at (salted_key method key salt) salt time address padding payload

length-response : (method : ℕ) (key salt binding : List ℕ) (time : ℕ) (payload : List ℕ)
    → length (response (cipher_of method) key salt binding time payload) ≡ length salt + 27 + length binding + length payload + 16
unfolding response
length-response method key salt binding time payload = length-response_of (salted_key method key salt) salt binding time payload

pub seal-keeps : SealersKeep
seal-keeps =
    record {
      requests = λ method key salt time address padding payload out. keeps request_sealer
          (request_answer method key salt address padding (length payload) (length out)) (request (cipher_of method) key salt time address padding payload) out
          (among-request method key salt address padding (length payload) (length out))
          (λ n next e. sized-length _ _ _ _ _ n next (request (cipher_of method) key salt time address padding payload)
          (requests method key salt address padding (length payload) (length out) n next e).sizes
          (length-request method key salt time address padding payload));
      responses = λ method key salt binding time payload out. keeps response_sealer
          (response_answer method key salt binding (length payload) (length out)) (response (cipher_of method) key salt binding time payload) out
          (among-response method key salt binding (length payload) (length out))
          (λ n next e. sized-length _ _ _ _ _ n next (response (cipher_of method) key salt binding time payload)
          (responds method key salt binding (length payload) (length out) n next e).sizes (length-response method key salt binding time payload));
      chunks = λ s payload out. chunk-keeps chunk_sealer (framing_of s.method) refl refl refl refl (λ n. inr refl) s payload out;
    }

-- ---- an empty payload is not sealed

abbrev is_emptied : Result (ℕ × Sender) Refusal → ℕ
is_emptied (Ok (n, next)) = 0
is_emptied (Err r) = cond (eqb (refusal_number r) 14) 1 0

-- 14 is given by its own test alone
by_itself : (n : ℕ) (x : Result (ℕ × Sender) Refusal) → is_emptied x ≡ 0 → cond (is_empty n) (Err Empty) x ≡ Err Empty → n ≡ 0
by_itself n x o e = go (is_empty n) refl e
  where
    go : (b : Bool) → is_empty n ≡ b → cond b (Err Empty) x ≡ Err Empty → n ≡ 0
    go true h f = empty-zero n h
    go false h f = absurd (let z : ◌≡◌ {A = ℕ} 0 1 = sym o ∙ ap is_emptied f in omega arith)

others : (b : Bool) (x : Result (ℕ × Sender) Refusal) (r : Refusal) → is_emptied x ≡ 0 → is_emptied (Err r) ≡ 0 → is_emptied (cond b x (Err r)) ≡ 0
others true x r e g = e
others false x r e g = g

sizes-others : (greatest n before room : ℕ) (s : Sender) → is_emptied (size_answer greatest n before room s) ≡ 0
unfolding size_answer
sizes-others greatest n before room s = others (leb n greatest) _ TooLong (others (leb (before + n + 16) room) _ Room refl refl) refl

-- behind a test whose refusal is another
behind : (b : Bool) (x : Result (ℕ × Sender) Refusal) (r : Refusal) → is_emptied (Err r) ≡ 0 → cond b x (Err r) ≡ Err Empty → x ≡ Err Empty
behind true x r o e = e
behind false x r o e = absurd (let z : ◌≡◌ {A = ℕ} 0 1 = sym o ∙ ap is_emptied e in omega arith)

past : (b : Bool) (x : Result (ℕ × Sender) Refusal) (r : Refusal) → is_emptied (Err r) ≡ 0 → cond b (Err r) x ≡ Err Empty → x ≡ Err Empty
past true x r o e = absurd (let z : ◌≡◌ {A = ℕ} 0 1 = sym o ∙ ap is_emptied e in omega arith)
past false x r o e = e

empty-chunk : (s : Sender) (room : ℕ) → (key_length s.method ≡ 0 → ⊥) → chunk_answer s 0 room ≡ Err Empty
empty-chunk s room known = sym (chunk-under (framing_of s.method) s 0 room known (omega arith))

empty-chunk-only : (s : Sender) (payload room : ℕ) → chunk_answer s payload room ≡ Err Empty → payload ≡ 0
unfolding framed_answer
empty-chunk-only s payload room e =
    by_itself payload _ (others (ltb s.counter (last_counter - 1)) _ Counter (sizes-others max_chunk payload 18 room (moved s)) refl)
    (past (eqb (key_length s.method) 0) _ Settings refl e)

empty-response : (method : ℕ) (key salt binding : List ℕ) (room : ℕ) → key_fits method (length key) ≡ true → length salt ≡ salt_length method
    → length binding ≡ salt_length method → response_answer method key salt binding 0 room ≡ Err Empty
unfolding sizes_fit
empty-response method key salt binding room fits same bound =
    sym (response-empty method key salt binding 0 room (ap₂ ◌&&◌ fits (eq-eqb (length salt) (salt_length method) same)) (bound ∙ sym same) refl)

empty-response-only : (method : ℕ) (key salt binding : List ℕ) (payload room : ℕ)
    → response_answer method key salt binding payload room ≡ Err Empty → payload ≡ 0
unfolding response_answer
empty-response-only method key salt binding payload room e =
    by_itself payload _ (sizes-others max_chunk payload (length salt + 27 + length binding) room (begun method key salt))
    (behind (sizes_fit method (length key) (length salt) && eqb (length binding) (length salt)) _ Settings refl e)

empty-unsealed : EmptyUnsealed
empty-unsealed =
    record { chunks = empty-chunk; chunks-only = empty-chunk-only; responses = empty-response; responses-only = empty-response-only }

-- ---- all of them

pub streams-demand1 : StreamsDemand1
streams-demand1 =
    record {
      requests = request-keeps;
      variable-headers = variable-keeps;
      more-again = more-again;
      turns = turns;
      responses = response-keeps;
      steps = steps-keep;
      sealing = seal-keeps;
    }

pub streams-demand2 : StreamsDemand2
streams-demand2 =
    record {
      requests-exactly = request-exactly-when;
      variable-headers-exactly = variable-exactly-when;
      responses-exactly = response-exactly-when;
      steps-exactly = step-exactly-when framing_of;
      empty-responses-exactly = response-empty-exactly-when;
      empty-steps-exactly = step-empty-exactly-when;
      no-empty-chunk = no-empty-chunk;
      empty-unsealed = empty-unsealed;
      requests-back = request-back;
      responses-back = response-back;
      chunks-back = chunk_back framing_of sayable;
      streams-back = stream-back framing_of sayable;
      request-streams-back = request-stream;
      response-streams-back = response-stream;
      own-nonces = own-nonce framing_of;
      own-counters = own-counters framing_of sayable;
      nonces-differ = nonce-injective;
    }
