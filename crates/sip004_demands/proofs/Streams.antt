-- The promises about streams: both editions' laws of chunks, under this edition's framing.
-- Assumes nothing.
use Rattle.std.specs.Prelude.{Err, Ok, Result}
use mathlib.Core.Path.{◌≡◌, refl, sym, ap, ◌∙◌, subst}
use mathlib.Core.Bool.{Bool, true, false, cond, ◌||◌}
use mathlib.Core.List.{List}
use mathlib.Core.Logic.{inl, inr}
use Prim.Native.Nat.{ℕ, ◌+◌, ◌≤◌, ◌<◌}
use native.Mathlib.Omega.{arith}
use lib.Dec.{eqb}
use lib.ListN.{length}
use borrow.Author.Tests.{lt-ltb, ltb-true, ltb-false}
use Rattle.aes.specs.Keyed.{nk_of}
use Rattle.protocol.specs.declared.Cipher.TheVariants.{AesGcm}
use Rattle.protocol.specs.declared.Refusal.{Refusal}
use Rattle.protocol.specs.declared.Refusal.TheVariants.{Settings, Length as TooLong, Room, NotAuthentic, Malformed, WrongType, WrongTime, Replay, Full, More, Counter, Argument, Binding, Empty, UnknownSetting}
use Rattle.protocol.specs.Refusal.{refusal_number, ends_stream}
use Rattle.protocol.specs.Orders.{among}
use Rattle.stream_pieces.specs.Framing.{under}
use Rattle.stream_pieces.specs.Pieces.{subkey_words, key_of, Keyed, keyed}
use Rattle.stream_pieces.proofs.KeyLaws.{words-of-aes, subkey-back}
use Rattle.stream_open.specs.declared.Turn.{Turn}
use Rattle.stream_open.specs.declared.Turn.TheVariants.{Variable, Length, Payload, Ended}
use Rattle.stream_open.specs.declared.Receiver.{Receiver}
use Rattle.stream_open.specs.declared.Chunk.{Chunk}
use Rattle.stream_open.specs.Steps as steps
use Rattle.stream_chunks.specs.Opens.{TurnOpens}
use Rattle.stream_chunks.proofs.StepLaws.{step-tells, step-exactly-when, over-exactly-when, own-nonce}
use Rattle.stream_chunks.proofs.ChunkBackLaws.{chunk_back}
use Rattle.stream_chunks.proofs.WholeLaws.{stream-back, own-counters}
use Rattle.stream_chunks.proofs.KeepLaws.{StepNumbers, step_keeps, chunk-keeps}
use Rattle.sip004.specs.Method.{settings_fit, key_length}
use Rattle.sip004.specs.Subkey.{subkey}
use Rattle.sip004.proofs.MethodLaws.{fits-sizes, settings-sizes}
use Rattle.sip004.proofs.SubkeyLaws.{length-subkey, octets-subkey}
use Rattle.sip004_stream.specs.Streams.{framing_of, sender, subkey_of, stream_key, step_answer}
use Rattle.sip004_stream.proofs.BeginLaws.{seal-begun, seal-refused, open-begun, open-refused}
use Rattle.sip004_demands.proofs.FramingLaws.{sayable, none-under}
use Rattle.sip004_demands.specs.Streams.{Begins, TooLongExactlyWhen, StreamsExactly, StreamsBytes, StreamsBack, step_refusals, step_ends, chunk_refusals, StreamsKeep}

-- ---- beginning

-- the key from the words that the state has
begun-key : (method : ℕ) (key salt : List ℕ) → settings_fit method (length key) (length salt) ≡ true
    → key_of (subkey_words (subkey key salt)) (key_length method) ≡ subkey key salt
begun-key method key salt e =
    let z = fits-sizes method (length key) (settings-sizes method (length key) (length salt) e).0 in
    let n = length-subkey key salt in
    ap (key_of (subkey_words (subkey key salt))) (z.length-is ∙ sym n)
    ∙ subkey-back (subkey key salt) (octets-subkey key salt) (words-of-aes (length (subkey key salt)) (subst (λ (k : ℕ). 0 < nk_of k) (sym n) z.of-aes))

not_so : (b : Bool) → (b ≡ true → ⊥) → b ≡ false
not_so true h = absurd (h refl)
not_so false h = refl

pub begins : (method : ℕ) (key salt : List ℕ) → Begins method key salt
unfolding subkey
begins method key salt =
    let b = settings_fit method (length key) (length salt) in
    record {
      seals = λ e. sym (seal-begun method key salt b refl e (subkey_of key salt) refl);
      opens = λ e. sym (open-begun method key salt b refl e (subkey_of key salt) refl);
      unfit-seals = λ h. sym (seal-refused method key salt b refl (not_so b h));
      unfit-opens = λ h. sym (open-refused method key salt b refl (not_so b h));
      sealing-key = λ e. ap (keyed AesGcm) (begun-key method key salt e);
      opening-key = λ e. ap (keyed AesGcm) (begun-key method key salt e);
    }

-- ---- exactly when

too_long : TooLongExactlyWhen
too_long st s room =
    let o = over-exactly-when framing_of st s room in (
      λ e. let d = o.0 e in (d.0, (d.1.0, ltb-true 16383 d.0 d.1.1.1)),
      λ d. o.1 (d.0, (d.1.0, (omega arith, lt-ltb 16383 d.0 d.1.1))),
    )

turn-capped : (turn : Turn) (method : ℕ) (key : Keyed) (counter : ℕ) (s : List ℕ) (room : ℕ) (c : Chunk)
    → TurnOpens (framing_of method) key counter turn s room c → c.length ≤ 16383
turn-capped Length method key counter s room c d =
    subst (λ (x : Chunk). x.length ≤ 16383) (sym d.1.1) (ltb-false 16383 _ d.1.0.1)
turn-capped (Payload n) method key counter s room c d =
    subst (λ (x : Chunk). x.length ≤ 16383) (sym d.1.1) (ltb-false 16383 n d.1.0.1)
turn-capped Ended method key counter s room c d = absurd d
turn-capped (Variable n) method key counter s room c d = absurd d

either_way : (b : Bool) (x : Result Chunk Refusal) → cond b x x ≡ x
either_way true x = refl
either_way false x = refl

capped-turn : (st : Receiver) (s : List ℕ) (room n : ℕ) → st.turn ≡ Payload n → 16383 < n → step_answer st s room ≡ Err Settings
unfolding steps.step_answer
capped-turn st s room n e h =
    ap (λ (u : Turn). cond (eqb (key_length st.method) 0) (Err Settings) (steps.turn_answer (framing_of st.method) u st s room)) e
    ∙ ap (λ (b : Bool). cond (eqb (key_length st.method) 0) (Err Settings) (cond (b || under (framing_of st.method) n) (Err Settings)
    (steps.piece_answer (stream_key st) st.counter n s n room (Ok (record { used = n + 16; length = n }))))) (lt-ltb 16383 n h)
    ∙ either_way (eqb (key_length st.method) 0) (Err Settings)

pub streams-exactly : StreamsExactly
streams-exactly =
    record {
      steps = step-exactly-when framing_of;
      too_long = too_long;
      capped = λ st s room c e.
          turn-capped st.turn st.method (stream_key st) st.counter s room c (step-tells (framing_of st.method) st s room c e).opens;
      capped-turn = capped-turn;
    }

-- ---- byte for byte, and back

pub streams-bytes : StreamsBytes
streams-bytes = record { own-counters = own-counters framing_of sayable; own-nonces = own-nonce framing_of }

pub streams-back : StreamsBack
streams-back =
    record {
      chunks = chunk_back framing_of sayable;
      streams = stream-back framing_of sayable;
      whole = λ method key salt space payloads o rest out h.
          stream-back framing_of sayable space (sender method (subkey_of key salt)) payloads o rest out h;
    }

-- ---- kept

-- 14 is no refusal of a step, and 4 and 5 end the stream
step-numbers : (method : ℕ) → StepNumbers step_refusals step_ends (framing_of method)
step-numbers method =
    record {
      settings = refl;
      room = refl;
      forged = refl;
      more = refl;
      counter = refl;
      under-least = λ n. inl (none-under method n);
      over-greatest = λ n. inr refl;
      ends = ends;
    }
  where
    ends : (r : Refusal) → among step_refusals (refusal_number r) ≡ true → among step_ends (refusal_number r) ≡ ends_stream r
    ends NotAuthentic of = refl
    ends Malformed of = refl
    ends Empty of = of
    ends Settings of = refl
    ends TooLong of = refl
    ends Room of = refl
    ends WrongType of = refl
    ends WrongTime of = refl
    ends Replay of = refl
    ends Full of = refl
    ends (More wanted) of = refl
    ends Counter of = refl
    ends Argument of = refl
    ends Binding of = refl
    ends (UnknownSetting setting) of = refl

pub streams-keep : StreamsKeep
streams-keep =
    record {
      steps = λ st s out. step_keeps step_refusals step_ends (framing_of st.method) (step-numbers st.method) st s out;
      sealing = λ s payload out.
          chunk-keeps chunk_refusals (framing_of s.method) refl refl refl refl (λ n. inl (none-under s.method n)) s payload out;
    }
