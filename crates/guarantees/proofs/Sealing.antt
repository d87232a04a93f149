-- Sealing heads and chunks of streams, and the 2017 edition's calls that write what they tell.
-- Assumes nothing.
use Rattle.std.specs.Prelude.{Err, Ok, Result}
use mathlib.Core.Path.{◌≡◌, refl, sym, ap, ◌∙◌}
use mathlib.Core.Bool.{Bool, true, false, cond, true≢false, and-eq-true_iff}
use mathlib.Core.List.{List, [], ◌∷◌}
use Prim.Native.Nat.{ℕ, ◌+◌, ◌-◌, ◌≤◌}
use native.Mathlib.Omega.{arith}
use lib.Dec.{eqb}
use lib.ListN.{length, get_or, set, drop}
use Rattle.octets.specs.Buffers.{put}
use Rattle.protocol.specs.Orders.{among}
use Rattle.protocol.specs.declared.Refusal.{Refusal}
use Rattle.protocol.specs.Refusal.{refusal_number}
use Rattle.stream_pieces.specs.Framing as sip022
use Rattle.stream_pieces.specs.Framing.{under}
use Rattle.stream_pieces.specs.declared.Framing.{Framing}
use Rattle.stream_pieces.specs.Pieces.{key_of, keyed}
use Rattle.stream_seal.specs.declared.Sender.{Sender}
use Rattle.stream_seal.specs.Sealing.{framed_answer, chunk, seal_out}
use Rattle.stream_chunks.specs.Keeps as keeping
use Rattle.stream_chunks.specs.Keeps.{SealKeeps}
use Rattle.stream_answers.specs.Chunks as chunks
use Rattle.stream_answers.specs.Chunks.{AfterChunk, fits}
use Rattle.stream_answers.specs.Told.{sealed_number, sealed_words, sealed_stream}
use Rattle.words.specs.States.{turn_of, method_in, sender_in}
use Rattle.sip004.specs.Datagram as sip004
use Rattle.sip004.specs.Method.{settings_fit}
use Rattle.sip004_stream.specs.Streams as streams2017
use Rattle.stream_answers.specs.Beginning as beginning
use Rattle.relay.specs.Streams as heads
use Rattle.relay.specs.Sip004 as edition2017
use Rattle.demands.proofs.StreamDemands.{seal-keeps}
use Rattle.sip004_demands.proofs.Sip004.{sip004-keeps}
use Rattle.sip004_demands.proofs.FramingLaws.{none-under}
use Rattle.guarantees.specs.Calls.{Lent, nothing, says, writes, verdict, leaves, leaves_stream, step, relay_stream_seal_request, relay_stream_seal_response, relay_stream_seal_chunk, relay_sip004_datagram_seal, relay_sip004_datagram_open, relay_sip004_stream_begin_seal, relay_sip004_stream_begin_open, relay_sip004_stream_seal_chunk}
use Rattle.guarantees.specs.Guarantees.{Ends}
use Rattle.guarantees.proofs.Base.{listed-so, listed-too, either, written, first_word, length-nine, keeps, accepts, judged}
use Rattle.stream_open.specs.declared.Receiver.{Receiver}

abbrev number : Result (ℕ × Sender) Refusal → ℕ
number (Ok (n, s)) = 0
number (Err r) = refusal_number r

module _ (m : Lent) where
  -- ---- streams

  module _ (ns : List ℕ) (no-10 : among (0 ∷ ns) 10 ≡ false) (no-15 : among (0 ∷ ns) 15 ≡ false) (has_1 : among (0 ∷ ns) 1 ≡ true) where
    abbrev Says : AfterChunk → Type 0
    Says y = Ends m (writes ns y.number (leaves_stream m m.pool y.stream y.out y.answer))

    abbrev after : Result (ℕ × Sender) Refusal → List ℕ → AfterChunk
    after x text = record { number = sealed_number x; out = seal_out x text m.out; stream = sealed_stream x m.stream; answer = sealed_words x m.answer }

    -- x is what is answered, and text what is sealed then
    module _ (x : Result (ℕ × Sender) Refusal) (text : List ℕ) (listed : (r : Refusal) → x ≡ Err r → among (0 ∷ ns) (refusal_number r) ≡ true)
        (sized : (n : ℕ) (s : Sender) → x ≡ Ok (n, s) → (length text ≡ n) × (n ≤ length m.out)) where
      told : length m.answer ≡ 9 → (y : Result (ℕ × Sender) Refusal) → x ≡ y → Says (after y text)
      told l (Ok (n, s)) e =
          let f = sized n s e in
          let w = written m.out text n f.0 f.1 in
          let a = first_word m.answer n l in
          accepts ns nothing _ (get_or (set m.answer 0 n) 0 0) m no-10 no-15 _
          (ap (λ (k : ℕ). drop k (put m.out 0 text)) a ∙ w.0 ∙ sym (ap (λ (k : ℕ). drop k m.out) a)) w.1
      told l (Err r) e = keeps ns nothing _ (get_or m.answer 0 0) m no-10 no-15 (refusal_number r) (listed r e)

      seals : Says (chunks.seals x text m.out m.stream m.answer)
      unfolding chunks.seals
      seals =
          either Says (fits (length m.stream) (length m.answer)) _ _
          (λ e. told (length-nine m.answer ((and-eq-true_iff (eqb (length m.stream) 8) _).0 e).1) x refl)
          (λ e. keeps ns nothing _ (get_or m.answer 0 0) m no-10 no-15 1 has_1)

    -- the same by what is promised of the sealer
    listed_by : (ks : List ℕ) (x : Result (ℕ × Sender) Refusal) → keeping.SealAnswered ks x → ((n : ℕ) → among ks n ≡ true → among (0 ∷ ns) n ≡ true)
        → (r : Refusal) → x ≡ Err r → among (0 ∷ ns) (refusal_number r) ≡ true
    listed_by ks x (keeping.sealed-text n s e) all r f = ap (among (0 ∷ ns)) (sym (ap number f) ∙ ap number e)
    listed_by ks x (keeping.refused-text q g e) all r f = all (refusal_number r) (ap (among ks) (sym (ap number f) ∙ ap number e) ∙ g)

    sealed-so : (ks : List ℕ) (x : Result (ℕ × Sender) Refusal) (text : List ℕ) → ((n : ℕ) → among ks n ≡ true → among (0 ∷ ns) n ≡ true) → SealKeeps ks x text m.out
        → Says (chunks.seals x text m.out m.stream m.answer)
    sealed-so ks x text all k = seals x text (listed_by ks x k.answered all) k.sealed-length

  pub seal-request : (method : ℕ) (key salt : List ℕ) (clock : ℕ) (address : List ℕ) (padding : ℕ) (payload : List ℕ)
      → Ends m (step (relay_stream_seal_request method key salt clock address padding payload) m)
  unfolding step heads.seals_request
  seal-request method key salt clock address padding payload =
      sealed-so (1 ∷ 12 ∷ 2 ∷ 3 ∷ []) refl refl refl (1 ∷ 2 ∷ 3 ∷ 12 ∷ []) _ _ (λ n. listed-so (1 ∷ 2 ∷ 3 ∷ 12 ∷ []) (1 ∷ 12 ∷ 2 ∷ 3 ∷ []) n refl)
      (seal-keeps.requests method key salt clock address padding payload m.out)

  pub seal-response : (method : ℕ) (key salt request_salt : List ℕ) (clock : ℕ) (payload : List ℕ)
      → Ends m (step (relay_stream_seal_response method key salt request_salt clock payload) m)
  unfolding step heads.seals_response
  seal-response method key salt request_salt clock payload =
      sealed-so (1 ∷ 14 ∷ 2 ∷ 3 ∷ []) refl refl refl (1 ∷ 2 ∷ 3 ∷ 14 ∷ []) _ _ (λ n. listed-so (1 ∷ 2 ∷ 3 ∷ 14 ∷ []) (1 ∷ 14 ∷ 2 ∷ 3 ∷ []) n refl)
      (seal-keeps.responses method key salt request_salt clock payload m.out)

  -- ---- chunks: a stream that does not seal is refused before

  module _ (ns ks : List ℕ) (no-10 : among (0 ∷ ns) 10 ≡ false) (no-15 : among (0 ∷ ns) 15 ≡ false) (has_1 : among (0 ∷ ns) 1 ≡ true)
      (has-4 : among (0 ∷ ns) 4 ≡ true) (all : (n : ℕ) → among ks n ≡ true → among (0 ∷ ns) n ≡ true) (f : Framing)
      (has-14 : (n : ℕ) → under f n ≡ true → among (0 ∷ ns) 14 ≡ true) (payload : List ℕ) where
    abbrev text : List ℕ
    text = chunk (keyed f.cipher (key_of (sender_in m.stream).subkey f.key)) (sender_in m.stream).counter payload

    module _ (k : SealKeeps ks (framed_answer f (sender_in m.stream) (length payload) (length m.out)) text m.out) where
      idle : (turn n : ℕ) → among (0 ∷ ns) (refusal_number (chunks.not_sealing f turn n)) ≡ true
      unfolding chunks.not_sealing
      idle turn n =
          either (λ (r : Refusal). among (0 ∷ ns) (refusal_number r) ≡ true) (eqb turn 0) _ _
          (λ e. either (λ (r : Refusal). among (0 ∷ ns) (refusal_number r) ≡ true) (eqb f.key 0) _ _ (λ g. has_1)
          (λ g. either (λ (r : Refusal). among (0 ∷ ns) (refusal_number r) ≡ true) (under f n) _ _ (has-14 n) (λ h. has-4)))
          (λ e. has_1)

      by_turn : (x : Result (ℕ × Sender) Refusal) → x ≡ chunks.chunk_sealed f m.stream (length payload) (length m.out)
          → Says ns no-10 no-15 has_1 (chunks.seals x text m.out m.stream m.answer)
      unfolding chunks.chunk_sealed
      by_turn x e = go (eqb (turn_of m.stream) 3) e
        where
          go : (b : Bool)
              → x ≡ cond b (framed_answer f (sender_in m.stream) (length payload) (length m.out)) (Err (chunks.not_sealing f (turn_of m.stream) (length payload)))
              → Says ns no-10 no-15 has_1 (chunks.seals x text m.out m.stream m.answer)
          go true g =
              seals ns no-10 no-15 has_1 x text (λ r h. listed_by ns no-10 no-15 has_1 ks _ k.answered all r (sym g ∙ h))
              (λ n s h. k.sealed-length n s (sym g ∙ h))
          go false g =
              seals ns no-10 no-15 has_1 x text
              (λ r h. ap (among (0 ∷ ns)) (sym (ap number h) ∙ ap number g) ∙ idle (turn_of m.stream) (length payload))
              (λ n s h. absurd (none n s (sym h ∙ g)))
            where
              is_bytes : Result (ℕ × Sender) Refusal → ℕ
              is_bytes (Ok (n, s)) = 1
              is_bytes (Err r) = 0

              none : (n : ℕ) (s : Sender) → ◌≡◌ {A = Result (ℕ × Sender) Refusal} (Ok (n, s)) (Err (chunks.not_sealing f (turn_of m.stream) (length payload))) → ⊥
              none n s h = let z : ◌≡◌ {A = ℕ} 1 0 = ap is_bytes h in omega arith

  pub seal-chunk : (payload : List ℕ) → Ends m (step (relay_stream_seal_chunk payload) m)
  unfolding step chunks.seals_chunk
  seal-chunk payload =
      by_turn (1 ∷ 14 ∷ 4 ∷ 11 ∷ 2 ∷ 3 ∷ []) (1 ∷ 2 ∷ 3 ∷ 11 ∷ 14 ∷ []) refl refl refl refl
      (λ n. listed-so (1 ∷ 2 ∷ 3 ∷ 11 ∷ 14 ∷ []) (1 ∷ 14 ∷ 4 ∷ 11 ∷ 2 ∷ 3 ∷ []) n refl) (sip022.framing_of (method_in m.stream)) (λ n e. refl) payload
      (seal-keeps.chunks (sender_in m.stream) payload m.out) _ refl

  -- ---- the 2017 edition

  pub seal-chunk-2017 : (payload : List ℕ) → Ends m (step (relay_sip004_stream_seal_chunk payload) m)
  unfolding step chunks.seals_chunk
  seal-chunk-2017 payload =
      by_turn (1 ∷ 4 ∷ 11 ∷ 2 ∷ 3 ∷ []) (1 ∷ 2 ∷ 3 ∷ 11 ∷ []) refl refl refl refl
      (λ n. listed-so (1 ∷ 2 ∷ 3 ∷ 11 ∷ []) (1 ∷ 4 ∷ 11 ∷ 2 ∷ 3 ∷ []) n refl) (streams2017.framing_of (method_in m.stream))
      (λ n e. absurd (true≢false (sym e ∙ none-under (method_in m.stream) n))) payload
      (sip004-keeps.streams.sealing (sender_in m.stream) payload m.out) _ refl

  abbrev Begins : beginning.AfterBegin → Type 0
  Begins y = Ends m (says (1 ∷ []) nothing y.number (leaves_stream m m.pool y.stream m.out m.answer) 0)

  unbegun : Begins (record { number = 1; stream = m.stream })
  unbegun = keeps (1 ∷ []) nothing _ 0 m refl refl 1 refl

  begun : (x : beginning.AfterBegin) → Begins x → Begins (beginning.begins x m.stream)
  unfolding beginning.begins
  begun x k = either Begins (eqb (length m.stream) 8) _ _ (λ e. k) (λ e. unbegun)

  pub begin-seal-2017 : (method : ℕ) (key salt : List ℕ) → Ends m (step (relay_sip004_stream_begin_seal method key salt) m)
  unfolding step streams2017.sender_begun
  begin-seal-2017 method key salt =
      begun _
      (either (λ (x : Result Sender Refusal). Begins (beginning.sender_told x m.stream)) (settings_fit method (length key) (length salt)) _ _
      (λ e. accepts (1 ∷ []) nothing _ 0 m refl refl _ refl refl) (λ e. unbegun))

  pub begin-open-2017 : (method : ℕ) (key salt : List ℕ) → Ends m (step (relay_sip004_stream_begin_open method key salt) m)
  unfolding step streams2017.receiver_begun
  begin-open-2017 method key salt =
      begun _
      (either (λ (x : Result Receiver Refusal). Begins (beginning.receiver_told x m.stream)) (settings_fit method (length key) (length salt)) _ _
      (λ e. accepts (1 ∷ []) nothing _ 0 m refl refl _ refl refl) (λ e. unbegun))

  module _ (method : ℕ) (key salt payload : List ℕ) where
    abbrev sealed : Result ℕ Refusal
    sealed = sip004.seal_answer method (length key) (length salt) (length payload) (length m.out)

    abbrev Tells : edition2017.AfterDatagram → Type 0
    Tells y = Ends m (writes (1 ∷ 2 ∷ 3 ∷ []) y.number (leaves m m.table m.session y.out m.words y.answer))

    datagram-told : length m.answer ≡ 9 → (x : Result ℕ Refusal) → sealed ≡ x → Tells (edition2017.sealed_told x (sip004.datagram key salt payload) m.out m.answer)
    datagram-told l (Ok n) e =
        let k = sip004-keeps.datagrams.sealing method key salt payload m.out in
        let s = ap (λ (x : Result ℕ Refusal). sip004.seal_out x (sip004.datagram key salt payload) m.out) e in
        let a = first_word m.answer n l in
        accepts (1 ∷ 2 ∷ 3 ∷ []) nothing _ (get_or (set m.answer 0 n) 0 0) m refl refl _
        (ap (λ (i : ℕ). drop i (put m.out 0 (sip004.datagram key salt payload))) a ∙ sym (ap (drop n) s) ∙ k.behind-kept n e
        ∙ sym (ap (λ (i : ℕ). drop i m.out) a))
        (sym (ap length s) ∙ k.length-kept)
    datagram-told l (Err r) e =
        keeps (1 ∷ 2 ∷ 3 ∷ []) nothing _ (get_or m.answer 0 0) m refl refl (refusal_number r)
        (listed-too (1 ∷ 2 ∷ 3 ∷ []) (refusal_number r) ((sip004-keeps.datagrams.sealing method key salt payload m.out).refusals r e))

    pub datagram-seal-2017 : Ends m (step (relay_sip004_datagram_seal method key salt payload) m)
    unfolding step edition2017.tells
    datagram-seal-2017 =
        either Tells (eqb (length m.answer) 9) _ _ (λ e. datagram-told (length-nine m.answer e) sealed refl)
        (λ e. keeps (1 ∷ 2 ∷ 3 ∷ []) nothing _ (get_or m.answer 0 0) m refl refl 1 refl)

  module _ (method : ℕ) (key s : List ℕ) where
    abbrev opened : Result ℕ Refusal
    opened = sip004.open_answer method key s (length m.out)

    abbrev Opens : edition2017.AfterDatagram → Type 0
    Opens y =
        Ends m
        (verdict (sip004.body_authentic key s)
        (says (1 ∷ 2 ∷ 3 ∷ 4 ∷ []) nothing y.number (leaves m m.table m.session y.out m.words y.answer) (length s - (length key + 16))))

    open_told : (x : Result ℕ Refusal) → opened ≡ x → Opens (edition2017.opened_told x (sip004.payload_of key s) m.out m.answer)
    open_told (Ok n) e =
        let k = sip004-keeps.datagrams.opening method key s m.out in
        let w = ap (λ (x : Result ℕ Refusal). sip004.open_out x (sip004.payload_of key s) m.out) e in
        judged _ (1 ∷ 2 ∷ 3 ∷ 4 ∷ []) nothing (length s - (length key + 16)) m 0 _
        (accepts (1 ∷ 2 ∷ 3 ∷ 4 ∷ []) nothing _ (length s - (length key + 16)) m refl refl _
        (sym (ap (drop (length s - (length key + 16))) w) ∙ k.past-due-kept) (sym (ap length w) ∙ k.length-kept))
    open_told (Err r) e =
        judged _ (1 ∷ 2 ∷ 3 ∷ 4 ∷ []) nothing (length s - (length key + 16)) m (refusal_number r) m
        (keeps (1 ∷ 2 ∷ 3 ∷ 4 ∷ []) nothing _ (length s - (length key + 16)) m refl refl (refusal_number r)
        (listed-too (1 ∷ 2 ∷ 3 ∷ 4 ∷ []) (refusal_number r) ((sip004-keeps.datagrams.opening method key s m.out).refusals r e)))

    pub datagram-open-2017 : Ends m (step (relay_sip004_datagram_open method key s) m)
    unfolding step edition2017.tells
    datagram-open-2017 =
        either Opens (eqb (length m.answer) 9) _ _ (λ e. open_told opened refl)
        (λ e. judged _ (1 ∷ 2 ∷ 3 ∷ 4 ∷ []) nothing (length s - (length key + 16)) m 1 m
        (keeps (1 ∷ 2 ∷ 3 ∷ 4 ∷ []) nothing _ (length s - (length key + 16)) m refl refl 1 refl))
