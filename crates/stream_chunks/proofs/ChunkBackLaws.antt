-- What a chunk was sealed from is read back from it, piece by piece. For every key length of AES.
-- Assumes nothing.
use Rattle.std.specs.Prelude.{Err, Ok, Result}
use mathlib.Core.Path.{◌≡◌, refl, sym, ap, ◌∙◌, subst}
use mathlib.Core.Bool.{Bool, true, false, cond}
use mathlib.Core.List.{List, ◌++◌, append_assoc}
use Prim.Native.Nat.{ℕ, ◌+◌, ◌-◌, ◌≤◌, ◌<◌}
use native.Mathlib.Nat.{le_trans, mod-eq_of_lt}
use native.Mathlib.Omega.{arith}
use lib.Dec.{eqb, leb, ltb}
use lib.ListN.{length, take, drop, length-append}
use lib.Seq.{take_at, drop_at}
use borrow.Author.Tests.{le-leb, leb-true, ltb-true, ltb-false, eqb-false}
use Rattle.octets.specs.Buffers.{put}
use Rattle.octets.specs.Numbers.{be, to_be}
use Rattle.octets.proofs.NumberLaws.{length-to_be, be-to_be}
use Rattle.protocol.specs.declared.Refusal.{Refusal}
use Rattle.stream_pieces.specs.declared.Framing.{Framing}
use Rattle.stream_pieces.specs.declared.Subkey.{Subkey}
use Rattle.stream_pieces.specs.Framing.{under}
use Rattle.stream_pieces.specs.Pieces.{Keyed, keyed, seal_at, authentic_at, open_at, key_of, max_chunk, last_counter}
use Rattle.stream_pieces.proofs.FramingLaws.{not-over}
use Rattle.stream_pieces.proofs.LengthLaws.{length-seal_at}
use Rattle.stream_seal.specs.declared.Sender.{Sender}
use Rattle.stream_seal.specs.Sealing.{chunk, moved, size_answer, framed_answer}
use Rattle.stream_seal.proofs.LengthLaws.{length-chunk}
use Rattle.stream_open.specs.declared.Turn.{Turn}
use Rattle.stream_open.specs.declared.Turn.TheVariants.{Length, Payload}
use Rattle.stream_open.specs.declared.Receiver.{Receiver}
use Rattle.stream_open.specs.Chunks.{receiver}
use Rattle.stream_pieces.proofs.PieceLaws.{piece_back}
use Rattle.stream_open.specs.Steps.{step_answer, step_out}
use Rattle.stream_open.proofs.ChunkLaws.{length-kept}
use Rattle.stream_chunks.specs.Opens.{Edition, PieceOpens, Within}
use Rattle.stream_chunks.specs.Flows.{key_for, sealing}
use Rattle.stream_chunks.specs.Back.{partner, midway, ChunkBack, ChunksGivenBack}
use Rattle.stream_chunks.proofs.StepLaws.{step_given, step-text}

-- ---- what an answered length says

abbrev is_bytes : Result (ℕ × Sender) Refusal → ℕ
is_bytes (Ok (n, s)) = 1
is_bytes (Err r) = 0

not-bytes : (r : Refusal) (n : ℕ) (s : Sender) → ◌≡◌ {A = Result (ℕ × Sender) Refusal} (Err r) (Ok (n, s)) → ⊥
not-bytes r n s e = let z : ◌≡◌ {A = ℕ} 0 1 = ap is_bytes e in omega arith

abbrev bytes_in : Result (ℕ × Sender) Refusal → ℕ
bytes_in (Ok (n, s)) = n
bytes_in (Err r) = 0

abbrev sender_in : Result (ℕ × Sender) Refusal → Sender → Sender
sender_in (Ok (n, s)) other = s
sender_in (Err r) other = other

pub record Answers (b : Bool) (x : Result (ℕ × Sender) Refusal) (n : ℕ) (s : Sender) : Type 0 where
  pub test : b ≡ true
  pub then : x ≡ Ok (n, s)

pub answers : (b : Bool) (x : Result (ℕ × Sender) Refusal) (r : Refusal) (n : ℕ) (s : Sender) → cond b x (Err r) ≡ Ok (n, s) → Answers b x n s
answers true x r n s e = record { test = refl; then = e }
answers false x r n s e = absurd (not-bytes r n s e)

-- the same where the refusal is given by a test that holds
pub record Denied (b : Bool) (x : Result (ℕ × Sender) Refusal) (n : ℕ) (s : Sender) : Type 0 where
  pub test : b ≡ false
  pub then : x ≡ Ok (n, s)

pub denied : (b : Bool) (x : Result (ℕ × Sender) Refusal) (r : Refusal) (n : ℕ) (s : Sender) → cond b (Err r) x ≡ Ok (n, s) → Denied b x n s
denied false x r n s e = record { test = refl; then = e }
denied true x r n s e = absurd (not-bytes r n s e)

-- the sizes
pub record Sized (greatest size before room : ℕ) (s : Sender) (n : ℕ) (next : Sender) : Type 0 where
  pub small : size ≤ greatest
  pub fits : before + size + 16 ≤ room
  pub count : n ≡ before + size + 16
  pub after : next ≡ s

pub sized : (greatest size before room : ℕ) (s : Sender) (n : ℕ) (next : Sender) → size_answer greatest size before room s ≡ Ok (n, next)
    → Sized greatest size before room s n next
unfolding size_answer
sized greatest size before room s n next e =
    let e₁ = answers (leb size greatest) _ _ n next e in
    let e₂ = answers (leb (before + size + 16) room) _ _ n next e₁.then in
    record {
      small = leb-true size greatest e₁.test;
      fits = leb-true (before + size + 16) room e₂.test;
      count = sym (ap bytes_in e₂.then);
      after = sym (ap (λ (x : Result (ℕ × Sender) Refusal). sender_in x s) e₂.then);
    }

pub record Chunkable (f : Framing) (s : Sender) (payload room n : ℕ) (next : Sender) : Type 0 where
  pub known : eqb f.key 0 ≡ false
  pub enough : under f payload ≡ false
  pub counter : s.counter < last_counter - 1
  pub sizes : Sized f.greatest payload 18 room (moved s) n next

pub chunkable : (f : Framing) (s : Sender) (payload room n : ℕ) (next : Sender) → framed_answer f s payload room ≡ Ok (n, next)
    → Chunkable f s payload room n next
unfolding framed_answer
chunkable f s payload room n next e =
    let e₁ = denied (eqb f.key 0) _ _ n next e in
    let e₃ = denied (under f payload) _ _ n next e₁.then in
    let e₂ = answers (ltb s.counter (last_counter - 1)) _ _ n next e₃.then in
    record {
      known = e₁.test;
      enough = e₃.test;
      counter = ltb-true s.counter (last_counter - 1) e₂.test;
      sizes = sized f.greatest payload 18 room (moved s) n next e₂.then;
    }

-- ---- steps on what was sealed

-- a stream with a key, at a counter that is not the last
module _ (f : Framing) (method counter : ℕ) (w : Subkey) (known : eqb f.key 0 ≡ false) (usable : counter ≡ last_counter → ⊥) where
  abbrev key : Keyed
  key = keyed f.cipher (key_of w f.key)

  abbrev at : Turn → Receiver
  at turn = receiver method turn counter w

  module _ (text rest : List ℕ) where
    abbrev sent : List ℕ
    sent = seal_at key counter text ++ rest

    sent_front : (n : ℕ) → length text ≡ n → take (n + 16) sent ≡ seal_at key counter text
    sent_front n e =
        take_at (seal_at key counter text) rest (n + 16) (length-seal_at key counter text ∙ ap (λ (k : ℕ). k + 16) e)

    pub sent-behind : (n : ℕ) → length text ≡ n → drop (n + 16) sent ≡ rest
    sent-behind n e =
        drop_at (seal_at key counter text) rest (n + 16) (length-seal_at key counter text ∙ ap (λ (k : ℕ). k + 16) e)

    sent-long : (n : ℕ) → length text ≡ n → leb (n + 16) (length sent) ≡ true
    sent-long n e =
        le-leb (n + 16) (length sent)
        (omega (arith, length-append (seal_at key counter text) rest, length-seal_at key counter text, e))

    sent-authentic : (n : ℕ) → length text ≡ n → authentic_at key counter (take (n + 16) sent) ≡ true
    sent-authentic n e = ap (authentic_at key counter) (sent_front n e) ∙ (piece_back key counter text).0

    sent-opened : (n : ℕ) → length text ≡ n → open_at key counter (take (n + 16) sent) ≡ text
    sent-opened n e = ap (open_at key counter) (sent_front n e) ∙ (piece_back key counter text).1

    piece-there : (n asked room : ℕ) → length text ≡ n → asked ≤ room → PieceOpens key counter n sent asked room
    piece-there n asked room e h =
        record { usable = usable; whole = leb-true (n + 16) (length sent) (sent-long n e); has_room = h; authentic = sent-authentic n e }

  length-step : (n : ℕ) → Within f n → n ≤ max_chunk → (rest : List ℕ) (room : ℕ)
      → step_answer f (at Length) (seal_at key counter (to_be 2 n) ++ rest) room ≡ Ok (record { used = 18; length = n })
  length-step n allows h rest room =
      let text = to_be 2 n in
      let here : be 2 (open_at key counter (take 18 (sent text rest))) ≡ n =
      ap (be 2) (sent-opened text rest 2 (length-to_be 2 n)) ∙ be-to_be 2 n ∙ mod-eq_of_lt (omega arith) in
      step_given f (at Length) (sent text rest) room (record { used = 18; length = n })
      (record {
        known = eqb-false f.key 0 known;
        opens = (
          piece-there text rest 2 0 room (length-to_be 2 n) (omega arith),
          (subst (Within f) (sym here) allows, ap (λ (m : ℕ). record { used = 18; length = m }) (sym here)),
        );
      })

  pub length-out : (s out : List ℕ) → step_out f (at Length) s out ≡ out
  unfolding step_out
  length-out s out = length-kept (step_answer f (at Length) s (length out)) _ out

  pub payload-step : (text rest : List ℕ) → Within f (length text) → (room : ℕ) → length text ≤ room
      → step_answer f (at (Payload (length text))) (seal_at key counter text ++ rest) room
      ≡ Ok (record { used = length text + 16; length = length text })
  payload-step text rest allows room h =
      step_given f (at (Payload (length text))) (sent text rest) room (record { used = length text + 16; length = length text })
      (record {
        known = eqb-false f.key 0 known;
        opens = (piece-there text rest (length text) (length text) room refl h, (allows, refl));
      })

  pub payload-out : (text rest : List ℕ) → Within f (length text) → (out : List ℕ) → length text ≤ length out
      → step_out f (at (Payload (length text))) (seal_at key counter text ++ rest) out ≡ put out 0 text
  payload-out text rest allows out h =
      step-text f (at (Payload (length text))) (sent text rest) out (record { used = length text + 16; length = length text })
      (payload-step text rest allows (length out) h)
      ∙ ap (put out 0) (sent-opened text rest (length text) refl)

-- ---- a chunk

-- a payload of no more than two bytes can say
within-said : (f : Framing) (n : ℕ) → under f n ≡ false → n ≤ f.greatest → Within f n
within-said f n u h = (ltb-false n f.least u, not-over f n h)

module _ (edition : Edition) (capped : (method : ℕ) → (edition method).greatest ≤ max_chunk) (s next : Sender) (payload : List ℕ) (space n : ℕ)
    (answered : sealing edition s (length payload) space ≡ Ok (n, next)) where
  abbrev f : Framing
  f = edition s.method

  abbrev key_here : Keyed
  key_here = key_for edition s

  facts : Chunkable f s (length payload) space n next
  facts = chunkable f s (length payload) space n next answered

  allows : Within f (length payload)
  allows = within-said f (length payload) facts.enough facts.sizes.small

  sayable : length payload ≤ max_chunk
  sayable = le_trans facts.sizes.small (capped s.method)

  abbrev size : List ℕ
  size = seal_at key_here s.counter (to_be 2 (length payload))

  abbrev body : List ℕ
  body = seal_at key_here (s.counter + 1) payload

  split : (rest : List ℕ) → chunk key_here s.counter payload ++ rest ≡ size ++ (body ++ rest)
  unfolding chunk
  split rest = append_assoc size body rest

  behind : (rest : List ℕ) → drop 18 (chunk key_here s.counter payload ++ rest) ≡ body ++ rest
  behind rest =
      ap (drop 18) (split rest)
      ∙ drop_at size (body ++ rest) 18
      (length-seal_at key_here s.counter (to_be 2 (length payload)) ∙ ap (λ (k : ℕ). k + 16) (length-to_be 2 (length payload)))

  first : s.counter ≡ last_counter → ⊥
  first e = omega (arith, e, facts.counter)

  second : s.counter + 1 ≡ last_counter → ⊥
  second e = omega (arith, e, facts.counter)

  two : s.counter + 1 + 1 ≡ s.counter + 2
  two = omega arith

  sent-chunk : (rest out : List ℕ) → length payload ≤ length out → ChunkBack edition s next n payload rest out
  sent-chunk rest out h =
      record {
        sealed-length = length-chunk key_here s.counter payload ∙ sym facts.sizes.count;
        length-read = λ room. ap (λ (x : List ℕ). step_answer f (partner s) x room) (split rest)
            ∙ length-step f s.method s.counter s.subkey facts.known first (length payload) allows sayable (body ++ rest) room;
        length-writes-nothing = λ o. length-out f s.method s.counter s.subkey facts.known first _ o;
        length-next = refl;
        payload-read = ap (λ (x : List ℕ). step_answer f (midway s (length payload)) x (length out)) (behind rest)
            ∙ payload-step f s.method (s.counter + 1) s.subkey facts.known second payload rest allows (length out) h;
        payload-written = ap (λ (x : List ℕ). step_out f (midway s (length payload)) x out) (behind rest)
            ∙ payload-out f s.method (s.counter + 1) s.subkey facts.known second payload rest allows out h;
        payload-next = ap (λ (k : ℕ). receiver s.method Length k s.subkey) two ∙ ap partner (sym facts.sizes.after);
        used_all = omega (arith, facts.sizes.count);
        left = ap (drop (length payload + 16)) (behind rest)
            ∙ sent-behind f s.method (s.counter + 1) s.subkey facts.known second payload rest (length payload) refl;
      }

-- under every edition whose lengths two bytes can say
pub chunk_back : (edition : Edition) → ((method : ℕ) → (edition method).greatest ≤ max_chunk) → ChunksGivenBack edition
chunk_back edition capped s next payload space n answered rest out h = sent-chunk edition capped s next payload space n answered rest out h
