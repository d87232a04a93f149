-- A stream of any number of chunks is given back, and each chunk has its own counters.
-- Assumes nothing.
use Rattle.std.specs.Prelude.{Ok, Result}
use mathlib.Core.Path.{◌≡◌, refl, sym, ap, ap₂, ◌∙◌, subst}
use mathlib.Core.List.{List, [], ◌∷◌, ◌++◌, append_assoc}
use Prim.Native.Nat.{ℕ, suc, ◌+◌, ◌*◌, ◌≤◌}
use native.Mathlib.Nat.{zero-add, add-zero}
use native.Mathlib.Omega.{arith}
use lib.ListN.{length, take, drop}
use Rattle.octets.specs.Buffers.{put}
use Rattle.octets.proofs.BufferLaws.{length-put, take_put}
use Rattle.stream_pieces.specs.Pieces.{max_chunk}
use Rattle.stream_seal.specs.declared.Sender.{Sender}
use Rattle.stream_seal.specs.Sealing.{chunk, moved}
use Rattle.stream_open.specs.declared.Turn.TheVariants.{Length, Payload}
use Rattle.stream_open.specs.declared.Chunk.{Chunk}
use Rattle.stream_open.specs.Steps.{step_next}
use Rattle.stream_chunks.specs.Opens.{Edition}
use Rattle.stream_chunks.specs.Flows.{Flow, answer_to, written_in, used_by, stepped, after, gives, received, AllOpened, sent_by, leaves, key_for, sealing, sent_chunk, sent_all, chunks_from, sender_after, AllSealed, Fit}
use Rattle.stream_chunks.specs.Back.{partner, midway, ChunkBack, StreamBack, StreamsGivenBack, SendersCount}
use Rattle.stream_chunks.proofs.ChunkBackLaws.{chunkable, chunk_back}
use Rattle.protocol.specs.declared.Refusal.{Refusal}

-- ---- buffers

pub front-put : (out p : List ℕ) → length p ≤ length out → take (length p) (put out 0 p) ≡ p
front-put out p h =
    let fits : 0 + length p ≤ length out = omega arith in
    ap (λ (k : ℕ). take k (put out 0 p)) (sym (zero-add (length p))) ∙ take_put out 0 p fits

pub kept-length : (out p : List ℕ) → length p ≤ length out → length (put out 0 p) ≡ length out
kept-length out p h = let fits : 0 + length p ≤ length out = omega arith in length-put out 0 p fits

module _ (edition : Edition) (capped : (method : ℕ) → (edition method).greatest ≤ max_chunk) where
  -- ---- a step in front of others

  -- a payload of p that was opened: from f on to g
  pub record GivesPayload (f : Flow) (p : List ℕ) (g : Flow) : Type 0 where
    pub opened : Chunk
    pub answer : answer_to edition f ≡ Ok opened
    pub at-payload : f.stream.turn ≡ Payload (length p)
    pub text : take (length p) (written_in edition f) ≡ p
    pub next : stepped edition f ≡ g

  pub payload-first : (k : ℕ) (f : Flow) (p : List ℕ) (g : Flow) (ps : List (List ℕ)) (last : Sender) (rest : List ℕ) → GivesPayload f p g
      → StreamBack edition k g ps last rest → StreamBack edition (suc k) f (p ∷ ps) last rest
  payload-first k f p g ps last rest d b =
      record {
        same-payloads =
            (λ i. gives (d.answer i) (d.at-payload i) (written_in edition f) (received edition k (d.next i)))
            ∙ ap₂ (λ (x : List ℕ) (xs : List (List ℕ)). x ∷ xs) d.text b.same-payloads;
        all-opened = ((d.opened, d.answer), subst (AllOpened edition k) (sym d.next) b.all-opened);
        in_step = ap (λ (x : Flow). (after edition k x).stream) d.next ∙ b.in_step;
        left = ap (λ (x : Flow). (after edition k x).bytes) d.next ∙ b.left;
      }

  -- a length: no payload
  record GivesLength (f : Flow) (g : Flow) : Type 0 where
    opened : Chunk
    answer : answer_to edition f ≡ Ok opened
    at_length : f.stream.turn ≡ Length
    next : stepped edition f ≡ g

  length-first : (k : ℕ) (f g : Flow) (ps : List (List ℕ)) (last : Sender) (rest : List ℕ) → GivesLength f g → StreamBack edition k g ps last rest
      → StreamBack edition (suc k) f ps last rest
  length-first k f g ps last rest d b =
      record {
        same-payloads = (λ i. gives (d.answer i) (d.at_length i) (written_in edition f) (received edition k (d.next i))) ∙ b.same-payloads;
        all-opened = ((d.opened, d.answer), subst (AllOpened edition k) (sym d.next) b.all-opened);
        in_step = ap (λ (x : Flow). (after edition k x).stream) d.next ∙ b.in_step;
        left = ap (λ (x : Flow). (after edition k x).bytes) d.next ∙ b.left;
      }

  -- ---- a chunk in front of others

  module _ (space : ℕ) (s next : Sender) (p : List ℕ) (n : ℕ) (answered : sealing edition s (length p) space ≡ Ok (n, next))
      (more out : List ℕ) (room : length p ≤ length out) where
    back : ChunkBack edition s next n p more out
    back = chunk_back edition capped s next p space n answered more out room

    abbrev sent : List ℕ
    sent = chunk (key_for edition s) s.counter p ++ more

    abbrev first : Flow
    first = record { stream = partner s; bytes = sent; buffer = out }

    abbrev second : Flow
    second = record { stream = midway s (length p); bytes = drop 18 sent; buffer = out }

    abbrev third : Flow
    third = record { stream = partner next; bytes = more; buffer = put out 0 p }

    gives-length : GivesLength first second
    unfolding answer_to written_in
    gives-length =
        let a = back.length-read (length out) in
        record {
          opened = record { used = 18; length = length p };
          answer = a;
          at_length = refl;
          next =
              (λ i. record { stream = step_next (partner s) (a i); bytes = drop (used_by (a i)) sent; buffer = back.length-writes-nothing out i })
              ∙ (λ i. record { stream = back.length-next i; bytes = drop 18 sent; buffer = out });
        }

    gives-payload : GivesPayload second p third
    unfolding answer_to written_in
    gives-payload =
        let a = back.payload-read in
        record {
          opened = record { used = length p + 16; length = length p };
          answer = a;
          at-payload = refl;
          text = ap (take (length p)) back.payload-written ∙ front-put out p room;
          next =
              (λ i. record {
                stream = step_next (midway s (length p)) (a i);
                bytes = drop (used_by (a i)) (drop 18 sent);
                buffer = back.payload-written i;
              })
              ∙ (λ i. record { stream = back.payload-next i; bytes = back.left i; buffer = put out 0 p });
        }

    chunk-first : (k : ℕ) (ps : List (List ℕ)) (last : Sender) (rest : List ℕ) → StreamBack edition k third ps last rest
        → StreamBack edition (suc (suc k)) first (p ∷ ps) last rest
    chunk-first k ps last rest b =
        length-first (suc k) first second (p ∷ ps) last rest gives-length (payload-first k second p third ps last rest gives-payload b)

  -- ---- many

  two-more : (m : ℕ) → suc (suc (2 * m)) ≡ 2 * suc m
  two-more m = omega arith

  pub fit_same : (a b : ℕ) → a ≡ b → (ps : List (List ℕ)) → Fit a ps → Fit b ps
  fit_same a b e ps h = subst (λ (k : ℕ). Fit k ps) e h

  pub stream-back : StreamsGivenBack edition
  stream-back space s [] o rest out h = record { same-payloads = refl; all-opened = tt; in_step = refl; left = refl }
  stream-back space s (p ∷ ps) o rest out h =
      let n = o.0.0 in
      let next = o.0.1.0 in
      let answered = o.0.1.1 in
      let later : leaves (sealing edition s (length p) space) s ≡ next = ap (λ (a : Result (ℕ × Sender) Refusal). leaves a s) answered in
      let more = sent_all edition space next ps ++ rest in
      let inner =
      stream-back space next ps (subst (λ (x : Sender). AllSealed edition space x ps) later o.1) rest (put out 0 p)
      (fit_same (length out) (length (put out 0 p)) (sym (kept-length out p h.0)) ps h.1) in
      let here = chunk-first space s next p n answered more out h.0 (2 * length ps) ps (sender_after edition space next ps) rest inner in
      let bytes : sent_all edition space s (p ∷ ps) ++ rest ≡ chunk (key_for edition s) s.counter p ++ more =
      ap₂ (λ (a : Result (ℕ × Sender) Refusal) (x : Sender). (sent_by a (chunk (key_for edition s) s.counter p) ++ sent_all edition space x ps) ++ rest) answered later
      ∙ append_assoc (chunk (key_for edition s) s.counter p) (sent_all edition space next ps) rest in
      subst (λ (k : ℕ). StreamBack edition k (record { stream = partner s; bytes = sent_all edition space s (p ∷ ps) ++ rest; buffer = out }) (p ∷ ps)
      (sender_after edition space s (p ∷ ps)) rest) (two-more (length ps))
      (subst (λ (x : Sender). StreamBack edition (suc (suc (2 * length ps))) (record { stream = partner s; bytes = sent_all edition space s (p ∷ ps) ++ rest; buffer = out }) (p ∷ ps)
      (sender_after edition space x ps) rest) (sym later)
      (subst (λ (b : List ℕ). StreamBack edition (suc (suc (2 * length ps))) (record { stream = partner s; bytes = b; buffer = out }) (p ∷ ps)
      (sender_after edition space next ps) rest) (sym bytes) here))

  -- ---- each chunk takes two counters, the next two, and the key stays

  -- a chunk that was sealed moves its sender
  moves : (space : ℕ) (s : Sender) (p : List ℕ) (ps : List (List ℕ)) → AllSealed edition space s (p ∷ ps)
      → leaves (sealing edition s (length p) space) s ≡ moved s
  moves space s p ps o =
      ap (λ (a : Result (ℕ × Sender) Refusal). leaves a s) o.0.1.1 ∙ (chunkable (edition s.method) s (length p) space o.0.0 o.0.1.0 o.0.1.1).sizes.after

  -- and so those behind it were sealed by the moved one
  behind-it : (space : ℕ) (s : Sender) (p : List ℕ) (ps : List (List ℕ)) → AllSealed edition space s (p ∷ ps) → AllSealed edition space (moved s) ps
  behind-it space s p ps o = subst (λ (x : Sender). AllSealed edition space x ps) (moves space s p ps o) o.1

  two_past : (c m : ℕ) → c + 2 + 2 * m ≡ c + 2 * suc m
  two_past c m = omega arith

  own-chunk : (space : ℕ) (s : Sender) (before : List (List ℕ)) (p : List ℕ) (behind : List (List ℕ)) → AllSealed edition space s (before ++ p ∷ behind)
      → sent_chunk edition space (sender_after edition space s before) p ≡ chunk (key_for edition s) (s.counter + 2 * length before) p
  own-chunk space s [] p behind o =
      ap (λ (a : Result (ℕ × Sender) Refusal). sent_by a (chunk (key_for edition s) s.counter p)) o.0.1.1
      ∙ ap (λ (c : ℕ). chunk (key_for edition s) c p) (sym (add-zero s.counter))
  own-chunk space s (q ∷ qs) p behind o =
      ap (λ (x : Sender). sent_chunk edition space (sender_after edition space x qs) p) (moves space s q (qs ++ p ∷ behind) o)
      ∙ own-chunk space (moved s) qs p behind (behind-it space s q (qs ++ p ∷ behind) o)
      ∙ ap (λ (c : ℕ). chunk (key_for edition s) c p) (two_past s.counter (length qs))

  own-chunks : (space : ℕ) (s : Sender) (ps : List (List ℕ)) → AllSealed edition space s ps → sent_all edition space s ps ≡ chunks_from (key_for edition s) s.counter ps
  own-chunks space s [] o = refl
  own-chunks space s (p ∷ ps) o =
      (λ i. sent_by (o.0.1.1 i) (chunk (key_for edition s) s.counter p) ++ sent_all edition space (moves space s p ps o i) ps)
      ∙ ap (λ (t : List ℕ). chunk (key_for edition s) s.counter p ++ t) (own-chunks space (moved s) ps (behind-it space s p ps o))

  counts_all : (space : ℕ) (s : Sender) (ps : List (List ℕ)) → AllSealed edition space s ps
      → (sender_after edition space s ps).counter ≡ s.counter + 2 * length ps
  counts_all space s [] o = sym (add-zero s.counter)
  counts_all space s (p ∷ ps) o =
      ap (λ (x : Sender). (sender_after edition space x ps).counter) (moves space s p ps o)
      ∙ counts_all space (moved s) ps (behind-it space s p ps o)
      ∙ two_past s.counter (length ps)

  key-stays : (space : ℕ) (s : Sender) (ps : List (List ℕ)) → AllSealed edition space s ps → key_for edition (sender_after edition space s ps) ≡ key_for edition s
  key-stays space s [] o = refl
  key-stays space s (p ∷ ps) o =
      ap (λ (x : Sender). key_for edition (sender_after edition space x ps)) (moves space s p ps o) ∙ key-stays space (moved s) ps (behind-it space s p ps o)

  pub own-counters : SendersCount edition
  unfolding chunk
  own-counters space s payloads o =
      record {
        each-chunk = λ before p behind e. own-chunk space s before p behind (subst (AllSealed edition space s) e o);
        two-pieces = λ counter p. refl;
        all-chunks = own-chunks space s payloads o;
        counts = counts_all space s payloads o;
        same_key = key-stays space s payloads o;
      }
