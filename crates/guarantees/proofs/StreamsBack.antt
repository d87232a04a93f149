-- Whole streams come back, of both editions.
-- Assumes nothing.
use Rattle.std.specs.Prelude.{Err, Ok}
use mathlib.Core.Path.{◌≡◌, refl, sym, ap, ◌∙◌, subst}
use mathlib.Core.List.{List, [], ◌∷◌, ◌++◌}
use Prim.Native.Nat.{ℕ, ◌+◌}
use lib.ListN.{length, set, drop}
use Rattle.guarantees.specs.Calls.{Call, step, relay_stream_seal_chunk, relay_stream_open_chunk, relay_sip004_stream_seal_chunk, relay_sip004_stream_open_chunk, sent}
use Rattle.guarantees.specs.Guarantees.{ChunksBack, SealedAll, OpenedAll, StreamsBack, BegunAlike2017}
use mathlib.Core.Bool.{Bool, true, false, cond}
use native.Mathlib.Omega.{arith}
use lib.Dec.{eqb}
use borrow.Author.Tests.{eq-eqb}
use Rattle.protocol.specs.declared.Refusal.TheVariants.{Settings}
use Rattle.sip004.specs.Method.{settings_fit}
use Rattle.sip004_stream.specs.Streams as streams2017
use Rattle.stream_answers.specs.Beginning.{AfterBegin, begins, sender_told, receiver_told}
use Rattle.relay.specs.Sip004 as edition2017
use Rattle.guarantees.proofs.ChunksBack.{chunks-back, chunks-back-2017}

pub append_assoc : (a b c : List ℕ) → (a ++ b) ++ c ≡ a ++ (b ++ c)
append_assoc [] b c = refl
append_assoc (x ∷ a) b c = ap (◌∷◌ x) (append_assoc a b c)

module _ (seals opens : List ℕ → Call) (chunk : ChunksBack seals opens) where
  opened : (w : List ℕ) (payloads : List (List ℕ)) (bytes next rest : List ℕ) → SealedAll seals opens w payloads bytes next
      → OpenedAll seals opens (set w 0 1) (bytes ++ rest) payloads rest (set next 0 1)
  opened w [] bytes next rest s = (ap (λ (l : List ℕ). l ++ rest) s.0, ap (λ (l : List ℕ). set l 0 1) (sym s.1))
  opened w (p ∷ ps) bytes next rest s =
      let m = s.0 in
      let behind = s.1.0 in
      let q = s.1.1 in
      let x = step (seals p) m in
      let e : sent x ++ (behind ++ rest) ≡ bytes ++ rest =
      sym (append_assoc (sent x) behind rest) ∙ ap (λ (l : List ℕ). l ++ rest) (sym q.1.1.0) in
      subst (λ (v : List ℕ). OpenedAll seals opens (set v 0 1) (bytes ++ rest) (p ∷ ps) rest (set next 0 1)) q.0
      (subst (λ (l : List ℕ). OpenedAll seals opens (set m.stream 0 1) l (p ∷ ps) rest (set next 0 1)) e
      (λ out answer again a b room.
      let k = chunk m p (behind ++ rest) out answer again q.1.0 a b room in (
        k.length-read,
        (
          k.payload-read,
          (
            k.payload-there,
            subst (λ (v : List ℕ). OpenedAll seals opens v (drop (length p + 16) (drop 18 (sent x ++ (behind ++ rest)))) ps rest (set next 0 1)) (sym k.in_step)
                (subst (λ (l : List ℕ). OpenedAll seals opens (set x.left.stream 0 1) l ps rest (set next 0 1)) (sym k.left)
                (opened x.left.stream ps behind next rest q.1.1.1)),
          ),
        ),
      )))

pub streams-back : StreamsBack relay_stream_seal_chunk relay_stream_open_chunk
streams-back = opened relay_stream_seal_chunk relay_stream_open_chunk chunks-back

pub streams-back-2017 : StreamsBack relay_sip004_stream_seal_chunk relay_sip004_stream_open_chunk
streams-back-2017 = opened relay_sip004_stream_seal_chunk relay_sip004_stream_open_chunk chunks-back-2017

-- ---- the 2017 edition's streams are begun in step

module _ (method : ℕ) (key salt v w : List ℕ) (eight : length w ≡ 8) where
  abbrev fit : Bool
  fit = settings_fit method (length key) (length salt)

  abbrev seal : (c b : Bool) → AfterBegin
  seal c b =
      cond c (sender_told (cond b (Ok (streams2017.sender method (streams2017.subkey_of key salt))) (Err Settings)) v) (record { number = 1; stream = v })

  abbrev opened-words : (c b : Bool) → AfterBegin
  opened-words c b =
      cond c (receiver_told (cond b (Ok (streams2017.receiver method (streams2017.subkey_of key salt))) (Err Settings)) w) (record { number = 1; stream = w })

  in_step : (c b : Bool) → (seal c b).number ≡ 0 → ((opened-words true b).number ≡ 0) × ((opened-words true b).stream ≡ set (seal c b).stream 0 1)
  in_step true true e = (refl, refl)
  in_step true false e = absurd (omega (arith, e))
  in_step false b e = absurd (omega (arith, e))

  begun-alike : (edition2017.begins_sealing method key salt v).number ≡ 0
      → ((edition2017.begins_opening method key salt w).number ≡ 0)
      × ((edition2017.begins_opening method key salt w).stream ≡ set (edition2017.begins_sealing method key salt v).stream 0 1)
  unfolding begins streams2017.sender_begun streams2017.receiver_begun
  begun-alike e =
      let o : edition2017.begins_opening method key salt w ≡ opened-words true fit = ap (λ (c : Bool). opened-words c fit) (eq-eqb (length w) 8 eight) in
      let q = in_step (eqb (length v) 8) fit e in
      (ap (λ (y : AfterBegin). y.number) o ∙ q.0, ap (λ (y : AfterBegin). y.stream) o ∙ q.1)

pub begun-alike-2017 : BegunAlike2017
unfolding step
begun-alike-2017 m b method key salt e eight = begun-alike method key salt m.stream b.stream eight e
