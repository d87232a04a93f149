-- Recordings: the computed facts, and the orders of refusals.
-- Assumes nothing.
use mathlib.Core.Path.{◌≡◌, refl, sym, ap}
use mathlib.Core.Bool.{Bool, true, false, cond}
use mathlib.Core.List.{List}
use mathlib.Core.Logic.{◌⊎◌, inl, inr}
use Prim.Native.Nat.{ℕ, zero, suc, ◌+◌, ◌≤◌, ◌<◌}
use native.Mathlib.Omega.{arith}
use lib.Dec.{T, leb, eqb}
use lib.ListN.{length}
use borrow.Author.Tests.{leb-true, leb-false}
use Rattle.octets.specs.Buffers.{put, same}
use Rattle.octets.specs.Numbers.{be, to_be}
use Rattle.recording.specs.Format.{entry_at, WellFormed, is_good, are_good, is_well_formed}
use Rattle.recording.proofs.WellFormedLaws.{well-formed-exactly}
use Rattle.comparison.specs.Differences.{agree, bodies, between, difference_at}
use Rattle.comparison_text.specs.Decimal.{digits, decimal}
use Rattle.comparison_text.specs.Text.{header, line_of, refused_line, lines, text, refusal, printed}
use Rattle.comparison_text.proofs.TextLaws.{first-long, second-long, first-ill, second-ill, compared}
use Rattle.mending.specs.Mend.{mended_count, mended_entry, put_entry, mended_from, mended}
use Rattle.mending.specs.Report.{changed, entry_changes, changes_from, changes, report, words, refusal as refusal_of_mending}
use Rattle.mending.proofs.RefusalLaws.{too_short, no_room as no-report-room, has_room}
use Rattle.relay.specs.Recordings.{AfterCompare, compares_recordings, AfterMend, mended_by, mends_recording}
use Rattle.relay.proofs.RecordingLaws.{no_answer, a-refusal, no_room, a-text, no-mend-answer, not-mended, a-mending}
use Rattle.edges.specs.Numbers.{every}
use Rattle.edges.specs.Recordings.{layout_facts, text_facts, CompareOrder, mend_facts, MendOrder, Recordings}

layout : T (every layout_facts)
unfolding layout_facts same be entry_at is_good are_good is_well_formed
layout = tt

texts : T (every text_facts)
unfolding text_facts same be entry_at is_good are_good is_well_formed agree bodies between difference_at digits decimal header line_of refused_line lines text refusal printed
texts = tt

-- ---- the order

module _ (a b out answer : List ℕ) where
  abbrev numbered : AfterCompare → ℕ
  numbered r = r.number

  module _ (e : length answer ≡ 9) where
    refused : (n : ℕ) → n ≡ refusal a b → (n ≡ 0 → ⊥) → (compares_recordings a b out answer).number ≡ n
    refused n f g = sym (ap numbered (a-refusal a b out answer e n f g))

    too_long : (32768 < length a) ⊎ (32768 < length b) → (compares_recordings a b out answer).number ≡ 2
    too_long (inl h) = refused 2 (first-long a b h) (λ z. absurd (omega arith))
    too_long (inr h) = go (leb (length a) 32768) refl
      where
        go : (t : Bool) → leb (length a) 32768 ≡ t → (compares_recordings a b out answer).number ≡ 2
        go true f = refused 2 (second-long a b (leb-true _ _ f) h) (λ z. absurd (omega arith))
        go false f = refused 2 (first-long a b (leb-false _ _ f)) (λ z. absurd (omega arith))

    module _ (h : length a ≤ 32768) (k : length b ≤ 32768) where
      ill-formed : (WellFormed a → ⊥) ⊎ (WellFormed b → ⊥) → (compares_recordings a b out answer).number ≡ 5
      ill-formed f = go (is_well_formed a) (is_well_formed b) refl refl f
        where
          go : (x y : Bool) → is_well_formed a ≡ x → is_well_formed b ≡ y → (WellFormed a → ⊥) ⊎ (WellFormed b → ⊥)
              → (compares_recordings a b out answer).number ≡ 5
          go false y p q g = refused 5 (first-ill a b h k p) (λ z. absurd (omega arith))
          go true false p q g = refused 5 (second-ill a b h k p q) (λ z. absurd (omega arith))
          go true true p q (inl g) = absurd (g ((well-formed-exactly a).0 p))
          go true true p q (inr g) = absurd (g ((well-formed-exactly b).0 q))

      good : WellFormed a → WellFormed b → 0 ≡ refusal a b
      good p q = compared a b h k ((well-formed-exactly a).1 p) ((well-formed-exactly b).1 q)

  order : CompareOrder a b out answer
  order =
      record {
        settings = λ n. sym (ap numbered (no_answer a b out answer n));
        too_long = too_long;
        ill-formed = ill-formed;
        no_room = λ e h k p q l. sym (ap numbered (no_room a b out answer e (good e h k p q) l));
        compared = λ e h k p q l. sym (ap numbered (a-text a b out answer e (good e h k p q) l (put out 0 (text a b)) (0 + length (text a b))
            (record { fits = omega arith; ends = refl; puts = refl })));
      }

-- ---- mending

mending : T (every mend_facts)
unfolding mend_facts same be to_be put entry_at mended_count mended_entry put_entry mended_from mended changed entry_changes changes_from changes words
mending = tt

module _ (file lent answer : List ℕ) where
  abbrev told : AfterMend → ℕ
  told r = r.number

  module _ (e : length answer ≡ 9) where
    not-mended-by : (n : ℕ) → n ≡ refusal_of_mending file (length lent) → (n ≡ 0 → ⊥) → (mends_recording file lent answer).number ≡ n
    not-mended-by n f g = sym (ap told (not-mended file lent answer e n f g))

    mends : 4 ≤ length file → length (words (report file)) ≤ length lent → (mends_recording file lent answer).number ≡ 0
    mends h k =
        sym (ap told (a-mending file lent answer e (has_room file (length lent) h k) (mended file) (put lent 0 (words (report file)))
        (length (report file)) refl refl refl))

  kept : ((mends_recording file lent answer).number ≡ 0 → ⊥)
      → mends_recording file lent answer ≡ record { number = (mends_recording file lent answer).number; file = file; report = lent; answer = answer }
  unfolding mends_recording
  kept g = go (eqb (length answer) 9) g
    where
      unwritten : AfterMend → AfterMend
      unwritten x = record { number = x.number; file = file; report = lent; answer = answer }

      by : (n : ℕ) → ((mended_by file lent answer n).number ≡ 0 → ⊥) → mended_by file lent answer n ≡ unwritten (mended_by file lent answer n)
      by zero k = absurd (k refl)
      by (suc n) k = refl

      go : (b : Bool)
          → ((cond b (mended_by file lent answer (refusal_of_mending file (length lent))) (record { number = 1; file = file; report = lent; answer = answer })).number ≡ 0 → ⊥)
          → cond b (mended_by file lent answer (refusal_of_mending file (length lent))) (record { number = 1; file = file; report = lent; answer = answer })
          ≡ unwritten (cond b (mended_by file lent answer (refusal_of_mending file (length lent))) (record { number = 1; file = file; report = lent; answer = answer }))
      go true k = by (refusal_of_mending file (length lent)) k
      go false k = refl

  mend-order : MendOrder file lent answer
  mend-order =
      record {
        settings = λ n. sym (ap told (no-mend-answer file lent answer n));
        too_short = λ e h. not-mended-by e 2 (too_short file (length lent) h) (λ z. absurd (omega arith));
        no_room = λ e h k. not-mended-by e 3 (no-report-room file (length lent) h k) (λ z. absurd (omega arith));
        mends = mends;
        kept = kept;
      }

pub recordings : Recordings
recordings = record { layout = layout; texts = texts; compare-order = order; mending = mending; mend-order = mend-order }
