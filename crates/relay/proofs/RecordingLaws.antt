-- What stands after the calls about recordings, case by case.
-- Assumes nothing.
use mathlib.Core.Path.{◌≡◌, refl, sym, ap, ◌∙◌}
use mathlib.Core.Bool.{Bool, cond}
use mathlib.Core.List.{List}
use Prim.Native.Nat.{ℕ, zero, suc, ◌≤◌, ◌<◌}
use native.Mathlib.Omega.{arith}
use lib.ListN.{length, set}
use borrow.Author.Tests.{eq-eqb, ne_eqb, le-leb, lt-leb}
use Rattle.octets.specs.Buffers.{put}
use Rattle.comparison_text.specs.Text.{refusal, text}
use Rattle.recording.specs.Written.{Written}
use Rattle.words.specs.Answers.{answer_words}
use Rattle.mending.specs.Mend.{mended}
use Rattle.mending.specs.Report.{report as changes_of, words, refusal as mend_refusal}
use Rattle.relay.specs.Recordings.{AfterCompare, compared, compares_recordings, mended_by, mends_recording}

-- ---- two recordings side by side

module _ (first second out answer : List ℕ) where
  pub no_answer : (length answer ≡ answer_words → ⊥)
      → record { number = 1; out = out; answer = answer } ≡ compares_recordings first second out answer
  unfolding compares_recordings
  no_answer n = rw (ne_eqb (length answer) answer_words n)

  -- where the text has room, and where it has none
  abbrev roomy : Bool → AfterCompare
  roomy b =
      cond b (record { number = 0; out = put out 0 (text first second); answer = set answer 0 (length (text first second)) })
      (record { number = 3; out = out; answer = answer })

  module _ (e : length answer ≡ answer_words) where
    lent : compared (refusal first second) (text first second) out answer ≡ compares_recordings first second out answer
    unfolding compares_recordings
    lent = rw (eq-eqb (length answer) answer_words e)

    by-refusal : (n : ℕ) → n ≡ refusal first second
        → compared n (text first second) out answer ≡ compares_recordings first second out answer
    by-refusal n f = ap (λ (m : ℕ). compared m (text first second) out answer) f ∙ lent

    pub a-refusal : (n : ℕ) → n ≡ refusal first second → (n ≡ 0 → ⊥)
        → record { number = n; out = out; answer = answer } ≡ compares_recordings first second out answer
    a-refusal zero f g = absurd (g refl)
    a-refusal (suc n) f g = by-refusal (suc n) f

    pub no_room : 0 ≡ refusal first second → length out < length (text first second)
        → record { number = 3; out = out; answer = answer } ≡ compares_recordings first second out answer
    no_room f h =
        sym (ap roomy (lt-leb (length (text first second)) (length out) h))
        ∙ by-refusal 0 f

    pub a-text : 0 ≡ refusal first second → length (text first second) ≤ length out
        → (left : List ℕ) (n : ℕ) → Written out 0 left n (text first second)
        → record { number = 0; out = left; answer = set answer 0 n } ≡ compares_recordings first second out answer
    a-text f h left n w =
        let size : n ≡ length (text first second) = omega (arith, w.ends) in
        (λ i. record { number = 0; out = w.puts i; answer = set answer 0 (size i) })
        ∙ sym (ap roomy (le-leb (length (text first second)) (length out) h))
        ∙ by-refusal 0 f

-- ---- a recording mended

module _ (file report answer : List ℕ) where
  pub no-mend-answer : (length answer ≡ answer_words → ⊥)
      → record { number = 1; file = file; report = report; answer = answer } ≡ mends_recording file report answer
  unfolding mends_recording
  no-mend-answer n = rw (ne_eqb (length answer) answer_words n)

  module _ (e : length answer ≡ answer_words) where
    mend-lent : (n : ℕ) → n ≡ mend_refusal file (length report) → mended_by file report answer n ≡ mends_recording file report answer
    unfolding mends_recording
    mend-lent n f = ap (mended_by file report answer) f ∙ rw (eq-eqb (length answer) answer_words e)

    pub not-mended : (n : ℕ) → n ≡ mend_refusal file (length report) → (n ≡ 0 → ⊥)
        → record { number = n; file = file; report = report; answer = answer } ≡ mends_recording file report answer
    not-mended zero f g = absurd (g refl)
    not-mended (suc n) f g = mend-lent (suc n) f

    pub a-mending : 0 ≡ mend_refusal file (length report)
        → (left told : List ℕ) (n : ℕ) → n ≡ length (changes_of file) → left ≡ mended file → told ≡ put report 0 (words (changes_of file))
        → record { number = 0; file = left; report = told; answer = set answer 0 n } ≡ mends_recording file report answer
    a-mending f left told n p q r =
        (λ i. record { number = 0; file = q i; report = r i; answer = set answer 0 (p i) }) ∙ mend-lent 0 f
