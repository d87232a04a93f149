-- What stands after each call about recordings: its number, and what it leaves in all that it was lent to write. An answer of the
-- wrong length is refusal 1, before every other.
use Rattle.std.specs.Prelude.{cond, List, ℕ, zero, suc, leb, eqb, length, set}
use Rattle.octets.specs.Buffers.{put}
use Rattle.comparison_text.specs.Text.{refusal, text}
use Rattle.mending.specs.Mend.{mended}
use Rattle.mending.specs.Report.{report as changes_of, words, refusal as mend_refusal}
use Rattle.words.specs.Answers.{answer_words}

-- ---- two recordings side by side

pub record AfterCompare : Type 0 where
  pub number : ℕ
  pub out : List ℕ
  pub answer : List ℕ

-- of two files with this refusal, 0 for none, and this text: it, or refusal 3 where it finds no room
abbrev pub compared : ℕ → (text out answer : List ℕ) → AfterCompare
compared zero text out answer =
    cond (leb (length text) (length out))
    (record { number = 0; out = put out 0 text; answer = set answer 0 (length text) })
    (record { number = 3; out = out; answer = answer })
compared (suc n) text out answer = record { number = suc n; out = out; answer = answer }

module _ (first second out answer : List ℕ) where
  unfoldable pub compares_recordings : AfterCompare
  compares_recordings =
      cond (eqb (length answer) answer_words)
      (compared (refusal first second) (text first second) out answer)
      (record { number = 1; out = out; answer = answer })

-- ---- a recording mended

pub record AfterMend : Type 0 where
  pub number : ℕ
  pub file : List ℕ
  pub report : List ℕ
  pub answer : List ℕ

module _ (file report answer : List ℕ) where
  -- of a file with this refusal, 0 for none
  abbrev pub mended_by : ℕ → AfterMend
  mended_by zero =
      record {
        number = 0;
        file = mended file;
        report = put report 0 (words (changes_of file));
        answer = set answer 0 (length (changes_of file));
      }
  mended_by (suc n) = record { number = suc n; file = file; report = report; answer = answer }

  unfoldable pub mends_recording : AfterMend
  mends_recording =
      cond (eqb (length answer) answer_words)
      (mended_by (mend_refusal file (length report)))
      (record { number = 1; file = file; report = report; answer = answer })
