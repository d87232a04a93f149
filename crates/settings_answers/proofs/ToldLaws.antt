-- What a host is told of settings, case by case.
-- Assumes nothing.
use Rattle.std.specs.Prelude.{Err, None, Ok, Option, Result, Some}
use mathlib.Core.Path.{◌≡◌, sym, ap, ◌∙◌}
use mathlib.Core.Bool.{Bool, true, false, cond}
use mathlib.Core.List.{List}
use Prim.Native.Nat.{ℕ, ◌≤◌}
use native.Mathlib.Omega.{arith}
use lib.Dec.{eqb}
use lib.ListN.{length}
use lib.Seq.{sets}
use borrow.Author.Tests.{eq-eqb, ne_eqb}
use Rattle.protocol.specs.declared.Refusal.{Refusal}
use Rattle.protocol.specs.Refusal.{refusal_number}
use Rattle.words.proofs.LentLaws.{filled}
use Rattle.words.specs.Answers.{answer_words, refused_answer}
use Rattle.settings_read.specs.declared.Settings.{Settings}
use Rattle.settings_read.specs.Reading.{read_answer}
use Rattle.settings_write.specs.Writing.{file_of, write_answer, write_out}
use Rattle.settings_answers.specs.Told.{bit, target_bit, settings_words, AfterRead, read_told, reads_settings, AfterWrite, written_number, written_words, written_told, writes_settings}
use Rattle.socks5.specs.declared.Target.{Target}

-- ---- reading

module _ (x : Result Settings Refusal) (answer left : List ℕ) where
  pub told-shown : (s : Settings) (vs : List ℕ) → x ≡ Ok s → vs ≡ settings_words s → left ≡ sets answer 0 vs → length answer ≡ answer_words
      → record { number = 0; answer = left } ≡ read_told x answer
  unfolding settings_words
  told-shown s vs e f g l =
      ap (λ (v : List ℕ). record { number = 0; answer = v }) (g ∙ ap (sets answer 0) f ∙ filled answer (settings_words s) l)
      ∙ sym (ap (λ (z : Result Settings Refusal). read_told z answer) e)

module _ (file answer : List ℕ) where
  by_answer : (b : Bool) → eqb (length answer) answer_words ≡ b
      → cond b (read_told (read_answer file) answer) (record { number = 1; answer = answer }) ≡ reads_settings file answer
  unfolding reads_settings
  by_answer b e = ap (λ (z : Bool). cond z (read_told (read_answer file) answer) (record { number = 1; answer = answer })) (sym e)

  pub not-lent : (length answer ≡ answer_words → ⊥) → record { number = 1; answer = answer } ≡ reads_settings file answer
  not-lent f = by_answer false (ne_eqb (length answer) answer_words f)

  pub was_read : length answer ≡ answer_words → (x : Result Settings Refusal) → x ≡ read_answer file → (after : AfterRead) → after ≡ read_told x answer
      → after ≡ reads_settings file answer
  was_read l x e after f =
      f ∙ ap (λ (z : Result Settings Refusal). read_told z answer) e ∙ by_answer true (eq-eqb (length answer) answer_words l)

-- ---- writing

module _ (edition : ℕ) (ws bodies out answer : List ℕ) where
  abbrev untouched : AfterWrite
  untouched = record { number = 1; out = out; answer = answer }

  abbrev told : Result ℕ Refusal → AfterWrite
  told x = written_told x (file_of edition ws bodies) out answer

  by-lent : (b : Bool) → eqb (length answer) answer_words ≡ b
      → cond b (told (write_answer ws bodies (length out))) untouched ≡ writes_settings edition ws bodies out answer
  unfolding writes_settings
  by-lent b e = ap (λ (z : Bool). cond z (told (write_answer ws bodies (length out))) untouched) (sym e)

  pub not_written : (length answer ≡ answer_words → ⊥) → untouched ≡ writes_settings edition ws bodies out answer
  not_written f = by-lent false (ne_eqb (length answer) answer_words f)

  pub was-written : length answer ≡ answer_words → (x : Result ℕ Refusal) → x ≡ write_answer ws bodies (length out) → (r : ℕ) (after words : List ℕ)
      → r ≡ written_number x → after ≡ write_out x (file_of edition ws bodies) out → words ≡ written_words x answer
      → record { number = r; out = after; answer = words } ≡ writes_settings edition ws bodies out answer
  was-written l x e r after words er eo ew =
      (λ i. record { number = er i; out = eo i; answer = ew i }) ∙ ap told e ∙ by-lent true (eq-eqb (length answer) answer_words l)
