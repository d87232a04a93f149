-- What reading answers, case by case in the order of the code.
-- Assumes nothing.
use Rattle.std.specs.Prelude.{Err, Ok, None, Some}
use mathlib.Core.Path.{◌≡◌, sym, ap, ◌∙◌}
use mathlib.Core.Bool.{Bool, true, false, cond}
use mathlib.Core.List.{List}
use Prim.Native.Nat.{ℕ, ◌≤◌, ◌<◌}
use lib.ListN.{length}
use borrow.Author.Tests.{le-leb, lt-leb}
use Rattle.protocol.specs.declared.Refusal.TheVariants.{Length, NotAuthentic, Malformed, UnknownSetting}
use Rattle.settings_rules.specs.Contents.{first_unknown}
use Rattle.settings_file.specs.declared.Entry.{Entry}
use Rattle.settings_file.specs.Format.{entry, contents_of, is_well_made}
use Rattle.settings_read.specs.declared.Settings.{Settings}
use Rattle.settings_read.specs.Reading.{settings_in, is_hashed, known_answer, made_answer, read_answer}

module _ (s : List ℕ) where
  pub too_short : length s < 36 → Err Length ≡ read_answer s
  unfolding read_answer
  too_short h = rw (lt-leb 36 (length s) h)

  pub too_long : 36 ≤ length s → 65535 < length s → Err Length ≡ read_answer s
  unfolding read_answer
  too_long h g = rw (le-leb 36 (length s) h, lt-leb (length s) 65535 g)

  module _ (h : 36 ≤ length s) (g : length s ≤ 65535) where
    by-hash : cond (is_hashed s) (made_answer s) (Err NotAuthentic) ≡ read_answer s
    unfolding read_answer
    by-hash = rw (le-leb 36 (length s) h, le-leb (length s) 65535 g)

    pub other-hash : is_hashed s ≡ false → Err NotAuthentic ≡ read_answer s
    other-hash e = sym (ap (λ (b : Bool). cond b (made_answer s) (Err NotAuthentic)) e) ∙ by-hash

    pub right-hash : is_hashed s ≡ true → made_answer s ≡ read_answer s
    right-hash e = sym (ap (λ (b : Bool). cond b (made_answer s) (Err NotAuthentic)) e) ∙ by-hash

  pub ill-made : is_well_made s ≡ false → Err Malformed ≡ made_answer s
  unfolding made_answer
  ill-made e = sym (ap (λ (b : Bool). cond b (known_answer s (first_unknown (contents_of s))) (Err Malformed)) e)

  module _ (e : is_well_made s ≡ true) where
    by-unknown : known_answer s (first_unknown (contents_of s)) ≡ made_answer s
    unfolding made_answer
    by-unknown = sym (ap (λ (b : Bool). cond b (known_answer s (first_unknown (contents_of s))) (Err Malformed)) e)

    pub an-unknown : (i : ℕ) (x : Entry) → first_unknown (contents_of s) ≡ Some i → x ≡ entry s i
        → Err (UnknownSetting x.number) ≡ made_answer s
    an-unknown i x p q =
        ap (λ (y : Entry). Err (UnknownSetting y.number)) q ∙ sym (ap (known_answer s) p) ∙ by-unknown

    pub all_known : (x : Settings) → first_unknown (contents_of s) ≡ None → x ≡ settings_in s → Ok x ≡ made_answer s
    all_known x p q = ap Ok q ∙ sym (ap (known_answer s) p) ∙ by-unknown
