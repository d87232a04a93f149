-- What stands after each call about settings: its number, and what it leaves in all that it was lent to write. An answer of the wrong
-- length is refusal 1, before every other.
use Rattle.std.specs.Prelude.{cond, List, [], ◌∷◌, ℕ, ◌+◌, ◌*◌, eqb, length, set, Err, None, Ok, Option, Result, Some}
use Rattle.protocol.specs.Refusal.{refusal_number}
use Rattle.words.specs.Answers.{answer_words, kind_of, first_of, second_of, refused_answer}
use Rattle.settings_read.specs.declared.Settings.{Settings}
use Rattle.settings_read.specs.Reading.{read_answer}
use Rattle.settings_write.specs.Writing.{file_of, write_answer, write_out}
use Rattle.socks5.specs.declared.Target.{Target}
use Rattle.protocol.specs.declared.Refusal.{Refusal}

-- ---- words: a setting that is absent has 0

abbrev pub bit : Option ℕ → ℕ
bit None = 0
bit (Some n) = 1

abbrev pub word : Option ℕ → ℕ
word None = 0
word (Some n) = n

abbrev pub target_bit : Option (Target × ℕ) → ℕ
target_bit None = 0
target_bit (Some (t, port)) = 1

-- kind, first and second number, and port
abbrev pub target_kind : Option (Target × ℕ) → ℕ
target_kind None = 0
target_kind (Some (t, port)) = kind_of t

abbrev pub target_first : Option (Target × ℕ) → ℕ
target_first None = 0
target_first (Some (t, port)) = first_of t

abbrev pub target_second : Option (Target × ℕ) → ℕ
target_second None = 0
target_second (Some (t, port)) = second_of t

abbrev pub target_port : Option (Target × ℕ) → ℕ
target_port None = 0
target_port (Some (t, port)) = port

-- which are set, bit i for number i + 1
unfoldable pub set_bits : Settings → ℕ
set_bits x = bit x.method + 2 * bit x.retention + 4 * bit x.limit + 8 * target_bit x.target

unfoldable pub settings_words : Settings → List ℕ
settings_words x =
    x.edition ∷ set_bits x ∷ word x.method ∷ word x.retention ∷ word x.limit
    ∷ target_kind x.target ∷ target_first x.target ∷ target_second x.target ∷ target_port x.target ∷ []

-- ---- reading

pub record AfterRead : Type 0 where
  pub number : ℕ
  pub answer : List ℕ

abbrev pub read_told : Result Settings Refusal → List ℕ → AfterRead
read_told (Ok x) answer = record { number = 0; answer = settings_words x }
read_told (Err r) answer = record { number = refusal_number r; answer = refused_answer r answer }

unfoldable pub reads_settings : (file answer : List ℕ) → AfterRead
reads_settings file answer =
    cond (eqb (length answer) answer_words) (read_told (read_answer file) answer) (record { number = 1; answer = answer })

-- ---- writing

pub record AfterWrite : Type 0 where
  pub number : ℕ
  pub out : List ℕ
  pub answer : List ℕ

abbrev pub written_number : Result ℕ Refusal → ℕ
written_number (Ok n) = 0
written_number (Err r) = refusal_number r

abbrev pub written_words : Result ℕ Refusal → List ℕ → List ℕ
written_words (Ok n) answer = set answer 0 n
written_words (Err r) answer = answer

-- x is what is answered
abbrev pub written_told : Result ℕ Refusal → (file out answer : List ℕ) → AfterWrite
written_told x file out answer =
    record { number = written_number x; out = write_out x file out; answer = written_words x answer }

unfoldable pub writes_settings : ℕ → (ws bodies out answer : List ℕ) → AfterWrite
writes_settings edition ws bodies out answer =
    cond (eqb (length answer) answer_words)
    (written_told (write_answer ws bodies (length out)) (file_of edition ws bodies) out answer)
    (record { number = 1; out = out; answer = answer })
