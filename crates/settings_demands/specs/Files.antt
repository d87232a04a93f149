-- What is promised of files of settings: what a file shows and when, which unknown setting is told, that what is written is shown, and that
-- newer settings change nothing that is shown.
-- Assumes nothing.
use Rattle.std.specs.Prelude.{◌≡◌, List, [], ◌∷◌, ℕ, ◌+◌, ◌-◌, ◌*◌, ◌/◌, ◌≤◌, ◌<◌, length, get_or, take, drop, Err, None, Ok, Option, Some}
use Rattle.octets.specs.Numbers.{be}
use Rattle.blake3.specs.Tree.{hash}
use Rattle.protocol.specs.declared.Refusal.TheVariants.{UnknownSetting}
use Rattle.socks5.specs.declared.Target.TheVariants.{V4, V6, Name}
use Rattle.socks5.specs.Address.{parse_at}
use Rattle.settings_file.specs.Format.{count, entry, body, WellMade}
use Rattle.settings_read.specs.declared.Settings.{Settings}
use Rattle.settings_read.specs.Reading.{target_found, read_answer}
use Rattle.settings_write.specs.Writing.{before, file_of, write_answer}
use Rattle.socks5.specs.declared.Target.{Target}

-- ---- what a setting says

-- of so many settings with these numbers, x is the value of the one with number k, or is absent where there is none
pub data Says {A : Type 0} (size : ℕ) (number : ℕ → ℕ) (k : ℕ) (value : ℕ → A) (absent x : A) : Type 0 where
  set : (i : ℕ) → i < size → number i ≡ k → x ≡ value i → Says size number k value absent x
  unset : ((i : ℕ) → i < size → number i ≡ k → ⊥) → x ≡ absent → Says size number k value absent x

-- R is shown as it is set: 0 stays 0
abbrev pub as_set : ℕ → ℕ
as_set R = R

-- what settings with these numbers, bodies and places in the file say
pub record Shows (size : ℕ) (number : ℕ → ℕ) (body : ℕ → List ℕ) (place : ℕ → ℕ) (x : Settings) : Type 0 where
  pub method : Says size number 1 (λ i. Some (be 1 (body i))) None x.method
  pub retention : Says size number 2 (λ i. Some (as_set (be 2 (body i)))) None x.retention
  pub limit : Says size number 3 (λ i. Some (be 4 (body i))) None x.limit
  pub target : Says size number 4 (λ i. target_found (place i) (parse_at (body i) 0)) None x.target

abbrev pub number_of : List ℕ → ℕ → ℕ
number_of s i = (entry s i).number

-- one of the four that are known
abbrev pub Known : ℕ → Type 0
Known n = (1 ≤ n) × (n ≤ 4)

-- ---- reading

pub record Readable (s : List ℕ) (x : Settings) : Type 0 where
  pub long : 36 ≤ length s
  pub short : length s ≤ 65535
  pub hashed : hash (take (length s - 32) s) ≡ drop (length s - 32) s
  pub made : WellMade s
  pub known : (i : ℕ) → i < count s → number_of s i < 128 → Known (number_of s i)
  pub edition : x.edition ≡ be 2 s
  pub shows : Shows (count s) (number_of s) (body s) (λ i. (entry s i).offset) x

abbrev pub ReadExactly : Type 0
ReadExactly = (s : List ℕ) (x : Settings) → (read_answer s ≡ Ok x → Readable s x) × (Readable s x → read_answer s ≡ Ok x)

-- ---- the unknown setting that is told

-- a number that the file has, below 128 and not known
pub record Unknown (s : List ℕ) (n : ℕ) : Type 0 where
  pub index : ℕ
  pub there : index < count s
  pub number : number_of s index ≡ n
  pub below : n < 128
  pub not_known : Known n → ⊥

pub record Lowest (s : List ℕ) (n : ℕ) : Type 0 where
  pub unknown : Unknown s n
  pub least : (m : ℕ) → Unknown s m → n ≤ m

abbrev pub RefusesLowest : Type 0
RefusesLowest = (s : List ℕ) (n : ℕ) → read_answer s ≡ Err (UnknownSetting n) → Lowest s n

-- ---- what is written is shown

-- of what was given: two words for each setting, number and length, and the bodies back to back
abbrev pub number_given : List ℕ → ℕ → ℕ
number_given ws i = get_or ws (2 * i) 0

abbrev pub body_given : List ℕ → List ℕ → ℕ → List ℕ
body_given ws bodies i = take (get_or ws (2 * i + 1) 0) (drop (before ws i) bodies)

pub record ShownAsGiven (e : ℕ) (ws bodies : List ℕ) : Type 0 where
  pub shown : Settings
  pub answer : read_answer (file_of e ws bodies) ≡ Ok shown
  pub edition : shown.edition ≡ e
  pub shows : Shows (length ws / 2) (number_given ws) (body_given ws bodies) (λ i. 4 + 6 * (length ws / 2) + before ws i) shown

abbrev pub WrittenShown : Type 0
WrittenShown =
    (edition : ℕ) (ws bodies : List ℕ) (room n : ℕ) → edition < 65536 → write_answer ws bodies room ≡ Ok n
    → ShownAsGiven edition ws bodies

-- ---- newer settings change nothing that is shown

-- what a target means: the place of a name is another one in another file, its bytes are the same
abbrev pub meaning : List ℕ → Option (Target × ℕ) → List ℕ
meaning s None = []
meaning s (Some (V4 a, port)) = 1 ∷ port ∷ a ∷ []
meaning s (Some (Name place n, port)) = 3 ∷ port ∷ take n (drop place s)
meaning s (Some (V6 a b, port)) = 4 ∷ port ∷ a ∷ b ∷ []

-- each setting of s below 128 is in u too
abbrev pub Within : (s u : List ℕ) → Type 0
Within s u =
    (i : ℕ) → i < count s → number_of s i < 128 → (j : ℕ) × (j < count u) × (number_of u j ≡ number_of s i) × (body u j ≡ body s i)

pub record SameShown (s u : List ℕ) (x y : Settings) : Type 0 where
  pub edition : x.edition ≡ y.edition
  pub method : x.method ≡ y.method
  pub retention : x.retention ≡ y.retention
  pub limit : x.limit ≡ y.limit
  pub target : meaning s x.target ≡ meaning u y.target

-- two files of one edition that have the same settings below 128, whatever they have from there on
abbrev pub NewerSame : Type 0
NewerSame =
    (s u : List ℕ) (x y : Settings) → read_answer s ≡ Ok x → read_answer u ≡ Ok y → be 2 s ≡ be 2 u → Within s u → Within u s
    → SameShown s u x y
