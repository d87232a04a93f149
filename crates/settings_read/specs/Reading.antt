-- Reading a file of settings: what is shown of a well-made one, and what is answered.
use Rattle.std.specs.Prelude.{Bool, cond, ◌&&◌, List, ℕ, leb, length, take, drop, Err, None, Ok, Option, Result, Some}
use Rattle.octets.specs.Buffers.{same}
use Rattle.octets.specs.Numbers.{be}
use Rattle.blake3.specs.Tree.{hash}
use Rattle.protocol.specs.declared.Refusal.TheVariants.{Length, NotAuthentic, Malformed as IllMade, UnknownSetting}
use Rattle.socks5.specs.Address.{parse_at, moved}
use Rattle.settings_rules.specs.Rules.{method_number, retention_number, limit_number, target_number}
use Rattle.settings_rules.specs.Contents.{index_of, first_unknown}
use Rattle.settings_file.specs.Format.{min_file, max_file, edition, entry, body, contents_of, hash_place, is_well_made}
use Rattle.settings_read.specs.declared.Settings.{Settings}
use Rattle.socks5.specs.declared.Address.{Address}
use Rattle.socks5.specs.declared.Target.{Target}
use Rattle.protocol.specs.declared.Refusal.{Refusal}

-- ---- what is shown

-- the number that the w bytes of a setting's body are, as set
abbrev pub value_of : ℕ → List ℕ → Option ℕ → Option ℕ
value_of w s (Some i) = Some (be w (body s i))
value_of w s None = None

-- the address in a body that begins at a place: the place of a name counts from the file's start
abbrev pub target_found : ℕ → Option Address → Option (Target × ℕ)
target_found at (Some a) = Some (moved at a.target, a.port)
target_found at None = None

abbrev pub target_of : List ℕ → Option ℕ → Option (Target × ℕ)
target_of s (Some i) = target_found (entry s i).offset (parse_at (body s i) 0)
target_of s None = None

-- where the setting of a number stands
abbrev pub setting_at : List ℕ → ℕ → Option ℕ
setting_at s k = index_of (contents_of s) k

unfoldable pub settings_in : List ℕ → Settings
settings_in s =
    record {
      edition = edition s;
      method = value_of 1 s (setting_at s method_number);
      retention = value_of 2 s (setting_at s retention_number);
      limit = value_of 4 s (setting_at s limit_number);
      target = target_of s (setting_at s target_number);
    }

-- ---- what is answered: refusals 2, 4, 5 and 15, in this order, or what is shown

-- the last bytes are the hash of all before them
unfoldable pub is_hashed : List ℕ → Bool
is_hashed s = same (hash (take (hash_place s) s)) (drop (hash_place s) s)

-- by the first setting that is unknown
abbrev pub known_answer : List ℕ → Option ℕ → Result Settings Refusal
known_answer s (Some i) = Err (UnknownSetting (entry s i).number)
known_answer s None = Ok (settings_in s)

unfoldable pub made_answer : List ℕ → Result Settings Refusal
made_answer s = cond (is_well_made s) (known_answer s (first_unknown (contents_of s))) (Err IllMade)

unfoldable pub read_answer : List ℕ → Result Settings Refusal
read_answer s =
    cond (leb min_file (length s) && leb (length s) max_file) (cond (is_hashed s) (made_answer s) (Err NotAuthentic)) (Err Length)
