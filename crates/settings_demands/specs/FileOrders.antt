-- The orders of refusals of reading and writing a file of settings, as lists to be held beside the scope's own line, with its numbers
-- written out. Sums are of whole numbers.
-- Assumes nothing.
use Rattle.std.specs.Prelude.{◌≡◌, Bool, true, false, not, ◌||◌, List, [], ◌∷◌, ℕ, ◌+◌, ◌-◌, ◌*◌, ◌/◌, ◌%◌, eqb, ltb, length, take, drop, Err, Ok, Result, None, Option, Some}
use Rattle.octets.specs.Buffers.{same}
use Rattle.blake3.specs.Tree.{hash}
use Rattle.protocol.specs.Orders.{Rule, rule, unknown_setting, Said, gives, first, refuses_with}
use Rattle.settings_rules.specs.Contents.{first_unknown}
use Rattle.settings_file.specs.Format.{entry, contents_of, is_well_made}
use Rattle.settings_read.specs.declared.Settings.{Settings}
use Rattle.settings_read.specs.Reading.{settings_in, read_answer}
use Rattle.settings_write.specs.Writing.{before, given, all_writable, write_answer}
use Rattle.protocol.specs.declared.Refusal.{Refusal}

abbrev pub said_read : Result Settings Refusal → Said Settings
said_read (Ok x) = gives x
said_read (Err r) = refuses_with r

abbrev pub said_written : Result ℕ Refusal → Said ℕ
said_written (Ok n) = gives n
said_written (Err r) = refuses_with r

-- ---- reading: 2, 4, 5, 15

-- whether a setting was found, and its number
abbrev pub is_there : Option ℕ → Bool
is_there (Some i) = true
is_there None = false

abbrev pub number_there : List ℕ → Option ℕ → ℕ
number_there s (Some i) = (entry s i).number
number_there s None = 0

abbrev pub read_order : List ℕ → List Rule
read_order s =
    rule 2 (ltb (length s) 36 || ltb 65535 (length s))
    ∷ rule 4 (not (same (hash (take (length s - 32) s)) (drop (length s - 32) s)))
    ∷ rule 5 (not (is_well_made s))
    ∷ unknown_setting (number_there s (first_unknown (contents_of s))) (is_there (first_unknown (contents_of s)))
    ∷ []

-- ---- writing: 1, 12, 2, 3

abbrev pub file_bytes : (ws bodies : List ℕ) → ℕ
file_bytes ws bodies = 4 + 6 * (length ws / 2) + length bodies + 32

abbrev pub write_order : (ws bodies : List ℕ) → (room : ℕ) → List Rule
write_order ws bodies room =
    rule 1 (not (eqb (length ws % 2) 0) || not (eqb (before ws (length ws / 2)) (length bodies)))
    ∷ rule 12 (not (all_writable (given ws bodies)))
    ∷ rule 2 (ltb 65535 (file_bytes ws bodies))
    ∷ rule 3 (ltb room (file_bytes ws bodies))
    ∷ []

pub record FileOrders : Type 0 where
  pub reading : (s : List ℕ) → said_read (read_answer s) ≡ first (read_order s) (settings_in s)
  pub writing : (ws bodies : List ℕ) (room : ℕ)
      → said_written (write_answer ws bodies room) ≡ first (write_order ws bodies room) (file_bytes ws bodies)
