-- Which settings there are, and which bodies are lawful for them.
use Rattle.std.specs.Prelude.{Bool, true, cond, not, ◌&&◌, ◌||◌, List, ℕ, eqb, leb, ltb, length}
use Rattle.octets.specs.Numbers.{be}
use Rattle.protocol.specs.Method.{key_length}
use Rattle.sip004.specs.Method.{key_length as key_length2017}
use Rattle.retention.specs.Retention.{lawful_retention}
use Rattle.socks5.specs.Address.{is_address}
use Rattle.datagram_parts.specs.Parts.{max_datagram}

-- ---- numbers

-- method, retention, path limit and target; of the rest those from `first_skipped` on are skipped
abbrev pub method_number : ℕ
method_number = 1

abbrev pub retention_number : ℕ
retention_number = 2

abbrev pub limit_number : ℕ
limit_number = 3

abbrev pub target_number : ℕ
target_number = 4

abbrev pub first_skipped : ℕ
first_skipped = 128

-- one of the four
unfoldable pub is_known : ℕ → Bool
is_known n = leb method_number n && leb n target_number

-- neither known nor skipped
unfoldable pub is_unknown : ℕ → Bool
is_unknown n = ltb n first_skipped && not (is_known n)

-- ---- bodies

-- there is a method of this number, in SIP022 or in the 2017 edition
unfoldable pub is_method : ℕ → Bool
is_method n = ltb 0 (key_length n) || ltb 0 (key_length2017 n)

unfoldable pub lawful_method : List ℕ → Bool
lawful_method b = eqb (length b) 1 && is_method (be 1 b)

-- one that a table can be made with
unfoldable pub lawful_retention_body : List ℕ → Bool
lawful_retention_body b = eqb (length b) 2 && lawful_retention (be 2 b)

unfoldable pub lawful_limit : List ℕ → Bool
lawful_limit b = eqb (length b) 4 && leb (be 4 b) max_datagram

-- a setting of another number may have any body
unfoldable pub lawful : ℕ → List ℕ → Bool
lawful n b =
    cond (eqb n method_number) (lawful_method b)
    (cond (eqb n retention_number) (lawful_retention_body b)
    (cond (eqb n limit_number) (lawful_limit b) (cond (eqb n target_number) (is_address b) true)))
