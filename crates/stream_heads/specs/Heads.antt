-- What sealing and opening share of heads (SIP022, section 3.1): lengths, the padding cap, and the fixed header, opened.
use Rattle.std.specs.Prelude.{cond, List, ℕ, ◌+◌, ◌-◌, eqb, length, get_or, take, drop, Err, Ok, Result}
use Rattle.octets.specs.Numbers.{be}
use Rattle.protocol.specs.declared.Refusal.TheVariants.{NotAuthentic, WrongType, WrongTime}
use Rattle.protocol.specs.Time.{time_valid}
use Rattle.stream_pieces.specs.Pieces.{fixed_piece, authentic_at, open_at, Keyed}
use Rattle.stream_heads.specs.declared.Fixed.{Fixed}
use Rattle.protocol.specs.declared.Refusal.{Refusal}

-- the cap of a request's padding
abbrev pub max_padding : ℕ
max_padding = 900

-- the first bytes of a head: its salt of n bytes, and its fixed header, with its tag and with a binding of b bytes
abbrev pub front_length : (n b : ℕ) → ℕ
front_length n b = n + fixed_piece + b

abbrev pub fixed_of : (n b : ℕ) → List ℕ → List ℕ
fixed_of n b s = take (fixed_piece + b) (drop n s)

-- ---- the fixed header, in the order 4, 6, 7

-- the last two bytes are the length of the piece behind it
abbrev pub fields_of : List ℕ → Fixed
fields_of plain = record { time = be 8 (drop 1 plain); length = be 2 (drop (length plain - 2) plain) }

unfoldable pub read_fixed : (kind clock : ℕ) → List ℕ → Result Fixed Refusal
read_fixed kind clock plain =
    cond (eqb (get_or plain 0 0) kind)
    (cond (time_valid (be 8 (drop 1 plain)) clock) (Ok (fields_of plain)) (Err WrongTime)) (Err WrongType)

unfoldable pub open_fixed : Keyed → (kind clock : ℕ) → List ℕ → Result Fixed Refusal
open_fixed key kind clock s =
    cond (authentic_at key 0 s) (read_fixed kind clock (open_at key 0 s)) (Err NotAuthentic)
