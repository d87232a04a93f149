-- The window of packet IDs: its width, and its marks. They are one number of 256 bits, whose bit d marks h - d for the highest
-- packet ID h; the code has them in four words, the lowest first.
use Rattle.std.specs.Prelude.{ℕ, ◌+◌, ◌*◌, ◌/◌, ◌%◌, ◌^◌, Bool, List, eqb, get_or}

-- the width of the window
abbrev pub window : ℕ
window = 256

-- is packet ID h - d marked
abbrev pub bit : ℕ → ℕ → Bool
bit marks d = eqb (marks / 2 ^ d % 2) 1

abbrev pub join4 : ℕ → ℕ → ℕ → ℕ → ℕ
join4 w0 w1 w2 w3 = w0 + 2 ^ 64 * (w1 + 2 ^ 64 * (w2 + 2 ^ 64 * w3))

unfoldable pub number : List ℕ → ℕ
number m = join4 (get_or m 0 0) (get_or m 1 0) (get_or m 2 0) (get_or m 3 0)

-- word k of a number
abbrev pub word_of : ℕ → ℕ → ℕ
word_of n k = n / 2 ^ (64 * k) % 2 ^ 64
