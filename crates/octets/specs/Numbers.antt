-- Bytes as numbers. A byte string is a list of numbers below 256; a byte past its end counts as 0.
use Rattle.std.specs.Prelude.{List, [], ◌∷◌, ℕ, zero, suc, ◌+◌, ◌*◌, ◌/◌, ◌%◌, ◌^◌, get_or}

-- the first n bytes of s, the first one highest (big-endian)
unfoldable pub be : ℕ → List ℕ → ℕ
be zero s = 0
be (suc n) s = be n s * 256 + get_or s n 0

-- the first n bytes of s, the first one lowest (little-endian)
unfoldable pub le : ℕ → List ℕ → ℕ
le zero s = 0
le (suc n) s = le n s + get_or s n 0 * 256 ^ n

-- the n low bytes of x, the highest first
unfoldable pub to_be : ℕ → ℕ → List ℕ
to_be zero x = []
to_be (suc n) x = x / 256 ^ n % 256 ∷ to_be n x

-- the n low bytes of x, the lowest first
unfoldable pub to_le : ℕ → ℕ → List ℕ
to_le zero x = []
to_le (suc n) x = x % 256 ∷ to_le n (x / 256)
