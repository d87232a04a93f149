-- Plans of a long report: which are good, when words are those of a good plan, and the plan that is made.
use Rattle.std.specs.Prelude.{Bool, false, cond, ◌&&◌, List, [], ◌∷◌, ◌≡◌, ℕ, zero, suc, ◌+◌, ◌-◌, ◌*◌, ◌/◌, ◌<◌, ◌≤◌, eqb, leb, ltb, length}

-- ---- what a plan is

-- what goes into one datagram: so many bytes of the report, and so many of padding
pub record Piece : Type 0 where
  pub bytes : ℕ
  pub padding : ℕ

-- two words for each datagram
abbrev pub words : List Piece → List ℕ
words [] = []
words (x ∷ p) = x.bytes ∷ (x.padding ∷ words p)

-- the bytes of all pieces, a whole number
abbrev pub total : List Piece → ℕ
total [] = 0
total (x ∷ p) = x.bytes + total p

-- No piece is empty, and no datagram is over the limit. `head` is what every datagram has besides piece and padding.
abbrev pub Each : (head limit : ℕ) → List Piece → Type 0
Each head limit [] = Unit {0}
Each head limit (x ∷ p) = ((0 < x.bytes) × (head + x.padding + x.bytes ≤ limit)) × Each head limit p

-- a plan of a report of n bytes
abbrev pub Fits : (head limit n : ℕ) → List Piece → Type 0
Fits head limit n p = (total p ≡ n) × Each head limit p

-- one with as few datagrams as any
abbrev pub Good : (head limit n : ℕ) → List Piece → Type 0
Good head limit n p = Fits head limit n p × ((q : List Piece) → Fits head limit n q → length p ≤ length q)

-- ---- the check; `most` is what a datagram has room for, piece and padding

-- how many datagrams it takes
unfoldable pub fewest : (n most : ℕ) → ℕ
fewest n most = cond (eqb n 0) 0 ((n - 1) / most + 1)

-- a piece of x bytes, with y of padding, where the report has `rest` bytes left
unfoldable pub piece_fits : (most rest x y : ℕ) → Bool
piece_fits most rest x y = ltb 0 x && (leb x rest && leb (x + y) most)

-- pieces that fit and add up to what is left
unfoldable pub adds : (most rest : ℕ) → List ℕ → Bool
adds most rest [] = eqb rest 0
adds most rest (x ∷ []) = false
adds most rest (x ∷ y ∷ w) = piece_fits most rest x y && adds most (rest - x) w

unfoldable pub passes : (most n : ℕ) → List ℕ → Bool
passes most n w = eqb (length w) (2 * fewest n most) && adds most n w

-- ---- the plan that is made: full datagrams, the last one shorter, no padding

abbrev pub smaller : ℕ → ℕ → ℕ
smaller a b = cond (leb a b) a b

unfoldable pub made : (most n k : ℕ) → List Piece
made most n zero = []
made most n (suc k) = record { bytes = smaller n most; padding = 0 } ∷ made most (n - smaller n most) k
