-- Two recordings side by side, as text in ASCII; each line ends with byte 10.
-- Assumes nothing.
use Rattle.std.specs.Prelude.{Bool, cond, List, [], ◌∷◌, ◌++◌, ℕ, zero, suc, max, leb, length}
use Rattle.recording.specs.Format.{count, is_well_formed}
use Rattle.comparison.specs.declared.Difference.{Difference}
use Rattle.comparison.specs.declared.Difference.TheVariants.{Same, Length, Meta, Byte, FirstOnly, SecondOnly}
use Rattle.comparison.specs.Differences.{difference_at}
use Rattle.comparison_text.specs.Decimal.{decimal}

-- ---- lines

-- a word with a number behind it; the same at the end of a line
abbrev pub numbered : List ℕ → ℕ → List ℕ
numbered word n = word ++ decimal n

abbrev pub ended : List ℕ → ℕ → List ℕ
ended word n = numbered word n ++ (10 ∷ [])

-- `entries A B`
unfoldable pub header : ℕ → ℕ → List ℕ
header m n = numbered (101 ∷ 110 ∷ 116 ∷ 114 ∷ 105 ∷ 101 ∷ 115 ∷ 32 ∷ []) m ++ ended (32 ∷ []) n

-- the line of a difference at index i; none where there is no difference
unfoldable pub line_of : ℕ → Difference → List ℕ
line_of i Same = []
-- `length I LA LB`
line_of i (Length x y) = numbered (108 ∷ 101 ∷ 110 ∷ 103 ∷ 116 ∷ 104 ∷ 32 ∷ []) i ++ (numbered (32 ∷ []) x ++ ended (32 ∷ []) y)
-- `meta I`
line_of i Meta = ended (109 ∷ 101 ∷ 116 ∷ 97 ∷ 32 ∷ []) i
-- `differ I byte P`
line_of i (Byte p) =
    numbered (100 ∷ 105 ∷ 102 ∷ 102 ∷ 101 ∷ 114 ∷ 32 ∷ []) i ++ ended (32 ∷ 98 ∷ 121 ∷ 116 ∷ 101 ∷ 32 ∷ []) p
-- `first-only I`
line_of i FirstOnly = ended (102 ∷ 105 ∷ 114 ∷ 115 ∷ 116 ∷ 45 ∷ 111 ∷ 110 ∷ 108 ∷ 121 ∷ 32 ∷ []) i
-- `second-only I`
line_of i SecondOnly = ended (115 ∷ 101 ∷ 99 ∷ 111 ∷ 110 ∷ 100 ∷ 45 ∷ 111 ∷ 110 ∷ 108 ∷ 121 ∷ 32 ∷ []) i

-- `refused N`
unfoldable pub refused_line : ℕ → List ℕ
refused_line n = ended (114 ∷ 101 ∷ 102 ∷ 117 ∷ 115 ∷ 101 ∷ 100 ∷ 32 ∷ []) n

-- ---- the whole text

-- the lines of the indices below n, in order
unfoldable pub lines : List ℕ → List ℕ → ℕ → List ℕ
lines a b zero = []
lines a b (suc n) = lines a b n ++ line_of n (difference_at a b n)

-- of two well-formed recordings: both counts, then all indices that either has
unfoldable pub text : List ℕ → List ℕ → List ℕ
text a b = header (count a) (count b) ++ lines a b (max (count a) (count b))

-- ---- refusals

-- the longest file that is compared
abbrev pub max_file : ℕ
max_file = 32768

-- 2 for a file that is too long, then 5 for one that is ill-formed, and 0 where they are compared
unfoldable pub refusal : List ℕ → List ℕ → ℕ
refusal a b =
    cond (leb (length a) max_file)
    (cond (leb (length b) max_file) (cond (is_well_formed a) (cond (is_well_formed b) 0 5) 5) 2) 2

-- a refusal's line, or the text
abbrev pub printed_by : ℕ → List ℕ → List ℕ → List ℕ
printed_by zero a b = text a b
printed_by (suc n) a b = refused_line (suc n)

-- what the program prints of two files, which could be read or not
unfoldable pub printed : Bool → List ℕ → List ℕ → List ℕ
printed readable a b = cond readable (printed_by (refusal a b) a b) (refused_line 2)
