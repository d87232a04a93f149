-- What differs between two recordings at an index: the first of length, direction or clock, and bytes; or that only one of them
-- has an entry there. Offsets are not compared, nor bytes behind the last body.
-- Assumes nothing.
use Rattle.std.specs.Prelude.{Bool, true, false, List, ℕ, zero, suc, ◌+◌, ltb, eqb, get_or}
use Rattle.recording.specs.Format.{count, entry}
use Rattle.recording.specs.declared.Entry.{Entry}
use Rattle.comparison.specs.declared.Difference.{Difference}
use Rattle.comparison.specs.declared.Difference.TheVariants.{Same, Length, Meta, Byte, FirstOnly, SecondOnly}

-- how many bytes of a from i on and b from j on agree before the first that differ, n at most
unfoldable pub agree : ℕ → List ℕ → ℕ → List ℕ → ℕ → ℕ
agree zero a i b j = 0
agree (suc n) a i b j = elim (eqb (get_or a i 0) (get_or b j 0)) [ true ↦ suc (agree n a (i + 1) b (j + 1)) | false ↦ 0 ]

abbrev pub pick : Bool → Difference → Difference → Difference
pick true x y = x
pick false x y = y

-- of two bodies of n bytes that agree in p bytes
unfoldable pub bodies : ℕ → ℕ → Difference
bodies n p = pick (ltb p n) (Byte p) Same

-- of an entry of a and an entry of b
unfoldable pub between : List ℕ → Entry → List ℕ → Entry → Difference
between a e b f =
    pick (eqb e.len f.len)
    (pick (eqb e.direction f.direction)
    (pick (eqb e.clock f.clock) (bodies e.len (agree e.len a e.offset b f.offset)) Meta) Meta)
    (Length e.len f.len)

-- at an index
unfoldable pub difference_at : List ℕ → List ℕ → ℕ → Difference
difference_at a b i =
    pick (ltb i (count a))
    (pick (ltb i (count b)) (between a (entry a i) b (entry b i)) FirstOnly)
    (pick (ltb i (count b)) SecondOnly Same)
