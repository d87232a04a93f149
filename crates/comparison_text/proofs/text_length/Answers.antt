-- `comparison_text::text_length` meets its contract.
-- Assumes nothing.
use native.Mathlib.Omega.{arith}
use Rattle.recording.proofs.WellFormedLaws.{well-formed}
use Rattle.comparison_text.proofs.WholeLaws.{whole_length}
use Rattle.comparison_text.proofs.text_length.Goals as goal

pub overflow_cast-m-2 : goal.overflow_cast-m-2
overflow_cast-m-2 c =
    record { fits = omega (arith, (well-formed _ c.requires.0).few) }

pub overflow_cast-n-2 : goal.overflow_cast-n-2
overflow_cast-n-2 c =
    record { fits = omega (arith, (well-formed _ c.requires.1).few) }

pub lines_length-requires : goal.lines_length-requires
lines_length-requires c =
    (c.requires.0, c.requires.1, omega (arith, (well-formed _ c.requires.0).few, (well-formed _ c.requires.1).few))

pub returns : goal.returns
returns c =
    omega (
      arith,
      c.header_length.ensures.0,
      c.lines_length.ensures.0,
      whole_length _ _ _ _ _ c.count-m.ensures c.count-n.ensures c.max.ensures,
    )
