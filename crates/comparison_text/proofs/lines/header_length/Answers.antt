-- `comparison_text::lines::header_length` meets its contract.
-- Assumes nothing.
use native.Mathlib.Omega.{arith}
use Rattle.comparison_text.proofs.LineLaws.{header-short}
use Rattle.comparison_text.proofs.lines.header_length.Goals as goal

pub put_header-requires : goal.put_header-requires
put_header-requires c = omega (arith, header-short _ _ c.ranges.m.fits c.ranges.n.fits)

pub returns : goal.returns
returns c = (
  omega (arith, c.put_header.ensures.ends),
  omega (arith, c.put_header.ensures.ends, header-short _ _ c.ranges.m.fits c.ranges.n.fits),
)
