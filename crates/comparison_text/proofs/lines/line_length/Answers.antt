-- `comparison_text::lines::line_length` meets its contract.
-- Assumes nothing.
use native.Mathlib.Omega.{arith}
use Rattle.comparison_text.proofs.lines.line_length.Goals as goal

pub returns : goal.returns
returns c = omega (arith, c.put_line.ensures.ends)

pub put_line-requires : goal.put_line-requires
put_line-requires c = omega (arith, c.requires)
