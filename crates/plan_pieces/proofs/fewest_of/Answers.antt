use native.Mathlib.Omega.{arith}
use mathlib.Core.Path.{◌∙◌}
use Rattle.plan_pieces.proofs.NumberLaws.{fewest-none, fewest-rounded}
use Rattle.plan_pieces.proofs.fewest_of.Goals as goal

pub returns-then-report-eq0 : goal.returns-then-report-eq0
returns-then-report-eq0 c = fewest-none _ _ c.if-report-eq0.true

pub returns : goal.returns
returns c = c.div_ceil.ensures ∙ fewest-rounded _ _ c.if-report-eq0.false (c.requires (omega arith))
