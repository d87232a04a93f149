-- `mending_report::entry_count` meets its contract.
-- Assumes nothing.
use native.Mathlib.Omega.{arith}
use Rattle.mending_report.proofs.ChangeLaws.{entry_length}
use Rattle.mending_report.proofs.entry_count.Goals as goal

pub returns : goal.returns
returns c = (
  omega (
    arith,
    c.field_count-a.ensures.0,
    c.field_count-b.ensures.0,
    c.field_count-c.ensures.0,
    entry_length 0 c.args.e c.args.f,
  ),
  omega (arith, c.field_count-a.ensures.1, c.field_count-b.ensures.1, c.field_count-c.ensures.1),
)
