-- `mending_report::field_count` meets its contract.
-- Assumes nothing.
use Rattle.mending_report.proofs.ChangeLaws.{counted}
use Rattle.mending_report.proofs.field_count.Goals as goal

pub returns : goal.returns
returns c = counted _ _ _ c.from.ensures
