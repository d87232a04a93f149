-- The record is current for the retention.
use Rattle.session_table.proofs.is_alive.Goals as goal

pub returns : goal.returns
returns c = c.is_current.ensures
