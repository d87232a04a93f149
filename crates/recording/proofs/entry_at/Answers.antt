-- `recording::entry_at` meets its contract: each field is what was read.
-- Assumes nothing.
use Rattle.recording.specs.Format.{entry_at}
use Rattle.recording.proofs.entry_at.Goals as goal

pub returns : goal.returns
unfolding entry_at
returns c = cc
