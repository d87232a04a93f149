use Rattle.settings_file.specs.Format.{entry_at}
use Rattle.settings_file.proofs.entry_at.Goals as goal

pub returns : goal.returns
unfolding entry_at
returns c = cc
