use Rattle.std.proofs.Common.{refl}
use Rattle.chacha.specs.Lanes.{set_column}
use Rattle.chacha.proofs.lanes.store_column.Goals as goal

pub returns : goal.returns
unfolding set_column
returns c = refl
