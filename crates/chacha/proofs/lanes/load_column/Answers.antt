use Rattle.std.proofs.Common.{refl}
use Rattle.chacha.specs.Lanes.{column}
use Rattle.chacha.proofs.lanes.load_column.Goals as goal

pub returns : goal.returns
unfolding column
returns c = refl
