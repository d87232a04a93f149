use mathlib.Core.Path.{refl}
use Rattle.blake3_lanes.specs.Lanes.{column}
use Rattle.blake3_lanes.proofs.load_column.Goals as goal

pub returns : goal.returns
unfolding column
returns c = refl
