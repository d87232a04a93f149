use mathlib.Core.Path.{refl}
use Rattle.blake3_lanes.specs.Lanes.{set_column}
use Rattle.blake3_lanes.proofs.store_column.Goals as goal

pub returns : goal.returns
unfolding set_column
returns c = refl
