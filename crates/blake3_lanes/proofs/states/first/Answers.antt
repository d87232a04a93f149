use mathlib.Core.Path.{refl}
use Rattle.blake3_compression.specs.Columns.{words}
use Rattle.blake3_lanes.proofs.states.first.Goals as goal

pub returns : goal.returns
unfolding words
returns c = refl
