use mathlib.Core.Path.{refl}
use Rattle.blake3_lanes.specs.Lanes.{folded_column}
use Rattle.blake3_mixing.specs.Mixing.{xor}
use Rattle.blake3_lanes.proofs.states.fold_column.Goals as goal

pub returns : goal.returns
unfolding folded_column xor
returns c = refl
