use mathlib.Core.Path.{refl}
use Rattle.aes_circuit.specs.Circuit.{◌⊻◌}
use Rattle.aes_planes.specs.Mix.{sums_of}
use Rattle.aes_planes.proofs.mix.sums.Goals as goal

pub returns : goal.returns
unfolding ◌⊻◌ sums_of
returns c = refl
