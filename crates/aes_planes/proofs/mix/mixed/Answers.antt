use mathlib.Core.Path.{refl}
use Rattle.aes_circuit.specs.Circuit.{◌⊻◌}
use Rattle.aes_planes.specs.Mix.{mixed_of}
use Rattle.aes_planes.proofs.mix.mixed.Goals as goal

pub returns : goal.returns
unfolding ◌⊻◌ mixed_of
returns c = refl
