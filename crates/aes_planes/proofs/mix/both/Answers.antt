use mathlib.Core.Path.{refl}
use Rattle.aes_circuit.specs.Circuit.{◌⊻◌}
use Rattle.aes_planes.specs.Mix.{both_of}
use Rattle.aes_planes.proofs.mix.both.Goals as goal

pub returns : goal.returns
unfolding ◌⊻◌ both_of
returns c = refl
