-- The result is the circuit's, gate by gate.
-- Assumes nothing.
use mathlib.Core.Path.{refl}
use Rattle.aes_circuit.specs.Circuit.{◌⊻◌, ◌⊗◌, bottom_of}
use Rattle.aes_circuit.proofs.bottom.Goals as goal

pub returns : goal.returns
unfolding ◌⊻◌ ◌⊗◌ bottom_of
returns c = refl
