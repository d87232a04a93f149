-- The result is the circuit's, gate by gate.
-- Assumes nothing.
use mathlib.Core.Path.{refl}
use Rattle.aes_circuit.specs.Circuit.{◌⊻◌, ◌⊗◌, middle_of}
use Rattle.aes_circuit.proofs.middle.Goals as goal

pub returns : goal.returns
unfolding ◌⊻◌ ◌⊗◌ middle_of
returns c = refl
