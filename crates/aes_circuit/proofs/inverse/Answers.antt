-- The result is the circuit's, gate by gate.
-- Assumes nothing.
use mathlib.Core.Path.{refl}
use Rattle.aes_circuit.specs.Circuit.{◌⊻◌, ◌⊗◌, inverse_of}
use Rattle.aes_circuit.proofs.inverse.Goals as goal

pub returns : goal.returns
unfolding ◌⊻◌ ◌⊗◌ inverse_of
returns c = refl
