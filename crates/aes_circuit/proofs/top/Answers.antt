-- The result is the circuit's, gate by gate.
-- Assumes nothing.
use mathlib.Core.Path.{refl}
use Rattle.aes_circuit.specs.Circuit.{◌⊻◌, ◌⊗◌, top_of}
use Rattle.aes_circuit.proofs.top.Goals as goal

pub returns : goal.returns
unfolding ◌⊻◌ ◌⊗◌ top_of
returns c = refl
