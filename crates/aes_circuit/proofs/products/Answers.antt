-- The result is the circuit's, gate by gate.
-- Assumes nothing.
use mathlib.Core.Path.{refl}
use Rattle.aes_circuit.specs.Circuit.{◌⊻◌, ◌⊗◌, products_of}
use Rattle.aes_circuit.proofs.products.Goals as goal

pub returns : goal.returns
unfolding ◌⊻◌ ◌⊗◌ products_of
returns c = refl
