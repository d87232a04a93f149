use mathlib.Core.Path.{refl}
use Rattle.aes_circuit.specs.Circuit.{◌⊻◌, ◌⊗◌}
use Rattle.aes_turn.specs.Turn.{moved_of}
use Rattle.aes_turn.proofs.moved.Goals as goal

pub returns : goal.returns
unfolding ◌⊻◌ ◌⊗◌ moved_of
returns c = refl
