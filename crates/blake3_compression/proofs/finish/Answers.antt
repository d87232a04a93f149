use mathlib.Core.Path.{refl}
use Rattle.blake3_compression.specs.Columns.{words}
use Rattle.blake3_compression.specs.Compression.{final}
use Rattle.blake3_mixing.specs.Mixing.{xor}
use Rattle.blake3_compression.proofs.finish.Goals as goal

pub returns : goal.returns
unfolding words final xor
returns c = refl
