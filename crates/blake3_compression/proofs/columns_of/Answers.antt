use mathlib.Core.Path.{refl}
use Rattle.blake3_compression.specs.Columns.{words, sixteen}
use Rattle.blake3_compression.proofs.columns_of.Goals as goal

pub returns : goal.returns
unfolding words sixteen
returns c = refl
