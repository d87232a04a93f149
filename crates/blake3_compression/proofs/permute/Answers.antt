use mathlib.Core.Path.{refl}
use Rattle.blake3_compression.specs.Columns.{words}
use Rattle.blake3_compression.specs.Compression.{permuted}
use Rattle.blake3_compression.proofs.permute.Goals as goal

pub returns : goal.returns
unfolding words permuted
returns c = refl
