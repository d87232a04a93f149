use mathlib.Core.Path.{refl}
use Rattle.blake3_compression.specs.Compression.{first_eight}
use Rattle.blake3_tree.proofs.joined.Goals as goal

pub returns : goal.returns
unfolding first_eight
returns c = refl
