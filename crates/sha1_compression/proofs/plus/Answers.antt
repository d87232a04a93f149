use Rattle.std.proofs.Common.{refl}
use Rattle.sha1_compression.specs.Compression.{add32, plus}
use Rattle.sha1_compression.proofs.plus.Goals as goal

pub returns : goal.returns
unfolding add32 plus
returns c = refl
