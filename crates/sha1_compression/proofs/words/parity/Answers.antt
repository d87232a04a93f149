use Rattle.std.proofs.Common.{refl}
use Rattle.sha1_compression.specs.Functions.{Parity}
use Rattle.sha1_compression.proofs.words.parity.Goals as goal

pub returns : goal.returns
unfolding Parity
returns c = refl
