use Rattle.std.proofs.Common.{refl}
use Rattle.sha1_compression.specs.Functions.{Maj}
use Rattle.sha1_compression.proofs.words.majority.Goals as goal

pub returns : goal.returns
unfolding Maj
returns c = refl
