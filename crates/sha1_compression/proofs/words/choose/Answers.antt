use Rattle.std.proofs.Common.{refl}
use Rattle.sha1_compression.specs.Functions.{Ch}
use Rattle.sha1_compression.proofs.words.choose.Goals as goal

pub returns : goal.returns
unfolding Ch
returns c = refl
