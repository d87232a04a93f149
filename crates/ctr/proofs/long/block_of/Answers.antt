use Rattle.std.proofs.Common.{refl}
use Rattle.aes.specs.Words.{block_bytes}
use Rattle.aes_sliced.specs.Blocks.{words_at}
use Rattle.ctr.proofs.long.block_of.Goals as goal

pub returns : goal.returns
unfolding block_bytes words_at
returns c = refl
