use Rattle.aes.specs.Words.{entries}
use Rattle.aes.proofs.word.substituted.Goals as goal

pub returns : goal.returns
unfolding entries
returns c = cc
