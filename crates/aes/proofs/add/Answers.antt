use Rattle.aes.specs.Words.{block_bytes}
use Rattle.aes.proofs.RoundLaws.{add-law}
use Rattle.aes.proofs.add.Goals as goal

pub returns : goal.returns
unfolding block_bytes
returns c = add-law _ _ _ _ _ _ _ _
