use Rattle.blake3.specs.Words.{block_words}
use Rattle.blake3.proofs.block_words.Goals as goal

pub returns : goal.returns
unfolding block_words
returns c = cc
