use Rattle.aes.specs.KeyExpansion.{rot_word}
use Rattle.aes.specs.Words.{turned}
use Rattle.aes.proofs.key.rot_word.Goals as goal

pub returns : goal.returns
unfolding rot_word turned
returns c = c.rotate3.ensures
