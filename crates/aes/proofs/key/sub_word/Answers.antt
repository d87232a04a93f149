use Rattle.aes.specs.KeyExpansion.{sub_word}
use Rattle.aes.proofs.key.sub_word.Goals as goal

pub returns : goal.returns
unfolding sub_word
returns c = c.last_column.ensures
