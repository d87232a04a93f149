use mathlib.Core.Path.{ap, ◌∙◌}
use Rattle.blake3.specs.Words.{word_bytes}
use Rattle.blake3.specs.Tree.{output, derive_at}
use Rattle.blake3.proofs.derive_at.Goals as goal

pub returns : goal.returns
unfolding output derive_at
returns c = c.word_bytes.ensures ∙ ap word_bytes c.output_words.ensures
