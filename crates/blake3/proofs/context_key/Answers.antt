use mathlib.Core.Path.{ap, ◌∙◌}
use Rattle.blake3_compression.specs.Compression.{first_eight}
use Rattle.blake3.specs.Tree.{context_key}
use Rattle.blake3.proofs.context_key.Goals as goal

pub returns : goal.returns
unfolding context_key
returns c = c.first_eight.ensures ∙ ap first_eight c.output_words.ensures
