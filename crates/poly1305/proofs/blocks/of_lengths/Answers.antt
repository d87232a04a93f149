use mathlib.Core.Path.{◌∙◌}
use Rattle.poly1305.proofs.BlockLaws.{number-lengths}
use Rattle.poly1305.proofs.blocks.of_lengths.Goals as goal

pub returns : goal.returns
returns c = record { below = c.from_words.ensures.below; result_value = c.from_words.ensures.result_value ∙ number-lengths c.args.n c.ranges.n.fits }
