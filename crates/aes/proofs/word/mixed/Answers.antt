use mathlib.Core.Path.{◌∙◌}
use Rattle.octets.specs.Buffers.{◌⊞◌}
use Rattle.aes.specs.Words.{bytes, turned, column_sum}
use Rattle.aes.proofs.RoundLaws.{sum-law}
use Rattle.aes.proofs.word.mixed.Goals as goal

pub returns : goal.returns
unfolding column_sum
returns c =
    sum-law _ _ _ _ _ _ _ c.rotate1.ensures c.rotate2.ensures c.rotate3.ensures
    ∙ (λ i. bytes (c.word_entry.ensures i) ⊞ turned 1 (bytes (c.word_entry-2.ensures i))
    ⊞ turned 2 (bytes (c.word_entry-3.ensures i)) ⊞ turned 3 (bytes (c.word_entry-4.ensures i)))
