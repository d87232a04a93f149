use mathlib.Core.Path.{ap₂, ◌∙◌}
use lib.Bits.{bit_xor}
use Rattle.ghash_four.specs.Four.{sum4}
use Rattle.ghash_four.proofs.lookups_of_four.Goals as goal

pub returns : goal.returns
unfolding sum4
returns c =
    c.add-3.ensures
    ∙ ap₂ bit_xor
    (c.add.ensures ∙ ap₂ bit_xor c.four_lookups-w.ensures c.four_lookups-x.ensures)
    (c.add-2.ensures ∙ ap₂ bit_xor c.four_lookups-y.ensures c.four_lookups-z.ensures)
