use mathlib.Core.Path.{ap₂, ◌∙◌}
use lib.Bits.{bit_xor}
use Rattle.ghash.proofs.TableLaws.{four-parts}
use Rattle.ghash.proofs.product.four_lookups.Goals as goal

pub returns : goal.returns
returns c =
    c.add-3.ensures
    ∙ ap₂ bit_xor
    (c.add-2.ensures
    ∙ ap₂ bit_xor
    (c.add.ensures ∙ ap₂ bit_xor c.entry_at-a.ensures c.entry_at-b.ensures)
    c.entry_at-c.ensures)
    c.entry_at-d.ensures
    ∙ four-parts _ c.args.w
