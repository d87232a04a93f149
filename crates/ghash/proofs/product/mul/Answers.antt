use mathlib.Core.Path.{ap, ap₂, ◌∙◌}
use native.Mathlib.Omega.{arith}
use lib.Bits.{bit_xor}
use Rattle.ghash.specs.Table.{steps}
use Rattle.ghash.proofs.GatherLaws.{joined}
use Rattle.ghash.proofs.product.mul.Goals as goal

pub returns : goal.returns
returns c =
    let x = c.args.x in
    c.reduce-2.ensures
    ∙ ap (steps 64)
    (c.add_behind.ensures
    ∙ ap₂ bit_xor c.gather-s.ensures.high_value (c.reduce.ensures ∙ ap (steps 64) c.gather-s.ensures.low_value))
    ∙ joined _ x.hi x.lo (omega (arith, c.well_formed))
