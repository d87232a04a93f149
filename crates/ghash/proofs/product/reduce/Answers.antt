use mathlib.Core.Path.{ap, ◌∙◌}
use borrow.Author.Rules.{rules}
use lib.Bits.{bit_xor}
use Rattle.ghash.specs.Words.{words}
use Rattle.ghash.proofs.StepLaws.{steps64-long}
use Rattle.ghash.proofs.product.reduce.Goals as goal

pub returns : goal.returns
returns c =
    let z = c.args.z in
    c.add.ensures
    ∙ ap (bit_xor (words z.hi 0)) c.step64.ensures
    ∙ steps64-long z.hi z.lo z.out (search rules) (search rules)
