use mathlib.Core.Path.{ap, ◌∙◌}
use lib.Bits.{bit_xor}
use Rattle.ghash.specs.Field.{mul}
use Rattle.ghash.specs.Table.{key_in}
use Rattle.ghash.specs.Words.{block_of}
use Rattle.ghash_four.specs.Four.{sum4}
use Rattle.ghash_four.proofs.step.Goals as goal

pub returns : goal.returns
returns c =
    let x = c.args in
    c.products.ensures
    ∙ (λ i. sum4 (mul ((c.add-a.ensures ∙ ap (bit_xor (block_of x.y)) c.block_at.ensures) i) (key_in x.p.now.t4.now))
    (mul (c.block_at-b.ensures i) (key_in x.p.now.t3.now)) (mul (c.block_at-c.ensures i) (key_in x.p.now.t2.now)) (mul (c.block_at-d.ensures i) (key_in x.p.now.t1.now)))
