use mathlib.Core.Path.{refl, ap, ◌∙◌}
use native.Mathlib.Omega.{arith}
use borrow.Author.Rules.{rules}
use Rattle.ghash.specs.Table.{steps}
use Rattle.ghash.proofs.DoubledLaws.{made_none, made_all}
use Rattle.ghash.proofs.StepLaws.{steps-more}
use Rattle.ghash.proofs.product.write_table.Goals as goal

pub loop-j-init : goal.loop-j-init
unfolding steps
loop-j-init c = (omega arith, refl, made_none _ _ (search rules))

pub loop-j-preserved : goal.loop-j-preserved
loop-j-preserved c =
    let i = c.loop-j.invariant in (
      omega arith,
      c.write_part-v.ensures.result_value ∙ ap (steps 4) i.1 ∙ steps-more 4 c.loop-j.j _,
      c.write_part-v.ensures.by_index _ i.1 i.2,
    )

pub returns : goal.returns
returns c =
    made_all _ _ c.loop-j.j (omega arith) c.loop-j.invariant.2

pub write_part-v-requires : goal.write_part-v-requires
write_part-v-requires c = record { t_len = c.loop-j.invariant.2.size; j_bound = omega arith }

pub overflow_step-j : goal.overflow_step-j
overflow_step-j c = omega arith

pub loop-j-smaller : goal.loop-j-smaller
loop-j-smaller c = omega arith
