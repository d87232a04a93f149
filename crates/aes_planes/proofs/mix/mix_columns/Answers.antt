use mathlib.Core.Path.{◌≡◌, refl, ap, ◌∙◌}
use native.Mathlib.Omega.{arith}
use borrow.Author.Rules.{rules}
use Rattle.aes_planes.proofs.StepLaws.{columns-step}
use Rattle.aes_planes.specs.Mix.{columns_of}
use Rattle.aes_planes.proofs.mix.mix_columns.Goals as goal

pub loop-j-init : goal.loop-j-init
unfolding columns_of
loop-j-init c = (search rules, (search rules, refl))

pub loop-j-preserved : goal.loop-j-preserved
loop-j-preserved c = (search rules, (c.mix_lane.ensures.s_len_2, columns-step _ _ _ _ _ c.loop-j.invariant.1.1 c.mix_lane.ensures.s_after))

pub returns : goal.returns
returns c =
    let e : c.loop-j.j ≡ 4 = omega arith in record { s_len_2 = c.loop-j.invariant.1.0; s_after = c.loop-j.invariant.1.1 ∙ ap (columns_of _ _ _ _) e }
