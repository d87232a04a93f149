use mathlib.Core.Path.{◌≡◌, refl, ap, ◌∙◌}
use native.Mathlib.Omega.{arith}
use borrow.Author.Rules.{rules}
use Rattle.aes_planes.specs.Mix.{last_of}
use Rattle.aes_planes.proofs.StepLaws.{last_step}
use Rattle.aes_planes.proofs.mix.last_round.Goals as goal

pub loop-b-init : goal.loop-b-init
unfolding last_of
loop-b-init c = (search rules, (search rules, refl))

pub loop-b-preserved : goal.loop-b-preserved
loop-b-preserved c = (search rules, (c.last_bit.ensures.s_len_2, last_step _ _ _ _ _ c.loop-b.invariant.1.1 c.last_bit.ensures.s_after))

pub returns : goal.returns
returns c =
    let e : c.loop-b.b ≡ 8 = omega arith in record { s_len_2 = c.loop-b.invariant.1.0; s_after = c.loop-b.invariant.1.1 ∙ ap (last_of _ _ _ _) e }
