use Rattle.std.proofs.Common.{◌≡◌, refl, ap, ◌∙◌, arith, rules}
use Rattle.aes_sliced.specs.Blocks.{first_of}
use Rattle.aes_sliced.proofs.BlockLaws.{first_step}
use Rattle.aes_sliced.proofs.first_key.Goals as goal

pub loop-i-init : goal.loop-i-init
unfolding first_of
loop-i-init c = (search rules, (search rules, refl))

pub loop-i-preserved : goal.loop-i-preserved
loop-i-preserved c = (search rules, (c.add_key.ensures.s_len_2, first_step _ _ _ c.loop-i.invariant.1.1 c.add_key.ensures.s_after))

pub returns : goal.returns
returns c =
    let e : c.loop-i.i ≡ 32 = omega arith in record { s_len = c.loop-i.invariant.1.0; s_after = c.loop-i.invariant.1.1 ∙ ap (first_of _ _) e }
