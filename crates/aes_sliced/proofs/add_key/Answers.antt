use Rattle.std.proofs.Common.{◌≡◌, refl, ap, ◌∙◌, arith, length-set, rules}
use Rattle.aes_sliced.specs.Blocks.{add_of}
use Rattle.aes_sliced.proofs.BlockLaws.{add_step}
use Rattle.aes_sliced.proofs.add_key.Goals as goal

pub loop-j-init : goal.loop-j-init
unfolding add_of
loop-j-init c = (search rules, (search rules, refl))

pub loop-j-preserved : goal.loop-j-preserved
loop-j-preserved c =
    let e = c.loop-j.invariant.1.0 in
    (search rules, (simp length-set e, add_step _ _ _ _ _ c.loop-j.invariant.1.1))

pub returns : goal.returns
returns c =
    let e : c.loop-j.j ≡ 4 = omega arith in record { s_len_2 = c.loop-j.invariant.1.0; s_after = c.loop-j.invariant.1.1 ∙ ap (add_of _ _ _) e }
