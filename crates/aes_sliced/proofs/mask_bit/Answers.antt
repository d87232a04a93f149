use Rattle.std.proofs.Common.{◌≡◌, refl, ap, ◌∙◌, arith, length-set, rules}
use Rattle.aes_sliced.specs.Masks.{mask_bit_of}
use Rattle.aes_sliced.proofs.MaskLaws.{bit-step}
use Rattle.aes_sliced.proofs.mask_bit.Goals as goal

pub loop-i-init : goal.loop-i-init
unfolding mask_bit_of
loop-i-init c = (search rules, (search rules, refl))

pub loop-i-preserved : goal.loop-i-preserved
loop-i-preserved c =
    let e = c.loop-i.invariant.1.0 in
    (search rules, (simp length-set e, bit-step _ _ _ _ _ c.loop-i.invariant.1.1 c.mask.ensures))

pub returns : goal.returns
returns c =
    let e : c.loop-i.i ≡ c.args.words = omega arith in record { k_len_2 = c.loop-i.invariant.1.0; k_after = c.loop-i.invariant.1.1 ∙ ap (mask_bit_of _ _ _) e }
