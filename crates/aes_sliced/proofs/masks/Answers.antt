use Rattle.std.proofs.Common.{◌≡◌, ◌+◌, ◌*◌, map, sym, refl, ap, ◌∙◌, subst, arith, rules}
use Rattle.aes_sliced.specs.Masks.{masks_of}
use Rattle.aes_sliced.proofs.MaskLaws.{masks-step, masks-keys}
use Rattle.aes.specs.Words.{bytes}
use Rattle.aes_sliced.specs.Rounds.{Keys}
use Rattle.aes_sliced.proofs.masks.Goals as goal

pub loop-b-init : goal.loop-b-init
unfolding masks_of
loop-b-init c = (search rules, (search rules, refl))

pub loop-b-preserved : goal.loop-b-preserved
loop-b-preserved c = (search rules, (c.mask_bit.ensures.k_len_2, masks-step _ _ _ _ c.loop-b.invariant.1.1 c.mask_bit.ensures.k_after))

pub returns : goal.returns
returns c =
    let e : c.loop-b.b ≡ 32 = omega arith in record {
      k_len_2 = c.loop-b.invariant.1.0;
      keys = subst (Keys (map bytes c.args.w.now) c.args.n) (sym (c.loop-b.invariant.1.1 ∙ ap (masks_of c.args.k.now c.args.w.now (4 * c.args.n + 4)) e))
          (masks-keys c.args.k.now c.args.w.now c.args.n c.requires.k_len c.requires.n_bound);
    }
