use mathlib.Core.Path.{◌≡◌, refl, ap, ◌∙◌}
use native.Mathlib.Omega.{arith}
use borrow.Author.Rules.{rules}
use Rattle.aes_planes.specs.Sub.{row_of}
use Rattle.aes_planes.proofs.SubLaws.{row_step}
use Rattle.aes_planes.proofs.sub.sub_row.Goals as goal

pub loop-j-init : goal.loop-j-init
unfolding row_of
loop-j-init c = (search rules, (search rules, refl))

pub loop-j-preserved : goal.loop-j-preserved
loop-j-preserved c = (
  search rules,
  (
    c.store-in-loop-j.ensures.t_len_2,
    row_step _ _ _ _ c.loop-j.invariant.1.1 c.load.ensures c.sbox-x.ensures.value c.store.ensures.t_after c.store-in-loop-j.ensures.t_after,
  ),
)

pub returns : goal.returns
returns c =
    let e : c.loop-j.j ≡ 4 = omega arith in record { t_len_2 = c.loop-j.invariant.1.0; t_after = c.loop-j.invariant.1.1 ∙ ap (row_of _ _ _) e }
