use mathlib.Core.Path.{◌≡◌, refl, ap, ◌∙◌}
use Prim.Native.Nat.{◌-◌}
use native.Mathlib.Omega.{arith}
use Rattle.aes_planes.specs.Sub.{sub_of}
use Rattle.aes_planes.proofs.SubLaws.{sub-step}
use Rattle.aes_planes.proofs.sub.sub_bytes.Goals as goal

pub loop-r-init : goal.loop-r-init
unfolding sub_of
loop-r-init c = (c.requires, refl)

pub loop-r-preserved : goal.loop-r-preserved
loop-r-preserved c = (c.sub_row.ensures.t_len_2, sub-step _ _ c.loop-r.r (omega arith) (omega arith) c.loop-r.invariant.1 c.sub_row.ensures.t_after)

pub returns : goal.returns
returns c =
    let e : 4 - c.loop-r.r ≡ 4 = omega arith in record { t_len = c.loop-r.invariant.0; t_after = c.loop-r.invariant.1 ∙ ap (sub_of _ _) e }
