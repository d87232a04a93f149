use mathlib.Core.Path.{◌≡◌, refl, ap, ◌∙◌}
use native.Mathlib.Omega.{arith}
use Rattle.ghash.specs.Table.{gather}
use Rattle.ghash.proofs.GatherLaws.{gather-more}
use Rattle.ghash.proofs.product.gather.Goals as goal

pub loop-k-init : goal.loop-k-init
unfolding gather
loop-k-init c = (omega arith, refl, refl)

pub loop-k-preserved : goal.loop-k-preserved
loop-k-preserved c =
    let i = c.loop-k.invariant in
    let k = c.loop-k.k in (
      omega arith,
      c.lookup-s.ensures.high_value ∙ gather-more _ _ k i.1,
      c.lookup-s.ensures.low_value ∙ gather-more _ _ k i.2,
    )

pub returns : goal.returns
returns c =
    let i = c.loop-k.invariant in
    let e : c.loop-k.k ≡ 4 = omega arith in record { high_value = i.1 ∙ ap (gather _ _) e; low_value = i.2 ∙ ap (gather _ _) e }

pub overflow_step-k : goal.overflow_step-k
overflow_step-k c = omega arith

pub loop-k-smaller : goal.loop-k-smaller
loop-k-smaller c = omega arith
