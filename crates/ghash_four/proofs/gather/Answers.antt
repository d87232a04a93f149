use mathlib.Core.Path.{◌≡◌, refl, ap, ◌∙◌}
use native.Mathlib.Omega.{arith}
use Rattle.ghash.specs.Table.{gather}
use Rattle.ghash_four.specs.Four.{sum4, gathers}
use Rattle.ghash_four.proofs.FourLaws.{gathers-more}
use Rattle.ghash_four.proofs.gather.Goals as goal

pub loop-k-init : goal.loop-k-init
unfolding gathers sum4 gather
loop-k-init c = (omega arith, refl)

pub loop-k-preserved : goal.loop-k-preserved
loop-k-preserved c =
    let a = c.args in
    (omega arith, c.shifted-z.ensures ∙ gathers-more _ _ _ _ a.a a.b a.c a.d c.loop-k.k c.loop-k.invariant.1 c.lookups_of_four-e.ensures)

pub returns : goal.returns
returns c =
    let e : c.loop-k.k ≡ 4 = omega arith in
    c.loop-k.invariant.1 ∙ ap (gathers _ _ _ _ _ _ _ _) e
