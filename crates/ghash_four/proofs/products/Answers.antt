use mathlib.Core.Path.{◌≡◌, refl, ap, ◌∙◌}
use native.Mathlib.Omega.{arith}
use Rattle.ghash.specs.Table.{key_in, steps}
use Rattle.ghash_four.specs.Four.{gathers, made}
use Rattle.ghash_four.proofs.FourLaws.{made_more, made_all}
use Rattle.ghash_four.proofs.products.Goals as goal

pub loop-i-init : goal.loop-i-init
unfolding made
loop-i-init c = (omega arith, refl)

pub loop-i-preserved : goal.loop-i-preserved
loop-i-preserved c =
    let x = c.args in
    let words =
    c.gather-s.ensures
    ∙ (λ j. gathers (key_in x.p.now.t4.now) (key_in x.p.now.t3.now) (key_in x.p.now.t2.now) (key_in x.p.now.t1.now) (c.word.ensures j) (c.word-in-loop-i.ensures j)
    (c.word-in-loop-i-2.ensures j) (c.word-in-loop-i-3.ensures j) 4) in (
      omega arith,
      c.reduce-z.ensures ∙ ap (steps 64) c.add_behind.ensures
          ∙ made_more _ _ _ _ x.a x.b x.c x.d c.loop-i.i c.loop-i.invariant.1 words,
    )

pub returns : goal.returns
returns c =
    let x = c.args in
    let e : c.loop-i.i ≡ 2 = omega arith in
    c.loop-i.invariant.1 ∙ ap (made _ _ _ _ x.a x.b x.c x.d) e
    ∙ made_all _ _ _ _ x.a x.b x.c x.d (omega (arith, c.well_formed)) (omega (arith, c.well_formed)) (omega (arith, c.well_formed)) (omega (arith, c.well_formed))
