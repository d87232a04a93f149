use mathlib.Core.Path.{◌≡◌, sym, ◌∙◌}
use native.Mathlib.Omega.{arith}
use Rattle.comparison.proofs.DifferenceLaws.{agree-more, agree-stop, agree-end}
use Rattle.comparison.proofs.agreeing.Goals as goal

pub loop-p-init : goal.loop-p-init
loop-p-init c = c.agreeing_eights-start.ensures.1

pub returns-then-a-i : goal.returns-then-a-i
returns-then-a-i c = agree-stop _ _ _ _ _ _ (omega arith) c.if-a-i.true ∙ c.loop-p.invariant

pub loop-p-preserved : goal.loop-p-preserved
loop-p-preserved c =
    sym (agree-more _ _ _ _ _ _ (omega arith) c.if-a-i.false) ∙ c.loop-p.invariant

pub returns : goal.returns
returns c =
    let e : c.args.n ≡ c.loop-p.p = omega arith in
    e ∙ agree-end _ _ _ _ _ _ (omega arith) ∙ c.loop-p.invariant
