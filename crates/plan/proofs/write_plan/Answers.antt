use mathlib.Core.Path.{refl}
use native.Mathlib.Omega.{arith}
use lib.ListN.{length-set}
use borrow.Author.Rules.{rules}
use Rattle.plan.proofs.WordLaws.{write-none, write-next, write-all}
use Rattle.plan.proofs.write_plan.Goals as goal

pub loop-i-init : goal.loop-i-init
loop-i-init c = (search rules, refl, write-none _ _ _ _)

pub bounds-plan-i-in-loop-i : goal.bounds-plan-i-in-loop-i
bounds-plan-i-in-loop-i c = simp length-set (omega arith)

pub loop-i-preserved : goal.loop-i-preserved
loop-i-preserved c = (
  search rules,
  simp length-set c.loop-i.invariant.1,
  write-next _ _ _ _ _ _ _ _ c.loop-i-test.true c.smaller_of-bytes.ensures.value c.loop-i.invariant.2,
)

pub returns : goal.returns
returns c = write-all _ _ _ _ _ _ _ (omega arith) c.loop-i.invariant.2
