-- What is written, with the plan of what is left of the report, is the whole plan.
use Prim.Native.Nat.{◌≤◌, ◌-◌}
use mathlib.Core.Path.{◌≡◌}
use lib.ListN.{length}
use Rattle.plan.proofs.WordLaws.{Written}
use Rattle.plan.proofs.write_plan.Given as goal

abbrev pub invariant-loop-i : goal.invariant-loop-i
invariant-loop-i l = (l.i ≤ l.k) × (length l.plan ≡ length l.initial.plan) × Written l.most l.report l.k l.initial.plan l.plan l.rest l.i

abbrev pub decreases-loop-i : goal.decreases-loop-i
decreases-loop-i l = l.k - l.i
