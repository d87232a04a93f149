-- `comparison::agreeing` meets its contract: what agreed so far and the rest from here make the whole.
-- Assumes nothing.
use mathlib.Core.Path.{◌≡◌}
use Prim.Native.Nat.{◌+◌, ◌-◌}
use Rattle.comparison.specs.Differences.{agree}
use Rattle.comparison.proofs.agreeing.Given as goal

abbrev pub invariant-loop-p : goal.invariant-loop-p
invariant-loop-p l = l.p + agree (l.n - l.p) l.a (l.i + l.p) l.b (l.j + l.p) ≡ agree l.n l.a l.i l.b l.j
