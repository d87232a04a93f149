-- What agreed so far, eight bytes at a time, and the rest from here make the whole.
-- Assumes nothing.
use mathlib.Core.Path.{◌≡◌}
use Prim.Native.Nat.{◌+◌, ◌-◌, ◌*◌}
use Rattle.comparison.specs.Differences.{agree}
use Rattle.comparison.proofs.agreeing_eights.Given as goal

abbrev pub invariant-loop-k : goal.invariant-loop-k
invariant-loop-k l = 8 * l.k + agree (l.n - 8 * l.k) l.a (l.i + 8 * l.k) l.b (l.j + 8 * l.k) ≡ agree l.n l.a l.i l.b l.j
