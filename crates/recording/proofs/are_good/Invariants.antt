-- `recording::are_good` meets its contract: the test of the rest from here is the test of the whole.
-- Assumes nothing.
use mathlib.Core.Path.{◌≡◌}
use Prim.Native.Nat.{◌+◌, ◌*◌, ◌-◌, ◌≤◌}
use Rattle.recording.specs.Format.{place_of, are_good}
use Rattle.recording.proofs.are_good.Given as goal

abbrev pub invariant-loop-i : goal.invariant-loop-i
invariant-loop-i l = (l.place ≤ 61444 + 65507 * l.i) × (are_good l.s (l.n - l.i) l.i l.place ≡ are_good l.s l.n 0 (place_of l.n))
