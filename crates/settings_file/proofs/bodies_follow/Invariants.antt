-- The test of the bodies from here on is the test of all.
-- Assumes nothing.
use mathlib.Core.Path.{◌≡◌}
use Prim.Native.Nat.{◌+◌, ◌*◌, ◌-◌, ◌≤◌}
use Rattle.settings_file.specs.Format.{place_of, follow}
use Rattle.settings_file.proofs.bodies_follow.Given as goal

abbrev pub invariant-loop-i : goal.invariant-loop-i
invariant-loop-i l = (l.place ≤ 393220 + 65535 * l.i) × (follow l.s (l.n - l.i) l.i l.place ≡ follow l.s l.n 0 (place_of l.n))
