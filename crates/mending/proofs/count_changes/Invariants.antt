-- `mending::count_changes` meets its contract: the changes so far and those of the rest are all of them.
-- Assumes nothing.
use mathlib.Core.Path.{◌≡◌}
use Prim.Native.Nat.{◌+◌, ◌*◌, ◌-◌, ◌≤◌}
use lib.ListN.{length}
use Rattle.recording.specs.Format.{place_of}
use Rattle.mending.specs.Report.{report_from}
use Rattle.mending.proofs.count_changes.Given as goal

abbrev pub invariant-loop-i : goal.invariant-loop-i
invariant-loop-i l =
    (l.place ≤ length l.s) × (l.place ≤ 61444 + 65507 * l.i) × (l.total ≤ 3 * l.i)
    × (l.total + length (report_from (l.n - l.i) l.s l.i l.place) ≡ length (report_from l.n l.s 0 (place_of l.n)))
