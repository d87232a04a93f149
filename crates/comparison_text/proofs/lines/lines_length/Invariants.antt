-- `comparison_text::lines::lines_length` meets its contract: the total is how long the lines so far are.
-- Assumes nothing.
use mathlib.Core.Path.{◌≡◌}
use Prim.Native.Nat.{◌*◌, ◌≤◌}
use lib.ListN.{length}
use Rattle.comparison_text.specs.Text.{lines}
use Rattle.comparison_text.proofs.lines.lines_length.Given as goal

abbrev pub invariant-loop-i : goal.invariant-loop-i
invariant-loop-i l = (l.total ≡ length (lines l.first l.second l.i)) × (l.total ≤ 25 * l.i)
