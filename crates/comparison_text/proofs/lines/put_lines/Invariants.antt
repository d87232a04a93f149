-- `comparison_text::lines::put_lines` meets its contract: the lines so far stand in the buffer.
-- Assumes nothing.
use Rattle.comparison_text.specs.Text.{lines}
use Rattle.recording.specs.Written.{Written}
use Rattle.comparison_text.proofs.lines.put_lines.Given as goal

abbrev pub invariant-loop-i : goal.invariant-loop-i
invariant-loop-i l = Written l.initial.out l.at l.out l.end (lines l.first l.second l.i)
