-- `comparison::of_entries` meets its contract: each test decides a case of `between`.
-- Assumes nothing.
use mathlib.Core.Path.{ap, ◌∙◌}
use native.Mathlib.Omega.{arith}
use Rattle.comparison.specs.Differences.{bodies}
use Rattle.comparison.proofs.DifferenceLaws.{lengths_differ, directions-differ, clocks-differ, by-bodies}
use Rattle.comparison.proofs.of_entries.Goals as goal
use Rattle.comparison.proofs.of_entries.Goals.{then-e-f-2-via-then-e-f-2, then-e-f-2-via-else-e-f-2+then-e-f-3}

pub returns-then-e-f : goal.returns-then-e-f
returns-then-e-f c = lengths_differ _ _ _ _ (omega arith)

pub returns-then-e-f-2 : goal.returns-then-e-f-2
returns-then-e-f-2 c =
    elim c.then-e-f-2.branch [
      | then-e-f-2-via-then-e-f-2 w ↦ directions-differ _ _ _ _ (omega arith) (omega arith)
      | then-e-f-2-via-else-e-f-2+then-e-f-3 w ↦ clocks-differ _ _ _ _ (omega arith) (omega arith) (omega arith)
    ]

pub returns : goal.returns
returns c =
    c.of_bodies.ensures ∙ ap (bodies _) c.agreeing-p.ensures
    ∙ by-bodies _ _ _ _ (omega arith) (omega arith) (omega arith)
