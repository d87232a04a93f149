use mathlib.Core.Path.{sym, ap}
use Rattle.stream_open.specs.declared.Turn.{Turn}
use Rattle.stream_open.specs.Steps.{turn_after}
use Rattle.stream_open.proofs.turn_after.Goals as goal

pub returns-in-Length : goal.returns-in-Length
returns-in-Length c = ap (λ (t : Turn). turn_after t c.args.n) (sym c.in-Length.is)
