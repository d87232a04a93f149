use native.Mathlib.Omega.{arith}
use Rattle.session_record.specs.Record.{one_more}
use Rattle.session_record.proofs.one_more.Goals as goal

pub returns : goal.returns
unfolding one_more
returns c = omega arith
