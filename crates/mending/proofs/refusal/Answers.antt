-- `mending::refusal` meets its contract: each test decides a case of the definition.
-- Assumes nothing.
use native.Mathlib.Omega.{arith}
use Rattle.mending.proofs.RefusalLaws.{too_short, no_room, has_room}
use Rattle.mending.proofs.refusal.Goals as goal

pub returns-then-s-lt4 : goal.returns-then-s-lt4
returns-then-s-lt4 c = too_short _ _ (omega arith)

pub returns-then-words-due : goal.returns-then-words-due
returns-then-words-due c = no_room _ _ (omega arith) (omega (arith, c.due.ensures))

pub returns : goal.returns
returns c = has_room _ _ (omega arith) (omega (arith, c.due.ensures))
