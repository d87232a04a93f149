use Rattle.hkdf.proofs.BufferLaws.{start_first, start-later}
use borrow.Author.Rules.{rules}
use Rattle.hkdf.proofs.start_at.Goals as goal

pub returns-then-i-eq0 : goal.returns-then-i-eq0
returns-then-i-eq0 c = record { value = start_first c.args.i c.if-i-eq0.true; upper_bound = search rules }

pub returns-else-i-eq0 : goal.returns-else-i-eq0
returns-else-i-eq0 c = record { value = start-later c.args.i c.if-i-eq0.false; upper_bound = search rules }
