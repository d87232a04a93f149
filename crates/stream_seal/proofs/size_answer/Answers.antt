use Rattle.stream_seal.proofs.SealAnswerLaws.{too_long, no_room, fitting}
use Rattle.stream_seal.proofs.size_answer.Goals as goal

pub returns-then-greatest-n : goal.returns-then-greatest-n
returns-then-greatest-n c = too_long _ _ _ _ _ c.if-greatest-n.true

pub returns-then-room-due : goal.returns-then-room-due
returns-then-room-due c = no_room _ _ _ _ _ c.if-greatest-n.false c.if-room-due.true

pub returns : goal.returns
returns c = fitting _ _ _ _ _ c.if-greatest-n.false c.if-room-due.false
