use Rattle.plan.proofs.AnswerLaws.{some-room, make-written}
use Rattle.plan.proofs.make.Goals as goal

pub fewest_of-k-requires : goal.fewest_of-k-requires
fewest_of-k-requires c = some-room _ _ _ _ _ _ c.capacity_of.ensures c.in_ok-most.was

pub returns-clause-written : goal.returns-clause-written
returns-clause-written c = make-written _ _ _ _ _ _ c.capacity_of.ensures c.in_ok-most.was _ _ _ c.write_plan.ensures
