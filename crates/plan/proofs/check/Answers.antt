use Rattle.plan.proofs.AnswerLaws.{some-room}
use Rattle.plan.proofs.check.Goals as goal

pub passes_words-requires : goal.passes_words-requires
passes_words-requires c = some-room _ _ _ _ _ _ c.capacity_of.ensures c.in_ok-most.was
