use Rattle.relay.proofs.PlanLaws.{not_made, made-answer}
use Rattle.relay.proofs.plans.relay_plan_make.Goals as goal

pub returns-then-answer-ne-ANSWER : goal.returns-then-answer-ne-ANSWER
returns-then-answer-ne-ANSWER c = not_made _ _ _ _ _ _ c.if-answer-ne-ANSWER.true

pub returns : goal.returns
returns c =
    made-answer _ _ _ _ _ _ c.if-answer-ne-ANSWER.false _ c.make-made.ensures.answer _ _ _ c.write_made.ensures.value c.make-made.ensures.written
    c.write_made.ensures.answer_after
