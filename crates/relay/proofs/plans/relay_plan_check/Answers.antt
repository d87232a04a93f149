use Rattle.relay.proofs.PlanLaws.{not-checked, checked-answer}
use Rattle.relay.proofs.plans.relay_plan_check.Goals as goal

pub returns-then-answer-ne-ANSWER : goal.returns-then-answer-ne-ANSWER
returns-then-answer-ne-ANSWER c = not-checked _ _ _ _ _ _ c.if-answer-ne-ANSWER.true

pub returns : goal.returns
returns c =
    checked-answer _ _ _ _ _ _ c.if-answer-ne-ANSWER.false _ c.check-checked.ensures _ _ c.write_checked.ensures.value c.write_checked.ensures.answer_after
