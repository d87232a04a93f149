-- Each return is one case of the lent answer.
-- Assumes nothing.
use Rattle.settings_answers.proofs.ToldLaws.{not_written, was-written}
use Rattle.settings_answers.proofs.write.Goals as goal

pub returns-then-answer-ne-ANSWER : goal.returns-then-answer-ne-ANSWER
returns-then-answer-ne-ANSWER c = not_written _ _ _ _ _ c.if-answer-ne-ANSWER.true

pub returns : goal.returns
returns c =
    was-written _ _ _ _ _ c.if-answer-ne-ANSWER.false _ c.write-written.ensures.value _ _ _ c.tell_written.ensures.value c.write-written.ensures.out_after
    c.tell_written.ensures.answer_after
