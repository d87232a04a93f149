-- Each return is one case of the lent answer.
-- Assumes nothing.
use Rattle.settings_answers.proofs.ToldLaws.{not-lent, was_read}
use Rattle.settings_answers.proofs.read.Goals as goal

pub returns-then-answer-ne-ANSWER : goal.returns-then-answer-ne-ANSWER
returns-then-answer-ne-ANSWER c = not-lent _ _ c.if-answer-ne-ANSWER.true

pub returns : goal.returns
returns c =
    was_read _ _ c.if-answer-ne-ANSWER.false _ c.read.ensures _ c.tell_read.ensures
