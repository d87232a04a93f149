-- Each return is one case of the tests.
-- Assumes nothing.
use native.Mathlib.Omega.{arith}
use Rattle.comparison_text.proofs.WholeLaws.{Comparable, not-refused}
use Rattle.relay.proofs.RecordingLaws.{no_answer, a-refusal, no_room, a-text}
use Rattle.relay.proofs.recordings.relay_recording_compare.Goals as goal

pub returns-then-answer-ne-ANSWER : goal.returns-then-answer-ne-ANSWER
returns-then-answer-ne-ANSWER c = no_answer _ _ _ _ (omega arith)

pub returns-then-refused-ne0 : goal.returns-then-refused-ne0
returns-then-refused-ne0 c = a-refusal _ _ _ _ (omega arith) _ c.refusal-refused.ensures c.if-refused-ne0.true

pub text_length-due-requires : goal.text_length-due-requires
text_length-due-requires c =
    let comparable : (let a = c.args in Comparable a.first.now a.second.now) = not-refused _ _ (omega (arith, c.refusal-refused.ensures)) in
    (comparable.first_good, comparable.second-good)

pub returns-then-out-due : goal.returns-then-out-due
returns-then-out-due c = no_room _ _ _ _ (omega arith) (omega (arith, c.refusal-refused.ensures)) (omega (arith, c.text_length-due.ensures))

pub write_text-length-requires : goal.write_text-length-requires
write_text-length-requires c =
    let comparable : (let a = c.args in Comparable a.first.now a.second.now) = not-refused _ _ (omega (arith, c.refusal-refused.ensures)) in
    let fit = comparable in record { first_value = (fit.first_good, fit.second-good); second_in_bounds = omega (arith, c.text_length-due.ensures) }

pub returns : goal.returns
returns c =
    a-text _ _ _ _ (omega arith) (omega (arith, c.refusal-refused.ensures)) (omega (arith, c.text_length-due.ensures)) _ _
    c.write_text-length.ensures
