use mathlib.Core.Path.{◌≡◌, sym, ◌∙◌}
use lib.ListN.{length, get_or}
use Rattle.words.specs.States.{stream_size, turn_of, turn_lawful}
use Rattle.words.proofs.LentLaws.{its-size}
use Rattle.stream_answers.proofs.ChunkLaws.{step-untold, step-unlawful, step-told}
use Rattle.stream_answers.proofs.chunks.open_on.Goals as goal
use Rattle.stream_answers.proofs.chunks.open_on.Goals.{then-answer-ne-ANSWER-via-then-answer-ne-ANSWER, then-answer-ne-ANSWER-via-else-answer-ne-ANSWER+then-not-is_receiver}

pub returns-then-answer-ne-ANSWER : goal.returns-then-answer-ne-ANSWER
returns-then-answer-ne-ANSWER c =
    let a = c.args in
    elim c.then-answer-ne-ANSWER.branch [
      | then-answer-ne-ANSWER-via-then-answer-ne-ANSWER w ↦ step-untold a.f a.stream.now a.bytes.now a.out.now a.answer.now w.if-answer-ne-ANSWER.true
      | then-answer-ne-ANSWER-via-else-answer-ne-ANSWER+then-not-is_receiver w ↦
          step-unlawful a.f a.stream.now a.bytes.now a.out.now a.answer.now w.if-answer-ne-ANSWER.false _ w.is_receiver.ensures w.if-not-is_receiver.true
    ]

pub receiver_in-requires : goal.receiver_in-requires
receiver_in-requires c =
    let w = c.args.stream.now in
    its-size (length w) stream_size (turn_lawful (turn_of w) (get_or w 3 0)) (sym c.if-not-is_receiver.false ∙ c.is_receiver.ensures)

pub write_step-requires : goal.write_step-requires
write_step-requires c =
    let w = c.args.stream.now in
    record {
      stream_len = its-size (length w) stream_size (turn_lawful (turn_of w) (get_or w 3 0)) (sym c.if-not-is_receiver.false ∙ c.is_receiver.ensures);
      answer_len = c.if-answer-ne-ANSWER.false;
    }

pub returns : goal.returns
returns c =
    let a = c.args in
    step-told a.f a.stream.now a.bytes.now a.out.now a.answer.now c.if-answer-ne-ANSWER.false _ c.is_receiver.ensures c.if-not-is_receiver.false _
    c.receiver_in.ensures _ _ _ _ _ _ c.open_framed-step.ensures.answer_value c.open_framed-step.ensures.stream_value c.open_framed-step.ensures.out_after
    c.write_step.ensures.value c.write_step.ensures.stream_after c.write_step.ensures.answer_after
