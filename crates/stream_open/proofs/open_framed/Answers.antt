use mathlib.Core.Path.{sym, ◌∙◌}
use Rattle.stream_open.proofs.ChunkLaws.{opened-counts}
use Rattle.stream_open.proofs.open_framed.Goals as goal

pub advanced-stream-requires : goal.advanced-stream-requires
advanced-stream-requires c =
    opened-counts _ _ _ _ _ _ c.open_turn-answer.ensures.value c.in-Ok.is

pub returns-in-Ok : goal.returns-in-Ok
returns-in-Ok c = record { answer_value = sym c.in-Ok.is ∙ c.open_turn-answer.ensures.value; stream_value = c.advanced-stream.ensures; out_after = c.open_turn-answer.ensures.out_after }

pub returns-in-Err : goal.returns-in-Err
returns-in-Err c = record { answer_value = sym c.in-Err.is ∙ c.open_turn-answer.ensures.value; stream_value = c.refused_next-stream.ensures; out_after = c.open_turn-answer.ensures.out_after }
