use mathlib.Core.Path.{sym, ap, ◌∙◌}
use Rattle.stream_open_variable.specs.Variable.{variable_next}
use Rattle.stream_open_variable.proofs.open_variable.Goals as goal

pub returns-in-Ok : goal.returns-in-Ok
returns-in-Ok c = record { answer_value = c.open_turn-answer.ensures.value; stream_value = ap (variable_next _) (sym c.in-Ok.is); out_after = c.open_turn-answer.ensures.out_after }

pub returns-in-Err : goal.returns-in-Err
returns-in-Err c = record { answer_value = sym c.in-Err.is ∙ c.open_turn-answer.ensures.value; stream_value = c.refused_next-stream.ensures; out_after = c.open_turn-answer.ensures.out_after }
