use mathlib.Core.Path.{sym, ap, ◌∙◌}
use Rattle.bench.specs.Answer.{stepped_number}
use Rattle.bench.proofs.bench_chunk_open.Goals as goal

pub returns-in-Ok : goal.returns-in-Ok
returns-in-Ok c = record { value = ap stepped_number (sym c.in-Ok.is ∙ c.open_chunk-step.ensures.answer_value); out_after = c.open_chunk-step.ensures.out_after }

pub returns-in-Err : goal.returns-in-Err
returns-in-Err c = record { value = c.number.ensures ∙ ap stepped_number (sym c.in-Err.is ∙ c.open_chunk-step.ensures.answer_value); out_after = c.open_chunk-step.ensures.out_after }
