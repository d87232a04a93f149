use mathlib.Core.Path.{sym, ap, ◌∙◌}
use Rattle.datagram_open.specs.Deciding.{answer_of}
use Rattle.bench.specs.Answer.{opened_number}
use Rattle.bench.proofs.bench_datagram_open.Goals as goal

pub returns-in-Ok : goal.returns-in-Ok
returns-in-Ok c = record { value = ap opened_number (ap answer_of (sym c.in-Ok.is) ∙ c.open_server.ensures.result_value); out_after = c.open_server.ensures.out_after; table_after = c.open_server.ensures.table_after }

pub returns-in-Err : goal.returns-in-Err
returns-in-Err c = record { value = c.number.ensures ∙ ap opened_number (ap answer_of (sym c.in-Err.is) ∙ c.open_server.ensures.result_value); out_after = c.open_server.ensures.out_after; table_after = c.open_server.ensures.table_after }
