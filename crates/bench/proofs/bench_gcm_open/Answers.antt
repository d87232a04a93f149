use Rattle.std.specs.Prelude.{Err}
use mathlib.Core.Path.{sym, ap, ◌∙◌}
use Rattle.bench.specs.Answer.{number}
use Rattle.bench.proofs.bench_gcm_open.Goals as goal

pub returns-in-Ok : goal.returns-in-Ok
returns-in-Ok c = record { value = ap number (sym c.in-Ok.is ∙ c.open.ensures.value); out_after = c.open.ensures.out_after }

pub returns-in-Err-Unlawful : goal.returns-in-Err-Unlawful
returns-in-Err-Unlawful c = record { value = ap number (sym (c.in-Err-Unlawful.is ∙ ap Err c.in-Err-Unlawful.field-0-is) ∙ c.open.ensures.value); out_after = c.open.ensures.out_after }

pub returns-in-Err-Forged : goal.returns-in-Err-Forged
returns-in-Err-Forged c = record { value = ap number (sym (c.in-Err-Forged.is ∙ ap Err c.in-Err-Forged.field-0-is) ∙ c.open.ensures.value); out_after = c.open.ensures.out_after }
