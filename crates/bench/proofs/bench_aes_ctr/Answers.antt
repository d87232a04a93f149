use mathlib.Core.Path.{sym, ap, ◌∙◌}
use Rattle.bench.specs.Answer.{answer}
use Rattle.bench.proofs.bench_aes_ctr.Goals as goal

pub returns-then-aes_ctr : goal.returns-then-aes_ctr
returns-then-aes_ctr c = record { value = ap answer (sym c.if-aes_ctr.true ∙ c.aes_ctr.ensures.value); text_after = c.aes_ctr.ensures.text_after }

pub returns-else-aes_ctr : goal.returns-else-aes_ctr
returns-else-aes_ctr c = record { value = ap answer (sym c.if-aes_ctr.false ∙ c.aes_ctr.ensures.value); text_after = c.aes_ctr.ensures.text_after }
