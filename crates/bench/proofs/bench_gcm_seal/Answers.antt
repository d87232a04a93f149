use mathlib.Core.Path.{sym, ap, ◌∙◌}
use Rattle.bench.specs.Answer.{answer}
use Rattle.bench.proofs.bench_gcm_seal.Goals as goal

pub returns-then-seal : goal.returns-then-seal
returns-then-seal c = record { value = ap answer (sym c.if-seal.true ∙ c.seal.ensures.value); out_after = c.seal.ensures.out_after }

pub returns-else-seal : goal.returns-else-seal
returns-else-seal c = record { value = ap answer (sym c.if-seal.false ∙ c.seal.ensures.value); out_after = c.seal.ensures.out_after }
