use Rattle.std.specs.Prelude.{ℕ, Result}
use mathlib.Core.Path.{sym, ap, ◌∙◌}
use Rattle.stream_seal.specs.Sealing.{chunk, sender_key, seal_out}
use Rattle.bench.specs.Answer.{subkey_in, first_sender, chunk_number}
use Rattle.bench.proofs.bench_chunk_seal.Goals as goal
use Rattle.stream_seal.specs.declared.Sender.{Sender}
use Rattle.protocol.specs.declared.Refusal.{Refusal}

pub returns-in-Ok : goal.returns-in-Ok
returns-in-Ok c =
    let a = c.args in
    let text = chunk (sender_key (first_sender a.method (subkey_in a.a a.b a.c a.d))) 0 a.payload.now in record { value = ap chunk_number (sym c.in-Ok.is ∙ c.seal_chunk.ensures.value); out_after = c.seal_chunk.ensures.out_after ∙ ap (λ (x : Result (ℕ × Sender) Refusal). seal_out x text a.out.now) c.seal_chunk.ensures.value }

pub returns-in-Err : goal.returns-in-Err
returns-in-Err c =
    let a = c.args in
    let text = chunk (sender_key (first_sender a.method (subkey_in a.a a.b a.c a.d))) 0 a.payload.now in record { value = ap chunk_number (sym c.in-Err.is ∙ c.seal_chunk.ensures.value); out_after = c.seal_chunk.ensures.out_after ∙ ap (λ (x : Result (ℕ × Sender) Refusal). seal_out x text a.out.now) c.seal_chunk.ensures.value }
