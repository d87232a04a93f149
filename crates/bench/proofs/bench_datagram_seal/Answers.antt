use mathlib.Core.Path.{◌≡◌, sym, ap, ◌∙◌}
use lib.ListN.{length}
use Rattle.protocol.specs.Method.{cipher_of}
use Rattle.datagram_seal.specs.declared.Sender.{Sender}
use Rattle.datagram_seal.specs.Sealing.{client_sender, seal_answer, datagram, seal_out}
use Rattle.bench.specs.Answer.{sealed_number}
use Rattle.bench.proofs.bench_datagram_seal.Goals as goal

pub returns-in-Ok : goal.returns-in-Ok
returns-in-Ok c =
    let answered : (let a = c.args in c.seal-done.result.answer ≡ seal_answer a.method (length a.key.now) (length a.nonce.now) (client_sender a.id) a.address.now 0 (length a.payload.now) (length a.out.now)) = let a = c.args in c.seal-done.ensures.answer_value ∙ ap (λ (x : Sender). seal_answer a.method (length a.key.now) (length a.nonce.now) x a.address.now 0 (length a.payload.now) (length a.out.now)) c.client.ensures in
    let a = c.args in
    let e = answered in record {
      value = ap sealed_number (sym c.in-Ok.is ∙ e);
      out_after = c.seal-done.ensures.out_after
          ∙ (λ i. seal_out (e i) (datagram (cipher_of a.method) a.key.now a.nonce.now (c.client.ensures i) a.clock a.address.now 0 a.payload.now) a.out.now);
    }

pub returns-in-Err : goal.returns-in-Err
returns-in-Err c =
    let answered : (let a = c.args in c.seal-done.result.answer ≡ seal_answer a.method (length a.key.now) (length a.nonce.now) (client_sender a.id) a.address.now 0 (length a.payload.now) (length a.out.now)) = let a = c.args in c.seal-done.ensures.answer_value ∙ ap (λ (x : Sender). seal_answer a.method (length a.key.now) (length a.nonce.now) x a.address.now 0 (length a.payload.now) (length a.out.now)) c.client.ensures in
    let a = c.args in
    let e = answered in record {
      value = ap sealed_number (sym c.in-Err.is ∙ e);
      out_after = c.seal-done.ensures.out_after
          ∙ (λ i. seal_out (e i) (datagram (cipher_of a.method) a.key.now a.nonce.now (c.client.ensures i) a.clock a.address.now 0 a.payload.now) a.out.now);
    }
