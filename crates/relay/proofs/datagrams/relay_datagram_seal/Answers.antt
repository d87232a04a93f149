-- Each return is one case of the tests and of what sealing answers.
use native.Mathlib.Omega.{arith}
use mathlib.Core.Path.{◌≡◌, sym, ap, ◌∙◌}
use Prim.Native.Nat.{◌+◌}
use lib.Dec.{leb}
use lib.ListN.{length, get_or}
use Rattle.protocol.specs.Method.{cipher_of}
use Rattle.datagram_seal.specs.declared.Sender.{Sender}
use Rattle.datagram_seal.specs.Sealing.{datagram, seal_answer, seal_out, packets_of}
use Rattle.words.specs.States.{session_size, session_in}
use Rattle.words.proofs.LentLaws.{its-size}
use Rattle.relay.proofs.DatagramLaws.{no_answer, no-session, a-datagram, a-refusal}
use Rattle.relay.proofs.datagrams.relay_datagram_seal.Goals as goal
use Rattle.relay.proofs.datagrams.relay_datagram_seal.Goals.{then-answer-ne-ANSWER-via-then-answer-ne-ANSWER, then-answer-ne-ANSWER-via-else-answer-ne-ANSWER+then-not-is_session}

pub returns-then-answer-ne-ANSWER : goal.returns-then-answer-ne-ANSWER
returns-then-answer-ne-ANSWER c =
    let a = c.args in
    elim c.then-answer-ne-ANSWER.branch [
      | then-answer-ne-ANSWER-via-then-answer-ne-ANSWER w ↦
          no_answer a.method a.key.now a.nonce.now a.session.now a.clock a.address.now a.padding a.payload.now a.out.now a.answer.now
          w.if-answer-ne-ANSWER.true
      | then-answer-ne-ANSWER-via-else-answer-ne-ANSWER+then-not-is_session w ↦
          no-session a.method a.key.now a.nonce.now a.session.now a.clock a.address.now a.padding a.payload.now a.out.now a.answer.now
          w.if-answer-ne-ANSWER.false w.is_session.result w.is_session.ensures w.if-not-is_session.true
    ]

pub session_in-sender-requires : goal.session_in-sender-requires
session_in-sender-requires c =
    let session-size : length c.args.session.now ≡ session_size = let w = c.args.session.now in its-size (length w) session_size (leb (get_or w 0 0) 1) (sym c.if-not-is_session.false ∙ c.is_session.ensures) in
    session-size

pub bounds-session-3 : goal.bounds-session-3
bounds-session-3 c =
    let session-size : length c.args.session.now ≡ session_size = let w = c.args.session.now in its-size (length w) session_size (leb (get_or w 0 0) 1) (sym c.if-not-is_session.false ∙ c.is_session.ensures) in
    omega (arith, session-size)

pub returns-in-Ok : goal.returns-in-Ok
returns-in-Ok c =
    let answered : (let a = c.args in c.seal-done.result.answer ≡ seal_answer a.method (length a.key.now) (length a.nonce.now) (session_in a.session.now) a.address.now a.padding (length a.payload.now) (length a.out.now)) = let a = c.args in c.seal-done.ensures.answer_value ∙ ap (λ (x : Sender). seal_answer a.method (length a.key.now) (length a.nonce.now) x a.address.now a.padding (length a.payload.now) (length a.out.now)) c.session_in-sender.ensures in
    let moved : (let a = c.args in c.seal-done.result.sender.packet ≡ get_or a.session.now 3 0 + packets_of c.seal-done.result.answer) = ap (λ (x : Sender). x.packet) c.seal-done.ensures.sender_value ∙ ap (λ (x : Sender). x.packet + packets_of c.seal-done.result.answer) c.session_in-sender.ensures in
    let written : (let a = c.args in seal_out c.seal-done.result.answer (datagram (cipher_of a.method) a.key.now a.nonce.now c.session_in-sender.result a.clock a.address.now a.padding a.payload.now) a.out.now ≡ seal_out c.seal-done.result.answer (datagram (cipher_of a.method) a.key.now a.nonce.now (session_in a.session.now) a.clock a.address.now a.padding a.payload.now) a.out.now) = let a = c.args in ap (λ (x : Sender). seal_out c.seal-done.result.answer (datagram (cipher_of a.method) a.key.now a.nonce.now x a.clock a.address.now a.padding a.payload.now) a.out.now) c.session_in-sender.ensures in
    let a = c.args in
    a-datagram a.method a.key.now a.nonce.now a.session.now a.clock a.address.now a.padding a.payload.now a.out.now a.answer.now
    c.if-answer-ne-ANSWER.false c.is_session.result c.is_session.ensures c.if-not-is_session.false _ answered _ _ _ c.in-Ok.is moved (c.seal-done.ensures.out_after ∙ written)

pub returns-in-Err : goal.returns-in-Err
returns-in-Err c =
    let answered : (let a = c.args in c.seal-done.result.answer ≡ seal_answer a.method (length a.key.now) (length a.nonce.now) (session_in a.session.now) a.address.now a.padding (length a.payload.now) (length a.out.now)) = let a = c.args in c.seal-done.ensures.answer_value ∙ ap (λ (x : Sender). seal_answer a.method (length a.key.now) (length a.nonce.now) x a.address.now a.padding (length a.payload.now) (length a.out.now)) c.session_in-sender.ensures in
    let written : (let a = c.args in seal_out c.seal-done.result.answer (datagram (cipher_of a.method) a.key.now a.nonce.now c.session_in-sender.result a.clock a.address.now a.padding a.payload.now) a.out.now ≡ seal_out c.seal-done.result.answer (datagram (cipher_of a.method) a.key.now a.nonce.now (session_in a.session.now) a.clock a.address.now a.padding a.payload.now) a.out.now) = let a = c.args in ap (λ (x : Sender). seal_out c.seal-done.result.answer (datagram (cipher_of a.method) a.key.now a.nonce.now x a.clock a.address.now a.padding a.payload.now) a.out.now) c.session_in-sender.ensures in
    let a = c.args in
    a-refusal a.method a.key.now a.nonce.now a.session.now a.clock a.address.now a.padding a.payload.now a.out.now a.answer.now
    c.if-answer-ne-ANSWER.false c.is_session.result c.is_session.ensures c.if-not-is_session.false _ answered _ _ _ c.in-Err.is c.number.ensures (c.seal-done.ensures.out_after ∙ written)
