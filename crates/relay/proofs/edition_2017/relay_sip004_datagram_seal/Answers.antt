-- Each return is one case of what the sealer answers.
use lib.ListN.{length}
use Rattle.sip004.specs.Datagram.{seal_answer, datagram}
use Rattle.relay.specs.Sip004.{sealed_told}
use Rattle.relay.proofs.Sip004Laws.{untold, a-datagram, no-datagram}
use Rattle.relay.proofs.edition_2017.relay_sip004_datagram_seal.Goals as goal

pub returns-then-answer-ne-ANSWER : goal.returns-then-answer-ne-ANSWER
returns-then-answer-ne-ANSWER c =
    let a = c.args in
    untold (sealed_told (seal_answer a.method (length a.key.now) (length a.salt.now) (length a.payload.now) (length a.out.now)) (datagram a.key.now a.salt.now a.payload.now) a.out.now a.answer.now) a.out.now a.answer.now c.if-answer-ne-ANSWER.true

pub returns-in-Ok : goal.returns-in-Ok
returns-in-Ok c =
    let a = c.args in
    a-datagram (seal_answer a.method (length a.key.now) (length a.salt.now) (length a.payload.now) (length a.out.now)) _
    (datagram a.key.now a.salt.now a.payload.now) a.out.now a.answer.now _ c.if-answer-ne-ANSWER.false c.seal.ensures.value c.seal.ensures.out_after _ c.in-Ok.is

pub returns-in-Err : goal.returns-in-Err
returns-in-Err c =
    let a = c.args in
    no-datagram (seal_answer a.method (length a.key.now) (length a.salt.now) (length a.payload.now) (length a.out.now)) _
    (datagram a.key.now a.salt.now a.payload.now) a.out.now a.answer.now _ c.if-answer-ne-ANSWER.false c.seal.ensures.value c.seal.ensures.out_after _ _ c.in-Err.is c.number.ensures
