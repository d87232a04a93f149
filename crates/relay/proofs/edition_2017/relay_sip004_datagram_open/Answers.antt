-- Each return is one case of what the opener answers.
use lib.ListN.{length}
use Rattle.sip004.specs.Datagram.{open_answer, payload_of}
use Rattle.relay.specs.Sip004.{opened_told}
use Rattle.relay.proofs.Sip004Laws.{untold, a-text, no_text}
use Rattle.relay.proofs.edition_2017.relay_sip004_datagram_open.Goals as goal

pub returns-then-answer-ne-ANSWER : goal.returns-then-answer-ne-ANSWER
returns-then-answer-ne-ANSWER c =
    let a = c.args in
    untold (opened_told (open_answer a.method a.key.now a.datagram.now (length a.out.now)) (payload_of a.key.now a.datagram.now) a.out.now a.answer.now) a.out.now a.answer.now c.if-answer-ne-ANSWER.true

pub returns-in-Ok : goal.returns-in-Ok
returns-in-Ok c =
    let a = c.args in
    a-text (open_answer a.method a.key.now a.datagram.now (length a.out.now)) _
    (payload_of a.key.now a.datagram.now) a.out.now a.answer.now _ c.if-answer-ne-ANSWER.false c.open.ensures.value c.open.ensures.out_after _ c.in-Ok.is

pub returns-in-Err : goal.returns-in-Err
returns-in-Err c =
    let a = c.args in
    no_text (open_answer a.method a.key.now a.datagram.now (length a.out.now)) _
    (payload_of a.key.now a.datagram.now) a.out.now a.answer.now _ c.if-answer-ne-ANSWER.false c.open.ensures.value c.open.ensures.out_after _ _ c.in-Err.is c.number.ensures
