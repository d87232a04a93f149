-- Each return is one case of beginning in lent words.
use Rattle.relay.proofs.DatagramLaws.{not-lent, ready, not-begun}
use Rattle.relay.proofs.datagrams.begin.Goals as goal

pub returns-then-session-ne-SESSION : goal.returns-then-session-ne-SESSION
returns-then-session-ne-SESSION c =
    let a = c.args in
    not-lent a.begun a.session.now c.if-session-ne-SESSION.true

pub returns-in-Ok : goal.returns-in-Ok
returns-in-Ok c =
    let a = c.args in
    ready a.begun a.session.now c.if-session-ne-SESSION.false _ _ _ c.in-Ok.is c.session_words.ensures c.write.ensures

pub returns-in-Err : goal.returns-in-Err
returns-in-Err c =
    let a = c.args in
    not-begun a.begun a.session.now c.if-session-ne-SESSION.false _ _ c.in-Err.is c.number.ensures
