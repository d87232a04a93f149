-- An answer of the right length, or not.
use Rattle.std.specs.Prelude.{None}
use Rattle.relay.specs.Datagrams.{caller_of}
use Rattle.relay.proofs.DatagramLaws.{untold, told}
use Rattle.relay.proofs.datagrams.relay_datagram_open_server.Goals as goal

pub returns-then-answer-ne-ANSWER : goal.returns-then-answer-ne-ANSWER
returns-then-answer-ne-ANSWER c =
    let a = c.args in
    untold a.method a.key.now None a.clock (caller_of a.first a.second a.port) a.datagram.now a.table.now a.out.now
    a.answer.now c.if-answer-ne-ANSWER.true

pub returns : goal.returns
returns c =
    let a = c.args in
    told a.method a.key.now None a.clock (caller_of a.first a.second a.port) a.datagram.now a.table.now a.out.now
    a.answer.now c.open_server-opened.result _ _ _ _ c.if-answer-ne-ANSWER.false c.open_server-opened.ensures.result_value c.open_server-opened.ensures.out_after c.open_server-opened.ensures.table_after
    c.write_opened.ensures.value c.write_opened.ensures.answer_after
