use Rattle.relay.proofs.DatagramLaws.{told-header, told-refusal}
use Rattle.relay.proofs.datagrams.write_opened.Goals as goal

pub returns-in-Ok : goal.returns-in-Ok
returns-in-Ok c = let all = told-header c.args.opened _ _ c.args.answer.now _ c.in-Ok.is c.header_words.ensures c.write.ensures c.requires in record { value = all.0; answer_after = all.1 }

pub returns-in-Err : goal.returns-in-Err
returns-in-Err c =
    let a = c.args in let all = told-refusal a.opened _ _ a.answer.now c.in-Err.is c.number.ensures in record { value = all.0; answer_after = all.1 }
