use Rattle.std.proofs.Common.{sym}
use Rattle.aes.proofs.KeyedLaws.{no_key, no-string, both-lawful}
use Rattle.ctr.proofs.GctrLaws.{ctr-refused, ctr-done}
use Rattle.ctr.proofs.aes_ctr.Goals as goal

pub returns-in_default : goal.returns-in_default
returns-in_default c =
    let a = c.args in
    let no = no_key 12 a.key.now a.nonce.now c.in_default.ensures.none in record { value = sym no; text_after = ctr-refused a.key.now a.nonce.now a.counter a.text.now no }

pub returns-then-nonce-ne12 : goal.returns-then-nonce-ne12
returns-then-nonce-ne12 c =
    let a = c.args in
    let no = no-string 12 a.key.now a.nonce.now _ c.in-Some.ensures.some c.if-nonce-ne12.true in record { value = sym no; text_after = ctr-refused a.key.now a.nonce.now a.counter a.text.now no }

pub returns : goal.returns
returns c =
    let a = c.args in
    let yes = both-lawful 12 a.key.now a.nonce.now _ c.in-Some.ensures.some c.if-nonce-ne12.false in record {
      value = sym yes;
      text_after = ctr-done a.key.now a.nonce.now a.counter a.text.now yes _ c.in-Some.nk c.expand-w.result _
          c.in-Some.ensures.some.0 c.expand-w.ensures.result_value c.read_nonce.ensures c.gctr.ensures;
    }
