use Rattle.hmac.proofs.HmacLaws.{behind-pad}
use Rattle.hmac.proofs.behind_pad.Goals as goal

pub returns : goal.returns
returns c =
    let a = c.args in
    behind-pad a.pad a.key.now c.xor_into.ensures c.initial.ensures c.compress.ensures
