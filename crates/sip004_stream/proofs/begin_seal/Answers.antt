use Rattle.sip004_stream.proofs.BeginLaws.{key-fits-room}
use Rattle.sip004_stream.proofs.begin_seal.Goals as goal

pub derive-requires : goal.derive-requires
derive-requires c =
    let a = c.args in
    key-fits-room a.method a.key.now a.salt.now _ c.settings_fit.ensures c.if-not-settings_fit.false
