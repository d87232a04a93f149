use Rattle.hmac.proofs.HmacLaws.{keyed-short, keyed-long}
use Rattle.hmac.proofs.key.Goals as goal

pub returns-then-key-le64 : goal.returns-then-key-le64
returns-then-key-le64 c =
    keyed-short c.args.key.now c.if-key-le64.true c.short_key.ensures

pub returns : goal.returns
returns c =
    keyed-long c.args.key.now c.if-key-le64.false c.hash-d.ensures c.short_key-2.ensures
