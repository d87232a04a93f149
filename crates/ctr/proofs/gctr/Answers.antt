use Rattle.std.proofs.Common.{arith}
use Rattle.ctr.proofs.LongLaws.{kept_at, kept-within}
use Rattle.ctr.proofs.gctr.Goals as goal

pub rest-requires : goal.rest-requires
rest-requires c = kept-within c.batches-i.ensures

pub returns : goal.returns
returns c =
    let a = c.args in
    c.rest.ensures a.counter a.text.now (kept_at (omega arith) c.batches-i.ensures)
