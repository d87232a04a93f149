use Rattle.stream_open.proofs.ChunkLaws.{next-ended, next-kept}
use Rattle.stream_open.proofs.refused_next.Goals as goal

pub returns-then-ends_stream : goal.returns-then-ends_stream
returns-then-ends_stream c =
    let a = c.args in
    next-ended a.stream a.refusal _ c.ends_stream.ensures c.if-ends_stream.true

pub returns : goal.returns
returns c = let a = c.args in next-kept a.stream a.refusal _ c.ends_stream.ensures c.if-ends_stream.false
