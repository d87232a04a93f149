use lib.Dec.{lit≤}
use Rattle.stream_seal.proofs.SealAnswerLaws.{chunk-unfit, chunk-under, chunk-used, chunk-sized}
use Rattle.stream_seal.proofs.framed_answer.Goals as goal

pub returns-then-f-eq0 : goal.returns-then-f-eq0
returns-then-f-eq0 c = let a = c.args in chunk-unfit a.f a.stream _ _ c.if-f-eq0.true

pub returns-then-payload-f : goal.returns-then-payload-f
returns-then-payload-f c =
    let a = c.args in
    chunk-under a.f a.stream _ _ c.if-f-eq0.false c.if-payload-f.true

pub size_answer-requires : goal.size_answer-requires
size_answer-requires c = record { greatest_le_max_chunk = c.requires; before_le_max_chunk = lit≤ tt }

pub returns-then-stream : goal.returns-then-stream
returns-then-stream c =
    let a = c.args in
    chunk-used a.f a.stream _ _ c.if-f-eq0.false c.if-payload-f.false c.if-stream.true

pub returns : goal.returns
returns c =
    let a = c.args in
    chunk-sized a.f a.stream _ _ c.if-f-eq0.false c.if-payload-f.false c.if-stream.false _ c.behind_chunk.ensures _
    c.size_answer.ensures
