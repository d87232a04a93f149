use mathlib.Core.Path.{sym, ◌∙◌}
use Rattle.stream_answers.proofs.ChunkLaws.{fitting}
use Rattle.relay.proofs.StreamLaws.{request-unfit, request-fit}
use Rattle.relay.proofs.streams.relay_stream_open_request.Goals as goal

pub write_request-requires : goal.write_request-requires
write_request-requires c = let all = fitting _ _ (sym c.fits.ensures ∙ c.if-not-fits.false) in record { stream_len = all.0; answer_len = all.1 }

pub returns : goal.returns
returns c =
    let a = c.args in
    request-fit a.method a.key.now a.clock a.bytes.now a.pool.now a.stream.now a.answer.now _ c.fits.ensures
    c.if-not-fits.false _ _ _ _ _ c.open_request-opened.ensures.value c.open_request-opened.ensures.pool_after c.write_request.ensures.value
    c.write_request.ensures.stream_after c.write_request.ensures.answer_after

pub returns-then-not-fits : goal.returns-then-not-fits
returns-then-not-fits c =
    let a = c.args in
    request-unfit a.method a.key.now a.clock a.bytes.now a.pool.now a.stream.now a.answer.now _ c.fits.ensures c.if-not-fits.true
