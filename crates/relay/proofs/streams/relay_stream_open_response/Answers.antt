use mathlib.Core.Path.{sym, ◌∙◌}
use Rattle.stream_answers.proofs.ChunkLaws.{fitting}
use Rattle.relay.proofs.StreamLaws.{response-unfit, response-fit}
use Rattle.relay.proofs.streams.relay_stream_open_response.Goals as goal

pub write_response-requires : goal.write_response-requires
write_response-requires c = let all = fitting _ _ (sym c.fits.ensures ∙ c.if-not-fits.false) in record { stream_len = all.0; answer_len = all.1 }

pub returns : goal.returns
returns c =
    let a = c.args in
    response-fit a.method a.key.now a.clock a.request_salt.now a.bytes.now a.stream.now a.answer.now _
    c.fits.ensures c.if-not-fits.false _ _ _ _ c.open_response-opened.ensures c.write_response.ensures.value c.write_response.ensures.stream_after
    c.write_response.ensures.answer_after

pub returns-then-not-fits : goal.returns-then-not-fits
returns-then-not-fits c =
    let a = c.args in
    response-unfit a.method a.key.now a.clock a.request_salt.now a.bytes.now a.stream.now a.answer.now _
    c.fits.ensures c.if-not-fits.true
