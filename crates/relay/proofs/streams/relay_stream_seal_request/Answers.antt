use mathlib.Core.Path.{sym, ◌∙◌}
use lib.ListN.{length}
use Rattle.stream_seal_heads.specs.HeadSealing.{request_answer, request}
use Rattle.relay.specs.Streams.{seals_request}
use Rattle.stream_answers.proofs.ChunkLaws.{fitting, unfit, sealed-fit}
use Rattle.protocol.specs.Method.{cipher_of}
use Rattle.relay.proofs.streams.relay_stream_seal_request.Goals as goal

pub write_sealed-requires : goal.write_sealed-requires
write_sealed-requires c = let all = fitting _ _ (sym c.fits.ensures ∙ c.if-not-fits.false) in record { stream_len = all.0; answer_len = all.1 }

pub returns : goal.returns
unfolding seals_request
returns c =
    let a = c.args in
    sealed-fit (request_answer a.method a.key.now a.salt.now a.address.now a.padding (length a.payload.now) (length a.out.now))
    (request (cipher_of a.method) a.key.now a.salt.now a.clock a.address.now a.padding a.payload.now) a.out.now
    a.stream.now a.answer.now _ c.fits.ensures c.if-not-fits.false _ _ _ _ _ c.seal_request-sealed.ensures.value c.seal_request-sealed.ensures.out_after
    c.write_sealed.ensures.value c.write_sealed.ensures.stream_after c.write_sealed.ensures.answer_after

pub returns-then-not-fits : goal.returns-then-not-fits
unfolding seals_request
returns-then-not-fits c =
    let a = c.args in
    unfit _ _ a.out.now a.stream.now a.answer.now _ c.fits.ensures c.if-not-fits.true
