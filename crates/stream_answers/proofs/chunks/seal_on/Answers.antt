-- Each return is one case of the tests.
use Rattle.std.specs.Prelude.{Err}
use native.Mathlib.Omega.{arith}
use mathlib.Core.Path.{◌≡◌, sym, ap, ◌∙◌}
use lib.ListN.{length}
use Rattle.stream_pieces.specs.Pieces.{key_of, keyed}
use Rattle.stream_seal.specs.declared.Sender.{Sender}
use Rattle.stream_seal.specs.Sealing.{framed_answer, chunk, seal_out}
use Rattle.stream_answers.specs.Chunks.{seals_chunk}
use Rattle.stream_answers.proofs.ChunkLaws.{fitting, unfit, sealed-fit, unsealed-fit, at-sealing, not-at-sealing}
use Rattle.stream_answers.proofs.chunks.seal_on.Goals as goal

pub returns-then-not-fits : goal.returns-then-not-fits
unfolding seals_chunk
returns-then-not-fits c =
    let a = c.args in
    unfit _ _ a.out.now a.stream.now a.answer.now _ c.fits.ensures c.if-not-fits.true

pub bounds-stream-0 : goal.bounds-stream-0
bounds-stream-0 c =
    let a = c.args in
    omega (arith, (fitting (length a.stream.now) (length a.answer.now) (sym c.fits.ensures ∙ c.if-not-fits.false)).0)

pub bounds-stream-0-then-stream-ne-SEALING : goal.bounds-stream-0-then-stream-ne-SEALING
bounds-stream-0-then-stream-ne-SEALING c =
    let a = c.args in
    omega (arith, (fitting (length a.stream.now) (length a.answer.now) (sym c.fits.ensures ∙ c.if-not-fits.false)).0)

pub returns-then-stream-ne-SEALING : goal.returns-then-stream-ne-SEALING
unfolding seals_chunk
returns-then-stream-ne-SEALING c =
    let a = c.args in
    unsealed-fit _ _ a.out.now a.stream.now a.answer.now _
    c.fits.ensures c.if-not-fits.false _ _
    (not-at-sealing a.f a.stream.now (length a.payload.now) (length a.out.now) c.if-stream-ne-SEALING.true
    ∙ ap Err (sym c.not_sealing.ensures))
    c.number.ensures

pub sender_in-requires : goal.sender_in-requires
sender_in-requires c = (fitting _ _ (sym c.fits.ensures ∙ c.if-not-fits.false)).0

pub write_sealed-requires : goal.write_sealed-requires
write_sealed-requires c =
    let sizes = fitting _ _ (sym c.fits.ensures ∙ c.if-not-fits.false) in
    record { stream_len = sizes.0; answer_len = sizes.1 }

pub returns : goal.returns
unfolding seals_chunk
returns c =
    let a = c.args in
    sealed-fit _ _ a.out.now a.stream.now a.answer.now _
    c.fits.ensures c.if-not-fits.false _ _ _ _ _
    (c.seal_framed-sealed.ensures.value ∙ ap (λ (x : Sender). framed_answer a.f x (length a.payload.now) (length a.out.now)) c.sender_in.ensures
    ∙ at-sealing a.f a.stream.now (length a.payload.now) (length a.out.now) c.if-stream-ne-SEALING.false)
    (c.seal_framed-sealed.ensures.out_after
    ∙ ap
    (λ (x : Sender). seal_out c.seal_framed-sealed.result (chunk (keyed a.f.cipher (key_of x.subkey a.f.key)) x.counter a.payload.now) a.out.now)
    c.sender_in.ensures)
    c.write_sealed.ensures.value c.write_sealed.ensures.stream_after c.write_sealed.ensures.answer_after
