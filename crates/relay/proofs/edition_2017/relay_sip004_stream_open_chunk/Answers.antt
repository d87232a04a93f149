use mathlib.Core.Path.{sym, ap, ◌∙◌, subst}
use Rattle.stream_pieces.specs.declared.Framing.{Framing}
use Rattle.stream_pieces.specs.Framing.{HasCipher}
use Rattle.sip004_stream.specs.Streams.{framing_of}
use Rattle.sip004_stream.proofs.BeginLaws.{framing-cipher}
use Rattle.stream_answers.specs.Chunks.{opens_chunk}
use Rattle.relay.proofs.edition_2017.relay_sip004_stream_open_chunk.Goals as goal

pub open_on-requires : goal.open_on-requires
open_on-requires c = subst HasCipher (sym c.framing_of.ensures) (framing-cipher _)

pub returns : goal.returns
returns c =
    let a = c.args in
    c.open_on.ensures
    ∙ ap (λ (g : Framing). opens_chunk g a.stream.now a.bytes.now a.out.now a.answer.now)
    (c.framing_of.ensures ∙ ap framing_of c.method_in.ensures)
