use mathlib.Core.Path.{sym, ap, ◌∙◌, subst}
use lib.ListN.{length}
use Rattle.stream_pieces.specs.declared.Framing.{Framing}
use Rattle.stream_pieces.specs.Framing.{HasCipher}
use Rattle.stream_pieces.proofs.FramingLaws.{framing-cipher}
use Rattle.stream_open.specs.Steps.{step_answer, step_out}
use Rattle.stream_open.proofs.open_chunk.Goals as goal

pub open_framed-requires : goal.open_framed-requires
open_framed-requires c = subst HasCipher (sym c.framing_of.ensures) (framing-cipher _)

pub returns : goal.returns
returns c =
    let a = c.args in record { answer_value = c.open_framed.ensures.answer_value ∙ ap (λ (g : Framing). step_answer g a.stream a.s.now (length a.out.now)) c.framing_of.ensures; stream_value = c.open_framed.ensures.stream_value; out_after = c.open_framed.ensures.out_after ∙ ap (λ (g : Framing). step_out g a.stream a.s.now a.out.now) c.framing_of.ensures }
