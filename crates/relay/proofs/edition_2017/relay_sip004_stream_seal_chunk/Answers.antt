use mathlib.Core.Path.{sym, ap, ◌∙◌, subst}
use Prim.Native.Nat.{◌≤◌}
use lib.Dec.{lit≤}
use Rattle.stream_pieces.specs.declared.Framing.{Framing}
use Rattle.stream_pieces.specs.Framing.{HasCipher}
use Rattle.stream_pieces.specs.Pieces.{max_chunk}
use Rattle.sip004_stream.specs.Streams.{framing_of}
use Rattle.sip004_stream.proofs.BeginLaws.{framing-cipher}
use Rattle.stream_answers.specs.Chunks.{seals_chunk}
use Rattle.relay.proofs.edition_2017.relay_sip004_stream_seal_chunk.Goals as goal

pub seal_on-requires : goal.seal_on-requires
seal_on-requires c =
    let e = sym c.framing_of.ensures in record { has_cipher = subst HasCipher e (framing-cipher _); greatest_le_max_chunk = subst (λ (f : Framing). f.greatest ≤ max_chunk) e (lit≤ tt) }

pub returns : goal.returns
returns c =
    let a = c.args in
    c.seal_on.ensures
    ∙ ap (λ (g : Framing). seals_chunk g a.stream.now a.payload.now a.out.now a.answer.now)
    (c.framing_of.ensures ∙ ap framing_of c.method_in.ensures)
