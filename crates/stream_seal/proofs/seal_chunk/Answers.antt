use mathlib.Core.Path.{sym, ap, ◌∙◌, subst}
use Prim.Native.Nat.{◌≤◌}
use lib.Dec.{lit≤}
use lib.ListN.{length}
use Rattle.stream_pieces.specs.declared.Framing.{Framing}
use Rattle.stream_pieces.specs.Framing.{HasCipher}
use Rattle.stream_pieces.specs.Pieces.{key_of, max_chunk, keyed}
use Rattle.stream_pieces.proofs.FramingLaws.{framing-cipher}
use Rattle.stream_seal.specs.Sealing.{chunk, framed_answer, seal_out}
use Rattle.stream_seal.proofs.seal_chunk.Goals as goal

pub seal_framed-requires : goal.seal_framed-requires
seal_framed-requires c =
    let e = sym c.framing_of.ensures in record { has_cipher = subst HasCipher e (framing-cipher _); greatest_le_max_chunk = subst (λ (f : Framing). f.greatest ≤ max_chunk) e (lit≤ tt) }

pub returns : goal.returns
returns c =
    let a = c.args in record {
      value = c.seal_framed.ensures.value ∙ ap (λ (g : Framing). framed_answer g a.stream (length a.payload.now) (length a.out.now)) c.framing_of.ensures;
      out_after = c.seal_framed.ensures.out_after
          ∙ ap (λ (g : Framing). seal_out c.seal_framed.result (chunk (keyed g.cipher (key_of a.stream.subkey g.key)) a.stream.counter a.payload.now) a.out.now) c.framing_of.ensures;
    }
