-- A framing of this edition has a key of its cipher.
use Rattle.std.proofs.Common.{sym, subst}
use Rattle.stream_pieces.specs.Framing.{HasCipher}
use Rattle.sip004_stream.proofs.BeginLaws.{framing-cipher}
use Rattle.vectors.proofs.edition_2017.seal_chunk.Goals as goal

pub seal_on-requires-clause-has_cipher : goal.seal_on-requires-clause-has_cipher
seal_on-requires-clause-has_cipher c = subst HasCipher (sym c.framing_of.ensures) (framing-cipher _)
