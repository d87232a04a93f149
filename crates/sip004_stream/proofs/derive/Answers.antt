use Rattle.stream_pieces.proofs.PieceLaws.{padded-words}
use Rattle.sip004_stream.proofs.derive.Goals as goal

pub returns : goal.returns
returns c = padded-words 32 _ _ _ c.derive_subkey.ensures c.subkey_words.ensures
