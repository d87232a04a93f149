use Rattle.stream_pieces.proofs.PieceLaws.{words-law}
use Rattle.stream_pieces.proofs.subkey_words.Goals as goal

pub returns : goal.returns
returns c =
    words-law _ _ _ _ _ c.read_u64_be.ensures c.read_u64_be-2.ensures c.read_u64_be-3.ensures c.read_u64_be-4.ensures
