-- What the key of a stream's pieces is to a cipher.
use Rattle.stream_pieces.specs.declared.key.PieceKey.{PieceKey}
use Rattle.stream_pieces.specs.Pieces.{Keyed, keyed, key_of}

abbrev pub keyed_of : PieceKey → Keyed
keyed_of k = keyed k.cipher (key_of k.subkey k.length)
