use mathlib.Core.Path.{refl}
use lib.ListN.{replicate}
use Rattle.stream_pieces.proofs.PieceLaws.{bytes-law}
use Rattle.stream_pieces.proofs.subkey_bytes.Goals as goal

pub returns : goal.returns
returns c =
    bytes-law (replicate 32 0) _ _ _ _ _ refl c.write_u64_be.ensures c.write_u64_be-2.ensures c.write_u64_be-3.ensures
    c.write_u64_be-4.ensures
