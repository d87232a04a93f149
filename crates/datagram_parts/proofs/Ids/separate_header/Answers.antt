use mathlib.Core.Path.{refl}
use lib.ListN.{replicate}
use Rattle.datagram_parts.proofs.WritingLaws.{header-law}
use Rattle.datagram_parts.proofs.Ids.separate_header.Goals as goal

pub returns : goal.returns
returns c = header-law (replicate 16 0) _ _ _ refl c.write.ensures
