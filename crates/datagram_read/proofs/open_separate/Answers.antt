use mathlib.Core.Path.{refl}
use lib.ListN.{replicate}
use Rattle.datagram_read.proofs.OpeningLaws.{separate-law}
use Rattle.datagram_read.proofs.open_separate.Goals as goal

pub returns-clause-value : goal.returns-clause-value
returns-clause-value c =
    separate-law _ _ (replicate 16 0) _ _ c.args.key.now.usable c.requires.separate_length_in_bounds refl c.copy.ensures c.decrypt_with.ensures.block_after
