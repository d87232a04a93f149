use mathlib.Core.Path.{◌∙◌}
use lib.Dec.{lit≤}
use lib.ListN.{replicate}
use Rattle.octets.specs.Numbers.{to_be}
use Rattle.ghash.specs.Words.{block_of}
use Rattle.octets.proofs.BufferLaws.{put_whole}
use Rattle.gcm.proofs.element_bytes.Goals as goal

pub returns : goal.returns
unfolding to_be
returns c = c.write_element.ensures ∙ put_whole (replicate 16 0) (to_be 16 (block_of c.args.x)) (lit≤ tt)
