use mathlib.Core.Path.{◌∙◌}
use lib.ListN.{length-set}
use Rattle.datagram_parts.proofs.WritingLaws.{start-law}
use Rattle.datagram_parts.proofs.write_start.Goals as goal

pub returns : goal.returns
returns c = start-law _ _ _ _ c.requires c.write_u64_be.ensures

pub shape_of-out : goal.shape_of-out
shape_of-out c =
    let a = c.args in
    c.write_u64_be.auto.out ∙ length-set a.out.now 0 a.kind
