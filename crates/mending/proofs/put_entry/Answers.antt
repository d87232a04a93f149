-- `mending::put_entry` meets its contract.
-- Assumes nothing.
use mathlib.Core.Path.{ap, ◌∙◌}
use lib.ListN.{length}
use Rattle.octets.specs.Buffers.{put}
use Rattle.octets.proofs.NumberLaws.{high-first}
use Rattle.mending.proofs.WritingLaws.{entry-put}
use Rattle.mending.proofs.PutLaws.{length-entry}
use Rattle.mending.proofs.put_entry.Goals as goal

pub returns : goal.returns
returns c =
    let a = c.args in
    entry-put a.s.now _ _ a.at a.e c.requires
    (c.copy.ensures ∙ ap (put a.s.now a.at) (c.to_be_bytes.ensures ∙ high-first 4 a.e.offset)) c.write_u16_be.ensures

pub shape_of-s : goal.shape_of-s
shape_of-s c =
    ap length (returns c) ∙ length-entry c.args.s.now _ c.args.e c.requires
