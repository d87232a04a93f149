-- `mending::put_count` meets its contract.
-- Assumes nothing.
use mathlib.Core.Path.{◌∙◌, ap}
use Rattle.octets.specs.Buffers.{put}
use Rattle.octets.proofs.NumberLaws.{high-first}
use Rattle.mending.proofs.put_count.Goals as goal

pub returns : goal.returns
returns c =
    c.copy.ensures ∙ ap (put c.args.s.now 0) (c.to_be_bytes.ensures ∙ high-first 4 c.args.n)
