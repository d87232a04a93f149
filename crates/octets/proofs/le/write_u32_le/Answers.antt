use mathlib.Core.Path.{◌∙◌, ap}
use Rattle.buffers.specs.Buffers.{put}
use Rattle.octets.proofs.NumberLaws.{low-first}
use Rattle.octets.proofs.le.write_u32_le.Goals as goal

pub returns : goal.returns
returns c =
    let a = c.args in
    c.copy.ensures ∙ ap (put a.out.now a.at) (c.to_le_bytes.ensures ∙ low-first 4 a.x)
