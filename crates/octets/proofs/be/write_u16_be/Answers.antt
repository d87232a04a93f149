use mathlib.Core.Path.{◌∙◌, ap}
use Rattle.buffers.specs.Buffers.{put}
use Rattle.octets.proofs.NumberLaws.{high-first}
use Rattle.octets.proofs.be.write_u16_be.Goals as goal

pub returns : goal.returns
returns c =
    let a = c.args in
    c.copy.ensures ∙ ap (put a.out.now a.at) (c.to_be_bytes.ensures ∙ high-first 2 a.x)
