use mathlib.Core.Path.{◌∙◌}
use Rattle.octets.proofs.NumberLaws.{be_at, from_be_32}
use Rattle.octets.proofs.be.read_u32_be.Goals as goal

pub returns : goal.returns
returns c =
    let b = c.bytes_at.result in
    c.from_be_bytes.ensures ∙ from_be_32 b ∙ be_at 4 c.args.at c.args.s.now b c.bytes_at.ensures
