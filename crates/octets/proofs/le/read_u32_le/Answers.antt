use mathlib.Core.Path.{◌∙◌}
use Rattle.octets.proofs.NumberLaws.{le_at, from_le_32}
use Rattle.octets.proofs.le.read_u32_le.Goals as goal

pub returns : goal.returns
returns c =
    let b = c.bytes_at.result in
    c.from_le_bytes.ensures ∙ from_le_32 b ∙ le_at 4 c.args.at c.args.s.now b c.bytes_at.ensures
