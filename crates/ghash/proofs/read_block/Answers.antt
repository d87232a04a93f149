use mathlib.Core.Path.{ap₂, ◌∙◌}
use Rattle.ghash.specs.Words.{words}
use Rattle.ghash.proofs.ElementLaws.{be-words}
use Rattle.ghash.proofs.read_block.Goals as goal

pub returns : goal.returns
returns c = ap₂ words c.read_u64_be.ensures c.read_u64_be-2.ensures ∙ be-words c.args.s.now 0
