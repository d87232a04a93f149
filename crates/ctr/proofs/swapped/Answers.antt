use Rattle.std.proofs.Common.{ap, ◌∙◌, rules}
use Rattle.aes.specs.Words.{bytes}
use Rattle.ctr.proofs.CounterLaws.{bytes-swapped}
use Rattle.ctr.proofs.swapped.Goals as goal

pub returns : goal.returns
returns c = ap bytes c.swap_bytes.ensures ∙ bytes-swapped c.args.x (search rules)
