use Rattle.sha1_hash.proofs.DigestLaws.{two-words}
use Rattle.std.proofs.Common.{rules}
use Rattle.sha1_hash.proofs.two.Goals as goal

pub returns : goal.returns
returns c = two-words c.args.high c.args.low (search rules)
