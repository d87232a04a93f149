use Rattle.hmac.proofs.HmacLaws.{short-keyed}
use borrow.Author.Rules.{rules}
use Rattle.hmac.proofs.short_key.Goals as goal

pub returns : goal.returns
returns c =
    short-keyed c.args.key.now (search rules) c.behind_pad-inner.ensures c.behind_pad-outer.ensures
