use borrow.Author.Rules.{rules}
use Rattle.ghash.proofs.GatherLaws.{behind-words}
use Rattle.ghash.proofs.product.add_behind.Goals as goal

pub returns : goal.returns
returns c =
    let a = c.args in
    let z = c.args.z in
    let e = c.args.e in
    behind-words z.hi z.lo z.out e.hi e.lo (search rules) (search rules) (search rules) (search rules)
