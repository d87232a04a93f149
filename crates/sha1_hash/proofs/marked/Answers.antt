use Rattle.sha1_hash.proofs.BlockLaws.{mark}
use Rattle.std.proofs.Common.{rules}
use Rattle.sha1_hash.proofs.marked.Goals as goal

pub returns : goal.returns
returns c =
    let a = c.args in
    mark a.s.now c.copy.new.out (search rules) c.copy.ensures
