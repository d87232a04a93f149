use borrow.Author.Rules.{rules}
use Rattle.blake3.proofs.TreeLaws.{output-block}
use Rattle.blake3.proofs.output_words.Goals as goal

pub returns : goal.returns
returns c =
    let a = c.args in
    output-block a.k a.d a.s.now (search rules) c.block_words.ensures c.compress.ensures
