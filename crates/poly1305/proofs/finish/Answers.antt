use lib.Dec.{lit<, lit≤}
use Rattle.poly1305.specs.Limbs.{value}
use Rattle.poly1305.proofs.PrimeLaws.{below-loose, below_more, sum_below}
use Rattle.poly1305.proofs.WordLaws.{tag-law}
use borrow.Author.Rules.{rules}
use Rattle.poly1305.proofs.finish.Goals as goal

pub plus-requires : goal.plus-requires
plus-requires c = record { below = below_more _ _ (lit≤ tt) c.reduce.ensures.below; below_2 = below_more _ _ (lit≤ tt) c.requires.below }

pub chain-sum-requires : goal.chain-sum-requires
chain-sum-requires c = record { below = sum_below (below-loose c.reduce.ensures.below) c.requires.below c.plus.ensures; x_bound = lit< tt }

pub returns : goal.returns
returns c =
    let a = c.args in
    tag-law (value a.a) c.reduce.result a.s c.plus.result c.chain-sum.result c.low_word.result c.high_word.result
    c.write_u64_le.new.out _ (search rules) c.reduce.ensures.result_value c.plus.ensures c.chain-sum.ensures c.low_word.ensures
    c.high_word.ensures c.write_u64_le.ensures c.write_u64_le-2.ensures
