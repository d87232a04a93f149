use Rattle.poly1305.proofs.PrimeLaws.{loose-below, reduce-law}
use native.Mathlib.Omega.{arith}
use lib.Dec.{lit<, lit≤}
use Rattle.poly1305.proofs.limbs.reduce.Goals as goal

pub chain-q-requires : goal.chain-q-requires
chain-q-requires c = record { below = loose-below _ (lit≤ tt) c.requires; x_bound = lit< tt }

pub chain-t-requires : goal.chain-t-requires
chain-t-requires c = record { below = loose-below _ (lit≤ tt) c.requires; x_bound = omega (arith, c.chain-q.ensures.small) }

pub returns : goal.returns
returns c = record { below = c.chain-t.ensures.below; result_value = reduce-law c.args.a c.chain-q.result c.chain-t.result c.requires c.chain-q.ensures c.chain-t.ensures }
