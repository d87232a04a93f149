use Rattle.std.proofs.Common.{refl, arith}
use Rattle.chacha.proofs.LaneLaws.{filled_none, filled_more, counting-none, counting_more, counting-all}
use Rattle.chacha.proofs.lanes.spread.Goals as goal

pub loop-k-init : goal.loop-k-init
loop-k-init c = filled_none c.args.s.now c.args.v.now c.told-v

pub loop-k-preserved : goal.loop-k-preserved
loop-k-preserved c = filled_more c.args.s.now c.loop-k.v c.loop-k.k (omega arith) c.loop-k.invariant

pub loop-j-init : goal.loop-j-init
loop-j-init c = counting-none c.args.s.now c.args.c c.loop-k.v c.loop-k.k (omega arith) c.loop-k.invariant

pub loop-j-preserved : goal.loop-j-preserved
loop-j-preserved c = counting_more c.args.s.now c.args.c c.loop-j.v c.loop-j.j _ (omega arith) c.loop-j.invariant refl

pub returns : goal.returns
returns c = counting-all c.args.s.now c.args.c c.loop-j.v c.loop-j.j (omega arith) c.told-s c.loop-j.invariant
