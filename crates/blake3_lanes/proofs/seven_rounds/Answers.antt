use native.Mathlib.Omega.{arith}
use Rattle.blake3_lanes.proofs.BlockLaws.{turned_none, turned_more, turned-all}
use Rattle.blake3_lanes.proofs.seven_rounds.Goals as goal

pub loop-init : goal.loop-init
loop-init c = turned_none c.args.x.now (omega arith)

pub loop-preserved : goal.loop-preserved
loop-preserved c =
    turned_more c.args.x.now c.loop.x _ c.loop.counter (omega arith) c.loop.invariant c.mix_states.ensures

pub returns : goal.returns
returns c =
    turned-all c.args.x.now c.loop.x c.loop.counter (omega arith) c.loop.invariant
