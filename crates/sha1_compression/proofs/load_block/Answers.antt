use Rattle.std.proofs.Common.{refl, arith}
use Rattle.sha1_compression.specs.Schedule.{words}
use Rattle.sha1_compression.proofs.ScheduleLaws.{load-next, loaded}
use Rattle.sha1_compression.proofs.load_block.Goals as goal

pub loop-i-init : goal.loop-i-init
unfolding words
loop-i-init c = refl

pub loop-i-preserved : goal.loop-i-preserved
loop-i-preserved c =
    let l = c.loop-i in
    load-next l.w c.args.s.now l.i c.read_u32_be.result (omega arith) l.invariant c.read_u32_be.ensures

pub returns : goal.returns
returns c =
    let l = c.loop-i in
    loaded l.w c.args.s.now l.i (omega arith) l.invariant
