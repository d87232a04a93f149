use Rattle.std.proofs.Common.{take, refl, arith}
use Rattle.sha1_compression.specs.Functions.{ROTL}
use Rattle.sha1_compression.specs.Schedule.{schedule}
use Rattle.sha1_compression.proofs.ScheduleLaws.{grow, grown-to}
use Rattle.sha1_compression.proofs.first_words.Goals as goal

pub loop-t-init : goal.loop-t-init
unfolding schedule
loop-t-init c = refl

pub loop-t-preserved : goal.loop-t-preserved
unfolding ROTL
loop-t-preserved c =
    let l = c.loop-t in
    grow (take 16 c.args.w.now) l.w l.t c.rotate_left.result (omega arith) (omega arith) l.invariant c.rotate_left.ensures

pub returns : goal.returns
returns c =
    let l = c.loop-t in
    grown-to (take 16 c.args.w.now) l.w l.t 32 (omega arith) l.invariant
