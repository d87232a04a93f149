use native.Mathlib.Omega.{arith}
use Rattle.blake3_lanes.specs.Lanes.{firsts, same_message}
use Rattle.blake3_lanes.proofs.EachLaws.{changed-none, changed-all, changed-state}
use Rattle.blake3_lanes.proofs.first_values.Goals as goal

pub loop-j-init : goal.loop-j-init
loop-j-init c = (changed-none firsts same_message c.args.x.now (omega arith))

pub loop-j-preserved : goal.loop-j-preserved
loop-j-preserved c =
    let a = c.args in
    (changed-state firsts a.x.now c.loop-j.x _ c.loop-j.j c.first.result (omega arith) c.loop-j.invariant c.first.ensures c.store.ensures)

pub returns : goal.returns
returns c =
    let a = c.args in
    changed-all firsts same_message a.x.now c.loop-j.x c.loop-j.j (omega arith) c.loop-j.invariant
