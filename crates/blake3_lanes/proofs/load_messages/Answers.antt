use native.Mathlib.Omega.{arith}
use Rattle.blake3_lanes.specs.Lanes.{same, loaded}
use Rattle.blake3_lanes.proofs.EachLaws.{changed-none, changed-all, changed-message}
use Rattle.blake3_lanes.proofs.load_messages.Goals as goal

pub loop-j-init : goal.loop-j-init
loop-j-init c =
    let a = c.args in
    (changed-none same (loaded a.s.now a.at) a.x.now (omega arith))

pub loop-j-preserved : goal.loop-j-preserved
loop-j-preserved c =
    let a = c.args in
    (changed-message (loaded a.s.now a.at) a.x.now c.loop-j.x _ c.loop-j.j c.message_at.result (omega arith) c.loop-j.invariant c.message_at.ensures c.store.ensures)

pub returns : goal.returns
returns c =
    let a = c.args in
    changed-all same (loaded a.s.now a.at) a.x.now c.loop-j.x c.loop-j.j (omega arith) c.loop-j.invariant
