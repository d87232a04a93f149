use mathlib.Core.Path.{ap, ap₂, ◌∙◌}
use native.Mathlib.Omega.{arith}
use Rattle.blake3_compression.specs.Compression.{one_round, permuted}
use Rattle.blake3_lanes.proofs.LaneLaws.{state-loaded, message-loaded}
use Rattle.blake3_compression.specs.Columns.{words}
use Rattle.blake3_lanes.specs.Lanes.{mixed, reordered}
use Rattle.blake3_lanes.proofs.EachLaws.{changed-none, changed-all, changed-both}
use Rattle.blake3_lanes.proofs.mix_states.Goals as goal

pub loop-j-init : goal.loop-j-init
loop-j-init c = (changed-none mixed reordered c.args.x.now (omega arith))

pub loop-j-preserved : goal.loop-j-preserved
loop-j-preserved c =
    let a = c.args in
    let v = c.loop-j.x in
    let j = c.loop-j.j in
    let em = ap words c.load-m.ensures ∙ message-loaded v j in
    let e = c.round.ensures ∙ ap₂ one_round (ap words c.load-t.ensures ∙ state-loaded v j) em in
    let d = c.permute.ensures ∙ ap permuted em in
    let h = c.loop-j-test.true in
    (changed-both mixed reordered a.x.now v _ _ j c.round.result c.permute.result h c.loop-j.invariant e d c.store.ensures c.store-in-loop-j.ensures)

pub returns : goal.returns
returns c =
    let a = c.args in
    changed-all mixed reordered a.x.now c.loop-j.x c.loop-j.j (omega arith) c.loop-j.invariant
