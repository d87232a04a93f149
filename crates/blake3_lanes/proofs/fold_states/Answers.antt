use mathlib.Core.Path.{ap, ◌∙◌}
use native.Mathlib.Omega.{arith}
use Rattle.blake3_lanes.proofs.LaneLaws.{state-loaded}
use Rattle.blake3_compression.specs.declared.State.{State}
use Rattle.blake3_compression.specs.Columns.{words}
use Rattle.blake3_lanes.specs.Lanes.{folded, folded_states, same_message}
use Rattle.blake3_lanes.proofs.EachLaws.{changed-none, changed-all, changed-state}
use Rattle.blake3_lanes.proofs.fold_states.Goals as goal

pub loop-j-init : goal.loop-j-init
loop-j-init c = (changed-none folded_states same_message c.args.x.now (omega arith))

pub loop-j-preserved : goal.loop-j-preserved
loop-j-preserved c =
    let a = c.args in
    let e =
    c.fold.ensures ∙ ap (λ (u : State). folded (words u)) c.load-t.ensures ∙ ap folded (state-loaded c.loop-j.x c.loop-j.j) in
    (changed-state folded_states a.x.now c.loop-j.x _ c.loop-j.j c.fold.result (omega arith) c.loop-j.invariant e c.store.ensures)

pub returns : goal.returns
returns c =
    let a = c.args in
    changed-all folded_states same_message a.x.now c.loop-j.x c.loop-j.j (omega arith) c.loop-j.invariant
