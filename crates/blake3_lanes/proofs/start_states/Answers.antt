use Prim.Native.Nat.{◌+◌}
use mathlib.Core.Path.{ap, ◌∙◌}
use mathlib.Core.List.{List}
use Prim.Native.Nat.{ℕ}
use native.Mathlib.Omega.{arith}
use Rattle.blake3_compression.specs.Compression.{initial}
use Rattle.blake3_lanes.proofs.LaneLaws.{initial-first}
use Rattle.blake3_lanes.specs.Lanes.{state, started, same_message}
use Rattle.blake3_lanes.proofs.EachLaws.{changed-none, changed-all, changed-state}
use Rattle.blake3_lanes.proofs.start_states.Goals as goal

pub loop-j-init : goal.loop-j-init
loop-j-init c = (changed-none (started c.args.t c.args.d) same_message c.args.x.now (omega arith))

pub loop-j-preserved : goal.loop-j-preserved
loop-j-preserved c =
    let a = c.args in
    let e =
    c.start.ensures
    ∙ ap (λ (h : List ℕ). initial h (a.t + c.loop-j.j) 64 a.d) c.value-h.ensures
    ∙ initial-first (state c.loop-j.x c.loop-j.j) (a.t + c.loop-j.j) 64 a.d in
    (changed-state (started a.t a.d) a.x.now c.loop-j.x _ c.loop-j.j c.start.result (omega arith) c.loop-j.invariant e c.store.ensures)

pub returns : goal.returns
returns c =
    let a = c.args in
    changed-all (started a.t a.d) same_message a.x.now c.loop-j.x c.loop-j.j (omega arith) c.loop-j.invariant
