use mathlib.Core.Path.{refl, ◌∙◌, ap}
use mathlib.Core.List.{List}
use Prim.Native.Nat.{ℕ, ◌+◌}
use native.Mathlib.Omega.{arith}
use lib.ListN.{get_or, set, length-set}
use Rattle.buffers.proofs.BufferLaws.{put-none, put_next, put_all}
use Rattle.buffers.proofs.copy.Goals as goal

pub loop-i-init : goal.loop-i-init
loop-i-init c = (refl, put-none c.args.out.now c.args.at)

pub loop-i-preserved : goal.loop-i-preserved
loop-i-preserved c =
    let a = c.args in (
      simp length-set c.loop-i.invariant.0,
      ap (λ (o : List ℕ). set o (a.at + c.loop-i.i) (get_or a.from.now c.loop-i.i 0)) c.loop-i.invariant.1
          ∙ put_next a.out.now a.at a.from.now c.loop-i.i (omega arith) (omega arith),
    )

pub returns : goal.returns
returns c =
    let a = c.args in
    c.loop-i.invariant.1 ∙ put_all a.out.now a.at a.from.now c.loop-i.i (omega arith)
