use native.Mathlib.Omega.{arith}
use Rattle.buffers.proofs.BufferLaws.{zeros-put}
use Rattle.buffers.proofs.zero.Goals as goal

pub returns : goal.returns
returns c =
    let a = c.args in
    zeros-put a.out.now _ a.at _ a.n (c.fill.ensures.after (λ y e. e)) (omega arith) c.requires
