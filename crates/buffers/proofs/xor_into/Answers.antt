use mathlib.Core.Path.{◌∙◌, sym, ap}
use mathlib.Core.List.{List}
use Prim.Native.Nat.{ℕ}
use native.Mathlib.Omega.{arith}
use lib.Bits.{bit_xor}
use lib.ListN.{get_or, set}
use Rattle.buffers.proofs.BufferLaws.{xor-none, xor-next, xor_all}
use Rattle.buffers.proofs.xor_into.Goals as goal

pub loop-i-init : goal.loop-i-init
loop-i-init c = sym (xor-none c.args.out.now)

pub loop-i-preserved : goal.loop-i-preserved
loop-i-preserved c =
    let k = c.args.with.now in
    let i = c.loop-i.i in
    ap (λ (o : List ℕ). set o i (bit_xor (get_or o i 0) (get_or k i 0))) c.loop-i.invariant
    ∙ xor-next c.args.out.now k i (omega arith) (omega arith)

pub returns : goal.returns
returns c = c.loop-i.invariant ∙ xor_all c.args.out.now c.args.with.now c.loop-i.i (omega arith)
