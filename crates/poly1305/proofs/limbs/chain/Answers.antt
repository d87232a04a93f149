use mathlib.Core.Path.{refl}
use native.Mathlib.Omega.{arith}
use Rattle.poly1305.proofs.PrimeLaws.{chained}
use Rattle.poly1305.proofs.limbs.chain.Goals as goal

pub overflow_add-h-5 : goal.overflow_add-h-5
overflow_add-h-5 c =
    omega (arith, c.requires.below.b4, c.struct_known-8-1.given)

pub returns : goal.returns
returns c =
    chained c.args.h c.args.x c.split-s0.result c.split-s1.result c.split-s2.result c.split-s3.result c.split-s4.result
    _ c.requires.below c.requires.x_bound c.split-s0.ensures c.split-s1.ensures c.split-s2.ensures c.split-s3.ensures c.split-s4.ensures
    refl
