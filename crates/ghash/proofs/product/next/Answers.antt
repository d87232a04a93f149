use native.Mathlib.Omega.{arith}
use Rattle.ghash.proofs.ElementLaws.{next-words}
use Rattle.ghash.proofs.product.next.Goals as goal

pub overflow_add-result : goal.overflow_add-result
overflow_add-result c = omega (arith, c.struct_known-4-1.given.1.0)

pub returns : goal.returns
returns c =
    let x = c.args in
    next-words x.v.hi x.v.lo c.struct_known-4-1.given.1.0.fits
