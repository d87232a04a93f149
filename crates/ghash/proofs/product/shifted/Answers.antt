use Rattle.ghash.proofs.GatherLaws.{rest_lt, shifted-words}
use Rattle.ghash.proofs.product.shifted.Goals as goal

pub overflow_add-result : goal.overflow_add-result
overflow_add-result c =
    let z = c.args.z in
    record { fits = rest_lt z.hi z.lo c.struct_known-4-1.given.1.0.fits }

pub overflow_add-result-2 : goal.overflow_add-result-2
overflow_add-result-2 c =
    let z = c.args.z in
    record { fits = rest_lt z.lo z.out c.struct_known-7-1.given.1.1.0.fits }

pub returns : goal.returns
returns c =
    let a = c.args in
    let z = c.args.z in
    let e = c.args.e in
    shifted-words z.hi z.lo z.out e.hi e.lo
    c.struct_known-4-1.given.1.0.fits c.struct_known-7-1.given.1.1.0.fits c.struct_known-5-1.given.1.0.fits
