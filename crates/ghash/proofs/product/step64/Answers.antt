use Rattle.ghash.proofs.StepLaws.{steps64-words}
use Rattle.ghash.proofs.product.step64.Goals as goal

pub returns : goal.returns
returns c =
    let v = c.args.v in
    steps64-words v.hi v.lo c.struct_known-1.given.0.fits c.struct_known-1.given.1.0.fits
