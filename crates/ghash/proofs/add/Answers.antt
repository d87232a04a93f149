use mathlib.Core.Path.{sym}
use lib.Bits.{xor_block}
use Rattle.ghash.proofs.add.Goals as goal

pub returns : goal.returns
returns c =
    let x = c.args in
    sym
    (xor_block 64 x.a.hi x.b.hi x.a.lo x.b.lo
    c.struct_known-3-1.given.1.0.fits c.struct_known-4-1.given.1.0.fits)
