use Rattle.std.proofs.Common.{refl, arith}
use Rattle.blake3_mixing.proofs.HalfLaws.{half-is}
use Rattle.blake3_mixing.proofs.half_mix.Goals as goal

pub returns : goal.returns
returns c =
    let a = c.args in
    half-is a.q a.m a.r a.s _ _ _ _ (omega arith, omega arith) c.requires refl c.rotate_right-d.ensures refl c.rotate_right-b.ensures
