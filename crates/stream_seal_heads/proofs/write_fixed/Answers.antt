use mathlib.Core.Path.{◌∙◌}
use native.Mathlib.Omega.{arith}
use lib.ListN.{length-set}
use Rattle.stream_seal_heads.proofs.HeadWriteLaws.{fixed-law}
use Rattle.stream_seal_heads.proofs.write_fixed.Goals as goal

pub write_u64_be-requires : goal.write_u64_be-requires
write_u64_be-requires c =
    let a = c.args in
    omega (arith, c.requires, length-set a.out.now 0 a.kind)

pub copy-requires : goal.copy-requires
copy-requires c =
    let a = c.args in
    omega (arith, c.requires, c.write_u64_be.auto.out, length-set a.out.now 0 a.kind)

pub write_u16_be-requires : goal.write_u16_be-requires
write_u16_be-requires c =
    let a = c.args in
    omega (arith, c.requires, c.copy.auto.out, c.write_u64_be.auto.out, length-set a.out.now 0 a.kind)

pub shape_of-out : goal.shape_of-out
shape_of-out c =
    let a = c.args in
    c.write_u16_be.auto.out ∙ c.copy.auto.out ∙ c.write_u64_be.auto.out ∙ length-set a.out.now 0 a.kind

pub returns : goal.returns
returns c =
    fixed-law _ _ _ _ _ _ _ _ c.requires c.write_u64_be.ensures c.copy.ensures c.write_u16_be.ensures
