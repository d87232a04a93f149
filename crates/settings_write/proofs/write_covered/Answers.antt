use native.Mathlib.Omega.{arith}
use Rattle.settings_write.proofs.WritingLaws.{in-two-bytes, put-covered}
use Rattle.settings_write.proofs.write_covered.Goals as goal

pub write_entries-requires : goal.write_entries-requires
write_entries-requires c = record { in_two_bytes = in-two-bytes _ _ c.requires.writable; settings_in_bounds = omega (arith, c.requires.bodies_in_bounds) }

pub copy-requires : goal.copy-requires
copy-requires c =
    omega (arith, c.requires.bodies_in_bounds)

pub returns : goal.returns
returns c =
    let a = c.args in
    put-covered a.edition a.settings.now a.bodies.now a.out.now _ _ _ _ c.requires.bodies_in_bounds c.write_u16_be.ensures
    c.write_u16_be-2.ensures c.write_entries.ensures c.copy.ensures
