use native.Mathlib.Nat.{le_refl}
use Rattle.octets.proofs.BufferLaws.{octets-fit}
use Rattle.octets.proofs.NumberLaws.{le_join}
use Rattle.poly1305.proofs.blocks.read_u64.Goals as goal

pub returns : goal.returns
returns c =
    let a = c.args in
    le_join 4 4 8 (le_refl 8) a.s.now (octets-fit a.s.now c.shared_slice_known-1.given) a.at c.read_u32_le.ensures
    c.read_u32_le-2.ensures
