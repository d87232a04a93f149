use native.Mathlib.Omega.{arith}
use Rattle.stream_seal_heads.specs.HeadSealing.{variable_length}
use Rattle.stream_seal_heads.proofs.HeadWriteLaws.{variable-law}
use Rattle.stream_seal_heads.proofs.write_variable.Goals as goal

pub overflow_add-behind : goal.overflow_add-behind
unfolding variable_length
overflow_add-behind c =
    omega (arith, c.requires.payload_in_bounds, c.well_formed)

pub copy-requires : goal.copy-requires
unfolding variable_length
copy-requires c =
    omega (arith, c.requires.payload_in_bounds)

pub write_u16_be-requires : goal.write_u16_be-requires
unfolding variable_length
write_u16_be-requires c =
    omega (arith, c.requires.payload_in_bounds, c.copy.auto.out)

pub overflow_add-behind-2 : goal.overflow_add-behind-2
unfolding variable_length
overflow_add-behind-2 c =
    omega (arith, c.requires.payload_in_bounds, c.well_formed)

pub zero-requires : goal.zero-requires
unfolding variable_length
zero-requires c =
    omega (arith, c.requires.payload_in_bounds, c.copy.auto.out, c.write_u16_be.auto.out)

pub overflow_add-behind-3 : goal.overflow_add-behind-3
unfolding variable_length
overflow_add-behind-3 c =
    omega (arith, c.requires.payload_in_bounds, c.well_formed)

pub overflow_add-behind-4 : goal.overflow_add-behind-4
unfolding variable_length
overflow_add-behind-4 c =
    omega (arith, c.requires.payload_in_bounds, c.well_formed)

pub copy-requires-2 : goal.copy-requires-2
unfolding variable_length
copy-requires-2 c =
    omega (arith, c.requires.payload_in_bounds, c.copy.auto.out, c.write_u16_be.auto.out, c.zero.auto.out)

pub returns : goal.returns
returns c =
    variable-law _ _ _ _ _ _ _ _ _ c.requires.payload_in_bounds c.copy.ensures c.write_u16_be.ensures c.zero.ensures c.copy-2.ensures
