use native.Mathlib.Omega.{arith}
use lib.Dec.{lit<}
use Rattle.stream_seal_heads.proofs.HeadWriteLaws.{response-pieces}
use Rattle.stream_seal_heads.proofs.seal_response_headers.Goals as goal

pub write_fixed-requires : goal.write_fixed-requires
write_fixed-requires c = omega (arith, c.requires.body_len)

pub copy-requires : goal.copy-requires
copy-requires c =
    omega (arith, c.write_fixed.auto.out, c.requires.body_len)

pub seal_pair-requires : goal.seal_pair-requires
seal_pair-requires c = record { counter_lt_last_counter = lit< tt; tag_length_le_at = omega arith; tag_length_in_bounds = omega (arith, c.copy.auto.out, c.write_fixed.auto.out, c.requires.body_len); body_len_bound = omega (arith, c.copy.auto.out, c.write_fixed.auto.out, c.requires.binding_len_bound, c.requires.payload_len_bound, c.requires.body_len) }

pub returns : goal.returns
returns c =
    response-pieces _ _ _ _ _ _ _ _ c.requires.body_len c.write_fixed.ensures c.copy.ensures c.seal_pair.ensures
