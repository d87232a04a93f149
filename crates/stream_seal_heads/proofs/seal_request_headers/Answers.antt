use mathlib.Core.Path.{refl}
use Prim.Native.Nat.{◌≤◌}
use native.Mathlib.Omega.{arith}
use lib.Dec.{lit<, lit≤}
use Rattle.stream_pieces.specs.Pieces.{max_chunk}
use Rattle.stream_seal_heads.specs.HeadSealing.{variable_length}
use Rattle.stream_seal_heads.proofs.HeadWriteLaws.{request-pieces}
use Rattle.stream_seal_heads.proofs.seal_request_headers.Goals as goal

pub overflow_sub-v : goal.overflow_sub-v
overflow_sub-v c = omega (arith, c.requires.body_len)

pub overflow_cast-v : goal.overflow_cast-v
overflow_cast-v c = record { fits = omega (arith, c.requires.payload_bound, c.requires.body_len) }

pub write_fixed-requires : goal.write_fixed-requires
write_fixed-requires c = omega (arith, c.requires.body_len)

pub write_variable-requires : goal.write_variable-requires
unfolding variable_length
write_variable-requires c =
    let padding-most : c.args.padding ≤ max_chunk = omega (arith, c.requires.payload_bound) in
    record { padding_le_max_chunk = padding-most; payload_in_bounds = omega (arith, c.write_fixed.auto.out, c.requires.body_len) }

pub seal_pair-requires : goal.seal_pair-requires
seal_pair-requires c = record { counter_lt_last_counter = lit< tt; tag_length_le_at = lit≤ tt; tag_length_in_bounds = omega (arith, c.write_variable.auto.out, c.write_fixed.auto.out, c.requires.body_len); body_len_bound = omega (arith, c.write_variable.auto.out, c.write_fixed.auto.out, c.requires.payload_bound, c.requires.body_len) }

pub returns : goal.returns
returns c =
    request-pieces _ _ _ _ _ _ _ _ _ _ c.requires.body_len refl c.write_fixed.ensures c.write_variable.ensures c.seal_pair.ensures
