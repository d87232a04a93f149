use native.Mathlib.Omega.{arith}
use lib.Dec.{lit≤}
use Rattle.stream_seal.proofs.SealWriteLaws.{chunk-law}
use Rattle.stream_seal.proofs.write_chunk.Goals as goal

pub seal_pair-requires : goal.seal_pair-requires
seal_pair-requires c = record { counter_lt_last_counter = c.requires.counter_lt_last_counter; tag_length_le_at = lit≤ tt; tag_length_in_bounds = omega (arith, c.copy.auto.out, c.write_u16_be.auto.out, c.requires.body_len); body_len_bound = omega (arith, c.copy.auto.out, c.write_u16_be.auto.out, c.requires.payload_len_bound, c.requires.body_len) }

pub returns : goal.returns
returns c =
    chunk-law _ _ _ _ _ _ _ c.requires.body_len c.write_u16_be.ensures c.copy.ensures c.seal_pair.ensures
