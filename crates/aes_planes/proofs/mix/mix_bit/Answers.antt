use Rattle.aes_planes.specs.Mix.{bit_of, sum_row}
use Rattle.aes_planes.proofs.mix.mix_bit.Goals as goal

pub returns : goal.returns
unfolding bit_of sum_row
returns c = record { s_len_2 = c.set_row.ensures.s_len_2; s_after = cc; value = cc }
