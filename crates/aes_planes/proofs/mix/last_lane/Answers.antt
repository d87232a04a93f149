use Rattle.aes_planes.proofs.mix.last_lane.Goals as goal

pub returns : goal.returns
returns c = record { s_len_2 = c.set_row.ensures.s_len_2; s_after = cc }
