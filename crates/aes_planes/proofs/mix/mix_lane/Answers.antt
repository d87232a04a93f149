use Rattle.aes_planes.proofs.StepLaws.{lane-law}
use Rattle.aes_planes.proofs.mix.mix_lane.Goals as goal

pub returns : goal.returns
returns c = record { s_len_2 = c.mix_high.ensures.s_len_2; s_after = lane-law _ _ _ _ _ c.row.ensures c.sums-x7.ensures c.mix_low-x3.ensures.s_after c.mix_low-x3.ensures.value c.both.ensures c.mix_high.ensures.s_after }
