use Rattle.aes_planes.proofs.StepLaws.{high-law}
use Rattle.aes_planes.proofs.mix.mix_high.Goals as goal

pub returns : goal.returns
returns c = record { s_len_2 = c.mix_bit.ensures.s_len_2; s_after = high-law _ _ _ _ _ _ c.mix_bit-x4.ensures.s_after c.mix_bit-x4.ensures.value c.mix_bit-x5.ensures.s_after c.mix_bit-x5.ensures.value c.mix_bit-x6.ensures.s_after c.mix_bit-x6.ensures.value c.mix_bit.ensures.s_after }
