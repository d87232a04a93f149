use Rattle.aes_planes.proofs.StepLaws.{low-law}
use Rattle.aes_planes.proofs.mix.mix_low.Goals as goal

pub returns : goal.returns
returns c = record {
  s_len_2 = c.mix_bit.ensures.s_len_2;
  s_after = low-law _ _ _ _ _ _ c.mix_bit-x0.ensures.s_after c.mix_bit-x0.ensures.value c.both.ensures c.mix_bit-x1.ensures.s_after c.mix_bit-x1.ensures.value
      c.mix_bit-x2.ensures.s_after c.mix_bit-x2.ensures.value c.both-2.ensures c.mix_bit.ensures.s_after;
  value = c.mix_bit.ensures.value;
}
