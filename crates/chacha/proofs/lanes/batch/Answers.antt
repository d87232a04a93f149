use Rattle.std.proofs.Common.{ap, ◌∙◌}
use Rattle.octets.specs.Buffers.{put}
use Rattle.chacha.proofs.BlockLaws.{sums-blocks}
use Rattle.chacha.proofs.lanes.batch.Goals as goal

pub returns : goal.returns
returns c =
    let a = c.args in
    c.write_sums.ensures
    ∙ ap (put a.out.now 0) (sums-blocks a.n a.s.now a.c a.m _ _ c.requires.m_bound c.spread.ensures c.double_rounds.ensures)
