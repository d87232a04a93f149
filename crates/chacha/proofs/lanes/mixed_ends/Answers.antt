use Rattle.std.proofs.Common.{ap, ◌∙◌, add-zero, arith}
use Rattle.chacha.specs.ChaCha.{doubles, ends}
use Rattle.chacha.specs.Lanes.{lane, numbered}
use Rattle.chacha.proofs.lanes.mixed_ends.Goals as goal

pub returns : goal.returns
unfolding ends lane
returns c =
    let a = c.args in
    ap ends
    (c.double_rounds.ensures.at 0 (omega arith)
    ∙ ap (doubles a.n) (c.spread.ensures.at 0 (omega arith) ∙ ap (numbered a.s.now) (add-zero a.c)))
