use Rattle.std.proofs.Common.{ap, ◌∙◌, arith}
use Rattle.chacha.specs.ChaCha.{columns, diagonals, double_round}
use Rattle.chacha.proofs.LaneLaws.{changed-none, changed-more, changed-all}
use Rattle.chacha.proofs.lanes.double_round.Goals as goal

pub loop-j-init : goal.loop-j-init
loop-j-init c = changed-none double_round c.args.v.now c.told-v

pub loop-j-preserved : goal.loop-j-preserved
unfolding double_round
loop-j-preserved c =
    let e = c.diagonal_round.ensures ∙ ap diagonals (c.column_round.ensures ∙ ap columns c.load-t.ensures) in
    changed-more double_round c.args.v.now c.loop-j.v _ c.loop-j.j c.diagonal_round.result (omega arith) c.loop-j.invariant e c.store.ensures

pub returns : goal.returns
returns c = changed-all double_round c.args.v.now c.loop-j.v c.loop-j.j c.args.m (omega arith) c.loop-j.invariant
