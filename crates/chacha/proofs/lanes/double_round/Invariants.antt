use Rattle.chacha.specs.ChaCha.{double_round}
use Rattle.chacha.proofs.LaneLaws.{Changed}
use Rattle.chacha.proofs.lanes.double_round.Given as goal

abbrev pub invariant-loop-j : goal.invariant-loop-j
invariant-loop-j l = Changed double_round l.initial.v l.v l.j
