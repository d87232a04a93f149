use Rattle.chacha.specs.ChaCha.{doubles}
use Rattle.chacha.specs.Lanes.{Each}
use Rattle.chacha.proofs.lanes.double_rounds.Given as goal

abbrev pub invariant-loop : goal.invariant-loop
invariant-loop l = Each l.m (doubles l.counter) l.initial.v l.v
