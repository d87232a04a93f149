use Rattle.chacha.proofs.LaneLaws.{Filled, Counting}
use Rattle.chacha.proofs.lanes.spread.Given as goal

abbrev pub invariant-loop-k : goal.invariant-loop-k
invariant-loop-k l = Filled l.s l.v l.k

abbrev pub invariant-loop-j : goal.invariant-loop-j
invariant-loop-j l = Counting l.s l.c l.v l.j
