use Rattle.blake3_lanes.proofs.BlockLaws.{Turned}
use Rattle.blake3_lanes.proofs.seven_rounds.Given as goal

abbrev pub invariant-loop : goal.invariant-loop
invariant-loop l = Turned l.initial.x l.x l.counter
