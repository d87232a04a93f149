use Rattle.blake3_lanes.specs.Lanes.{started, same_message}
use Rattle.blake3_lanes.proofs.EachLaws.{Changed}
use Rattle.blake3_lanes.proofs.start_states.Given as goal

abbrev pub invariant-loop-j : goal.invariant-loop-j
invariant-loop-j l = Changed (started l.t l.d) same_message l.initial.x l.x l.j
