use Rattle.blake3_lanes.specs.Lanes.{same, loaded}
use Rattle.blake3_lanes.proofs.EachLaws.{Changed}
use Rattle.blake3_lanes.proofs.load_messages.Given as goal

abbrev pub invariant-loop-j : goal.invariant-loop-j
invariant-loop-j l = Changed same (loaded l.s l.at) l.initial.x l.x l.j
