use Rattle.blake3_lanes.specs.Lanes.{firsts, same_message}
use Rattle.blake3_lanes.proofs.EachLaws.{Changed}
use Rattle.blake3_lanes.proofs.first_values.Given as goal

abbrev pub invariant-loop-j : goal.invariant-loop-j
invariant-loop-j l = Changed firsts same_message l.initial.x l.x l.j
