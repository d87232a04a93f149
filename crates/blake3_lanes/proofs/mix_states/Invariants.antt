use Rattle.blake3_lanes.specs.Lanes.{mixed, reordered}
use Rattle.blake3_lanes.proofs.EachLaws.{Changed}
use Rattle.blake3_lanes.proofs.mix_states.Given as goal

abbrev pub invariant-loop-j : goal.invariant-loop-j
invariant-loop-j l = Changed mixed reordered l.initial.x l.x l.j
