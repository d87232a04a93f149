use Rattle.blake3_lanes.specs.Lanes.{folded_states, same_message}
use Rattle.blake3_lanes.proofs.EachLaws.{Changed}
use Rattle.blake3_lanes.proofs.fold_states.Given as goal

abbrev pub invariant-loop-j : goal.invariant-loop-j
invariant-loop-j l = Changed folded_states same_message l.initial.x l.x l.j
