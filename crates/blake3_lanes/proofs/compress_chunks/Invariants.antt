use Prim.Native.Nat.{◌*◌, ◌≤◌}
use Rattle.blake3_lanes.proofs.BlockLaws.{Passed}
use Rattle.blake3_lanes.proofs.compress_chunks.Given as goal

abbrev pub invariant-loop-i : goal.invariant-loop-i
invariant-loop-i l = (l.d ≤ 1) × Passed l.s l.t l.x l.d (64 * l.i)
