-- The loop's invariant: the blocks of the first j states are written.
use Rattle.std.proofs.Common.{◌≡◌, length}
use Rattle.octets.specs.Buffers.{put}
use Rattle.chacha.specs.Lanes.{sums}
use Rattle.chacha.proofs.lanes.write_sums.Given as goal

abbrev pub invariant-loop-j : goal.invariant-loop-j
invariant-loop-j l = (l.out ≡ put l.initial.out 0 (sums l.v l.s l.c l.j)) × (length l.out ≡ length l.initial.out)
