-- The loop's invariant: the first i words are written.
use Rattle.std.proofs.Common.{◌≡◌, length, take}
use Rattle.octets.specs.Buffers.{put}
use Rattle.chacha.specs.Words.{bytes}
use Rattle.chacha.specs.ChaCha.{summed}
use Rattle.chacha.specs.Lanes.{lane}
use Rattle.chacha.proofs.lanes.write_sum.Given as goal

abbrev pub invariant-loop-i : goal.invariant-loop-i
invariant-loop-i l =
    (l.out ≡ put l.initial.out l.at (bytes (take l.i (summed (lane l.v l.j) l.t)))) × (length l.out ≡ length l.initial.out)
