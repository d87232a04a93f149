-- The loop's invariant: the first i words are written.
use Rattle.std.proofs.Common.{◌≡◌, length, take}
use Rattle.octets.specs.Buffers.{put}
use Rattle.chacha.specs.Words.{bytes}
use Rattle.chacha.proofs.write_words.Given as goal

abbrev pub invariant-loop-i : goal.invariant-loop-i
invariant-loop-i l = (l.out ≡ put l.initial.out 0 (bytes (take l.i l.w))) × (length l.out ≡ length l.initial.out)
