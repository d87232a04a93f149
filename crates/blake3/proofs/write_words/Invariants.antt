-- The loop's invariant: the bytes of the words passed are in place.
use mathlib.Core.Path.{◌≡◌}
use lib.ListN.{take}
use Rattle.octets.specs.Buffers.{put}
use Rattle.blake3.specs.Words.{word_bytes}
use Rattle.blake3.proofs.write_words.Given as goal

abbrev pub invariant-loop-i : goal.invariant-loop-i
invariant-loop-i l = l.out ≡ put l.initial.out 0 (word_bytes (take l.i l.o))
