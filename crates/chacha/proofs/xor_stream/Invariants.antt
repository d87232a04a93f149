-- The loop's invariant: the first 4 i blocks are done.
use Rattle.std.proofs.Common.{◌≡◌, ◌*◌, length}
use Rattle.chacha.proofs.StreamLaws.{Kept}
use Rattle.chacha.proofs.xor_stream.Given as goal

abbrev pub invariant-loop-i : goal.invariant-loop-i
invariant-loop-i l =
    (length l.s ≡ length l.initial.s) × (length l.b ≡ 256) × Kept l.n l.key l.counter l.nonce l.initial.s l.s l.c (4 * l.i)
