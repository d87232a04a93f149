-- The loop's invariant: the first i blocks are written.
use Rattle.std.proofs.Common.{◌≡◌, ◌≤◌, length}
use Rattle.octets.specs.Numbers.{to_be}
use Rattle.ctr.specs.Long.{Batch}
use Rattle.ctr.specs.Words.{nonce_bytes}
use Rattle.ctr.proofs.long.counter_blocks.Given as goal

abbrev pub invariant-loop-i : goal.invariant-loop-i
invariant-loop-i l = (l.i ≤ 32) × (length l.s ≡ 128) × Batch (to_be 16) (nonce_bytes l.n) l.c l.i l.s
