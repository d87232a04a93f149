-- The loop's invariant: i blocks are done, c is the next one's counter, and next is the next batch.
use Rattle.std.proofs.Common.{◌≡◌, ◌+◌, ◌-◌, ◌%◌, ◌^◌, ◌<◌, ◌≤◌, length, IfSome}
use Rattle.ctr.specs.Gctr.{ciph_at}
use Rattle.ctr.specs.Kept.{Kept}
use Rattle.ctr.specs.Words.{nonce_bytes}
use Rattle.ctr.proofs.long.batches.Given as goal

abbrev pub invariant-loop-next : goal.invariant-loop-next
invariant-loop-next l =
    IfSome l.next (λ m. (0 < m) × (m ≤ 32) × (m ≤ l.blocks - l.i)) × (l.i ≤ l.blocks) × (l.c ≡ (l.counter + l.i) % 2 ^ 32) × (length l.text ≡ length l.initial.text)
    × Kept (ciph_at l.aes.rounds l.aes.w.now) (nonce_bytes l.n) l.counter l.initial.text l.text l.c l.i

abbrev pub decreases-loop-next : goal.decreases-loop-next
decreases-loop-next l = l.blocks - l.i
