-- The loop's invariant: what was done up to block i is done up to block j.
use Rattle.std.proofs.Common.{◌≡◌, ℕ, ◌≤◌, List, length}
use Rattle.ctr.specs.Gctr.{ciph_at}
use Rattle.ctr.specs.Kept.{Kept}
use Rattle.ctr.specs.Words.{nonce_bytes}
use Rattle.ctr.proofs.rest.Given as goal

abbrev pub invariant-loop-j : goal.invariant-loop-j
invariant-loop-j l =
    (l.j ≤ l.blocks) × (length l.text ≡ length l.initial.text)
    × ((counter : ℕ) (all : List ℕ) → Kept (ciph_at l.aes.rounds l.aes.w.now) (nonce_bytes l.n) counter all l.initial.text l.c l.i
    → Kept (ciph_at l.aes.rounds l.aes.w.now) (nonce_bytes l.n) counter all l.text l.e l.j)
