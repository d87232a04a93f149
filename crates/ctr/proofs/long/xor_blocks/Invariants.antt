-- The loop's invariant: k blocks more are done.
use Rattle.std.proofs.Common.{◌≡◌, ℕ, ◌+◌, ◌%◌, ◌^◌, ◌≤◌, List, length}
use Rattle.ctr.specs.Kept.{Kept}
use Rattle.ctr.specs.Long.{Batch}
use Rattle.ctr.proofs.long.xor_blocks.Given as goal

abbrev pub invariant-loop-k : goal.invariant-loop-k
invariant-loop-k l =
    (l.k ≤ l.m) × (length l.text ≡ length l.initial.text)
    × ((ciph : ℕ → List ℕ) (nonce : List ℕ) (counter : ℕ) (all : List ℕ) (c : ℕ) → Batch ciph nonce c 32 l.s
    → Kept ciph nonce counter all l.initial.text c l.i → Kept ciph nonce counter all l.text ((c + l.k) % 2 ^ 32) (l.i + l.k))
