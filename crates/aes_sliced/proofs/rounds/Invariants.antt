use Rattle.std.proofs.Common.{◌≡◌, ℕ, ◌<◌, ◌≤◌, List, length}
use Rattle.aes_planes.specs.State.{block_at}
use Rattle.aes_sliced.specs.Rounds.{done_of, Keys}
use Rattle.aes_sliced.proofs.rounds.Given as goal

abbrev pub invariant-loop-r : goal.invariant-loop-r
invariant-loop-r l =
    (l.r ≤ l.n) × ((length l.s ≡ 128) × ((length l.t ≡ 256)
    × ((w : List (List ℕ)) (i : ℕ) → Keys w l.n l.k → i < 32 → block_at i l.s ≡ done_of w l.n l.r (block_at i l.initial.s))))
