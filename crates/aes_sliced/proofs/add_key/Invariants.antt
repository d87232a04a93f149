use Rattle.std.proofs.Common.{◌≡◌, ◌≤◌, length}
use Rattle.aes_sliced.specs.Blocks.{add_of}
use Rattle.aes_sliced.proofs.add_key.Given as goal

abbrev pub invariant-loop-j : goal.invariant-loop-j
invariant-loop-j l = (l.j ≤ 4) × ((length l.s ≡ 128) × (l.s ≡ add_of l.initial.s l.k l.i l.j))
