use Rattle.std.proofs.Common.{◌≡◌, ◌≤◌, length}
use Rattle.aes_sliced.specs.Blocks.{first_of}
use Rattle.aes_sliced.proofs.first_key.Given as goal

abbrev pub invariant-loop-i : goal.invariant-loop-i
invariant-loop-i l = (l.i ≤ 32) × ((length l.s ≡ 128) × (l.s ≡ first_of l.initial.s l.k l.i))
