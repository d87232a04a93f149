use Rattle.std.proofs.Common.{◌≡◌, ◌+◌, ◌*◌, ◌≤◌, length}
use Rattle.aes_sliced.specs.Masks.{masks_of}
use Rattle.aes_sliced.proofs.masks.Given as goal

abbrev pub invariant-loop-b : goal.invariant-loop-b
invariant-loop-b l = (l.b ≤ 32) × ((length l.k ≡ 1920) × (l.k ≡ masks_of l.initial.k l.w (4 * l.n + 4) l.b))
