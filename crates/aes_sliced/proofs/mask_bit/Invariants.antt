use Rattle.std.proofs.Common.{◌≡◌, ◌≤◌, length}
use Rattle.aes_sliced.specs.Masks.{mask_bit_of}
use Rattle.aes_sliced.proofs.mask_bit.Given as goal

abbrev pub invariant-loop-i : goal.invariant-loop-i
invariant-loop-i l = (l.i ≤ l.words) × ((length l.k ≡ 1920) × (l.k ≡ mask_bit_of l.initial.k l.w l.b l.i))
