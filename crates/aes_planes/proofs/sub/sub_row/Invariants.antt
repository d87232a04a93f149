use mathlib.Core.Path.{◌≡◌}
use Prim.Native.Nat.{◌≤◌}
use lib.ListN.{length}
use Rattle.aes_planes.specs.Sub.{row_of}
use Rattle.aes_planes.proofs.sub.sub_row.Given as goal

abbrev pub invariant-loop-j : goal.invariant-loop-j
invariant-loop-j l = (l.j ≤ 4) × ((length l.t ≡ 256) × (l.t ≡ row_of l.initial.t l.s l.r l.j))
