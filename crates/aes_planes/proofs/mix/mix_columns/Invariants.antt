use mathlib.Core.Path.{◌≡◌}
use Prim.Native.Nat.{◌*◌, ◌≤◌}
use lib.ListN.{length}
use Rattle.aes_planes.specs.Mix.{columns_of}
use Rattle.aes_planes.proofs.mix.mix_columns.Given as goal

abbrev pub invariant-loop-j : goal.invariant-loop-j
invariant-loop-j l = (l.j ≤ 4) × ((length l.s ≡ 128) × (l.s ≡ columns_of l.initial.s l.t l.k (4 * l.r) l.j))
