use mathlib.Core.Path.{◌≡◌}
use Prim.Native.Nat.{◌≤◌}
use lib.ListN.{length}
use Rattle.aes_planes.specs.Mix.{last_bit_of}
use Rattle.aes_planes.proofs.mix.last_bit.Given as goal

abbrev pub invariant-loop-j : goal.invariant-loop-j
invariant-loop-j l = (l.j ≤ 4) × ((length l.s ≡ 128) × (l.s ≡ last_bit_of l.initial.s l.t l.k l.n l.b l.j))
