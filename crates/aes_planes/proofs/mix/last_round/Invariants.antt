use mathlib.Core.Path.{◌≡◌}
use Prim.Native.Nat.{◌*◌, ◌≤◌}
use lib.ListN.{length}
use Rattle.aes_planes.specs.Mix.{last_of}
use Rattle.aes_planes.proofs.mix.last_round.Given as goal

abbrev pub invariant-loop-b : goal.invariant-loop-b
invariant-loop-b l = (l.b ≤ 8) × ((length l.s ≡ 128) × (l.s ≡ last_of l.initial.s l.t l.k (4 * l.r) l.b))
