use mathlib.Core.Path.{◌≡◌}
use Prim.Native.Nat.{◌*◌, ◌≤◌}
use lib.ListN.{length}
use Rattle.aes_turn.specs.Turn.{exchange_of}
use Rattle.aes_turn.proofs.exchange.Given as goal

abbrev pub invariant-loop-x : goal.invariant-loop-x
invariant-loop-x l = (l.x ≤ 4 * l.d) × ((length l.s ≡ 128) × (l.s ≡ exchange_of l.initial.s l.at l.d l.m l.x))
