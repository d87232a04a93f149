use mathlib.Core.Path.{◌≡◌}
use Prim.Native.Nat.{◌≤◌}
use lib.ListN.{length}
use Rattle.aes_turn.specs.Turn.{stage_of}
use Rattle.aes_turn.proofs.stage.Given as goal

abbrev pub invariant-loop-i : goal.invariant-loop-i
invariant-loop-i l = (l.i ≤ l.n) × ((length l.s ≡ 128) × (l.s ≡ stage_of l.initial.s l.d l.m l.i))
