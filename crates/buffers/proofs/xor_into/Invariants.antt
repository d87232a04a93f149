-- The loop's invariant: the bytes passed are done, as if `with` ended there.
use mathlib.Core.Path.{◌≡◌}
use lib.ListN.{take}
use Rattle.buffers.specs.Buffers.{◌⊞◌}
use Rattle.buffers.proofs.xor_into.Given as goal

abbrev pub invariant-loop-i : goal.invariant-loop-i
invariant-loop-i l = l.out ≡ l.initial.out ⊞ take l.i l.with
