-- The test of the rest from here is the test of the whole.
use mathlib.Core.Path.{◌≡◌}
use Prim.Native.Nat.{◌-◌}
use lib.ListN.{drop}
use Rattle.settings_write.specs.Writing.{size_of, before, given, are_writable, all_writable}
use Rattle.settings_write.proofs.are_writable.Given as goal

abbrev pub invariant-loop-number : goal.invariant-loop-number
invariant-loop-number l =
    (l.rest ≡ drop (before l.settings l.number-index) l.bodies)
    × (are_writable (given l.settings l.bodies) (size_of l.settings - l.number-index) l.number-index l.least ≡ all_writable (given l.settings l.bodies))
