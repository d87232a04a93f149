-- The bodies before a setting and what is left are all bodies.
use mathlib.Core.Path.{◌≡◌}
use Prim.Native.Nat.{◌+◌}
use Rattle.settings_write.specs.Writing.{before}
use Rattle.settings_write.proofs.describes.Given as goal

abbrev pub invariant-loop-len : goal.invariant-loop-len
invariant-loop-len l = before l.settings l.len-index + l.left ≡ l.bodies
