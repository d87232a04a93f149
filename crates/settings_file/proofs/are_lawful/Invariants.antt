-- The test of the settings from here on is the test of all.
-- Assumes nothing.
use mathlib.Core.Path.{◌≡◌}
use Prim.Native.Nat.{◌-◌}
use Rattle.settings_rules.specs.Contents.{are_lawful, all_lawful}
use Rattle.settings_file.specs.Format.{contents_of}
use Rattle.settings_file.proofs.are_lawful.Given as goal

abbrev pub invariant-loop-i : goal.invariant-loop-i
invariant-loop-i l = (are_lawful (contents_of l.s) (l.n - l.i) l.i l.least ≡ all_lawful (contents_of l.s))
