-- The entries passed are in place.
use mathlib.Core.Path.{◌≡◌}
use Prim.Native.Nat.{◌+◌}
use Rattle.octets.specs.Buffers.{put}
use Rattle.settings_file.specs.Format.{place_of}
use Rattle.settings_write.specs.Writing.{size_of, before, entries}
use Rattle.settings_write.proofs.write_entries.Given as goal

abbrev pub invariant-loop-i : goal.invariant-loop-i
invariant-loop-i l =
    (l.offset ≡ place_of (size_of l.settings) + before l.settings l.i) × (l.out ≡ put l.initial.out 4 (entries l.settings l.i 0))
