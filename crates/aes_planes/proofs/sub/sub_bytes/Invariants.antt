use mathlib.Core.Path.{◌≡◌}
use Prim.Native.Nat.{◌-◌}
use lib.ListN.{length}
use Rattle.aes_planes.specs.Sub.{sub_of}
use Rattle.aes_planes.proofs.sub.sub_bytes.Given as goal

-- the rows from l.r on are done
abbrev pub invariant-loop-r : goal.invariant-loop-r
invariant-loop-r l = (length l.t ≡ 256) × (l.t ≡ sub_of l.initial.t l.s (4 - l.r))
