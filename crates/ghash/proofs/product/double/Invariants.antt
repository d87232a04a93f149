-- The loop's invariant: n of the new entries are made, and those before them are as they were.
use mathlib.Core.Path.{◌≡◌}
use Prim.Native.Nat.{◌≤◌}
use lib.ListN.{length}
use Rattle.ghash.specs.Words.{block_of}
use Rattle.ghash.proofs.DoubledLaws.{Making}
use Rattle.ghash.proofs.product.double.Given as goal

abbrev pub invariant-loop-n : goal.invariant-loop-n
invariant-loop-n l = (l.n ≤ l.m) × (length l.t ≡ 128) × Making l.initial.t l.t l.at l.m (block_of l.v) l.n
