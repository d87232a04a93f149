-- The loop's invariant: j parts are made, and v is the hash key after 4 * j steps.
use mathlib.Core.Path.{◌≡◌}
use Prim.Native.Nat.{◌*◌, ◌≤◌}
use Rattle.ghash.specs.Table.{Made, steps}
use Rattle.ghash.specs.Words.{block_of}
use Rattle.ghash.proofs.product.write_table.Given as goal

abbrev pub invariant-loop-j : goal.invariant-loop-j
invariant-loop-j l = (l.j ≤ 4) × (block_of l.v ≡ steps (4 * l.j) (block_of l.initial.v)) × Made l.t (block_of l.initial.v) l.j
