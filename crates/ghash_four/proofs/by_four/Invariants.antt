-- The loop's invariant: GHASH from z over the blocks that are left is GHASH over all.
use mathlib.Core.Path.{◌≡◌}
use Prim.Native.Nat.{◌*◌, ◌≤◌}
use lib.ListN.{drop}
use Rattle.ghash.specs.Ghash.{blocks, ghash_from}
use Rattle.ghash.specs.Table.{key_in}
use Rattle.ghash.specs.Words.{block_of}
use Rattle.ghash_four.proofs.by_four.Given as goal

abbrev pub invariant-loop-i : goal.invariant-loop-i
invariant-loop-i l =
    (l.i ≤ l.n) × (ghash_from (key_in l.t) (block_of l.z) (blocks (drop (64 * l.i) l.s)) ≡ ghash_from (key_in l.t) (block_of l.initial.z) (blocks l.s))
