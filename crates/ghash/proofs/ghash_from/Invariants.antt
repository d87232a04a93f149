-- The loop's invariant: GHASH from z over what is left is GHASH over all.
use mathlib.Core.Path.{◌≡◌}
use Rattle.ghash.specs.Ghash.{blocks, ghash_from}
use Rattle.ghash.specs.Table.{key_in}
use Rattle.ghash.specs.Words.{block_of}
use Rattle.ghash.proofs.ghash_from.Given as goal

abbrev pub invariant-loop-block : goal.invariant-loop-block
invariant-loop-block l =
    (l.block-iterator.size ≡ 16)
    × (ghash_from (key_in l.t) (block_of l.z) (blocks l.block-iterator.rest.now) ≡ ghash_from (key_in l.t) (block_of l.initial.z) (blocks l.s))
