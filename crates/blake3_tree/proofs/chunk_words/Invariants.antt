-- The loop's invariant: the blocks from here on give the whole chunk.
use mathlib.Core.Path.{◌≡◌}
use Prim.Native.Nat.{◌≤◌}
use lib.ListN.{length}
use Rattle.blake3_compression.specs.Compression.{iv}
use Rattle.blake3.specs.Tree.{chunk}
use Rattle.blake3_tree.proofs.ChunkLaws.{blocks_of}
use Rattle.blake3_tree.proofs.chunk_words.Given as goal

abbrev pub invariant-loop-rest : goal.invariant-loop-rest
invariant-loop-rest l = (l.d ≤ 1) × (blocks_of l.h l.t l.d l.rest ≡ chunk iv 0 l.t l.s)

abbrev pub decreases-loop-rest : goal.decreases-loop-rest
decreases-loop-rest l = length l.rest
