use Rattle.std.proofs.Common.{◌/◌, length, ◌+◌}
use Rattle.blake3_tree.proofs.+subtree.Given as goal

-- The number of chunks.
abbrev pub decreases-subtree : goal.decreases-subtree
decreases-subtree l = (length l.s.now + 1023) / 1024
