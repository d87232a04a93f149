-- What a tree's code gives of a node, and which part of some bytes is the left one.
use Rattle.std.specs.Prelude.{◌≡◌, List, ℕ, suc, ◌+◌, ◌*◌, ◌^◌, ◌<◌, ◌≤◌}
use Rattle.blake3_compression.specs.Compression.{first_eight, compressed}
use Rattle.blake3.specs.Tree.{Node, root}
use Rattle.blake3_tree.specs.declared.Place.{Place}
use Rattle.blake3_tree.specs.declared.Place.TheVariants.{Inner, Root}

-- the first eight words of a node's last compression, with a flag beside the node's own: none for a chaining value, and the
-- root's for output
unfoldable pub last_words : Node → ℕ → List ℕ
last_words n f = first_eight (compressed n.h n.m n.t n.b (n.d + f))

-- that flag, by the node's place
abbrev pub flag : Place → ℕ
flag Inner = 0
flag Root = root

-- l bytes are the left part of n bytes: the largest power of two of chunks that leaves something for the right
pub record Left (n l : ℕ) : Type 0 where
  pub k : ℕ
  pub size : l ≡ 1024 * 2 ^ k
  pub below : l < n
  pub above : n ≤ 1024 * 2 ^ suc k
