-- BLAKE3, sections 2.1 and 2.3 to 2.6: the tree, the modes, chunks, parents and output.
use Rattle.std.specs.Prelude.{true, false, List, ◌++◌, ℕ, zero, suc, ◌+◌, ◌-◌, ◌*◌, ◌/◌, ◌^◌, leb, length, take, drop}
use Rattle.blake3_compression.specs.Compression.{first_eight}
use Rattle.blake3.specs.Words.{block_words, word_bytes}
use Rattle.blake3_compression.specs.Compression.{iv, compressed}

-- ---- the flags (table 3): each is a bit of its own, so that they are set by adding

abbrev pub chunk_start : ℕ
chunk_start = 1

abbrev pub chunk_end : ℕ
chunk_end = 2

abbrev pub parent : ℕ
parent = 4

abbrev pub root : ℕ
root = 8

abbrev pub keyed_hash : ℕ
keyed_hash = 16

abbrev pub derive_key_context : ℕ
derive_key_context = 32

abbrev pub derive_key_material : ℕ
derive_key_material = 64

-- ---- nodes

-- a node is the input of its last compression, which takes the flag of the root if it is that
pub record Node : Type 0 where
  pub h : List ℕ
  pub m : List ℕ
  pub t : ℕ
  pub b : ℕ
  pub d : ℕ

unfoldable pub chaining_value : Node → List ℕ
chaining_value n = first_eight (compressed n.h n.m n.t n.b n.d)

-- ---- chunks (2.4)

-- a chunk from a block on that has n blocks behind it; st is chunk_start for the first block, and 0
unfoldable pub blocks : ℕ → List ℕ → ℕ → ℕ → ℕ → List ℕ → Node
blocks zero h t d st s = record { h = h; m = block_words s; t = t; b = length s; d = d + st + chunk_end }
blocks (suc n) h t d st s =
    blocks n (first_eight (compressed h (block_words (take 64 s)) t 64 (d + st))) t d 0 (drop 64 s)

-- chunk t, of at most 1,024 bytes: blocks of 64, the last of 1 to 64, or one empty block
unfoldable pub chunk : List ℕ → ℕ → ℕ → List ℕ → Node
chunk k d t s = blocks ((length s - 1) / 64) k t d chunk_start s

-- ---- parents (2.5)

unfoldable pub parent_node : List ℕ → ℕ → List ℕ → List ℕ → Node
parent_node k d left right =
    record { h = k; m = first_eight left ++ first_eight right; t = 0; b = 64; d = d + parent }

-- ---- the tree (2.1)

-- over at most 2^n chunks, the first of which has the number t: the left part takes the largest power of two of chunks that
-- leaves something for the right
unfoldable pub tree : ℕ → List ℕ → ℕ → ℕ → List ℕ → Node
tree zero k d t s = chunk k d t s
tree (suc n) k d t s =
    elim (leb (length s) (1024 * 2 ^ n)) [
      | true ↦ tree n k d t s
      | false ↦ parent_node k d
          (chaining_value (tree n k d t (take (1024 * 2 ^ n) s)))
          (chaining_value (tree n k d (t + 2 ^ n) (drop (1024 * 2 ^ n) s)))
    ]

-- an input has fewer than 2^64 bytes, 2^54 chunks
unfoldable pub root_of : List ℕ → ℕ → List ℕ → Node
root_of k d s = tree 54 k d 0 s

-- ---- output (2.6)

-- the words of output block t, which are 64 bytes
unfoldable pub output_words : Node → ℕ → List ℕ
output_words n t = compressed n.h n.m t n.b (n.d + root)

-- the first 64 bytes
unfoldable pub output : Node → List ℕ
output n = word_bytes (output_words n 0)

-- ---- the modes (2.3)

-- hash: 32 bytes
unfoldable pub hash : List ℕ → List ℕ
hash s = take 32 (output (root_of iv 0 s))

-- the key words that a context gives: its first 32 bytes of output
unfoldable pub context_key : List ℕ → List ℕ
context_key context = first_eight (output_words (root_of iv derive_key_context context) 0)

-- derive_key at such key words
unfoldable pub derive_at : List ℕ → List ℕ → List ℕ
derive_at k material = output (root_of k derive_key_material material)

-- derive_key: the first 64 bytes
unfoldable pub derive_key : List ℕ → List ℕ → List ℕ
derive_key context material = derive_at (context_key context) material
