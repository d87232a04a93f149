-- The hash is the bytes of the root's first eight words.
-- Assumes nothing.
use mathlib.Core.Path.{◌≡◌, refl, ap, ◌∙◌}
use mathlib.Core.Bool.{Bool, true, false}
use mathlib.Core.List.{List}
use Prim.Native.Nat.{ℕ, zero, suc, ◌+◌, ◌-◌, ◌*◌, ◌/◌, ◌^◌, ◌≤◌}
use lib.Dec.{leb}
use lib.ListN.{length, take, drop, replicate}
use Rattle.octets.specs.Buffers.{put}
use Rattle.octets.specs.Numbers.{to_le}
use Rattle.octets.proofs.BufferLaws.{put_whole}
use Rattle.blake3_compression.specs.Compression.{first_eight, compressed, final, iv}
use Rattle.blake3.specs.Words.{word_bytes}
use Rattle.blake3.specs.Tree.{Node, blocks, chunk, chaining_value, parent_node, tree, root_of, output_words, output, hash}
use Rattle.blake3_tree.specs.Subtree.{last_words}

-- ---- the root's counter is 0, as that of its first block of output is

blocks-counter : (n : ℕ) (h : List ℕ) (t d st : ℕ) (s : List ℕ) → (blocks n h t d st s).t ≡ t
unfolding blocks
blocks-counter zero h t d st s = refl
blocks-counter (suc n) h t d st s = blocks-counter n _ t d 0 (drop 64 s)

tree-counter : (n : ℕ) (k : List ℕ) (d : ℕ) (s : List ℕ) → (tree n k d 0 s).t ≡ 0
unfolding tree chunk parent_node
tree-counter zero k d s = blocks-counter ((length s - 1) / 64) k 0 d 1 s
tree-counter (suc n) k d s = go (leb (length s) (1024 * 2 ^ n)) (tree n k d 0 s) (tree-counter n k d s)
  where
    go : (b : Bool) (x : Node) → x.t ≡ 0
        → (elim b as (λ _. Node) [
          | true ↦ x
          | false ↦ parent_node k d (chaining_value (tree n k d 0 (take (1024 * 2 ^ n) s)))
              (chaining_value (tree n k d (0 + 2 ^ n) (drop (1024 * 2 ^ n) s)))
        ]
        ).t ≡ 0
    go true x h = h
    go false x h = refl

-- ---- 32 bytes of output

half-bytes : (h m : List ℕ) (t b d : ℕ) → word_bytes (first_eight (compressed h m t b d)) ≡ take 32 (word_bytes (compressed h m t b d))
unfolding word_bytes to_le first_eight compressed final
half-bytes h m t b d = refl

module _ (s : List ℕ) where
  root-bytes : word_bytes (last_words (tree 54 iv 0 0 s) 8) ≡ hash s
  unfolding last_words hash output output_words root_of
  root-bytes =
      let n = tree 54 iv 0 0 s in
      half-bytes n.h n.m n.t n.b (n.d + 8)
      ∙ ap (λ (t : ℕ). take 32 (word_bytes (compressed n.h n.m t n.b (n.d + 8)))) (tree-counter 54 iv 0 s)

  -- as the code has them: the words w, and what is left of a buffer of zeros
  pub hashed : {w out : List ℕ} → 32 ≤ length (word_bytes w) → w ≡ last_words (tree 54 iv 0 0 s) 8
      → out ≡ put (replicate 32 0) 0 (word_bytes w) → out ≡ hash s
  hashed {w} l e q = q ∙ put_whole (replicate 32 0) (word_bytes w) l ∙ ap word_bytes e ∙ root-bytes
