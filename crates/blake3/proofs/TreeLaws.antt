-- The tree over some bytes: that of fewer levels, or the parent of two. Over one block it is the block's own chunk.
-- Assumes nothing.
use mathlib.Core.Path.{◌≡◌, sym, ap, ◌∙◌}
use mathlib.Core.List.{List}
use Prim.Native.Nat.{ℕ, zero, suc, ◌+◌, ◌-◌, ◌*◌, ◌/◌, ◌^◌, ◌<◌, ◌≤◌}
use native.Mathlib.Nat.{suc-add, zero-add, le_trans, le-add_left, mul-le-mul_left}
use native.Mathlib.Omega.{arith}
use borrow.Author.Tests.{le-leb, lt-leb}
use lib.ListN.{length, take, drop}
use lib.Pow.{pow_mono}
use Rattle.blake3.specs.Words.{block_words}
use Rattle.blake3_compression.specs.Compression.{compressed}
use Rattle.blake3.specs.Tree.{Node, blocks, chunk, chaining_value, parent_node, tree, root_of, output_words}

module _ (k : List ℕ) (d t : ℕ) (s : List ℕ) where
  tree-down : (n : ℕ) → length s ≤ 1024 * 2 ^ n → tree (suc n) k d t s ≡ tree n k d t s
  unfolding tree
  tree-down n h = rw (le-leb (length s) (1024 * 2 ^ n) h, tree)

  pub tree-split : (n : ℕ) → 1024 * 2 ^ n < length s
      → tree (suc n) k d t s
      ≡ parent_node k d
      (chaining_value (tree n k d t (take (1024 * 2 ^ n) s)))
      (chaining_value (tree n k d (t + 2 ^ n) (drop (1024 * 2 ^ n) s)))
  unfolding tree
  tree-split n h = rw (lt-leb (length s) (1024 * 2 ^ n) h, tree)

  -- levels above the bytes' own change nothing
  pub tree-fits : (j n : ℕ) → length s ≤ 1024 * 2 ^ n → tree (j + n) k d t s ≡ tree n k d t s
  tree-fits zero n h = ap (λ (l : ℕ). tree l k d t s) (zero-add n)
  tree-fits (suc j) n h =
      ap (λ (l : ℕ). tree l k d t s) (suc-add j n)
      ∙ tree-down (j + n) (le_trans h (mul-le-mul_left 1024 (pow_mono (le-add_left n j))))
      ∙ tree-fits j n h

  pub tree-chunk : (j : ℕ) → length s ≤ 1024 → tree (j + 0) k d t s ≡ chunk k d t s
  unfolding tree
  tree-chunk j h = tree-fits j 0 h

module _ (k : List ℕ) (d : ℕ) (s : List ℕ) (h : length s ≤ 64) where
  one_block : root_of k d s ≡ record { h = k; m = block_words s; t = 0; b = length s; d = d + 1 + 2 }
  unfolding root_of chunk blocks
  one_block =
      let e : (length s - 1) / 64 ≡ 0 = omega arith in
      tree-chunk k d 0 s 54 (omega arith) ∙ ap (λ (n : ℕ). blocks n k 0 d 1 s) e

  -- the output's first words r, as the code has them, from the block's words m
  pub output-block : {m r : List ℕ} → m ≡ block_words s → r ≡ compressed k m 0 (length s) (d + 1 + 2 + 8)
      → r ≡ output_words (root_of k d s) 0
  unfolding output_words
  output-block e f =
      f ∙ ap (λ (m : List ℕ). compressed k m 0 (length s) (d + 1 + 2 + 8)) e
      ∙ sym (ap (λ (n : Node). compressed n.h n.m 0 n.b (n.d + 8)) one_block)
