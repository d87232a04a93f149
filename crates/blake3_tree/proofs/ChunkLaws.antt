-- A chunk's blocks, one by one, as the code has them.
-- Assumes nothing.
use mathlib.Core.Path.{◌≡◌, sym, ap, ◌∙◌}
use mathlib.Core.List.{List}
use Prim.Native.Nat.{ℕ, suc, ◌+◌, ◌-◌, ◌/◌, ◌<◌, ◌≤◌}
use native.Mathlib.Nat.{zero-add}
use native.Mathlib.Omega.{arith}
use lib.ListN.{length, take, drop, length-drop}
use Rattle.blake3_compression.specs.Compression.{first_eight, compressed}
use Rattle.blake3.specs.Words.{block_words}
use Rattle.blake3.specs.Tree.{Node, blocks}
use Rattle.blake3_tree.specs.Subtree.{last_words}

-- the blocks of s
abbrev pub blocks_of : List ℕ → ℕ → ℕ → List ℕ → Node
blocks_of h t st s = blocks ((length s - 1) / 64) h t 0 st s

module _ (h : List ℕ) (t st : ℕ) (s : List ℕ) where
  -- a whole block that is not the last, and the chaining value r behind it
  pub one_block_more : {r : List ℕ} → 64 < length s → r ≡ first_eight (compressed h (block_words (take 64 s)) t 64 st)
      → blocks_of r t 0 (drop 64 s) ≡ blocks_of h t st s
  unfolding blocks
  one_block_more more q =
      let e : (length s - 1) / 64 ≡ suc ((length (drop 64 s) - 1) / 64) = omega (arith, length-drop 64 s) in
      rw (e, q)
      (ap (λ (d : ℕ). blocks ((length (drop 64 s) - 1) / 64) (first_eight (compressed h (block_words (take 64 s)) t 64 d)) t 0 0 (drop 64 s))
      (sym (zero-add st)))

  last : length s ≤ 64 → blocks_of h t st s ≡ record { h = h; m = block_words s; t = t; b = length s; d = st + 2 }
  unfolding blocks
  last l =
      let e : (length s - 1) / 64 ≡ 0 = omega arith in
      rw (e, zero-add)

  -- the last block's words m, compressed to o
  pub chunk-last : {m o r : List ℕ} {n : Node} (f : ℕ) → length s ≤ 64 → m ≡ block_words s → o ≡ compressed h m t (length s) (st + 2 + f)
      → r ≡ first_eight o → blocks_of h t st s ≡ n → r ≡ last_words n f
  unfolding last_words
  chunk-last f l e p q whole =
      q ∙ ap first_eight (p ∙ ap (λ (m : List ℕ). compressed h m t (length s) (st + 2 + f)) e)
      ∙ ap (λ (n : Node). last_words n f) (sym (last l) ∙ whole)
