-- The tree over four whole chunks.
-- Assumes nothing.
use mathlib.Core.Path.{◌≡◌, refl, sym, ap, ap₂, ◌∙◌}
use mathlib.Core.List.{List}
use Prim.Native.Nat.{ℕ, ◌+◌, ◌≤◌}
use native.Mathlib.Nat.{le_of_eq}
use native.Mathlib.Omega.{arith}
use lib.ListN.{length, take, drop, length-drop}
use lib.Seq.{take-take, take_all, drop-drop, length-take-le}
use Rattle.blake3_compression.specs.Compression.{iv}
use Rattle.blake3.specs.Tree.{chunk, chaining_value, parent_node, tree}
use Rattle.blake3_lanes.specs.Lanes.{chunk_at}
use Rattle.blake3_lanes.proofs.BlockLaws.{take_within}
use Rattle.blake3_tree.specs.Subtree.{last_words}
use Rattle.blake3_tree.proofs.JoinLaws.{last_none, one_chunk, joins}

-- a whole chunk's chaining value
chunk-value : (t : ℕ) (s : List ℕ) {v : List ℕ} → length s ≡ 1024 → v ≡ chaining_value (chunk iv 0 t s) → v ≡ last_words (tree 54 iv 0 t s) 0
chunk-value t s l e = one_chunk t 0 s (le_of_eq l) (e ∙ sym (last_none (chunk iv 0 t s)))

module _ (t f : ℕ) (s : List ℕ) (l : length s ≡ 2048) where
  two-chunks : {v w r : List ℕ} → v ≡ chaining_value (chunk iv 0 t (take 1024 s)) → w ≡ chaining_value (chunk iv 0 (t + 1) (take 1024 (drop 1024 s)))
      → r ≡ last_words (parent_node iv 0 v w) f → r ≡ last_words (tree 54 iv 0 t s) f
  two-chunks e g q =
      let n : length (drop 1024 s) ≤ 1024 = omega (arith, length-drop 1024 s) in
      joins t f s 1024 (record { k = 0; size = refl; below = omega arith; above = omega arith }) (omega arith)
      (chunk-value t (take 1024 s) (length-take-le 1024 s (omega arith)) e)
      (chunk-value (t + 1) (take 1024 (drop 1024 s)) (length-take-le 1024 (drop 1024 s) (omega (arith, length-drop 1024 s))) g
      ∙ ap (λ (c : List ℕ). last_words (tree 54 iv 0 (t + 1) c) 0) (take_all 1024 (drop 1024 s) n))
      q

module _ (t f : ℕ) (s : List ℕ) (l : length s ≡ 4096) where
  left-chunks : {v w r : List ℕ} → v ≡ chaining_value (chunk iv 0 (t + 0) (chunk_at s 0)) → w ≡ chaining_value (chunk iv 0 (t + 1) (chunk_at s 1))
      → r ≡ last_words (parent_node iv 0 v w) 0 → r ≡ last_words (tree 54 iv 0 t (take 2048 s)) 0
  left-chunks e g q =
      let z : t + 0 ≡ t = omega arith in
      two-chunks t 0 (take 2048 s) (length-take-le 2048 s (omega arith))
      (e ∙ ap₂ (λ (k : ℕ) (c : List ℕ). chaining_value (chunk iv 0 k c)) z (sym (take-take 1024 2048 s (omega arith))))
      (g ∙ ap (λ (c : List ℕ). chaining_value (chunk iv 0 (t + 1) c)) (sym (take_within 1024 1024 2048 s (omega arith))))
      q

  right-chunks : {v w r : List ℕ} → v ≡ chaining_value (chunk iv 0 (t + 2) (chunk_at s 2)) → w ≡ chaining_value (chunk iv 0 (t + 3) (chunk_at s 3))
      → r ≡ last_words (parent_node iv 0 v w) 0 → r ≡ last_words (tree 54 iv 0 (t + 2) (drop 2048 s)) 0
  right-chunks e g q =
      let z : t + 3 ≡ t + 2 + 1 = omega arith in
      let n : length (drop 2048 s) ≡ 2048 = omega (arith, length-drop 2048 s) in
      two-chunks (t + 2) 0 (drop 2048 s) n e
      (g ∙ ap₂ (λ (k : ℕ) (c : List ℕ). chaining_value (chunk iv 0 k c)) z (ap (take 1024) (sym (drop-drop 1024 2048 s))))
      q

  -- the values of the four chunks, of the pairs and of all, as the code has them
  pub four : {v₀ v₁ v₂ v₃ left right r : List ℕ}
      → v₀ ≡ chaining_value (chunk iv 0 (t + 0) (chunk_at s 0)) → v₁ ≡ chaining_value (chunk iv 0 (t + 1) (chunk_at s 1))
      → v₂ ≡ chaining_value (chunk iv 0 (t + 2) (chunk_at s 2)) → v₃ ≡ chaining_value (chunk iv 0 (t + 3) (chunk_at s 3))
      → left ≡ last_words (parent_node iv 0 v₀ v₁) 0 → right ≡ last_words (parent_node iv 0 v₂ v₃) 0
      → r ≡ last_words (parent_node iv 0 left right) f → r ≡ last_words (tree 54 iv 0 t s) f
  four e₀ e₁ e₂ e₃ p q w =
      joins t f s 2048 (record { k = 1; size = refl; below = omega arith; above = omega arith }) (omega arith)
      (left-chunks e₀ e₁ p)
      (right-chunks e₂ e₃ q)
      w
