-- The tree over some bytes is that over its left and right parts.
-- Assumes nothing.
use mathlib.Core.Path.{◌≡◌, sym, ap, ap₂, ◌∙◌}
use mathlib.Core.List.{List, ◌++◌}
use Prim.Native.Nat.{ℕ, suc, ◌+◌, ◌-◌, ◌*◌, ◌/◌, ◌^◌, ◌<◌, ◌≤◌}
use native.Mathlib.Nat.{le_trans, mul-le-mul_left, mul-div_cancel_left, lt_of_not-le, not-le_of_lt, pow-suc, add-zero}
use native.Mathlib.Omega.{arith}
use lib.Dec.{lit<}
use lib.ListN.{length, take, drop, length-take, length-drop}
use lib.Pow.{pow_mono, pow_pos}
use Rattle.blake3_compression.specs.Compression.{first_eight, compressed, iv}
use Rattle.blake3.specs.Tree.{Node, chunk, chaining_value, parent_node, tree}
use Rattle.blake3.proofs.TreeLaws.{tree-fits, tree-chunk, tree-split}
use Rattle.blake3_tree.specs.Subtree.{last_words, Left}

pub last_none : (n : Node) → last_words n 0 ≡ chaining_value n
unfolding last_words chaining_value
last_none n = ap (λ (d : ℕ). first_eight (compressed n.h n.m n.t n.b d)) (add-zero n.d)

pub one_chunk : (t f : ℕ) (s : List ℕ) {r : List ℕ} → length s ≤ 1024 → r ≡ last_words (chunk iv 0 t s) f
    → r ≡ last_words (tree 54 iv 0 t s) f
one_chunk t f s h e = e ∙ ap (λ (n : Node). last_words n f) (sym (tree-chunk iv 0 t s 54 h))

-- a parent of the flags d, as the code has it: the words m of its parts compressed to o
pub parent-last : (left right : List ℕ) (f : ℕ) {d : ℕ} {m o r : List ℕ} → m ≡ first_eight left ++ first_eight right
    → o ≡ compressed iv m 0 64 d → r ≡ first_eight o → d ≡ 4 + f → r ≡ last_words (parent_node iv 0 left right) f
unfolding last_words parent_node
parent-last left right f e p q n = q ∙ ap first_eight (p ∙ ap₂ (λ (m : List ℕ) (d : ℕ). compressed iv m 0 64 d) e n)

-- ---- the left part

module _ {n l : ℕ} (h : Left n l) where
  pub left-pos : 0 < l
  left-pos = omega (arith, h.size, pow_pos h.k)

-- ---- its tree and that of the right part

tree-at : (k : List ℕ) (d t : ℕ) (s : List ℕ) (n : ℕ) → n ≤ 54 → length s ≤ 1024 * 2 ^ n → tree 54 k d t s ≡ tree n k d t s
tree-at k d t s n b h =
    let e : 54 ≡ 54 - n + n = omega arith in
    ap (λ (l : ℕ). tree l k d t s) e ∙ tree-fits k d t s (54 - n) n h

level : (k n : ℕ) → 1024 * 2 ^ k < n → n < 2 ^ 63 → k < 53
level k n h b = lt_of_not-le (λ (g : 53 ≤ k). not-le_of_lt b (le_trans (mul-le-mul_left 1024 (pow_mono g)) (omega arith)))

tree-join : (k : List ℕ) (d t : ℕ) (s : List ℕ) (l : ℕ) → Left (length s) l → length s < 2 ^ 63
    → parent_node k d
    (chaining_value (tree 54 k d t (take l s)))
    (chaining_value (tree 54 k d (t + l / 1024) (drop l s)))
    ≡ tree 54 k d t s
tree-join key d t s l h b =
    let k = h.k in
    let p : 1024 * 2 ^ k < length s = rw h.size at h.below in
    let q : k < 53 = level k (length s) p b in
    let a : length s ≤ 1024 * 2 ^ k + 1024 * 2 ^ k = omega (arith, h.above, pow-suc 2 k) in
    rw (h.size, mul-div_cancel_left (2 ^ k) {n = 1024} (lit< tt))
    (ap₂ (λ (x y : Node). parent_node key d (chaining_value x) (chaining_value y))
    (tree-at key d t (take (1024 * 2 ^ k) s) k (omega arith) (omega (arith, length-take (1024 * 2 ^ k) s)))
    (tree-at key d (t + 2 ^ k) (drop (1024 * 2 ^ k) s) k (omega arith) (omega (arith, length-drop (1024 * 2 ^ k) s)))
    ∙ sym (tree-at key d t s (suc k) (omega arith) h.above ∙ tree-split key d t s k p))

-- the parent's words r, from the parts' chaining values
pub joins : (t f : ℕ) (s : List ℕ) (l : ℕ) {left right r : List ℕ} → Left (length s) l → length s < 2 ^ 63
    → left ≡ last_words (tree 54 iv 0 t (take l s)) 0 → right ≡ last_words (tree 54 iv 0 (t + l / 1024) (drop l s)) 0
    → r ≡ last_words (parent_node iv 0 left right) f → r ≡ last_words (tree 54 iv 0 t s) f
joins t f s l h b e g q =
    q ∙ ap (λ (n : Node). last_words n f)
    (ap₂ (parent_node iv 0)
    (e ∙ last_none (tree 54 iv 0 t (take l s)))
    (g ∙ last_none (tree 54 iv 0 (t + l / 1024) (drop l s)))
    ∙ tree-join iv 0 t s l h b)

-- as the code has them, of the parts a and b
pub joins-parts : (t f : ℕ) (s : List ℕ) (l : ℕ) {a b left right r : List ℕ} → Left (length s) l → length s < 2 ^ 63
    → a ≡ take l s → length a ≡ l → b ≡ drop l s
    → left ≡ last_words (tree 54 iv 0 t a) 0 → right ≡ last_words (tree 54 iv 0 (t + length a / 1024) b) 0
    → r ≡ last_words (parent_node iv 0 left right) f → r ≡ last_words (tree 54 iv 0 t s) f
joins-parts t f s l h m ea n eb e g q =
    joins t f s l h m (e ∙ ap (λ (x : List ℕ). last_words (tree 54 iv 0 t x) 0) ea)
    (g ∙ ap₂ (λ (k : ℕ) (x : List ℕ). last_words (tree 54 iv 0 (t + k / 1024) x) 0) n eb) q
