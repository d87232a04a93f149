-- A chunk's blocks, one by one.
-- Assumes nothing.
use mathlib.Core.Path.{◌≡◌, sym, ap}
use mathlib.Core.List.{List}
use Prim.Native.Nat.{ℕ, suc, ◌+◌, ◌-◌, ◌/◌, ◌<◌, ◌≤◌}
use native.Mathlib.Nat.{zero-add, le_of_eq}
use native.Mathlib.Omega.{arith}
use lib.ListN.{length, take, drop, length-drop}
use lib.Seq.{drop-drop, take_all}
use Rattle.blake3_compression.specs.Compression.{first_eight, compressed}
use Rattle.blake3.specs.Words.{block_words}
use Rattle.blake3.specs.Tree.{blocks}

-- how many blocks stand behind the one at `at`
abbrev pub behind : List ℕ → ℕ → ℕ
behind s at = (length s - at - 1) / 64

module _ (h : List ℕ) (t st : ℕ) (s : List ℕ) (at : ℕ) where
  -- a whole block that is not the last, and the chaining value r behind it
  pub blocks_more : {r : List ℕ} → 64 < length s - at → r ≡ first_eight (compressed h (block_words (take 64 (drop at s))) t 64 st)
      → blocks (behind s (at + 64)) r t 0 0 (drop (at + 64) s) ≡ blocks (behind s at) h t 0 st (drop at s)
  unfolding blocks
  blocks_more more q =
      let e : behind s at ≡ suc (behind s (at + 64)) = omega arith in
      rw (e, ← drop-drop 64 at s, q)
      (ap (λ (d : ℕ). blocks (behind s (at + 64)) (first_eight (compressed h (block_words (take 64 (drop at s))) t 64 d)) t 0 0 (drop 64 (drop at s)))
      (sym (zero-add st)))

  pub last_block : length s - at ≤ 64
      → blocks (behind s at) h t 0 st (drop at s)
      ≡ record { h = h; m = block_words (take (length s - at) (drop at s)); t = t; b = length s - at; d = st + 2 }
  unfolding blocks
  last_block last =
      let e : behind s at ≡ 0 = omega arith in
      let w : take (length s - at) (drop at s) ≡ drop at s =
      take_all (length s - at) (drop at s) (le_of_eq (length-drop at s)) in
      rw (e, length-drop, w, zero-add)
