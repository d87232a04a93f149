-- The bytes of words, put into a buffer word by word.
-- Assumes nothing.
use mathlib.Core.Path.{◌≡◌, refl, sym, ap, ◌∙◌}
use mathlib.Core.List.{List, [], ◌∷◌, ◌++◌, append_assoc, append-nil}
use Prim.Native.Nat.{ℕ, ◌+◌, ◌*◌, ◌<◌, ◌≤◌}
use native.Mathlib.Nat.{zero-add, le_of_lt}
use native.Mathlib.Numerals.{add-one}
use native.Mathlib.Omega.{arith}
use lib.ListN.{length, get_or, take, length-append}
use lib.Seq.{take-suc, take_all, length-take-le}
use Rattle.octets.specs.Buffers.{Octets, put}
use Rattle.octets.specs.Numbers.{to_le}
use Rattle.octets.proofs.BufferLaws.{octets-nil, octets-append, put-put}
use Rattle.octets.proofs.NumberLaws.{length-to_le, octets-to_le}
use Rattle.blake3.specs.Words.{word_bytes}

pub length-word_bytes : (ws : List ℕ) → length (word_bytes ws) ≡ 4 * length ws
unfolding word_bytes
length-word_bytes [] = refl
length-word_bytes (w ∷ ws) =
    length-append (to_le 4 w) (word_bytes ws) ∙ omega (arith, length-to_le 4 w, length-word_bytes ws)

word_bytes-snoc : (ws : List ℕ) (w : ℕ) → word_bytes (ws ++ w ∷ []) ≡ word_bytes ws ++ to_le 4 w
unfolding word_bytes
word_bytes-snoc [] w = append-nil (to_le 4 w)
word_bytes-snoc (v ∷ ws) w =
    ap (λ (s : List ℕ). to_le 4 v ++ s) (word_bytes-snoc ws w) ∙ sym (append_assoc (to_le 4 v) (word_bytes ws) (to_le 4 w))

pub octets-word_bytes : (ws : List ℕ) → Octets (word_bytes ws)
unfolding word_bytes
octets-word_bytes [] = octets-nil
octets-word_bytes (w ∷ ws) = octets-append (to_le 4 w) (word_bytes ws) (octets-to_le 4 w) (octets-word_bytes ws)

-- one word more
module _ (d ws : List ℕ) (i : ℕ) (more : i < length ws) (room : 4 * length ws ≤ length d) where
  size : 0 + length (word_bytes (take i ws)) ≡ 4 * i
  size =
      zero-add (length (word_bytes (take i ws))) ∙ length-word_bytes (take i ws)
      ∙ ap (λ (n : ℕ). 4 * n) (length-take-le i ws (le_of_lt more))

  put-one-more : put (put d 0 (word_bytes (take i ws))) (4 * i) (to_le 4 (get_or ws i 0)) ≡ put d 0 (word_bytes (take (i + 1) ws))
  put-one-more =
      ap (λ (n : ℕ). put (put d 0 (word_bytes (take i ws))) n (to_le 4 (get_or ws i 0))) (sym size)
      ∙ put-put d 0 (word_bytes (take i ws)) (omega (arith, size)) (to_le 4 (get_or ws i 0))
      ∙ ap (put d 0)
      (sym (word_bytes-snoc (take i ws) (get_or ws i 0))
      ∙ ap word_bytes (sym (take-suc ws i 0 more) ∙ ap (λ (n : ℕ). take n ws) (sym (add-one i))))

  pub put_word : {v w : List ℕ} → v ≡ put d 0 (word_bytes (take i ws)) → w ≡ put v (4 * i) (to_le 4 (get_or ws i 0))
      → w ≡ put d 0 (word_bytes (take (i + 1) ws))
  put_word p q = q ∙ ap (λ (o : List ℕ). put o (4 * i) (to_le 4 (get_or ws i 0))) p ∙ put-one-more

pub put-words : (d ws : List ℕ) (n : ℕ) {v : List ℕ} → length ws ≤ n → v ≡ put d 0 (word_bytes (take n ws)) → v ≡ put d 0 (word_bytes ws)
put-words d ws n h p = p ∙ ap (λ (s : List ℕ). put d 0 (word_bytes s)) (take_all n ws h)
