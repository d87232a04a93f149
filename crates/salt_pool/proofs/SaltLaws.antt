-- A record has no salt but the one that was stored in it: salts of one length, 16 or 32 bytes, with the same words are one salt.
-- Assumes nothing.
use Prim.Native.Nat.{ℕ, ◌+◌, ◌*◌, ◌^◌, ◌<◌}
use native.Mathlib.Omega.{arith}
use mathlib.Core.Bool.{Bool, true, false, ◌&&◌, ◌||◌, and-eq-true_iff}
use mathlib.Core.List.{List, ◌∷◌}
use mathlib.Core.Logic.{◌⊎◌, ⊎_elim}
use mathlib.Core.Path.{◌≡◌, refl, sym, ap, ap₂, ◌∙◌}
use lib.Dec.{leb, eqb}
use lib.ListN.{length, drop, get_or}
use lib.Seq.{drop-drop}
use borrow.Author.Tests.{eqb-true, lt-leb}
use Rattle.octets.specs.Buffers.{Octets}
use Rattle.octets.specs.Numbers.{be, to_be}
use Rattle.octets.proofs.NumberLaws.{be-add, to_be-be}
use Rattle.salt_pool.specs.Pool.{capacity, pool_words, start, salt_word, salt_words, same_salt, store}
use Rattle.salt_pool.proofs.StoreLaws.{word}

-- ---- the words make the bytes

module _ (s s' : List ℕ) where
  -- the word at a place, and the m bytes behind it
  join : (m at : ℕ) → be 8 (drop at s) ≡ be 8 (drop at s') → be m (drop (at + 8) s) ≡ be m (drop (at + 8) s')
      → be (8 + m) (drop at s) ≡ be (8 + m) (drop at s')
  join m at e f = split s ∙ ap₂ (λ (a b : ℕ). a * 256 ^ m + b) e f ∙ sym (split s')
    where
      split : (x : List ℕ) → be (8 + m) (drop at x) ≡ be 8 (drop at x) * 256 ^ m + be m (drop (at + 8) x)
      split x = be-add 8 m (drop at x) ∙ ap (λ (y : List ℕ). be 8 (drop at x) * 256 ^ m + be m y) (drop-drop 8 at x)

  bytes : (n : ℕ) → Octets s → Octets s' → length s ≡ n → length s' ≡ n → be n s ≡ be n s' → s ≡ s'
  bytes n p p' l l' e = sym (to_be-be p l) ∙ ap (to_be n) e ∙ to_be-be p' l'

  module _ (p : Octets s) (p' : Octets s') (e : salt_word s 0 ≡ salt_word s' 0) (f : salt_word s 1 ≡ salt_word s' 1) where
    words-16 : length s ≡ 16 → length s' ≡ 16 → s ≡ s'
    words-16 l l' = bytes 16 p p' l l' (join 8 0 e f)

    words-32 : salt_word s 2 ≡ salt_word s' 2 → salt_word s 3 ≡ salt_word s' 3 → length s ≡ 32 → length s' ≡ 32 → s ≡ s'
    words-32 g h l l' = bytes 32 p p' l l' (join 24 0 e (join 16 8 f (join 8 16 g h)))

-- ---- the record

-- the tests that passed
each : (a b short c d : Bool) → ((a && b) && (short || (c && d))) ≡ true → (a ≡ true) × (b ≡ true) × (short ≡ false → (c ≡ true) × (d ≡ true))
each a b short c d h =
    let whole = (and-eq-true_iff (a && b) (short || (c && d))).0 h in
    let front = (and-eq-true_iff a b).0 whole.0 in
    (front.0, front.1, λ f. (and-eq-true_iff c d).0 (sym (ap (λ (x : Bool). x || (c && d)) f) ∙ whole.1))

module _ (t : List ℕ) (i clock : ℕ) (s s' : List ℕ) (l : i < capacity) (e : length t ≡ pool_words) where
  -- a test of a word of the record, and what it says
  abbrev test : ℕ → ℕ → Bool
  test k x = eqb (get_or (store t i clock s') (start i + k) 0) x

  tested : (k x y : ℕ) → k < 6 → get_or (1 ∷ clock ∷ salt_words s') k 0 ≡ y → test k x ≡ true → x ≡ y
  tested k x y h f b = sym (eqb-true (get_or (store t i clock s') (start i + k) 0) x b) ∙ word t i clock s' l e k h ∙ f

  pub no-other-salt : Octets s → Octets s' → (length s ≡ 16) ⊎ (length s ≡ 32) → length s' ≡ length s
      → same_salt (salt_words s) (length s) (store t i clock s') i ≡ true → s ≡ s'
  unfolding same_salt
  no-other-salt p p' n m h =
      let b = each (test 2 (salt_word s 0)) (test 3 (salt_word s 1)) (leb (length s) 16) (test 4 (salt_word s 2)) (test 5 (salt_word s 3)) h in
      let first = tested 2 (salt_word s 0) (salt_word s' 0) (omega arith) refl b.0 in
      let second = tested 3 (salt_word s 1) (salt_word s' 1) (omega arith) refl b.1 in
      ⊎_elim
      (λ (a : length s ≡ 16). words-16 s s' p p' first second a (m ∙ a))
      (λ (a : length s ≡ 32).
      let long = b.2 (lt-leb (length s) 16 (omega arith)) in
      words-32 s s' p p' first second (tested 4 (salt_word s 2) (salt_word s' 2) (omega arith) refl long.0)
      (tested 5 (salt_word s 3) (salt_word s' 3) (omega arith) refl long.1) a (m ∙ a))
      n
