-- Which lengths a framing allows.
-- Assumes nothing.
use mathlib.Core.Path.{◌≡◌, refl, ap, ap₂, ◌∙◌}
use mathlib.Core.Bool.{Bool, true, false, ◌&&◌, ◌||◌}
use Prim.Native.Nat.{ℕ, ◌≤◌, ◌<◌}
use native.Mathlib.Omega.{arith}
use lib.Dec.{ltb}
use borrow.Author.Tests.{lt-ltb, le-ltb, ltb-true, ltb-false}
use Rattle.stream_pieces.specs.declared.Framing.{Framing}
use Rattle.stream_pieces.specs.Framing.{under, over, unframed, framing_of, is_empty, HasCipher}
use Rattle.stream_pieces.specs.Pieces.{max_chunk}
use Rattle.stream_pieces.proofs.KeyLaws.{key-of-length}

-- the keys of SIP022 are those of its ciphers
pub framing-cipher : (method : ℕ) → HasCipher (framing_of method)
framing-cipher method h = key-of-length method h

-- ---- a test that passed, and one that did not

both_false : (a : Bool) → a && false ≡ false
both_false true = refl
both_false false = refl

module _ (f : Framing) (n : ℕ) where
  pub is-over : f.greatest < n → n ≤ max_chunk → over f n ≡ true
  is-over h l =
      ap₂ ◌&&◌ (lt-ltb f.greatest max_chunk (omega (arith, h, l))) (lt-ltb f.greatest n h)

  pub not-over : n ≤ f.greatest → over f n ≡ false
  not-over h = ap (λ (b : Bool). ltb f.greatest max_chunk && b) (le-ltb f.greatest n h) ∙ both_false (ltb f.greatest max_chunk)

  pub over-unframed : over f n ≡ true → unframed f n ≡ true
  over-unframed e = ap (λ (b : Bool). b || under f n) e

  pub under-unframed : n < f.least → n ≤ f.greatest → unframed f n ≡ true
  under-unframed h l = ap₂ ◌||◌ (not-over l) (lt-ltb n f.least h)

  pub is_framed : f.least ≤ n → n ≤ f.greatest → unframed f n ≡ false
  is_framed h l = ap₂ ◌||◌ (not-over l) (le-ltb n f.least h)

-- ---- of SIP022

pub empty-zero : (n : ℕ) → is_empty n ≡ true → n ≡ 0
empty-zero n e = let h = ltb-true n 1 e in omega (arith, h)

pub some_left : (n : ℕ) → is_empty n ≡ false → 0 < n
some_left n e = let h = ltb-false n 1 e in omega (arith, h)

pub zero-empty : (n : ℕ) → n ≡ 0 → is_empty n ≡ true
zero-empty n e = lt-ltb n 1 (omega (arith, e))

pub not-zero-some : (n : ℕ) → (n ≡ 0 → ⊥) → is_empty n ≡ false
not-zero-some n h = le-ltb n 1 (omega (arith, h))
