-- Where two strings agree, one byte further; and the cases of a difference, in the order of the code.
-- Assumes nothing.
use mathlib.Core.Path.{◌≡◌, ap, ◌∙◌}
use mathlib.Core.Bool.{Bool, true, false}
use mathlib.Core.List.{List}
use Prim.Native.Nat.{ℕ, zero, suc, ◌+◌, ◌-◌, ◌≤◌, ◌<◌}
use native.Mathlib.Omega.{arith}
use lib.Dec.{eqb}
use lib.ListN.{get_or}
use borrow.Author.Tests.{eq-eqb, ne_eqb, lt-ltb, le-ltb}
use Rattle.recording.specs.Format.{count, entry}
use Rattle.recording.specs.declared.Entry.{Entry}
use Rattle.comparison.specs.declared.Difference.TheVariants.{Same, Length, Meta, Byte, FirstOnly, SecondOnly}
use Rattle.comparison.specs.Differences.{agree, bodies, between, difference_at}

-- the definition's own step, at the test's outcome
pub agree_at : (m : ℕ) (a : List ℕ) (i : ℕ) (b : List ℕ) (j : ℕ) (t : Bool) → eqb (get_or a i 0) (get_or b j 0) ≡ t
    → agree (suc m) a i b j ≡ (elim t [ true ↦ suc (agree m a (i + 1) b (j + 1)) | false ↦ 0 ])
unfolding agree
agree_at m a i b j t e = ap (λ (x : Bool). elim x [ true ↦ suc (agree m a (i + 1) b (j + 1)) | false ↦ 0 ]) e

one_left : (n p : ℕ) → p < n → n - p ≡ suc (n - (p + 1))
one_left n p h = omega arith

module _ (a b : List ℕ) (i j n p : ℕ) where
  pub agree-more : p < n → get_or a (i + p) 0 ≡ get_or b (j + p) 0
      → p + agree (n - p) a (i + p) b (j + p) ≡ p + 1 + agree (n - (p + 1)) a (i + (p + 1)) b (j + (p + 1))
  agree-more h e =
      let x : agree (n - p) a (i + p) b (j + p) ≡ suc (agree (n - (p + 1)) a (i + p + 1) b (j + p + 1)) =
      ap (λ (m : ℕ). agree m a (i + p) b (j + p)) (one_left n p h) ∙ agree_at _ a (i + p) b (j + p) true (eq-eqb _ _ e) in
      let y : i + p + 1 ≡ i + (p + 1) = omega arith in
      let z : j + p + 1 ≡ j + (p + 1) = omega arith in
      let w : agree (n - (p + 1)) a (i + p + 1) b (j + p + 1) ≡ agree (n - (p + 1)) a (i + (p + 1)) b (j + (p + 1)) = rw (y, z) in
      omega (arith, x, w)

  pub agree-stop : p < n → (get_or a (i + p) 0 ≡ get_or b (j + p) 0 → ⊥) → p ≡ p + agree (n - p) a (i + p) b (j + p)
  agree-stop h e =
      let x : agree (n - p) a (i + p) b (j + p) ≡ 0 =
      ap (λ (m : ℕ). agree m a (i + p) b (j + p)) (one_left n p h) ∙ agree_at _ a (i + p) b (j + p) false (ne_eqb _ _ e) in
      omega (arith, x)

  pub agree-end : n ≤ p → p ≡ p + agree (n - p) a (i + p) b (j + p)
  unfolding agree
  agree-end h = let e : n - p ≡ zero = omega arith in let f : p ≡ p + 0 = omega arith in rw e f

-- the cases of `bodies`
pub some_byte : (n p : ℕ) → p < n → Byte p ≡ bodies n p
unfolding bodies
some_byte n p h = rw (lt-ltb p n h)

pub no_byte : (n p : ℕ) → n ≤ p → Same ≡ bodies n p
unfolding bodies
no_byte n p h = rw (le-ltb p n h)

-- the cases of `between`
module _ (a : List ℕ) (e : Entry) (b : List ℕ) (f : Entry) where
  pub lengths_differ : (e.len ≡ f.len → ⊥) → Length e.len f.len ≡ between a e b f
  unfolding between
  lengths_differ h = rw (ne_eqb e.len f.len h)

  pub directions-differ : e.len ≡ f.len → (e.direction ≡ f.direction → ⊥) → Meta ≡ between a e b f
  unfolding between
  directions-differ h k = rw (eq-eqb e.len f.len h, ne_eqb e.direction f.direction k)

  pub clocks-differ : e.len ≡ f.len → e.direction ≡ f.direction → (e.clock ≡ f.clock → ⊥) → Meta ≡ between a e b f
  unfolding between
  clocks-differ h k l = rw (eq-eqb e.len f.len h, eq-eqb e.direction f.direction k, ne_eqb e.clock f.clock l)

  pub by-bodies : e.len ≡ f.len → e.direction ≡ f.direction → e.clock ≡ f.clock
      → bodies e.len (agree e.len a e.offset b f.offset) ≡ between a e b f
  unfolding between
  by-bodies h k l = rw (eq-eqb e.len f.len h, eq-eqb e.direction f.direction k, eq-eqb e.clock f.clock l)

-- the cases of `difference_at`
module _ (a b : List ℕ) (i : ℕ) where
  pub second-only : count a ≤ i → i < count b → SecondOnly ≡ difference_at a b i
  unfolding difference_at
  second-only h k = rw (le-ltb i (count a) h, lt-ltb i (count b) k)

  pub in-neither : count a ≤ i → count b ≤ i → Same ≡ difference_at a b i
  unfolding difference_at
  in-neither h k = rw (le-ltb i (count a) h, le-ltb i (count b) k)

  pub first-only : i < count a → count b ≤ i → FirstOnly ≡ difference_at a b i
  unfolding difference_at
  first-only h k = rw (lt-ltb i (count a) h, le-ltb i (count b) k)

  pub in_both : i < count a → i < count b → between a (entry a i) b (entry b i) ≡ difference_at a b i
  unfolding difference_at
  in_both h k = rw (lt-ltb i (count a) h, lt-ltb i (count b) k)
