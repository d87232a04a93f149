-- The setting of a number, found by its index and said by its number.
-- Assumes nothing.
use Rattle.std.specs.Prelude.{None, Option, Some}
use mathlib.Core.Path.{◌≡◌, refl, sym, ap, ◌∙◌}
use mathlib.Core.Bool.{Bool, true, false}
use mathlib.Core.Logic.{◌⊎◌, inl, inr, ⊎_elim}
use Prim.Native.Nat.{ℕ, suc, ◌+◌, ◌-◌, ◌≤◌, ◌<◌}
use native.Mathlib.Nat.{eq-or-lt_of_le}
use native.Mathlib.Omega.{arith}
use lib.Dec.{ltb}
use borrow.Author.Tests.{ltb-true, ltb-false}
use Rattle.settings_rules.specs.Contents.{Contents, Lawful, index_of}
use Rattle.settings_rules.proofs.ContentsLaws.{index-found, index-none, rises-to}
use Rattle.settings_demands.specs.Files.{Says, set, unset}

pub lt-or-le : (i j : ℕ) → (i < j) ⊎ (j ≤ i)
lt-or-le i j = go (ltb i j) refl
  where
    go : (b : Bool) → ltb i j ≡ b → (i < j) ⊎ (j ≤ i)
    go true e = inl (ltb-true i j e)
    go false e = inr (ltb-false i j e)

-- the value of a setting that was found
abbrev pub pick : {A : Type 0} → (ℕ → A) → A → Option ℕ → A
pick value absent (Some i) = value i
pick value absent None = absent

module _ (t : Contents) where
  -- ---- numbers that rise are different

  later : Lawful t → (i j : ℕ) → i < j → j < t.size → t.number i ≡ t.number j → ⊥
  later w i j l m e =
      let d : i + suc (j - i - 1) ≡ j = omega arith in
      let p : t.number i < t.number (i + suc (j - i - 1)) = rises-to t w i (j - i - 1) (omega arith) in
      let q : t.number i < t.number j = rw d at p in
      absurd (omega arith)

  pub one_only : Lawful t → (i j : ℕ) → i < t.size → j < t.size → t.number i ≡ t.number j → i ≡ j
  one_only w i j l m e =
      ⊎_elim
      (λ (p : i < j). absurd (later w i j p m e))
      (λ (p : j ≤ i). ⊎_elim (λ (q : j ≡ i). sym q) (λ (q : j < i). absurd (later w j i q l (sym e))) (eq-or-lt_of_le p))
      (lt-or-le i j)

  module _ {A : Type 0} (k : ℕ) (value : ℕ → A) (absent : A) where
    pub index-says : (o : Option ℕ) → index_of t k ≡ o → (x : A) → x ≡ pick value absent o → Says t.size t.number k value absent x
    index-says (Some i) e x f = let g = index-found t k i e in set i g.0 g.1 f
    index-says None e x f = unset (index-none t k e) f

    pub says-index : Lawful t → (x : A) → Says t.size t.number k value absent x → x ≡ pick value absent (index_of t k)
    says-index w x (set i l n f) = go (index_of t k) refl
      where
        go : (o : Option ℕ) → index_of t k ≡ o → x ≡ pick value absent (index_of t k)
        go (Some j) e =
            let g = index-found t k j e in
            f ∙ ap value (one_only w i j l g.0 (n ∙ sym g.1)) ∙ sym (ap (pick value absent) e)
        go None e = absurd (index-none t k e i l n)
    says-index w x (unset h f) = go (index_of t k) refl
      where
        go : (o : Option ℕ) → index_of t k ≡ o → x ≡ pick value absent (index_of t k)
        go (Some j) e = let g = index-found t k j e in absurd (h j g.0 g.1)
        go None e = f ∙ sym (ap (pick value absent) e)
