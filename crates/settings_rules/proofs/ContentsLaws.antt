-- The test of settings: one further, and what it says.
-- Assumes nothing.
use Rattle.std.specs.Prelude.{None, Some}
use mathlib.Core.Path.{◌≡◌, refl, sym, ap, subst, ◌∙◌}
use mathlib.Core.Bool.{Bool, true, false, cond, false≢true, and-eq-true_iff}
use mathlib.Core.Logic.{⊎_elim}
use Prim.Native.Nat.{ℕ, zero, suc, ◌+◌, ◌-◌, ◌≤◌, ◌<◌}
use native.Mathlib.Nat.{eq-or-lt_of_le}
use native.Mathlib.Omega.{arith}
use lib.Dec.{leb, eqb}
use borrow.Author.Tests.{leb-true, le-leb, lt-leb, eqb-true, eqb-false}
use Rattle.records.proofs.SearchLaws.{lowest-found, lowest-first, lowest-none}
use Rattle.settings_rules.specs.Rules.{is_unknown, lawful}
use Rattle.settings_rules.specs.Contents.{Contents, Lawful, is_lawful, are_lawful, all_lawful, index_of, first_unknown}

one_left : (n i : ℕ) → i < n → n - i ≡ suc (n - (i + 1))
one_left n i h = omega arith

module _ (t : Contents) where
  -- ---- setting i

  pub too-low : (i least : ℕ) → t.number i < least → false ≡ is_lawful t i least
  too-low i least h = rw (lt-leb least (t.number i) h)

  pub by-body : (i least : ℕ) → least ≤ t.number i → lawful (t.number i) (t.body i) ≡ is_lawful t i least
  by-body i least h = rw (le-leb least (t.number i) h)

  -- ---- one further

  step : (m i least : ℕ) (b : Bool) → is_lawful t i least ≡ b
      → are_lawful t (suc m) i least ≡ cond b (are_lawful t m (i + 1) (t.number i + 1)) false
  unfolding are_lawful
  step m i least b e =
      ap (λ (x : Bool). elim x [ true ↦ are_lawful t m (i + 1) (t.number i + 1) | false ↦ false ]) e
      ∙ same b (are_lawful t m (i + 1) (t.number i + 1))
    where
      same : (x y : Bool) → (elim x [ true ↦ y | false ↦ false ]) ≡ cond x y false
      same true y = refl
      same false y = refl

  pub lawful-one : (n i least : ℕ) → i < n → is_lawful t i least ≡ true
      → are_lawful t (n - i) i least ≡ are_lawful t (n - (i + 1)) (i + 1) (t.number i + 1)
  lawful-one n i least l e = ap (λ (m : ℕ). are_lawful t m i least) (one_left n i l) ∙ step (n - (i + 1)) i least true e

  pub unlawful-one : (n i least : ℕ) → i < n → is_lawful t i least ≡ false → are_lawful t (n - i) i least ≡ false
  unlawful-one n i least l e = ap (λ (m : ℕ). are_lawful t m i least) (one_left n i l) ∙ step (n - (i + 1)) i least false e

  pub none_left : (n i least : ℕ) → n ≤ i → are_lawful t (n - i) i least ≡ true
  unfolding are_lawful
  none_left n i least l = let e : n - i ≡ zero = omega arith in rw e

  -- ---- what the test says

  -- n settings from i on, the first of which has at least this number
  record Run (n i least : ℕ) : Type 0 where
    first : i < i + n → least ≤ t.number i
    rising : (k : ℕ) → i ≤ k → k + 1 < i + n → t.number k < t.number (k + 1)
    bodies : (k : ℕ) → i ≤ k → k < i + n → lawful (t.number k) (t.body k) ≡ true

  more : (n i least : ℕ) → least ≤ t.number i → lawful (t.number i) (t.body i) ≡ true → Run n (i + 1) (t.number i + 1)
      → Run (suc n) i least
  more n i least h b r =
      record {
        first = λ l. h;
        rising = λ k l u. ⊎_elim
            (λ (e : i ≡ k). subst (λ (x : ℕ). t.number x < t.number (x + 1)) e (omega (arith, r.first (omega arith))))
            (λ (v : i < k). r.rising k (omega arith) (omega arith))
            (eq-or-lt_of_le l);
        bodies = λ k l u. ⊎_elim
            (λ (e : i ≡ k). subst (λ (x : ℕ). lawful (t.number x) (t.body x) ≡ true) e b)
            (λ (v : i < k). r.bodies k (omega arith) (omega arith))
            (eq-or-lt_of_le l);
      }

  runs : (n i least : ℕ) → are_lawful t n i least ≡ true → Run n i least
  runs zero i least h =
      record { first = λ l. absurd (omega arith); rising = λ k l u. absurd (omega arith); bodies = λ k l u. absurd (omega arith) }
  runs (suc n) i least h = go (is_lawful t i least) refl (runs n (i + 1) (t.number i + 1))
    where
      go : (b : Bool) → is_lawful t i least ≡ b → (are_lawful t n (i + 1) (t.number i + 1) ≡ true → Run n (i + 1) (t.number i + 1))
          → Run (suc n) i least
      go true e r =
          let both = (and-eq-true_iff (leb least (t.number i)) (lawful (t.number i) (t.body i))).0 e in
          more n i least (leb-true _ _ both.0) both.1 (r (sym (step n i least true e) ∙ h))
      go false e r = absurd (false≢true (sym (step n i least false e) ∙ h))

  runs-pass : (n i least : ℕ) → Run n i least → are_lawful t n i least ≡ true
  unfolding are_lawful
  runs-pass zero i least r = refl
  runs-pass (suc n) i least r =
      step n i least true (sym (by-body i least (r.first (omega arith))) ∙ r.bodies i (omega arith) (omega arith))
      ∙ runs-pass n (i + 1) (t.number i + 1)
      (record {
        first = λ l. let p : t.number i < t.number (i + 1) = r.rising i (omega arith) (omega arith) in omega arith;
        rising = λ k l u. r.rising k (omega arith) (omega arith);
        bodies = λ k l u. r.bodies k (omega arith) (omega arith);
      })

  pub lawful-says : all_lawful t ≡ true → Lawful t
  lawful-says h =
      let r = runs t.size 0 0 h in
      record {
        rising = λ i l. r.rising i (omega arith) (omega arith);
        bodies = λ i l. r.bodies i (omega arith) (omega arith);
      }

  pub lawful-passes : Lawful t → all_lawful t ≡ true
  lawful-passes w =
      runs-pass t.size 0 0
      (record { first = λ l. omega arith; rising = λ k l u. w.rising k (omega arith); bodies = λ k l u. w.bodies k (omega arith) })

  -- ---- where one stands

  pub index-found : (k i : ℕ) → index_of t k ≡ Some i → (i < t.size) × (t.number i ≡ k)
  unfolding index_of
  index-found k i e =
      let f = lowest-found (λ i. eqb (t.number i) k) 0 t.size i e in
      (omega (arith, f.1), eqb-true _ _ f.2)

  pub index-none : (k : ℕ) → index_of t k ≡ None → (i : ℕ) → i < t.size → t.number i ≡ k → ⊥
  unfolding index_of
  index-none k e i l = eqb-false _ _ (lowest-none (λ i. eqb (t.number i) k) 0 t.size e i (omega arith) (omega arith))

  pub unknown-found : (i : ℕ) → first_unknown t ≡ Some i
      → (i < t.size) × (is_unknown (t.number i) ≡ true) × ((j : ℕ) → j < i → is_unknown (t.number j) ≡ false)
  unfolding first_unknown
  unknown-found i e =
      let f = lowest-found (λ i. is_unknown (t.number i)) 0 t.size i e in
      (omega (arith, f.1), f.2, λ j l. lowest-first (λ i. is_unknown (t.number i)) 0 t.size i e j (omega arith) l)

  pub unknown-none : first_unknown t ≡ None → (i : ℕ) → i < t.size → is_unknown (t.number i) ≡ false
  unfolding first_unknown
  unknown-none e i l = lowest-none (λ i. is_unknown (t.number i)) 0 t.size e i (omega arith) (omega arith)

  -- numbers rise from any to any later one
  pub rises-to : Lawful t → (i k : ℕ) → i + suc k < t.size → t.number i < t.number (i + suc k)
  rises-to w i zero l = let e : i + 1 ≡ i + suc zero = refl in w.rising i l
  rises-to w i (suc k) l =
      let e : i + suc (suc k) ≡ i + suc k + 1 = omega arith in
      let p : t.number (i + suc k) < t.number (i + suc k + 1) = w.rising (i + suc k) (omega arith) in
      rw e (omega (arith, rises-to w i k (omega arith), p))
