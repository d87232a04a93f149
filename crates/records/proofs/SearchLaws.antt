-- The lowest number that passes a test: what shows the search's answer, and what the answer says. Assumes nothing.
use Rattle.std.specs.Prelude.{None, Some}
use Rattle.std.proofs.lemmas.Option.{none-some, same_Some}
use Prim.Native.Nat.{ℕ, zero, suc, ◌+◌, ◌<◌, ◌≤◌}
use native.Mathlib.Nat.{eq-or-lt_of_le}
use native.Mathlib.Omega.{arith}
use mathlib.Core.Bool.{Bool, true, false, cond}
use mathlib.Core.Logic.{⊎_elim}
use mathlib.Core.Path.{◌≡◌, refl, sym, ap, subst, ◌∙◌}
use Rattle.records.specs.Records.{lowest_from}

module _ (test : ℕ → Bool) where
  -- ---- what shows the answer

  pub from_at : (i n r : ℕ) → i ≤ r → r < i + n → ((k : ℕ) → i ≤ k → k < r → test k ≡ false) → test r ≡ true → lowest_from test i n ≡ Some r
  from_at i zero r a b fails t = absurd (omega arith)
  from_at i (suc n) r a b fails t =
      ⊎_elim
      (λ (e : i ≡ r). rw (ap test e ∙ t) (ap Some e))
      (λ (l : i < r).
      let s : test i ≡ false = fails i (omega arith) l in
      rw s (from_at (suc i) n r l (omega arith) (λ k p q. fails k (omega arith) q) t))
      (eq-or-lt_of_le a)

  pub from-none : (i n : ℕ) → ((k : ℕ) → i ≤ k → k < i + n → test k ≡ false) → lowest_from test i n ≡ None
  from-none i zero fails = refl
  from-none i (suc n) fails =
      let s : test i ≡ false = fails i (omega arith) (omega arith) in
      rw s (from-none (suc i) n (λ k p q. fails k (omega arith) (omega arith)))

  -- ---- what the answer says

  -- the one found is in range and passes
  pub lowest-found : (i n r : ℕ) → lowest_from test i n ≡ Some r → (i ≤ r) × (r < i + n) × (test r ≡ true)
  lowest-found i zero r e = absurd (none-some r e)
  lowest-found i (suc n) r e = go (lowest-found (suc i) n r) (test i) refl e
    where
      go : (lowest_from test (suc i) n ≡ Some r → (suc i ≤ r) × (r < suc i + n) × (test r ≡ true)) → (b : Bool) → test i ≡ b
          → cond b (Some i) (lowest_from test (suc i) n) ≡ Some r → (i ≤ r) × (r < i + suc n) × (test r ≡ true)
      go later true h e = let s : i ≡ r = same_Some i r e in (omega arith, omega arith, subst (λ (m : ℕ). test m ≡ true) s h)
      go later false h e = let l = later e in (omega (arith, l.0), omega (arith, l.1), l.2)

  pub from-below : (i n r : ℕ) → lowest_from test i n ≡ Some r → r < i + n
  from-below i n r e = (lowest-found i n r e).1

  -- none below it passes
  pub lowest-first : (i n r : ℕ) → lowest_from test i n ≡ Some r → (k : ℕ) → i ≤ k → k < r → test k ≡ false
  lowest-first i zero r e k l u = absurd (none-some r e)
  lowest-first i (suc n) r e k l u = go (lowest-first (suc i) n r) (test i) refl e
    where
      go : (lowest_from test (suc i) n ≡ Some r → (k : ℕ) → suc i ≤ k → k < r → test k ≡ false) → (b : Bool) → test i ≡ b
          → cond b (Some i) (lowest_from test (suc i) n) ≡ Some r → test k ≡ false
      go later true h e = absurd (omega (arith, same_Some i r e))
      go later false h e =
          ⊎_elim (λ (q : i ≡ k). subst (λ (m : ℕ). test m ≡ false) q h) (λ (q : i < k). later e k q u) (eq-or-lt_of_le l)

  -- where none is found, none passes
  pub lowest-none : (i n : ℕ) → lowest_from test i n ≡ None → (k : ℕ) → i ≤ k → k < i + n → test k ≡ false
  lowest-none i zero e k l u = absurd (omega arith)
  lowest-none i (suc n) e k l u = go (lowest-none (suc i) n) (test i) refl e
    where
      go : (lowest_from test (suc i) n ≡ None → (k : ℕ) → suc i ≤ k → k < suc i + n → test k ≡ false) → (b : Bool) → test i ≡ b
          → cond b (Some i) (lowest_from test (suc i) n) ≡ None → test k ≡ false
      go later true h e = absurd (none-some i (sym e))
      go later false h e =
          ⊎_elim (λ (q : i ≡ k). subst (λ (m : ℕ). test m ≡ false) q h) (λ (q : i < k). later e k q (omega arith)) (eq-or-lt_of_le l)
