-- Bodies in a row: the test one entry further, what it says, and where the bodies lie.
-- Assumes nothing.
use mathlib.Core.Path.{◌≡◌, refl, sym, ap, subst, ◌∙◌}
use mathlib.Core.Bool.{Bool, true, false, cond, false≢true, and-eq-true_iff}
use mathlib.Core.List.{List}
use mathlib.Core.Logic.{⊎_elim}
use Prim.Native.Nat.{ℕ, zero, suc, ◌+◌, ◌-◌, ◌≤◌, ◌<◌}
use native.Mathlib.Numerals.{add-one}
use native.Mathlib.Nat.{eq-or-lt_of_le}
use native.Mathlib.Omega.{arith}
use lib.Dec.{leb, eqb}
use borrow.Author.Tests.{leb-true, le-leb, lt-leb, eqb-true, eq-eqb, ne_eqb}
use Rattle.settings_file.specs.declared.Entry.{Entry}
use Rattle.settings_file.specs.Format.{count, place_of, entry, start, hash_place, InRow, follow, is_in_row}

-- ---- one entry further

one_left : (n i : ℕ) → i < n → n - i ≡ suc (n - (i + 1))
one_left n i h = omega arith

module _ (s : List ℕ) where
  step : (m i place : ℕ) (b : Bool) → eqb (entry s i).offset place ≡ b
      → follow s (suc m) i place ≡ cond b (follow s m (i + 1) (place + (entry s i).len)) false
  unfolding follow
  step m i place b e =
      ap (λ (x : Bool). elim x [ true ↦ follow s m (i + 1) (place + (entry s i).len) | false ↦ false ]) e
      ∙ same b (follow s m (i + 1) (place + (entry s i).len))
    where
      same : (x y : Bool) → (elim x [ true ↦ y | false ↦ false ]) ≡ cond x y false
      same true y = refl
      same false y = refl

  pub here : (n i place : ℕ) (e : Entry) → i < n → e ≡ entry s i → e.offset ≡ place
      → follow s (n - i) i place ≡ follow s (n - (i + 1)) (i + 1) (place + e.len)
  here n i place e l p q =
      ap (λ (m : ℕ). follow s m i place) (one_left n i l)
      ∙ step (n - (i + 1)) i place true (eq-eqb _ _ (sym (ap (λ (x : Entry). x.offset) p) ∙ q))
      ∙ ap (λ (x : Entry). follow s (n - (i + 1)) (i + 1) (place + x.len)) (sym p)

  pub elsewhere : (n i place : ℕ) (e : Entry) → i < n → e ≡ entry s i → (e.offset ≡ place → ⊥) → follow s (n - i) i place ≡ false
  elsewhere n i place e l p q =
      ap (λ (m : ℕ). follow s m i place) (one_left n i l)
      ∙ step (n - (i + 1)) i place false (ne_eqb _ _ (λ (x : (entry s i).offset ≡ place). q (ap (λ (y : Entry). y.offset) p ∙ x)))

  pub at-end : (n i place : ℕ) → n ≤ i → follow s (n - i) i place ≡ eqb place (hash_place s)
  unfolding follow
  at-end n i place l = let e : n - i ≡ zero = omega arith in rw e

  -- ---- what the test says

  pub next_start : (i : ℕ) → start s (i + 1) ≡ start s i + (entry s i).len
  unfolding start
  next_start i = rw add-one

  pub first-start : start s 0 ≡ place_of (count s)
  unfolding start
  first-start = refl

  -- n bodies from number i on, each where it has to be, and the end at the hash
  record Row (n i : ℕ) : Type 0 where
    each : (k : ℕ) → i ≤ k → k < i + n → (entry s k).offset ≡ start s k
    ends : start s (i + n) ≡ hash_place s

  more : (n i : ℕ) → (entry s i).offset ≡ start s i → Row n (i + 1) → Row (suc n) i
  more n i g r =
      record {
        each = λ k l u. ⊎_elim
            (λ (e : i ≡ k). subst (λ (x : ℕ). (entry s x).offset ≡ start s x) e g)
            (λ (v : i < k). r.each k (omega arith) (omega arith))
            (eq-or-lt_of_le l);
        ends = let e : i + suc n ≡ i + 1 + n = omega arith in rw e r.ends;
      }

  rows : (n i : ℕ) → follow s n i (start s i) ≡ true → Row n i
  unfolding follow
  rows zero i h =
      record { each = λ k l g. absurd (omega arith); ends = let e : i + zero ≡ i = omega arith in rw e (eqb-true _ _ h) }
  rows (suc n) i h = go (eqb (entry s i).offset (start s i)) refl (rows n (i + 1))
    where
      go : (b : Bool) → eqb (entry s i).offset (start s i) ≡ b
          → (follow s n (i + 1) (start s (i + 1)) ≡ true → Row n (i + 1)) → Row (suc n) i
      go true e r =
          more n i (eqb-true _ _ e) (r (ap (follow s n (i + 1)) (next_start i) ∙ sym (step n i (start s i) true e) ∙ h))
      go false e r = absurd (false≢true (sym (step n i (start s i) false e) ∙ h))

  rows_pass : (n i : ℕ) → Row n i → follow s n i (start s i) ≡ true
  unfolding follow
  rows_pass zero i r = eq-eqb _ _ (let e : i + zero ≡ i = omega arith in rw e at r.ends)
  rows_pass (suc n) i r =
      let e : i + suc n ≡ i + 1 + n = omega arith in
      step n i (start s i) true (eq-eqb _ _ (r.each i (omega arith) (omega arith)))
      ∙ ap (follow s n (i + 1)) (sym (next_start i))
      ∙ rows_pass n (i + 1) (record { each = λ k l u. r.each k (omega arith) (omega arith); ends = rw e at r.ends })

  -- ---- the whole test, by its cases

  pub past-hash : hash_place s < place_of (count s) → false ≡ is_in_row s
  unfolding is_in_row
  past-hash h = rw (lt-leb (place_of (count s)) (hash_place s) h)

  pub by-bodies : place_of (count s) ≤ hash_place s → follow s (count s) 0 (place_of (count s)) ≡ is_in_row s
  unfolding is_in_row
  by-bodies h = rw (le-leb (place_of (count s)) (hash_place s) h)

  pub in_row : is_in_row s ≡ true → InRow s
  unfolding is_in_row
  in_row h =
      let both = (and-eq-true_iff (leb (place_of (count s)) (hash_place s)) (follow s (count s) 0 (place_of (count s)))).0 h in
      let r = rows (count s) 0 (ap (follow s (count s) 0) first-start ∙ both.1) in
      let e : 0 + count s ≡ count s = omega arith in
      record {
        contents = leb-true _ _ both.0;
        back-to-back = λ i l. r.each i (omega arith) (omega arith);
        ends = rw e at r.ends;
      }

  pub row-passes : InRow s → is_in_row s ≡ true
  row-passes w =
      let e : 0 + count s ≡ count s = omega arith in
      sym (by-bodies w.contents)
      ∙ ap (follow s (count s) 0) (sym first-start)
      ∙ rows_pass (count s) 0 (record { each = λ k l u. w.back-to-back k (omega arith); ends = rw e w.ends })

  -- ---- where bodies lie

  -- bodies begin in order
  pub starts-rise : (i k : ℕ) → start s i ≤ start s (i + k)
  starts-rise i zero = let e : i + zero ≡ i = omega arith in rw e (omega arith)
  starts-rise i (suc k) =
      let e : i + suc k ≡ i + k + 1 = omega arith in
      let f : start s (i + suc k) ≡ start s (i + k) + (entry s (i + k)).len = ap (start s) e ∙ next_start (i + k) in
      omega (arith, f, starts-rise i k)

  pub body-within : InRow s → (i : ℕ) → i < count s → (entry s i).offset + (entry s i).len ≤ hash_place s
  body-within w i l =
      let e : i + 1 + (count s - (i + 1)) ≡ count s = omega arith in
      let r : start s (i + 1) ≤ start s (count s) = rw e at (starts-rise (i + 1) (count s - (i + 1))) in
      omega (arith, r, next_start i, w.back-to-back i l, w.ends)
