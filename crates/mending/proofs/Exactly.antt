-- A change is reported exactly where a field's number is another one in the mended file, each field once and in file order. It is
-- shown of the differences between any two files.
-- Assumes nothing.
use mathlib.Core.Path.{◌≡◌, refl, sym, subst, ◌∙◌}
use mathlib.Core.Bool.{Bool, true, false}
use mathlib.Core.List.{List, [], ◌∷◌, ◌++◌}
use mathlib.Core.Logic.{◌⊎◌, inl, inr, ⊎_elim}
use Prim.Native.Nat.{ℕ, zero, suc, ◌+◌, ◌*◌, ◌≤◌, ◌<◌}
use native.Mathlib.Nat.{eq-or-lt_of_le}
use native.Mathlib.Omega.{arith}
use lib.Dec.{eqb}
use borrow.Author.Tests.{eqb-true, eqb-false}
use Rattle.recording.specs.Format.{count, entry}
use Rattle.recording.specs.declared.Entry.{Entry}
use Rattle.mending.specs.Mend.{mended}
use Rattle.mending.specs.Report.{Change, of_count, changed, entry_changes, changes_from, changes, number_of, IsField, In, IsChange, order_of, Rising, ReportExactly}
use Rattle.mending.proofs.ReportLaws.{unchanged, is-changed}

-- ---- among the changes of two lists

in-first : (c : Change) (xs ys : List Change) → In c xs → In c (xs ++ ys)
in-first c [] ys h = absurd h
in-first c (b ∷ xs) ys (inl e) = inl e
in-first c (b ∷ xs) ys (inr h) = inr (in-first c xs ys h)

in-second : (c : Change) (xs ys : List Change) → In c ys → In c (xs ++ ys)
in-second c [] ys h = h
in-second c (b ∷ xs) ys h = inr (in-second c xs ys h)

in_either : (c : Change) (xs ys : List Change) → In c (xs ++ ys) → In c xs ⊎ In c ys
in_either c [] ys h = inr h
in_either c (b ∷ xs) ys (inl e) = inl (inl e)
in_either c (b ∷ xs) ys (inr h) = ⊎_elim (λ (x : In c xs). inl (inr x)) (λ (y : In c ys). inr y) (in_either c xs ys h)

-- ---- one field

abbrev told : (i f old new : ℕ) → Change
told i f old new = record { entry = i; field = f; old = old; new = new }

in-changed : (c : Change) (i f old new : ℕ) → In c (changed i f old new) → (c ≡ told i f old new) × (old ≡ new → ⊥)
in-changed c i f old new h = go (eqb old new) refl
  where
    only : In c (told i f old new ∷ []) → c ≡ told i f old new
    only (inl e) = e
    only (inr x) = absurd x

    go : (b : Bool) → eqb old new ≡ b → (c ≡ told i f old new) × (old ≡ new → ⊥)
    go true e = absurd (subst (In c) (unchanged i f old new (eqb-true old new e)) h)
    go false e =
        let k = eqb-false old new e in
        (only (subst (In c) (is-changed i f old new k) h), k)

is-in-changed : (c : Change) (i f old new : ℕ) → c ≡ told i f old new → (old ≡ new → ⊥) → In c (changed i f old new)
is-in-changed c i f old new e k = subst (In c) (sym (is-changed i f old new k)) (inl e)

module _ (s t : List ℕ) where
  -- a field of the two files, by its entry and number
  abbrev at_field : (i f : ℕ) → List Change
  at_field i f = changed i f (number_of s i f) (number_of t i f)

  true_of : (c : Change) (i f : ℕ) → IsField (count t) i f → In c (at_field i f) → IsChange s t c
  true_of c i f k h =
      let x = in-changed c i f (number_of s i f) (number_of t i f) h in
      subst (IsChange s t) (sym x.0) (record { is_field = k; was = refl; is = refl; differs = x.1 })

  among : (c : Change) (i f : ℕ) → c.entry ≡ i → c.field ≡ f → IsChange s t c → In c (at_field i f)
  among c i f e g k =
      let old : c.old ≡ number_of s i f = k.was ∙ (λ j. number_of s (e j) (g j)) in
      let new : c.new ≡ number_of t i f = k.is ∙ (λ j. number_of t (e j) (g j)) in
      is-in-changed c i f (number_of s i f) (number_of t i f)
      (λ j. record { entry = e j; field = g j; old = old j; new = new j })
      (λ x. k.differs (old ∙ x ∙ sym new))

  -- ---- one entry

  abbrev entry-fields : ℕ → List Change
  entry-fields i = entry_changes i (entry s i) (entry t i)

  entry-true : (c : Change) (i : ℕ) → i < count t → In c (entry-fields i) → IsChange s t c
  unfolding entry_changes
  entry-true c i h k =
      ⊎_elim (λ (x : In c (at_field i 1)). true_of c i 1 (inr (h, omega arith, omega arith)) x)
      (λ (y : In c (at_field i 2 ++ at_field i 3)).
      ⊎_elim (λ (x : In c (at_field i 2)). true_of c i 2 (inr (h, omega arith, omega arith)) x)
      (λ (x : In c (at_field i 3)). true_of c i 3 (inr (h, omega arith, omega arith)) x)
      (in_either c (at_field i 2) (at_field i 3) y))
      (in_either c (at_field i 1) (at_field i 2 ++ at_field i 3) k)

  entry-among : (c : Change) (i : ℕ) → c.entry ≡ i → 1 ≤ c.field → c.field ≤ 3 → IsChange s t c → In c (entry-fields i)
  unfolding entry_changes
  entry-among c i e l u k = go c.field refl l u
    where
      go : (f : ℕ) → c.field ≡ f → 1 ≤ f → f ≤ 3 → In c (at_field i 1 ++ (at_field i 2 ++ at_field i 3))
      go zero g a b = absurd (omega arith)
      go (suc zero) g a b = in-first c (at_field i 1) (at_field i 2 ++ at_field i 3) (among c i 1 e g k)
      go (suc (suc zero)) g a b =
          in-second c (at_field i 1) (at_field i 2 ++ at_field i 3) (in-first c (at_field i 2) (at_field i 3) (among c i 2 e g k))
      go (suc (suc (suc zero))) g a b =
          in-second c (at_field i 1) (at_field i 2 ++ at_field i 3) (in-second c (at_field i 2) (at_field i 3) (among c i 3 e g k))
      go (suc (suc (suc (suc f)))) g a b = absurd (omega arith)

  -- ---- all of them

  entries-true : (n : ℕ) (c : Change) (i : ℕ) → i + n ≤ count t → In c (changes_from n s t i) → IsChange s t c
  unfolding changes_from
  entries-true zero c i h k = absurd k
  entries-true (suc n) c i h k =
      ⊎_elim (λ (x : In c (entry-fields i)). entry-true c i (omega arith) x)
      (λ (y : In c (changes_from n s t (i + 1))). entries-true n c (i + 1) (omega arith) y)
      (in_either c (entry-fields i) (changes_from n s t (i + 1)) k)

  entries-among : (n : ℕ) (c : Change) (i : ℕ) → i ≤ c.entry → c.entry < i + n → 1 ≤ c.field → c.field ≤ 3 → IsChange s t c
      → In c (changes_from n s t i)
  unfolding changes_from
  entries-among zero c i a b l u k = absurd (omega arith)
  entries-among (suc n) c i a b l u k =
      ⊎_elim (λ (e : i ≡ c.entry). in-first c (entry-fields i) (changes_from n s t (i + 1)) (entry-among c i (sym e) l u k))
      (λ (g : i < c.entry).
      in-second c (entry-fields i) (changes_from n s t (i + 1)) (entries-among n c (i + 1) (omega arith) (omega arith) l u k))
      (eq-or-lt_of_le a)

  changes-true : (c : Change) → In c (changes s t) → IsChange s t c
  unfolding changes
  changes-true c k =
      ⊎_elim (λ (x : In c (at_field of_count 0)). true_of c of_count 0 (inl (refl, refl)) x)
      (λ (y : In c (changes_from (count t) s t 0)). entries-true (count t) c 0 (omega arith) y)
      (in_either c (at_field of_count 0) (changes_from (count t) s t 0) k)

  changes-all : (c : Change) → IsChange s t c → In c (changes s t)
  unfolding changes
  changes-all c k =
      ⊎_elim (λ (x : (c.entry ≡ of_count) × (c.field ≡ 0)).
      in-first c (at_field of_count 0) (changes_from (count t) s t 0) (among c of_count 0 x.0 x.1 k))
      (λ (y : (c.entry < count t) × (1 ≤ c.field) × (c.field ≤ 3)).
      in-second c (at_field of_count 0) (changes_from (count t) s t 0)
      (entries-among (count t) c 0 (omega arith) (omega (arith, y.0)) y.1 y.2 k))
      k.is_field

-- ---- file order

-- every change of a list stands before a place
abbrev Below : ℕ → List Change → Type 0
Below m [] = Unit {0}
Below m (c ∷ cs) = (order_of c < m) × Below m cs

later : (k m : ℕ) (cs : List Change) → k ≤ m → Rising m cs → Rising k cs
later k m [] h r = tt
later k m (c ∷ cs) h r = (omega (arith, h, r.0), r.1)

rises-on : (k m : ℕ) (xs ys : List Change) → k ≤ m → Rising k xs → Below m xs → Rising m ys → Rising k (xs ++ ys)
rises-on k m [] ys h r b q = later k m ys h q
rises-on k m (c ∷ xs) ys h r b q = (r.0, rises-on (order_of c + 1) m xs ys (omega (arith, b.0)) r.1 b.1 q)

below_both : (m : ℕ) (xs ys : List Change) → Below m xs → Below m ys → Below m (xs ++ ys)
below_both m [] ys a b = b
below_both m (c ∷ xs) ys a b = (a.0, below_both m xs ys a.1 b)

higher : (k m : ℕ) (cs : List Change) → k ≤ m → Below k cs → Below m cs
higher k m [] h b = tt
higher k m (c ∷ cs) h b = (omega (arith, h, b.0), higher k m cs h b.1)

module _ (i f old new : ℕ) where
  abbrev here : ℕ
  here = order_of (told i f old new)

  one-rises : Rising here (changed i f old new)
  one-rises = go (eqb old new) refl
    where
      go : (b : Bool) → eqb old new ≡ b → Rising here (changed i f old new)
      go true e = subst (Rising here) (sym (unchanged i f old new (eqb-true old new e))) tt
      go false e = subst (Rising here) (sym (is-changed i f old new (eqb-false old new e))) (omega arith, tt)

  one_below : Below (here + 1) (changed i f old new)
  one_below = go (eqb old new) refl
    where
      go : (b : Bool) → eqb old new ≡ b → Below (here + 1) (changed i f old new)
      go true e = subst (Below (here + 1)) (sym (unchanged i f old new (eqb-true old new e))) tt
      go false e = subst (Below (here + 1)) (sym (is-changed i f old new (eqb-false old new e))) (omega arith, tt)

module _ (i : ℕ) (e g : Entry) where
  abbrev a : List Change
  a = changed i 1 e.offset g.offset

  abbrev b : List Change
  b = changed i 2 e.len g.len

  abbrev d : List Change
  d = changed i 3 e.direction g.direction

  entry-rises : Rising (3 * i + 1) (entry_changes i e g)
  unfolding entry_changes
  entry-rises =
      rises-on (3 * i + 1) (3 * i + 2) a (b ++ d) (omega arith) (one-rises i 1 e.offset g.offset)
      (higher (3 * i + 1 + 1) (3 * i + 2) a (omega arith) (one_below i 1 e.offset g.offset))
      (rises-on (3 * i + 2) (3 * i + 3) b d (omega arith) (one-rises i 2 e.len g.len)
      (higher (3 * i + 2 + 1) (3 * i + 3) b (omega arith) (one_below i 2 e.len g.len))
      (one-rises i 3 e.direction g.direction))

  entry-below : Below (3 * i + 4) (entry_changes i e g)
  unfolding entry_changes
  entry-below =
      below_both (3 * i + 4) a (b ++ d) (higher (3 * i + 1 + 1) (3 * i + 4) a (omega arith) (one_below i 1 e.offset g.offset))
      (below_both (3 * i + 4) b d (higher (3 * i + 2 + 1) (3 * i + 4) b (omega arith) (one_below i 2 e.len g.len))
      (higher (3 * i + 3 + 1) (3 * i + 4) d (omega arith) (one_below i 3 e.direction g.direction)))

entries-rise : (n : ℕ) (s t : List ℕ) (i : ℕ) → Rising (3 * i + 1) (changes_from n s t i)
unfolding changes_from
entries-rise zero s t i = tt
entries-rise (suc n) s t i =
    let k : 3 * i + 4 ≤ 3 * (i + 1) + 1 = omega arith in
    rises-on (3 * i + 1) (3 * i + 4) (entry_changes i (entry s i) (entry t i)) (changes_from n s t (i + 1)) (omega arith)
    (entry-rises i (entry s i) (entry t i)) (entry-below i (entry s i) (entry t i))
    (later (3 * i + 4) (3 * (i + 1) + 1) (changes_from n s t (i + 1)) k (entries-rise n s t (i + 1)))

changes-rise : (s t : List ℕ) → Rising 0 (changes s t)
unfolding changes
changes-rise s t =
    rises-on 0 1 (changed of_count 0 (count s) (count t)) (changes_from (count t) s t 0) (omega arith)
    (one-rises of_count 0 (count s) (count t)) (one_below of_count 0 (count s) (count t))
    (later 1 (3 * 0 + 1) (changes_from (count t) s t 0) (omega arith) (entries-rise (count t) s t 0))

pub report-exactly : (s : List ℕ) → ReportExactly s
report-exactly s =
    record { exactly = λ c. (changes-true s (mended s) c, changes-all s (mended s) c); in_order = changes-rise s (mended s) }
