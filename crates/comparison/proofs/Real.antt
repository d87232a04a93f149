-- Every difference that is told is real and none is left out: what `difference_at` tells of an index holds there, and it tells
-- nothing exactly where the two entries are equal.
-- Assumes nothing.
use mathlib.Core.Path.{◌≡◌, refl, sym, ap, subst, ◌∙◌}
use mathlib.Core.Bool.{Bool, true, false}
use mathlib.Core.List.{List}
use mathlib.Core.Logic.{◌⊎◌, inl, inr, ⊎_elim}
use Prim.Native.Nat.{ℕ, zero, suc, ◌+◌, ◌≤◌, ◌<◌, max}
use native.Mathlib.Omega.{arith}
use lib.Dec.{ltb, eqb}
use lib.ListN.{length, get_or, length-drop}
use lib.Seq.{get_or-take, get_or-drop, ext_get_or, length-take-le}
use borrow.Author.Tests.{ltb-true, ltb-false, eqb-true, eqb-false}
use Rattle.recording.specs.Format.{count, entry, body, is_well_formed}
use Rattle.recording.proofs.WellFormedLaws.{body-within}
use Rattle.comparison.specs.declared.Difference.{Difference}
use Rattle.comparison.specs.declared.Difference.TheVariants.{Same, Length, Meta, Byte, FirstOnly, SecondOnly}
use Rattle.comparison.specs.Differences.{agree, bodies, between, difference_at}
use Rattle.comparison.specs.Meaning.{Both, SameLength, SameMeta, Equal, Says}
use Rattle.comparison.proofs.DifferenceLaws.{agree_at, some_byte, no_byte, lengths_differ, directions-differ, clocks-differ, by-bodies, second-only, first-only, in-neither, in_both}

-- decided
lt-or-le : (m n : ℕ) → (m < n) ⊎ (n ≤ m)
lt-or-le m n = go (ltb m n) refl
  where
    go : (t : Bool) → ltb m n ≡ t → (m < n) ⊎ (n ≤ m)
    go true e = inl (ltb-true m n e)
    go false e = inr (ltb-false m n e)

same_or_not : (m n : ℕ) → (m ≡ n) ⊎ (m ≡ n → ⊥)
same_or_not m n = go (eqb m n) refl
  where
    go : (t : Bool) → eqb m n ≡ t → (m ≡ n) ⊎ (m ≡ n → ⊥)
    go true e = inl (eqb-true m n e)
    go false e = inr (eqb-false m n e)

-- what `agree` counts
record Agrees (n : ℕ) (a : List ℕ) (i : ℕ) (b : List ℕ) (j p : ℕ) : Type 0 where
  most : p ≤ n
  before : (k : ℕ) → k < p → get_or a (i + k) 0 ≡ get_or b (j + k) 0
  stops : p < n → get_or a (i + p) 0 ≡ get_or b (j + p) 0 → ⊥

agrees : (n : ℕ) (a : List ℕ) (i : ℕ) (b : List ℕ) (j : ℕ) → Agrees n a i b j (agree n a i b j)
unfolding agree
agrees zero a i b j = record { most = omega arith; before = λ k h. absurd (omega arith); stops = λ h. absurd (omega arith) }
agrees (suc n) a i b j = go (eqb (get_or a i 0) (get_or b j 0)) refl (agrees n a (i + 1) b (j + 1))
  where
    rest : ℕ
    rest = agree n a (i + 1) b (j + 1)

    go : (t : Bool) → eqb (get_or a i 0) (get_or b j 0) ≡ t → Agrees n a (i + 1) b (j + 1) rest
        → Agrees (suc n) a i b j (agree (suc n) a i b j)
    go false e r =
        let x : i + 0 ≡ i = omega arith in
        let y : j + 0 ≡ j = omega arith in
        subst (λ (p : ℕ). Agrees (suc n) a i b j p) (sym (agree_at n a i b j false e))
        (record { most = omega arith; before = λ k h. absurd (omega arith); stops = λ h g. eqb-false _ _ e (rw (x, y) at g) })
    go true e r =
        let x : i + suc rest ≡ i + 1 + rest = omega arith in
        let y : j + suc rest ≡ j + 1 + rest = omega arith in
        subst (λ (p : ℕ). Agrees (suc n) a i b j p) (sym (agree_at n a i b j true e))
        (record {
          most = omega (arith, r.most);
          before = λ k h. each k h k refl;
          stops = λ h g. r.stops (omega arith) (rw (x, y) at g);
        })
      where
        each : (k : ℕ) → k < suc rest → (m : ℕ) → m ≡ k → get_or a (i + k) 0 ≡ get_or b (j + k) 0
        each k h zero z =
            let x : i + k ≡ i = omega arith in
            let y : j + k ≡ j = omega arith in
            rw (x, y) (eqb-true _ _ e)
        each k h (suc m) z =
            let x : i + k ≡ i + 1 + m = omega arith in
            let y : j + k ≡ j + 1 + m = omega arith in
            rw (x, y) (r.before m (omega arith))

module _ (a b : List ℕ) (i : ℕ) where
  -- a byte of a body
  at_body : (s : List ℕ) (k : ℕ) → k < (entry s i).len → get_or (body s i) k 0 ≡ get_or s ((entry s i).offset + k) 0
  unfolding body
  at_body s k h = get_or-take _ _ k 0 h ∙ get_or-drop _ s k 0

  long : (s : List ℕ) → is_well_formed s ≡ true → i < count s → length (body s i) ≡ (entry s i).len
  unfolding body
  long s w h = length-take-le _ _ (omega (arith, length-drop (entry s i).offset s, body-within s i w h))

  module _ (wa : is_well_formed a ≡ true) (wb : is_well_formed b ≡ true) (m : SameMeta a b i) where
    abbrev p : ℕ
    p = agree (entry a i).len a (entry a i).offset b (entry b i).offset

    equal-at : (k : ℕ) → k < p → get_or (body a i) k 0 ≡ get_or (body b i) k 0
    equal-at k h =
        let g = agrees (entry a i).len a (entry a i).offset b (entry b i).offset in
        at_body a k (omega (arith, g.most)) ∙ g.before k h ∙ sym (at_body b k (omega (arith, g.most, m.lengths.len)))

    by-body : Says a b i (bodies (entry a i).len p)
    by-body =
        let g = agrees (entry a i).len a (entry a i).offset b (entry b i).offset in
        let la = long a wa m.lengths.both.first in
        let lb = long b wb m.lengths.both.second in
        ⊎_elim
        (λ (h : p < (entry a i).len). subst (Says a b i) (some_byte _ _ h)
        (record {
          meta = m;
          inside = h;
          before = equal-at;
          differs = λ e. g.stops h (sym (at_body a p h) ∙ e ∙ at_body b p (omega (arith, m.lengths.len)));
        }))
        (λ (h : (entry a i).len ≤ p). subst (Says a b i) (no_byte _ _ h)
        (inl (record {
          meta = m;
          bytes = ext_get_or 0 (body a i) (body b i) (la ∙ m.lengths.len ∙ sym lb) (λ k l. equal-at k (omega (arith, la)));
        })))
        (lt-or-le p (entry a i).len)

  module _ (wa : is_well_formed a ≡ true) (wb : is_well_formed b ≡ true) (h : Both a b i) where
    by-clock : (l : SameLength a b i) → (entry a i).direction ≡ (entry b i).direction → Says a b i (between a (entry a i) b (entry b i))
    by-clock l d =
        ⊎_elim
        (λ (c : (entry a i).clock ≡ (entry b i).clock). subst (Says a b i) (by-bodies a (entry a i) b (entry b i) l.len d c)
        (by-body wa wb (record { lengths = l; direction = d; clock = c })))
        (λ (c : (entry a i).clock ≡ (entry b i).clock → ⊥).
        subst (Says a b i) (clocks-differ a (entry a i) b (entry b i) l.len d c) (l, λ m. c m.clock))
        (same_or_not (entry a i).clock (entry b i).clock)

    by-direction : SameLength a b i → Says a b i (between a (entry a i) b (entry b i))
    by-direction l =
        ⊎_elim
        (by-clock l)
        (λ (d : (entry a i).direction ≡ (entry b i).direction → ⊥).
        subst (Says a b i) (directions-differ a (entry a i) b (entry b i) l.len d) (l, λ m. d m.direction))
        (same_or_not (entry a i).direction (entry b i).direction)

    by_entries : Says a b i (between a (entry a i) b (entry b i))
    by_entries =
        ⊎_elim
        (λ (l : (entry a i).len ≡ (entry b i).len). by-direction (record { both = h; len = l }))
        (λ (l : (entry a i).len ≡ (entry b i).len → ⊥).
        subst (Says a b i) (lengths_differ a (entry a i) b (entry b i) l) (h, refl, refl, l))
        (same_or_not (entry a i).len (entry b i).len)

  -- what is told of an index is true
  pub real : is_well_formed a ≡ true → is_well_formed b ≡ true → Says a b i (difference_at a b i)
  real wa wb = ⊎_elim
      (λ (x : i < count a). ⊎_elim
      (λ (y : i < count b). subst (Says a b i) (in_both a b i x y) (by_entries wa wb (record { first = x; second = y })))
      (λ (y : count b ≤ i). subst (Says a b i) (first-only a b i x y) (x, y))
      (lt-or-le i (count b)))
      (λ (x : count a ≤ i). ⊎_elim
      (λ (y : i < count b). subst (Says a b i) (second-only a b i x y) (x, y))
      (λ (y : count b ≤ i). subst (Says a b i) (in-neither a b i x y) (inr (x, y)))
      (lt-or-le i (count b)))
      (lt-or-le i (count a))

  -- of equal entries nothing but `Same` is true
  only_same : Equal a b i → (d : Difference) → Says a b i d → d ≡ Same
  only_same e Same s = refl
  only_same e (Length x y) s = absurd (s.3 (s.1 ∙ e.meta.lengths.len ∙ sym s.2))
  only_same e Meta s = absurd (s.1 e.meta)
  only_same e (Byte k) s = absurd (s.differs (ap (λ (x : List ℕ). get_or x k 0) e.bytes))
  only_same e FirstOnly s = absurd (omega (arith, e.meta.lengths.both.second, s.1))
  only_same e SecondOnly s = absurd (omega (arith, e.meta.lengths.both.first, s.0))

  -- where one of the two has an entry, nothing differs exactly where they are equal
  pub same-exactly : is_well_formed a ≡ true → is_well_formed b ≡ true → i < max (count a) (count b)
      → (difference_at a b i ≡ Same → Equal a b i) × (Equal a b i → difference_at a b i ≡ Same)
  same-exactly wa wb h = (
    λ e. ⊎_elim (λ (q : Equal a b i). q) (λ (q : (count a ≤ i) × (count b ≤ i)). absurd (omega (arith, q.0, q.1)))
        (subst (Says a b i) e (real wa wb)),
    λ q. only_same q (difference_at a b i) (real wa wb),
  )
