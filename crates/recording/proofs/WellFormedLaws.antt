-- The test of a recording says exactly what the definition says, and where a well-formed recording's contents and bodies lie.
-- Assumes nothing.
use mathlib.Core.Path.{◌≡◌, refl, sym, ap, subst, ◌∙◌}
use mathlib.Core.Bool.{Bool, true, false, cond, false≢true}
use mathlib.Core.List.{List}
use mathlib.Core.Logic.{⊎_elim}
use Prim.Native.Nat.{ℕ, zero, suc, ◌+◌, ◌-◌, ◌≤◌, ◌<◌}
use native.Mathlib.Numerals.{add-one}
use native.Mathlib.Nat.{eq-or-lt_of_le}
use native.Mathlib.Omega.{arith}
use lib.Dec.{leb}
use lib.ListN.{length}
use borrow.Author.Tests.{leb-true, le-leb}
use Rattle.recording.specs.declared.Entry.{Entry}
use Rattle.recording.specs.Format.{count, place_of, entry, start, Good, WellFormed, is_good, are_good, is_well_formed}
use Rattle.recording.proofs.EntryLaws.{and_both, good, step, by-direction, by_entries}

-- a good entry passes the test
pub passes : (e : Entry) (place : ℕ) → Good e place → is_good e place ≡ true
passes e place g = sym (by-direction e place g.back-to-back g.short) ∙ le-leb e.direction 2 g.known

pub next_start : (s : List ℕ) (i : ℕ) → start s (i + 1) ≡ start s i + (entry s i).len
unfolding start
next_start s i = rw add-one

-- n entries from number i on, each where it has to be, and the end within the recording
record Goods (s : List ℕ) (n i : ℕ) : Type 0 where
  each : (k : ℕ) → i ≤ k → k < i + n → Good (entry s k) (start s k)
  ends : start s (i + n) ≤ length s

more : (s : List ℕ) (n i : ℕ) → Good (entry s i) (start s i) → Goods s n (i + 1) → Goods s (suc n) i
more s n i g r =
    record {
      each = λ k l u. ⊎_elim
          (λ (e : i ≡ k). subst (λ (x : ℕ). Good (entry s x) (start s x)) e g)
          (λ (v : i < k). r.each k (omega arith) (omega arith))
          (eq-or-lt_of_le l);
      ends = let e : i + suc n ≡ i + 1 + n = omega arith in rw e r.ends;
    }

goods : (s : List ℕ) (n i : ℕ) → are_good s n i (start s i) ≡ true → Goods s n i
unfolding are_good
goods s zero i h =
    record { each = λ k l g. absurd (omega arith); ends = let e : i + zero ≡ i = omega arith in rw e (leb-true _ _ h) }
goods s (suc n) i h = go (is_good (entry s i) (start s i)) refl (goods s n (i + 1))
  where
    go : (b : Bool) → is_good (entry s i) (start s i) ≡ b
        → (are_good s n (i + 1) (start s (i + 1)) ≡ true → Goods s n (i + 1)) → Goods s (suc n) i
    go true e r =
        more s n i (good _ _ e) (r (ap (are_good s n (i + 1)) (next_start s i) ∙ sym (step s n i (start s i) true e) ∙ h))
    go false e r = absurd (false≢true (sym (step s n i (start s i) false e) ∙ h))

goods-pass : (s : List ℕ) (n i : ℕ) → Goods s n i → are_good s n i (start s i) ≡ true
unfolding are_good
goods-pass s zero i r = le-leb _ _ (let e : i + zero ≡ i = omega arith in rw e at r.ends)
goods-pass s (suc n) i r =
    let e : i + suc n ≡ i + 1 + n = omega arith in
    step s n i (start s i) true (passes _ _ (r.each i (omega arith) (omega arith)))
    ∙ ap (are_good s n (i + 1)) (sym (next_start s i))
    ∙ goods-pass s n (i + 1) (record { each = λ k l u. r.each k (omega arith) (omega arith); ends = rw e at r.ends })

pub first-start : (s : List ℕ) → start s 0 ≡ place_of (count s)
unfolding start
first-start s = refl

pub well-formed : (s : List ℕ) → is_well_formed s ≡ true → WellFormed s
unfolding is_well_formed
well-formed s h =
    let entries = are_good s (count s) 0 (place_of (count s)) in
    let contents = cond (leb (place_of (count s)) (length s)) entries false in
    let a = and_both (leb 4 (length s)) (cond (leb (count s) 4096) contents false) h in
    let b = and_both (leb (count s) 4096) contents a.1 in
    let d = and_both (leb (place_of (count s)) (length s)) entries b.1 in
    let g = goods s (count s) 0 (ap (are_good s (count s) 0) (first-start s) ∙ d.1) in
    let e : 0 + count s ≡ count s = omega arith in
    record {
      counted = leb-true _ _ a.0;
      few = leb-true _ _ b.0;
      contents = leb-true _ _ d.0;
      good = λ i l. g.each i (omega arith) (omega arith);
      bodies = rw e at g.ends;
    }

passes-test : (s : List ℕ) → WellFormed s → is_well_formed s ≡ true
passes-test s w =
    let e : 0 + count s ≡ count s = omega arith in
    sym (by_entries s w.counted w.few w.contents)
    ∙ ap (are_good s (count s) 0) (sym (first-start s))
    ∙ goods-pass s (count s) 0 (record { each = λ k l u. w.good k (omega arith); ends = rw e w.bodies })

-- the test passes exactly the well-formed recordings
pub well-formed-exactly : (s : List ℕ) → (is_well_formed s ≡ true → WellFormed s) × (WellFormed s → is_well_formed s ≡ true)
well-formed-exactly s = (well-formed s, passes-test s)

-- ---- where contents and bodies lie

-- bodies begin in order
rises : (s : List ℕ) (i k : ℕ) → start s i ≤ start s (i + k)
rises s i zero = let e : i + zero ≡ i = omega arith in rw e (omega arith)
rises s i (suc k) =
    let e : i + suc k ≡ i + k + 1 = omega arith in
    let f : start s (i + suc k) ≡ start s (i + k) + (entry s (i + k)).len = ap (start s) e ∙ next_start s (i + k) in
    omega (arith, f, rises s i k)

pub body-within : (s : List ℕ) (i : ℕ) → is_well_formed s ≡ true → i < count s → (entry s i).offset + (entry s i).len ≤ length s
body-within s i h l =
    let w = well-formed s h in
    let e : i + 1 + (count s - (i + 1)) ≡ count s = omega arith in
    let r : start s (i + 1) ≤ start s (count s) = rw e at (rises s (i + 1) (count s - (i + 1))) in
    omega (arith, r, next_start s i, (w.good i l).back-to-back, w.bodies)

-- an entry's contents lie in the recording, and its index is small
pub entry-within : (s : List ℕ) (i : ℕ) → is_well_formed s ≡ true → i < count s → (place_of i + 15 ≤ length s) × (i < 4096)
entry-within s i h l = let w = well-formed s h in (omega (arith, w.contents), omega (arith, w.few))
