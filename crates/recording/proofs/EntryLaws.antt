-- The test of a recording: its cases in the order of the code, one entry further, and what a good entry has.
-- Assumes nothing.
use mathlib.Core.Path.{◌≡◌, refl, ap, ◌∙◌}
use mathlib.Core.Bool.{Bool, true, false, cond}
use mathlib.Core.List.{List}
use Prim.Native.Nat.{ℕ, zero, suc, ◌+◌, ◌-◌, ◌≤◌, ◌<◌}
use native.Mathlib.Omega.{arith}
use lib.Dec.{leb, eqb}
use lib.ListN.{length}
use borrow.Author.Tests.{leb-true, eqb-true, eq-eqb, ne_eqb, le-leb, lt-leb}
use Rattle.recording.specs.declared.Entry.{Entry}
use Rattle.recording.specs.Format.{count, place_of, entry, Good, is_good, are_good, is_well_formed}

-- the cases of `is_good`, in the order of the code
pub elsewhere : (e : Entry) (place : ℕ) → (e.offset ≡ place → ⊥) → false ≡ is_good e place
unfolding is_good
elsewhere e place h = rw (ne_eqb e.offset place h)

pub too_long : (e : Entry) (place : ℕ) → e.offset ≡ place → 65507 < e.len → false ≡ is_good e place
unfolding is_good
too_long e place h g = rw (eq-eqb e.offset place h, lt-leb e.len 65507 g)

pub by-direction : (e : Entry) (place : ℕ) → e.offset ≡ place → e.len ≤ 65507 → leb e.direction 2 ≡ is_good e place
unfolding is_good
by-direction e place h g = rw (eq-eqb e.offset place h, le-leb e.len 65507 g)

-- the cases of `is_well_formed`
pub uncounted : (s : List ℕ) → length s < 4 → false ≡ is_well_formed s
unfolding is_well_formed
uncounted s h = rw (lt-leb 4 (length s) h)

pub by_entries : (s : List ℕ) → 4 ≤ length s → count s ≤ 4096 → place_of (count s) ≤ length s
    → are_good s (count s) 0 (place_of (count s)) ≡ is_well_formed s
unfolding is_well_formed
by_entries s h g k = rw (le-leb 4 (length s) h, le-leb (count s) 4096 g, le-leb (place_of (count s)) (length s) k)

-- both tests of a conjunction
pub and_both : (a b : Bool) → cond a b false ≡ true → (a ≡ true) × (b ≡ true)
and_both true b h = (refl, h)
and_both false b h = let z : ◌≡◌ {A = ℕ} 0 1 = cc in absurd (omega arith)

pub good : (e : Entry) (place : ℕ) → is_good e place ≡ true → Good e place
unfolding is_good
good e place h =
    let p = and_both (eqb e.offset place) (cond (leb e.len 65507) (leb e.direction 2) false) h in
    let q = and_both (leb e.len 65507) (leb e.direction 2) p.1 in
    record { back-to-back = eqb-true _ _ p.0; short = leb-true _ _ q.0; known = leb-true _ _ q.1 }

pub one_left : (n i : ℕ) → i < n → n - i ≡ suc (n - (i + 1))
one_left n i h = omega arith

-- the definition's own step
pub step : (s : List ℕ) (m i place : ℕ) (b : Bool) → is_good (entry s i) place ≡ b
    → are_good s (suc m) i place ≡ cond b (are_good s m (i + 1) (place + (entry s i).len)) false
unfolding are_good
step s m i place b e =
    ap (λ (x : Bool). elim x [ true ↦ are_good s m (i + 1) (place + (entry s i).len) | false ↦ false ]) e
    ∙ same b (are_good s m (i + 1) (place + (entry s i).len))
  where
    same : (x y : Bool) → (elim x [ true ↦ y | false ↦ false ]) ≡ cond x y false
    same true y = refl
    same false y = refl

pub good-step : (s : List ℕ) (n i place : ℕ) → i < n → is_good (entry s i) place ≡ true
    → are_good s (n - i) i place ≡ are_good s (n - (i + 1)) (i + 1) (place + (entry s i).len)
good-step s n i place h e = ap (λ (m : ℕ). are_good s m i place) (one_left n i h) ∙ step s (n - (i + 1)) i place true e

pub bad-step : (s : List ℕ) (n i place : ℕ) → i < n → is_good (entry s i) place ≡ false → are_good s (n - i) i place ≡ false
bad-step s n i place h e = ap (λ (m : ℕ). are_good s m i place) (one_left n i h) ∙ step s (n - (i + 1)) i place false e

pub last_step : (s : List ℕ) (n place : ℕ) → are_good s (n - n) n place ≡ leb place (length s)
unfolding are_good
last_step s n place = let e : n - n ≡ zero = omega arith in rw e
