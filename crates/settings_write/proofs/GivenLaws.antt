-- How many bytes of bodies stand before a setting, and the test that words describe the bodies.
-- Assumes nothing.
use mathlib.Core.Path.{◌≡◌, refl, sym, ap, ◌∙◌}
use mathlib.Core.Bool.{Bool, true, false, ◌&&◌, and-false, and-eq-true_iff}
use mathlib.Core.List.{List}
use Prim.Native.Nat.{ℕ, zero, suc, ◌+◌, ◌-◌, ◌/◌, ◌%◌, ◌≤◌, ◌<◌}
use native.Mathlib.Numerals.{add-one}
use native.Mathlib.Omega.{arith}
use lib.Dec.{eqb}
use lib.ListN.{length, take, drop}
use lib.Seq.{drop-drop}
use borrow.Author.Tests.{eq-eqb, ne_eqb, eqb-true, eqb-false}
use Rattle.settings_write.specs.Writing.{number_at, length_at, size_of, before, body_at, given, describes, writable, is_writable}

-- ---- the bytes before a setting

module _ (ws : List ℕ) where
  pub before-first : before ws 0 ≡ 0
  unfolding before
  before-first = refl

  pub before-next : (i : ℕ) → before ws (i + 1) ≡ before ws i + length_at ws i
  unfolding before
  before-next i = ap (before ws) (add-one i)

  before-rises : (i k : ℕ) → before ws i ≤ before ws (i + k)
  before-rises i zero = let e : i + zero ≡ i = omega arith in rw e (omega arith)
  before-rises i (suc k) =
      let e : i + suc k ≡ i + k + 1 = omega arith in
      let f : before ws (i + suc k) ≡ before ws (i + k) + length_at ws (i + k) = ap (before ws) e ∙ before-next (i + k) in
      omega (arith, f, before-rises i k)

  -- a body ends within all of them
  pub before-within : (i n : ℕ) → i < n → before ws i + length_at ws i ≤ before ws n
  before-within i n l =
      let e : i + 1 + (n - (i + 1)) ≡ n = omega arith in
      let r : before ws (i + 1) ≤ before ws n = rw e at (before-rises (i + 1) (n - (i + 1))) in
      omega (arith, r, before-next i)

-- ---- the test, in the order of the code

alike : (a b x y : ℕ) → (a ≡ b → x ≡ y) → (x ≡ y → a ≡ b) → eqb a b ≡ eqb x y
alike a b x y f g = go (eqb a b) refl
  where
    go : (t : Bool) → eqb a b ≡ t → t ≡ eqb x y
    go true e = sym (eq-eqb x y (f (eqb-true a b e)))
    go false e = sym (ne_eqb x y (λ q. eqb-false a b e (g q)))

module _ (ws : List ℕ) (n : ℕ) where
  pub odd-words : (length ws % 2 ≡ 0 → ⊥) → false ≡ describes ws n
  unfolding describes
  odd-words h = rw (ne_eqb (length ws % 2) 0 h)

  -- a length is over what is left
  pub over-left : (i left : ℕ) → i < length ws / 2 → before ws i + left ≡ n → left < length_at ws i → false ≡ describes ws n
  unfolding describes
  over-left i left l e h =
      let m : before ws (size_of ws) ≡ n → ⊥ = λ q. omega (arith, before-within ws i (length ws / 2) l, q, e, h) in
      sym (and-false (eqb (length ws % 2) 0)) ∙ ap (◌&&◌ (eqb (length ws % 2) 0)) (sym (ne_eqb (before ws (size_of ws)) n m))

  -- all lengths are taken
  pub all-taken : (left : ℕ) → length ws % 2 ≡ 0 → before ws (size_of ws) + left ≡ n → eqb left 0 ≡ describes ws n
  unfolding describes
  all-taken left p e =
      alike left 0 (before ws (size_of ws)) n (λ q. omega (arith, q, e)) (λ q. omega (arith, q, e))
      ∙ ap (λ (t : Bool). t && eqb (before ws (size_of ws)) n) (sym (eq-eqb (length ws % 2) 0 p))

  -- what the test tells
  pub described : describes ws n ≡ true → before ws (size_of ws) ≡ n
  unfolding describes
  described e = eqb-true (before ws (size_of ws)) n ((and-eq-true_iff (eqb (length ws % 2) 0) (eqb (before ws (size_of ws)) n)).0 e).1

-- ---- the part of the bodies that is tested

-- the body is at the front of what is left of the bodies, and behind it those that follow
module _ (ws bodies : List ℕ) (i number len : ℕ) (rest : List ℕ) (e : rest ≡ drop (before ws i) bodies) (en : number ≡ number_at ws i)
    (el : len ≡ length_at ws i) where
  pub tested : (body : List ℕ) → body ≡ take len rest → (least : ℕ) (b : Bool) → b ≡ writable number body least
      → is_writable (given ws bodies) i least ≡ b
  unfolding body_at
  tested body eb least b ew = sym (ew ∙ (λ k. writable (en k) ((eb ∙ (λ j. take (el j) (e j))) k) least))

  pub next-rest : (behind : List ℕ) → behind ≡ drop len rest → behind ≡ drop (before ws (i + 1)) bodies
  next-rest behind eb =
      eb ∙ (λ j. drop (el j) (e j)) ∙ drop-drop (length_at ws i) (before ws i) bodies
      ∙ ap (λ (k : ℕ). drop k bodies) (sym (before-next ws i))
