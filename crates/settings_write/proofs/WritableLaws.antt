-- The test of what may be written: what it tells of a setting, one setting further, and what it tells of all of them.
-- Assumes nothing.
use mathlib.Core.Path.{◌≡◌, refl, sym, ap, subst, ◌∙◌}
use mathlib.Core.Bool.{Bool, true, false, cond, not, ◌&&◌, false≢true, and-eq-true_iff}
use mathlib.Core.List.{List}
use mathlib.Core.Logic.{⊎_elim}
use Prim.Native.Nat.{ℕ, zero, suc, ◌+◌, ◌-◌, ◌≤◌, ◌<◌}
use native.Mathlib.Nat.{eq-or-lt_of_le}
use native.Mathlib.Omega.{arith}
use lib.Dec.{leb}
use borrow.Author.Tests.{leb-true, not-true}
use Rattle.settings_rules.specs.Rules.{is_unknown, lawful}
use Rattle.settings_rules.specs.Contents.{Contents}
use Rattle.settings_write.specs.Writing.{max_number, writable, is_writable, are_writable, all_writable}

-- ---- one setting

-- what the test tells of a setting
pub record Admitted (number : ℕ) (body : List ℕ) : Type 0 where
  pub lawful : lawful number body ≡ true
  pub most : number ≤ max_number
  pub not-unknown : is_unknown number ≡ false

module _ (number : ℕ) (body : List ℕ) (least : ℕ) (e : writable number body least ≡ true) where
  pub rising : least ≤ number
  unfolding writable
  rising = leb-true least number ((and-eq-true_iff (leb least number) (lawful number body && (leb number max_number && not (is_unknown number)))).0 e).0

  pub admitted : Admitted number body
  unfolding writable
  admitted =
      let rest = leb number max_number && not (is_unknown number) in
      let p = (and-eq-true_iff (leb least number) (lawful number body && rest)).0 e in
      let q = (and-eq-true_iff (lawful number body) rest).0 p.1 in
      let r = (and-eq-true_iff (leb number max_number) (not (is_unknown number))).0 q.1 in
      record { lawful = q.0; most = leb-true number max_number r.0; not-unknown = not-true (is_unknown number) r.1 }

-- ---- one setting further

one_left : (n i : ℕ) → i < n → n - i ≡ suc (n - (i + 1))
one_left n i h = omega arith

module _ (t : Contents) where
  -- the definition's own step
  step : (m i least : ℕ) (b : Bool) → is_writable t i least ≡ b
      → are_writable t (suc m) i least ≡ cond b (are_writable t m (i + 1) (t.number i + 1)) false
  unfolding are_writable
  step m i least b e =
      ap (λ (x : Bool). elim x [ true ↦ are_writable t m (i + 1) (t.number i + 1) | false ↦ false ]) e
      ∙ same b (are_writable t m (i + 1) (t.number i + 1))
    where
      same : (x y : Bool) → (elim x [ true ↦ y | false ↦ false ]) ≡ cond x y false
      same true y = refl
      same false y = refl

  pub good-step : (n i least next : ℕ) → i < n → is_writable t i least ≡ true → next ≡ t.number i + 1
      → are_writable t (n - i) i least ≡ are_writable t (n - (i + 1)) (i + 1) next
  good-step n i least next h e q =
      ap (λ (m : ℕ). are_writable t m i least) (one_left n i h) ∙ step (n - (i + 1)) i least true e
      ∙ ap (are_writable t (n - (i + 1)) (i + 1)) (sym q)

  pub bad-step : (n i least : ℕ) → i < n → is_writable t i least ≡ false → are_writable t (n - i) i least ≡ false
  bad-step n i least h e = ap (λ (m : ℕ). are_writable t m i least) (one_left n i h) ∙ step (n - (i + 1)) i least false e

  pub last_step : (n i least : ℕ) → n ≤ i → are_writable t (n - i) i least ≡ true
  unfolding are_writable
  last_step n i least h = let e : n - i ≡ zero = omega arith in rw e

-- ---- all of them

-- n settings from i on, the first of which has at least the number `least`
record Goods (t : Contents) (n i least : ℕ) : Type 0 where
  first : 0 < n → least ≤ t.number i
  each : (k : ℕ) → i ≤ k → k < i + n → Admitted (t.number k) (t.body k)
  rise : (k : ℕ) → i ≤ k → k + 1 < i + n → t.number k < t.number (k + 1)

module _ (t : Contents) where
  more : (n i least : ℕ) → is_writable t i least ≡ true → Goods t n (i + 1) (t.number i + 1) → Goods t (suc n) i least
  more n i least e r =
      record {
        first = λ _. rising (t.number i) (t.body i) least e;
        each = λ k l u. ⊎_elim
            (λ (q : i ≡ k). subst (λ (x : ℕ). Admitted (t.number x) (t.body x)) q (admitted (t.number i) (t.body i) least e))
            (λ (v : i < k). r.each k (omega arith) (omega arith))
            (eq-or-lt_of_le l);
        rise = λ k l u. ⊎_elim
            (λ (q : i ≡ k). subst (λ (x : ℕ). t.number x < t.number (x + 1)) q
            (let f : t.number i + 1 ≤ t.number (i + 1) = r.first (omega arith) in omega (arith, f)))
            (λ (v : i < k). r.rise k (omega arith) (omega arith))
            (eq-or-lt_of_le l);
      }

  goods : (n i least : ℕ) → are_writable t n i least ≡ true → Goods t n i least
  goods zero i least h =
      record {
        first = λ l. absurd (omega arith);
        each = λ k l g. absurd (omega arith);
        rise = λ k l g. absurd (omega arith);
      }
  goods (suc n) i least h = go (is_writable t i least) refl (goods n (i + 1) (t.number i + 1))
    where
      go : (b : Bool) → is_writable t i least ≡ b
          → (are_writable t n (i + 1) (t.number i + 1) ≡ true → Goods t n (i + 1) (t.number i + 1)) → Goods t (suc n) i least
      go true e r = more n i least e (r (sym (step t n i least true e) ∙ h))
      go false e r = absurd (false≢true (sym (step t n i least false e) ∙ h))

  -- what the test of all tells
  module _ (h : all_writable t ≡ true) where
    pub each-admitted : (i : ℕ) → i < t.size → Admitted (t.number i) (t.body i)
    each-admitted i l = (goods t.size 0 0 h).each i (omega arith) (omega arith)

    pub numbers-rise : (i : ℕ) → i + 1 < t.size → t.number i < t.number (i + 1)
    numbers-rise i l = (goods t.size 0 0 h).rise i (omega arith) (omega arith)
