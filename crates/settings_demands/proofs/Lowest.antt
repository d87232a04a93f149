-- The unknown setting that is told is the lowest.
-- Assumes nothing.
use Rattle.std.specs.Prelude.{Err, Ok, Result, Some}
use mathlib.Core.Path.{◌≡◌, refl, sym, ap, subst, ◌∙◌}
use mathlib.Core.Bool.{Bool, true, false, not, ◌&&◌, false≢true}
use mathlib.Core.List.{List}
use mathlib.Core.Logic.{⊎_elim}
use Prim.Native.Nat.{ℕ, suc, ◌+◌, ◌-◌, ◌≤◌, ◌<◌}
use native.Mathlib.Nat.{eq-or-lt_of_le}
use native.Mathlib.Omega.{arith}
use lib.Dec.{ltb}
use borrow.Author.Tests.{ltb-true, le-leb}
use Rattle.protocol.specs.declared.Refusal.{Refusal}
use Rattle.protocol.specs.Refusal.{refusal_number, added}
use Rattle.settings_rules.specs.Rules.{is_known, is_unknown}
use Rattle.settings_rules.specs.Contents.{first_unknown}
use Rattle.settings_rules.proofs.ContentsLaws.{unknown-found, rises-to}
use Rattle.settings_file.specs.Format.{count, contents_of, WellMade}
use Rattle.settings_read.specs.Reading.{read_answer}
use Rattle.settings_demands.specs.Files.{Known, number_of, Unknown, Lowest, RefusesLowest}
use Rattle.settings_demands.proofs.SaysLaws.{lt-or-le}
use Rattle.settings_demands.proofs.ReadExactly.{Ways, refused, unknown, shown, ways, not-refused, known-below}
use Rattle.settings_read.specs.declared.Settings.{Settings}

-- ---- refusals are told apart

abbrev number_told : Result Settings Refusal → ℕ
number_told (Ok x) = 0
number_told (Err r) = refusal_number r

abbrev added_told : Result Settings Refusal → ℕ
added_told (Ok x) = 0
added_told (Err r) = added r

-- ---- an unknown number

is_below : (n : ℕ) → is_unknown n ≡ true → n < 128
unfolding is_unknown
is_below n e = go (ltb n 128) refl
  where
    go : (b : Bool) → ltb n 128 ≡ b → n < 128
    go true f = ltb-true n 128 f
    go false f = absurd (false≢true (sym (ap (λ (b : Bool). b && not (is_known n)) f) ∙ e))

is-not-known : (n : ℕ) → is_unknown n ≡ true → Known n → ⊥
unfolding is_unknown is_known
is-not-known n e k =
    let f : is_unknown n ≡ false = (λ i. ltb n 128 && not (le-leb 1 n k.0 i && le-leb n 4 k.1 i)) ∙ off (ltb n 128) in
    false≢true (sym f ∙ e)
  where
    off : (b : Bool) → (b && false) ≡ false
    off true = refl
    off false = refl

module _ (s : List ℕ) (w : WellMade s) (i : ℕ) (f : first_unknown (contents_of s) ≡ Some i) where
  abbrev n : ℕ
  n = number_of s i

  abbrev found : (i < count s) × (is_unknown n ≡ true) × ((j : ℕ) → j < i → is_unknown (number_of s j) ≡ false)
  found = unknown-found (contents_of s) i f

  no_lower : (m : ℕ) → Unknown s m → n ≤ m
  no_lower m u =
      ⊎_elim
      (λ (p : u.index < i). absurd (u.not_known (subst Known u.number
      (known-below (number_of s u.index) (found.2 u.index p) (omega (arith, u.number, u.below))))))
      (λ (p : i ≤ u.index). ⊎_elim
      (λ (q : i ≡ u.index). let e : n ≡ m = ap (number_of s) q ∙ u.number in omega arith)
      (λ (q : i < u.index).
      let d : i + suc (u.index - i - 1) ≡ u.index = omega arith in
      let r : n < number_of s (i + suc (u.index - i - 1)) = rises-to (contents_of s) w.lawful i (u.index - i - 1) (omega (arith, u.there)) in
      let t : n < number_of s u.index = rw d at r in
      omega (arith, u.number))
      (eq-or-lt_of_le p))
      (lt-or-le u.index i)

  lowest : Lowest s n
  lowest =
      record {
        unknown =
            record { index = i; there = found.0; number = refl; below = is_below n found.1; not_known = is-not-known n found.1 };
        least = no_lower;
      }

pub refuses-lowest : RefusesLowest
refuses-lowest s n e = go (ways s)
  where
    told : (r : Refusal) → read_answer s ≡ Err r → refusal_number r ≡ 15
    told r f = ap number_told (sym f ∙ e)

    go : Ways s → Lowest s n
    go (refused r f g) =
        absurd (⊎_elim (λ p. other r f (ap refusal_number p)) (⊎_elim (λ p. other4 r f (ap refusal_number p)) (λ p. other5 r f (ap refusal_number p))) g)
      where
        other : (r : Refusal) → read_answer s ≡ Err r → refusal_number r ≡ 2 → ⊥
        other r f p = omega (arith, told r f, p)

        other4 : (r : Refusal) → read_answer s ≡ Err r → refusal_number r ≡ 4 → ⊥
        other4 r f p = omega (arith, told r f, p)

        other5 : (r : Refusal) → read_answer s ≡ Err r → refusal_number r ≡ 5 → ⊥
        other5 r f p = omega (arith, told r f, p)
    go (unknown w i f g) = subst (Lowest s) (ap added_told (sym g ∙ e)) (lowest s w i f)
    go (shown l u h w f g) = absurd (not-refused (sym e ∙ g))
