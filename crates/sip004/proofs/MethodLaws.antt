-- What the method of a number asks for.
-- Assumes nothing.
use Rattle.std.specs.Prelude.{None, Option, Some}
use mathlib.Core.Path.{◌≡◌, refl, sym, ap, ◌∙◌, subst}
use mathlib.Core.Bool.{Bool, true, false, cond, ◌&&◌, false≢true, and-eq-true_iff}
use Prim.Native.Nat.{ℕ, ◌<◌}
use lib.Dec.{eqb, lit<}
use borrow.Author.Tests.{eqb-true, eq-eqb, ne_eqb}
use Rattle.aes.specs.Keyed.{nk_of}
use Rattle.sip004.specs.declared.Method.{Method}
use Rattle.sip004.specs.Method.{aes128, aes192, aes256, method_of, asks_key, key_fits, asks_both, settings_fit, key_in, key_length}

-- by the tests for the three numbers
abbrev chosen : Bool → Bool → Bool → Option Method
chosen a b c = cond a (Some aes128) (cond b (Some aes192) (cond c (Some aes256) None))

-- a salt that fits is as long as its key
pub settings-both : (method k s : ℕ) → settings_fit method k s ≡ (key_fits method k && eqb k s)
unfolding settings_fit key_fits method_of
settings-both method k s = go (eqb method 11) (eqb method 12) (eqb method 13)
  where
    known : (m : Method) → m.salt ≡ m.key → (b : Bool) → eqb m.key k ≡ b → (b && eqb m.salt s) ≡ (b && eqb k s)
    known m same true e = ap (λ (n : ℕ). eqb n s) (same ∙ eqb-true m.key k e)
    known m same false e = refl

    go : (a b c : Bool) → asks_both (chosen a b c) k s ≡ (asks_key (chosen a b c) k && eqb k s)
    go true b c = known aes128 refl (eqb 16 k) refl
    go false true c = known aes192 refl (eqb 24 k) refl
    go false false true = known aes256 refl (eqb 32 k) refl
    go false false false = refl

pub settings-sizes : (method k s : ℕ) → settings_fit method k s ≡ true → (key_fits method k ≡ true) × (s ≡ k)
settings-sizes method k s e =
    let f = (and-eq-true_iff (key_fits method k) (eqb k s)).0 (sym (settings-both method k s) ∙ e) in
    (f.0, sym (eqb-true k s f.1))

-- a key that fits is as long as its method says, and a key of AES
pub record Sized (own k : ℕ) : Type 0 where
  pub length-is : own ≡ k
  pub of-aes : 0 < nk_of k

pub fits-sizes : (method k : ℕ) → key_fits method k ≡ true → Sized (key_length method) k
unfolding key_fits method_of key_length nk_of
fits-sizes method k = go (eqb method 11) (eqb method 12) (eqb method 13)
  where
    known : (n : ℕ) → 0 < nk_of n → eqb n k ≡ true → Sized n k
    known n least e = let f = eqb-true n k e in record { length-is = f; of-aes = subst (λ (m : ℕ). 0 < nk_of m) f least }

    go : (a b c : Bool) → asks_key (chosen a b c) k ≡ true → Sized (key_in (chosen a b c)) k
    go true b c e = known 16 (lit< tt) e
    go false true c e = known 24 (lit< tt) e
    go false false true e = known 32 (lit< tt) e
    go false false false e = absurd (false≢true e)

-- a method that has a key length is known, and a key of that length fits it
pub length-fits : (method : ℕ) → (key_length method ≡ 0 → ⊥) → key_fits method (key_length method) ≡ true
unfolding key_fits method_of key_length
length-fits method = go (eqb method 11) (eqb method 12) (eqb method 13)
  where
    go : (a b c : Bool) → (key_in (chosen a b c) ≡ 0 → ⊥) → asks_key (chosen a b c) (key_in (chosen a b c)) ≡ true
    go true b c h = refl
    go false true c h = refl
    go false false true h = refl
    go false false false h = absurd (h refl)
