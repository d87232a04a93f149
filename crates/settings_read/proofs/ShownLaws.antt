-- What is read of a well-made file is what the bodies of its settings say.
-- Assumes nothing.
use Rattle.std.specs.Prelude.{None, Option, Some, MatchOption, IsSomeAnd}
use mathlib.Core.Path.{◌≡◌, refl, sym, ap, subst, ◌∙◌}
use mathlib.Core.Bool.{true}
use mathlib.Core.List.{List, ◌++◌}
use Prim.Native.Nat.{ℕ, ◌+◌, ◌≤◌, ◌<◌}
use native.Mathlib.Omega.{arith}
use lib.ListN.{length, take, drop, length-drop, take-append-drop}
use lib.Seq.{drop-drop, length-take-le}
use Rattle.octets.specs.Numbers.{be}
use Rattle.octets.proofs.NumberLaws.{be-take}
use Rattle.socks5.specs.Address.{parse_at, is_address, moved}
use Rattle.socks5.proofs.PlaceLaws.{one_found, found-anywhere}
use Rattle.settings_rules.specs.Rules.{lawful}
use Rattle.settings_rules.proofs.RuleLaws.{target-address}
use Rattle.settings_rules.proofs.ContentsLaws.{index-found}
use Rattle.settings_file.specs.Format.{count, entry, body, contents_of, WellMade}
use Rattle.settings_file.proofs.RowLaws.{body-within}
use Rattle.settings_read.specs.Reading.{value_of, target_found, target_of, setting_at}
use Rattle.settings_read.specs.Places.{place_in}
use Rattle.socks5.specs.declared.Address.{Address}
use Rattle.socks5.specs.declared.Target.{Target}

-- what was parsed, as a setting
abbrev pub told : Option Address → Option (Target × ℕ)
told (Some a) = Some (a.target, a.port)
told None = None

module _ (s : List ℕ) (w : WellMade s) (i : ℕ) (l : i < count s) where
  abbrev off : ℕ
  off = (entry s i).offset

  within : off + (entry s i).len ≤ length s
  within = omega (arith, body-within s w.in_row i l)

  pub body-length : length (body s i) ≡ (entry s i).len
  unfolding body
  body-length = length-take-le (entry s i).len (drop off s) (omega (arith, length-drop off s, within))

  -- a body's number is what stands at its place
  pub body-number : (n : ℕ) → length (body s i) ≡ n → be n (drop off s) ≡ be n (body s i)
  unfolding body
  body-number n e =
      sym (be-take n (drop off s)) ∙ ap (λ (k : ℕ). be n (take k (drop off s))) (sym e ∙ body-length)

  -- the file around a body
  around : take off s ++ (body s i ++ drop (off + (entry s i).len) s) ≡ s
  unfolding body
  around =
      ap (λ (x : List ℕ). take off s ++ (take (entry s i).len (drop off s) ++ x)) (sym (drop-drop (entry s i).len off s))
      ∙ ap (λ (x : List ℕ). take off s ++ x) (take-append-drop (entry s i).len (drop off s))
      ∙ take-append-drop off s

  pub address-there : is_address (body s i) ≡ true → told (parse_at s off) ≡ target_found off (parse_at (body s i) 0)
  address-there one =
      let f = one_found (body s i) one in
      let a = f.address in
      let n : length (take off s) ≡ off = length-take-le off s (omega (arith, within)) in
      let at : parse_at (take off s ++ (body s i ++ drop (off + (entry s i).len) s)) (length (take off s)) ≡ parse_at s off =
      λ j. parse_at (around j) (n j) in
      ap told (sym at ∙ found-anywhere (take off s) (body s i) (drop (off + (entry s i).len) s) a one f.found)
      ∙ ap (λ (k : ℕ). Some (moved k a.target, a.port)) n
      ∙ sym (ap (target_found off) f.found)

module _ (s : List ℕ) (w : WellMade s) (k : ℕ) where
  -- the body of the setting found is lawful for its number
  lawful-there : (i : ℕ) → setting_at s k ≡ Some i → lawful k (body s i) ≡ true
  lawful-there i e =
      let f = index-found (contents_of s) k i e in
      subst (λ (n : ℕ). lawful n (body s i) ≡ true) f.1 (w.lawful.bodies i f.0)

  -- a number of n bytes, read where the body begins
  pub number-shown : (n : ℕ) → ((b : List ℕ) → lawful k b ≡ true → length b ≡ n)
      → (p : Option ℕ) → p ≡ place_in s (setting_at s k) → {P : ℕ → ℕ → Type 0} (r : Option ℕ)
      → MatchOption p (r ≡ None) (λ at. IsSomeAnd r (P at)) → ((at x : ℕ) → P at x → x ≡ be n (drop at s))
      → r ≡ value_of n s (setting_at s k)
  number-shown n size p e {P} r h read =
      go (setting_at s k) refl r (subst (λ (q : Option ℕ). MatchOption q (r ≡ None) (λ at. IsSomeAnd r (P at))) e h)
    where
      go : (o : Option ℕ) → setting_at s k ≡ o → (r : Option ℕ) → MatchOption (place_in s o) (r ≡ None) (λ at. IsSomeAnd r (P at))
          → r ≡ value_of n s o
      go None f r h = h
      go (Some i) f None h = absurd h
      go (Some i) f (Some x) h =
          ap Some (read (entry s i).offset x h
          ∙ body-number s w i (index-found (contents_of s) k i f).0 n (size (body s i) (lawful-there i f)))

-- an address, read where the body begins
pub target-shown : (s : List ℕ) → WellMade s → (p : Option ℕ) → p ≡ place_in s (setting_at s 4)
    → {P : ℕ → Type 0} {Q : Address → (Target × ℕ) → Type 0} (a : Option Address) (r : Option (Target × ℕ))
    → MatchOption p (a ≡ None) P → ((at : ℕ) → P at → a ≡ parse_at s at)
    → MatchOption a (r ≡ None) (λ x. IsSomeAnd r (Q x)) → ((x : Address) (y : Target × ℕ) → Q x y → y ≡ (x.target, x.port))
    → r ≡ target_of s (setting_at s 4)
target-shown s w p e {P} {Q} a r h read g show = as-told a r g ∙ go (setting_at s 4) refl (subst (λ (q : Option ℕ). MatchOption q (a ≡ None) P) e h)
  where
    as-told : (x : Option Address) (y : Option (Target × ℕ)) → MatchOption x (y ≡ None) (λ z. IsSomeAnd y (Q z)) → y ≡ told x
    as-told None y g = g
    as-told (Some x) None g = absurd g
    as-told (Some x) (Some y) g = ap Some (show x y g)

    go : (o : Option ℕ) → setting_at s 4 ≡ o → MatchOption (place_in s o) (a ≡ None) P → told a ≡ target_of s o
    go None f h = ap told h
    go (Some i) f h =
        ap told (read (entry s i).offset h)
        ∙ address-there s w i (index-found (contents_of s) 4 i f).0 (target-address (body s i) (lawful-there s w 4 i f))
