-- Two files that have the same settings below 128 show the same.
-- Assumes nothing.
use Rattle.std.specs.Prelude.{None, Option, Some}
use mathlib.Core.Path.{◌≡◌, refl, sym, ap, ◌∙◌}
use mathlib.Core.Bool.{Bool, true, false, cond}
use mathlib.Core.List.{List, [], ◌∷◌}
use Prim.Native.Nat.{ℕ, ◌+◌, ◌-◌, ◌≤◌, ◌<◌}
use native.Mathlib.Omega.{arith}
use lib.Dec.{eqb, leb, ltb}
use lib.ListN.{length, get_or, take, drop, length-drop, take-append-drop}
use lib.Seq.{drop-drop, drop-append-le, take-append-le}
use borrow.Author.Tests.{leb-true}
use Rattle.octets.specs.Numbers.{be}
use Rattle.socks5.specs.declared.Target.{Target}
use Rattle.socks5.specs.declared.Target.TheVariants.{V4, V6, Name}
use Rattle.socks5.specs.Address.{address_at, v4_at, v6_at, name_at, parse_at, moved}
use Rattle.settings_file.specs.Format.{count, entry, body, contents_of, WellMade}
use Rattle.settings_read.specs.Reading.{target_found}
use Rattle.settings_demands.specs.Files.{Says, set, unset, number_of, meaning, Within, NewerSame}
use Rattle.settings_demands.proofs.SaysLaws.{one_only}
use Rattle.settings_demands.proofs.ReadExactly.{read-is-readable}
use Rattle.socks5.specs.declared.Address.{Address}

-- ---- a name lies within the address that it is found in

abbrev name_end : Target → ℕ
name_end (V4 a) = 0
name_end (V6 a b) = 0
name_end (Name place n) = place + n

abbrev reach : Option Address → ℕ
reach (Some a) = name_end a.target
reach None = 0

module _ (b : List ℕ) where
  v4-within : reach (v4_at b 0) ≤ length b
  unfolding v4_at
  v4-within = go (leb 7 (length b - 0))
    where
      go : (c : Bool) → reach (cond c (address_at b (V4 (be 4 (drop (0 + 1) b))) (0 + 5)) None) ≤ length b
      go true = omega arith
      go false = omega arith

  v6-within : reach (v6_at b 0) ≤ length b
  unfolding v6_at
  v6-within = go (leb 19 (length b - 0))
    where
      go : (c : Bool) → reach (cond c (address_at b (V6 (be 8 (drop (0 + 1) b)) (be 8 (drop (0 + 9) b))) (0 + 17)) None) ≤ length b
      go true = omega arith
      go false = omega arith

  name-within : (n : ℕ) → reach (name_at b 0 n) ≤ length b
  unfolding name_at
  name-within n = go (ltb 0 n) (leb (n + 4) (length b - 0)) refl
    where
      go : (c d : Bool) → leb (n + 4) (length b - 0) ≡ d
          → reach (cond c (cond d (address_at b (Name (0 + 2) n) (0 + 2 + n)) None) None) ≤ length b
      go true true e = let h : n + 4 ≤ length b - 0 = leb-true _ _ e in omega arith
      go true false e = omega arith
      go false d e = omega arith

  parsed-within : reach (parse_at b 0) ≤ length b
  unfolding parse_at
  parsed-within = go (eqb (get_or b 0 0) 1) (eqb (get_or b 0 0) 3) (eqb (get_or b 0 0) 4)
    where
      go : (c d e : Bool) → reach (cond c (v4_at b 0) (cond d (name_at b 0 (get_or b (0 + 1) 0)) (cond e (v6_at b 0) None))) ≤ length b
      go true d e = v4-within
      go false true e = name-within (get_or b (0 + 1) 0)
      go false false true = v6-within
      go false false false = omega arith

-- ---- what a target means is in its body

-- of an address in a body
abbrev meant_in : List ℕ → Option Address → List ℕ
meant_in b (Some a) = meaning b (Some (a.target, a.port))
meant_in b None = []

module _ (s : List ℕ) (w : WellMade s) (i : ℕ) (l : i < count s) where
  part : (p n : ℕ) → p + n ≤ length (body s i) → take n (drop ((entry s i).offset + p) s) ≡ take n (drop p (body s i))
  unfolding body
  part p n h =
      let off = (entry s i).offset in
      let len = (entry s i).len in
      let b = take len (drop off s) in
      let rest = drop len (drop off s) in
      ap (take n) (sym (drop-drop p off s) ∙ ap (drop p) (sym (take-append-drop len (drop off s))) ∙ drop-append-le p b rest (omega arith))
      ∙ take-append-le n (drop p b) rest (omega (arith, length-drop p b))

  target-means : (t : Target) (port : ℕ) → name_end t ≤ length (body s i)
      → meaning s (Some (moved (entry s i).offset t, port)) ≡ meaning (body s i) (Some (t, port))
  target-means (V4 a) port h = refl
  target-means (V6 a b) port h = refl
  target-means (Name p n) port h = ap (λ (x : List ℕ). 3 ∷ port ∷ x) (part p n h)

  found-means : (p : Option Address) → reach p ≤ length (body s i) → meaning s (target_found (entry s i).offset p) ≡ meant_in (body s i) p
  found-means (Some a) h = target-means a.target a.port h
  found-means None h = refl

  pub body-means : meaning s (target_found (entry s i).offset (parse_at (body s i) 0)) ≡ meant_in (body s i) (parse_at (body s i) 0)
  body-means = found-means (parse_at (body s i) 0) (parsed-within (body s i))

-- ---- one setting

module _ (s u : List ℕ) (ws : WellMade s) (wu : WellMade u) (su : Within s u) (us : Within u s) (k : ℕ) (below : k < 128) where
  -- what bodies decide is the same
  same-value : {A B : Type 0} (of to : A → B) (f : List ℕ → B) (p q : ℕ → A) (absent x y : A)
      → ((i : ℕ) → i < count s → of (p i) ≡ f (body s i)) → ((i : ℕ) → i < count u → to (q i) ≡ f (body u i)) → of absent ≡ to absent
      → Says (count s) (number_of s) k p absent x → Says (count u) (number_of u) k q absent y → of x ≡ to y
  same-value of to f p q absent x y ps qs none (set i l n e) (set j m o g) =
      let there = su i l (omega (arith, n)) in
      let same : there.0 ≡ j = one_only (contents_of u) wu.lawful there.0 j there.1 m (there.2 ∙ n ∙ sym o) in
      ap of e ∙ ps i l ∙ ap f (sym there.3 ∙ ap (body u) same) ∙ sym (qs j m) ∙ sym (ap to g)
  same-value of to f p q absent x y ps qs none (set i l n e) (unset h g) =
      let there = su i l (omega (arith, n)) in
      absurd (h there.0 there.1 (there.2 ∙ n))
  same-value of to f p q absent x y ps qs none (unset h e) (set j m o g) =
      let there = us j m (omega (arith, o)) in
      absurd (h there.0 there.1 (there.2 ∙ o))
  same-value of to f p q absent x y ps qs none (unset h e) (unset j g) = ap of e ∙ none ∙ sym (ap to g)

  same_number : (n : ℕ) (x y : Option ℕ) → Says (count s) (number_of s) k (λ i. Some (be n (body s i))) None x
      → Says (count u) (number_of u) k (λ i. Some (be n (body u i))) None y → x ≡ y
  same_number n x y =
      same-value (λ (v : Option ℕ). v) (λ (v : Option ℕ). v) (λ (b : List ℕ). Some (be n b)) (λ i. Some (be n (body s i))) (λ i. Some (be n (body u i))) None x
      y (λ i l. refl) (λ i l. refl) refl

  same_target : (x y : Option (Target × ℕ))
      → Says (count s) (number_of s) k (λ i. target_found (entry s i).offset (parse_at (body s i) 0)) None x
      → Says (count u) (number_of u) k (λ i. target_found (entry u i).offset (parse_at (body u i) 0)) None y
      → meaning s x ≡ meaning u y
  same_target x y =
      same-value (meaning s) (meaning u) (λ (b : List ℕ). meant_in b (parse_at b 0)) (λ i. target_found (entry s i).offset (parse_at (body s i) 0))
      (λ i. target_found (entry u i).offset (parse_at (body u i) 0)) None x y (body-means s ws) (body-means u wu) refl

pub newer-same : NewerSame
newer-same s u x y ex ey same su us =
    let rx = read-is-readable s x ex in
    let ry = read-is-readable u y ey in
    let ws = rx.made in
    let wu = ry.made in
    record {
      edition = rx.edition ∙ same ∙ sym ry.edition;
      method = same_number s u ws wu su us 1 (omega arith) 1 _ _ rx.shows.method ry.shows.method;
      retention = same_number s u ws wu su us 2 (omega arith) 2 _ _ rx.shows.retention ry.shows.retention;
      limit = same_number s u ws wu su us 3 (omega arith) 4 _ _ rx.shows.limit ry.shows.limit;
      target = same_target s u ws wu su us 4 (omega arith) x.target y.target rx.shows.target ry.shows.target;
    }
