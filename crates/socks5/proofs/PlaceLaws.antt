-- An address means the same wherever it stands: with any bytes before it and behind it, it is found with the same port and
-- the same target, a name's place moved by the bytes before.
-- Assumes nothing.
use Rattle.std.specs.Prelude.{None, Option, Some}
use mathlib.Core.Path.{◌≡◌, refl, sym, ap, ap₂, ◌∙◌, subst}
use mathlib.Core.Bool.{Bool, true, false, cond}
use mathlib.Core.List.{List, [], ◌∷◌, ◌++◌}
use Prim.Native.Nat.{ℕ, ◌+◌, ◌-◌, ◌≤◌, ◌<◌}
use native.Mathlib.Omega.{arith}
use lib.Dec.{T, eqb, leb, ltb, lit≤}
use lib.ListN.{length, get_or, drop, length-append, length-drop, get_or-append}
use lib.Seq.{drop-append-le, drop-append-add, get_or-append_seam, get_or-append-add}
use borrow.Author.Tests.{eqb-true, leb-true, le-leb}
use Rattle.octets.specs.Numbers.{be}
use Rattle.octets.proofs.NumberLaws.{be-append}
use Rattle.socks5.specs.declared.Address.{Address}
use Rattle.socks5.specs.declared.Target.{Target}
use Rattle.socks5.specs.declared.Target.TheVariants.{V4, V6, Name}
use Rattle.socks5.specs.Address.{address_at, v4_at, v6_at, name_at, parse_at, ends, is_address, moved}

-- ---- by the kind byte

of-kind : (s : List ℕ) (at k : ℕ) → get_or s at 0 ≡ k
    → cond (eqb k 1) (v4_at s at) (cond (eqb k 3) (name_at s at (get_or s (at + 1) 0)) (cond (eqb k 4) (v6_at s at) None))
    ≡ parse_at s at
unfolding parse_at
of-kind s at k e =
    ap
    (λ (x : ℕ). cond (eqb x 1) (v4_at s at) (cond (eqb x 3) (name_at s at (get_or s (at + 1) 0)) (cond (eqb x 4) (v6_at s at) None)))
    (sym e)

-- ---- what is found, if something is

is_found : Option Address → Bool
is_found (Some a) = true
is_found None = false

not_found : {a : Address} → None ≡ Some a → ⊥
unfolding is_found
not_found e = subst (λ (p : Option Address). T (is_found p)) (sym e) tt

-- behind a test
record Picked (b : Bool) (p : Option Address) (a : Address) : Type 0 where
  passed : b ≡ true
  this : p ≡ Some a

picked : {a : Address} (b : Bool) (p : Option Address) → cond b p None ≡ Some a → Picked b p a
picked true p e = record { passed = refl; this = e }
picked false p e = absurd (not_found e)

-- ---- an address with bytes before it and behind it

-- what is found k places further on
abbrev shifted : ℕ → Option Address → Option Address
shifted k (Some a) = Some (record { target = moved k a.target; port = a.port; end = k + a.end })
shifted k None = None

module _ (before s after : List ℕ) (a : Address) where
  -- the longer string, and the place of the address in it
  abbrev whole : List ℕ
  whole = before ++ (s ++ after)

  abbrev k : ℕ
  k = length before

  left : length s ≤ length whole - k
  left = omega (arith, length-append before (s ++ after), length-append s after)

  byte-there : (i : ℕ) → i < length s → get_or whole (k + i) 0 ≡ get_or s i 0
  byte-there i h = get_or-append-add before (s ++ after) i 0 ∙ get_or-append s after 0 i h

  number-there : (n i : ℕ) → i + n ≤ length s → be n (drop (k + i) whole) ≡ be n (drop i s)
  number-there n i h =
      ap (be n) (drop-append-add before (s ++ after) i ∙ drop-append-le i s after (omega arith))
      ∙ be-append n (drop i s) after (omega (arith, length-drop i s))

  -- an address of m bytes, its port at place p
  there : (m p q : ℕ) (x y : Target) → p + 2 ≤ m → q ≡ k + p → (m ≤ length s → y ≡ moved k x)
      → cond (leb m (length s - 0)) (address_at s x p) None ≡ Some a
      → cond (leb m (length whole - k)) (address_at whole y q) None ≡ shifted k (Some a)
  there m p q x y fits eq ey e =
      let found = picked (leb m (length s - 0)) (address_at s x p) e in
      let h : m ≤ length s = omega (arith, leb-true m (length s - 0) found.passed) in
      let l : m ≤ length whole - k = omega (arith, left) in
      let end : k + p + 2 ≡ k + (p + 2) = omega arith in
      let port : p + 2 ≤ length s = omega arith in
      ap (λ (b : Bool). cond b (address_at whole y q) None) (le-leb m (length whole - k) l)
      ∙ (λ i. address_at whole (ey h i) (eq i))
      ∙ (λ i. Some (record { target = moved k x; port = number-there 2 p port i; end = end i }))
      ∙ ap (shifted k) found.this

  -- ---- the kinds

  v4-there : v4_at s 0 ≡ Some a → v4_at whole k ≡ shifted k (Some a)
  unfolding v4_at
  v4-there e =
      there 7 5 (k + 5) (V4 (be 4 (drop 1 s))) (V4 (be 4 (drop (k + 1) whole))) (lit≤ tt) refl
      (λ h. ap V4 (number-there 4 1 (omega arith))) e

  v6-there : v6_at s 0 ≡ Some a → v6_at whole k ≡ shifted k (Some a)
  unfolding v6_at
  v6-there e =
      there 19 17 (k + 17) (V6 (be 8 (drop 1 s)) (be 8 (drop 9 s))) (V6 (be 8 (drop (k + 1) whole)) (be 8 (drop (k + 9) whole))) (lit≤ tt) refl
      (λ h. ap₂ V6 (number-there 8 1 (omega arith)) (number-there 8 9 (omega arith))) e

  name-there : name_at s 0 (get_or s 1 0) ≡ Some a → name_at whole k (get_or whole (k + 1) 0) ≡ shifted k (Some a)
  unfolding name_at
  name-there e =
      let n = get_or s 1 0 in
      let some = picked (ltb 0 n) (cond (leb (n + 4) (length s - 0)) (address_at s (Name 2 n) (2 + n)) None) e in
      let found = picked (leb (n + 4) (length s - 0)) (address_at s (Name 2 n) (2 + n)) some.this in
      let h : 1 < length s = omega (arith, leb-true (n + 4) (length s - 0) found.passed) in
      let q : k + 2 + n ≡ k + (2 + n) = omega arith in
      ap (name_at whole k) (byte-there 1 h)
      ∙ ap (λ (b : Bool). cond b (cond (leb (n + 4) (length whole - k)) (address_at whole (Name (k + 2) n) (k + 2 + n)) None) None)
      some.passed
      ∙ there (n + 4) (2 + n) (k + 2 + n) (Name 2 n) (Name (k + 2) n) (omega arith) q (λ l. refl) some.this

  by_kind : (b c d : Bool)
      → cond b (v4_at s 0) (cond c (name_at s 0 (get_or s 1 0)) (cond d (v6_at s 0) None)) ≡ Some a
      → cond b (v4_at whole k) (cond c (name_at whole k (get_or whole (k + 1) 0)) (cond d (v6_at whole k) None))
      ≡ shifted k (Some a)
  by_kind true c d e = v4-there e
  by_kind false true d e = name-there e
  by_kind false false true e = v6-there e
  by_kind false false false e = absurd (not_found e)

found-there : (before s after : List ℕ) (a : Address) → parse_at s 0 ≡ Some a
    → parse_at (before ++ (s ++ after)) (length before) ≡ shifted (length before) (Some a)
unfolding parse_at
found-there before [] after a e = absurd (not_found e)
found-there before (x ∷ s) after a e =
    sym (of-kind (before ++ x ∷ (s ++ after)) (length before) x (get_or-append_seam before x (s ++ after) 0))
    ∙ by_kind before (x ∷ s) after a (eqb x 1) (eqb x 3) (eqb x 4) e

-- ---- exactly one address

whole-law : (s : List ℕ) (p q : Option Address) → p ≡ parse_at s 0 → p ≡ q → ends q (length s) ≡ is_address s
unfolding is_address
whole-law s p q e f = ap (λ (x : Option Address). ends x (length s)) (sym f ∙ e)

ends_there : (s : List ℕ) (p : Option Address) → is_address s ≡ true → parse_at s 0 ≡ p → ends p (length s) ≡ true
ends_there s p one e = whole-law s p p (sym e) refl ∙ one

-- what is found in it
pub record One (s : List ℕ) : Type 0 where
  pub address : Address
  pub found : parse_at s 0 ≡ Some address
  pub to_end : address.end ≡ length s

pub one_found : (s : List ℕ) → is_address s ≡ true → One s
one_found s one = go (parse_at s 0) refl
  where
    go : (p : Option Address) → parse_at s 0 ≡ p → One s
    go (Some a) e = record { address = a; found = e; to_end = eqb-true a.end (length s) (ends_there s (Some a) one e) }
    go None e = absurd (subst T (sym (ends_there s None one e)) tt)

-- and that is found wherever the address stands
pub found-anywhere : (before s after : List ℕ) (a : Address) → is_address s ≡ true → parse_at s 0 ≡ Some a
    → parse_at (before ++ (s ++ after)) (length before)
    ≡ Some (record { target = moved (length before) a.target; port = a.port; end = length before + length s })
found-anywhere before s after a one e =
    let end : a.end ≡ length s = eqb-true a.end (length s) (ends_there s (Some a) one e) in
    found-there before s after a e
    ∙ (λ i. Some (record { target = moved (length before) a.target; port = a.port; end = length before + end i }))
