-- The book's pages: lookup, count and removal, and books that differ only in the order of their pages. Assumes nothing.
use Rattle.std.specs.Prelude.{None, Some}
use Rattle.std.proofs.lemmas.Option.{none-some, same_Some}
use mathlib.Core.Path.{◌≡◌, refl, sym, ap, ap₂, ◌∙◌, subst}
use mathlib.Core.Logic.{◌≢◌}
use mathlib.Core.Bool.{Bool, true, false, cond, ◌&&◌, and-eq-true_iff}
use mathlib.Core.List.{List, [], ◌∷◌}
use Prim.Native.Nat.{ℕ, ◌+◌, ◌≤◌, zero-le}
use native.Mathlib.Omega.{arith}
use lib.Dec.{eqb}
use Rattle.session_book.specs.Book.{Page, one, until, page_alive, page, living, without}
use borrow.Author.Tests.{leb-false, eqb-true, eq-eqb, ne_eqb, lt-leb}

-- ---- removal

pub page-without : (R t id id' : ℕ) (b : List Page) → id' ≢ id → page R t id (without id' b) ≡ page R t id b
page-without R t id id' [] n = refl
page-without R t id id' (q ∷ b) n = go (eqb q.id id') refl (page-without R t id id' b n)
  where
    go : (x : Bool) → eqb q.id id' ≡ x → page R t id (without id' b) ≡ page R t id b
        → page R t id (cond x (without id' b) (q ∷ without id' b)) ≡ page R t id (q ∷ b)
    go true e ih = rw (ne_eqb q.id id (λ h. n (sym (eqb-true _ _ e) ∙ h))) ih
    go false e ih = ap (cond (eqb q.id id && page_alive R t q) (Some q)) ih

pub without-comm : (i j : ℕ) (b : List Page) → without i (without j b) ≡ without j (without i b)
without-comm i j [] = refl
without-comm i j (q ∷ b) = go (eqb q.id i) (eqb q.id j) refl refl (without-comm i j b)
  where
    go : (x y : Bool) → eqb q.id i ≡ x → eqb q.id j ≡ y → without i (without j b) ≡ without j (without i b)
        → without i (cond y (without j b) (q ∷ without j b)) ≡ without j (cond x (without i b) (q ∷ without i b))
    go true true e f ih = ih
    go true false e f ih = rw e ih
    go false true e f ih = rw f ih
    go false false e f ih = rw (e, f) (ap {B = List Page} (λ r. q ∷ r) ih)

-- ---- counts

-- how many pages of an ID are alive, and how many there are
abbrev pub living_of : (R t id : ℕ) → List Page → ℕ
living_of R t id [] = 0
living_of R t id (q ∷ b) = one (eqb q.id id && page_alive R t q) + living_of R t id b

abbrev pub held : ℕ → List Page → ℕ
held id [] = 0
held id (q ∷ b) = one (eqb q.id id) + held id b

pub living-split : (R t id : ℕ) (b : List Page) → living R t b ≡ living R t (without id b) + living_of R t id b
living-split R t id [] = refl
living-split R t id (q ∷ b) = go (eqb q.id id) refl (living-split R t id b)
  where
    go : (x : Bool) → eqb q.id id ≡ x → living R t b ≡ living R t (without id b) + living_of R t id b
        → living R t (q ∷ b) ≡ living R t (cond x (without id b) (q ∷ without id b)) + (one (x && page_alive R t q) + living_of R t id b)
    go true e ih = omega arith
    go false e ih = omega arith

pub living_of-none : (R t id : ℕ) (b : List Page) → page R t id b ≡ None → living_of R t id b ≡ 0
living_of-none R t id [] e = refl
living_of-none R t id (q ∷ b) e = go (living_of-none R t id b) (eqb q.id id && page_alive R t q) e
  where
    go : (page R t id b ≡ None → living_of R t id b ≡ 0) → (x : Bool) → cond x (Some q) (page R t id b) ≡ None → one x + living_of R t id b ≡ 0
    go ih true f = absurd (none-some _ (sym f))
    go ih false f = omega (arith, ih f)

pub living_of-some : (R t id : ℕ) (b : List Page) (q : Page) → page R t id b ≡ Some q → 1 ≤ living_of R t id b
living_of-some R t id [] p e = absurd (none-some _ e)
living_of-some R t id (q ∷ b) p e = go (living_of-some R t id b p) (eqb q.id id && page_alive R t q) e
  where
    go : (page R t id b ≡ Some p → 1 ≤ living_of R t id b) → (x : Bool) → cond x (Some q) (page R t id b) ≡ Some p → 1 ≤ one x + living_of R t id b
    go ih true f = omega arith
    go ih false f = omega (arith, ih f)

pub page-alive : (R t id : ℕ) (b : List Page) (q : Page) → page R t id b ≡ Some q → page_alive R t q ≡ true
page-alive R t id [] q e = absurd (none-some _ e)
page-alive R t id (x ∷ b) q e = go (page-alive R t id b q) (eqb x.id id && page_alive R t x) refl e
  where
    go : (page R t id b ≡ Some q → page_alive R t q ≡ true) → (y : Bool) → eqb x.id id && page_alive R t x ≡ y
        → cond y (Some x) (page R t id b) ≡ Some q → page_alive R t q ≡ true
    go ih true f g = ap (λ (w : Page). page_alive R t w) (sym (same_Some _ _ g)) ∙ ((and-eq-true_iff (eqb x.id id) _).0 f).1
    go ih false f g = ih g

-- a page in front
pub page-head : (R t id : ℕ) (q : Page) (b : List Page) → q.id ≡ id → page_alive R t q ≡ true → page R t id (q ∷ b) ≡ Some q
page-head R t id q b e a = ap₂ (λ (x y : Bool). cond (x && y) (Some q) (page R t id b)) (eq-eqb q.id id e) a

pub dead-after : (R t u : ℕ) (q : Page) → t ≤ u → page_alive R t q ≡ false → page_alive R u q ≡ false
dead-after R t u q h e = lt-leb u (until R q) (omega (arith, leb-false t (until R q) e))

-- the page found at one reading is the one found later, if it is alive then
pub page-later : (R t u id : ℕ) (b : List Page) (q : Page) → t ≤ u → page R t id b ≡ Some q → page_alive R u q ≡ true → page R u id b ≡ Some q
page-later R t u id [] q h e a = e
page-later R t u id (x ∷ b) q h e a = go (page-later R t u id b q h) (eqb x.id id) (page_alive R t x) refl e
  where
    go : (page R t id b ≡ Some q → page_alive R u q ≡ true → page R u id b ≡ Some q) → (y z : Bool) → page_alive R t x ≡ z
        → cond (y && z) (Some x) (page R t id b) ≡ Some q → cond (y && page_alive R u x) (Some x) (page R u id b) ≡ Some q
    go ih true true f g =
        let s : x ≡ q = same_Some _ _ g in rw (ap (page_alive R u) s ∙ a) g
    go ih true false f g = rw (dead-after R t u x h f) (ih g a)
    go ih false z f g = ih g a

one-and : (x y : Bool) → one (x && y) ≤ one x
one-and true true = omega arith
one-and true false = omega arith
one-and false y = omega arith

pub living_of-held : (R t id : ℕ) (b : List Page) → living_of R t id b ≤ held id b
living_of-held R t id [] = zero-le
living_of-held R t id (q ∷ b) = omega (arith, one-and (eqb q.id id) (page_alive R t q), living_of-held R t id b)

pub held-without : (id id' : ℕ) (b : List Page) → held id (without id' b) ≤ held id b
held-without id id' [] = zero-le
held-without id id' (q ∷ b) = go (eqb q.id id') (held-without id id' b)
  where
    go : (x : Bool) → held id (without id' b) ≤ held id b → held id (cond x (without id' b) (q ∷ without id' b)) ≤ held id (q ∷ b)
    go true ih = omega arith
    go false ih = omega arith

pub held-without-same : (id : ℕ) (b : List Page) → held id (without id b) ≡ 0
held-without-same id [] = refl
held-without-same id (q ∷ b) = go (eqb q.id id) refl (held-without-same id b)
  where
    go : (x : Bool) → eqb q.id id ≡ x → held id (without id b) ≡ 0 → held id (cond x (without id b) (q ∷ without id b)) ≡ 0
    go true e ih = ih
    go false e ih = rw e (omega arith)

-- no ID has two pages
abbrev pub Distinct : List Page → Type 0
Distinct b = (id : ℕ) → held id b ≤ 1

pub distinct-put : (q : Page) (b : List Page) → Distinct b → Distinct (q ∷ without q.id b)
distinct-put q b d id = go (eqb q.id id) refl
  where
    go : (x : Bool) → eqb q.id id ≡ x → one x + held id (without q.id b) ≤ 1
    go true e = omega (arith, subst (λ (k : ℕ). held k (without q.id b) ≡ 0) (eqb-true q.id id e) (held-without-same q.id b))
    go false e = omega (arith, held-without id q.id b, d id)

-- ---- a page put into a book

pub page-put : (R t id : ℕ) (q : Page) (b : List Page) → q.id ≢ id → page R t id (q ∷ without q.id b) ≡ page R t id b
page-put R t id q b n = rw (ne_eqb q.id id n) (page-without R t id q.id b n)

pub living-put-new : (R t : ℕ) (q : Page) (b : List Page) → page_alive R t q ≡ true → page R t q.id b ≡ None
    → living R t (q ∷ without q.id b) ≡ 1 + living R t b
living-put-new R t q b a e = rw a (omega (arith, living-split R t q.id b, living_of-none R t q.id b e))

pub living-put-old : (R t : ℕ) (q r : Page) (b : List Page) → Distinct b → page_alive R t q ≡ true → page R t q.id b ≡ Some r
    → living R t (q ∷ without q.id b) ≡ living R t b
living-put-old R t q r b d a e =
    rw a (omega (arith, living-split R t q.id b, living_of-some R t q.id b r e, living_of-held R t q.id b, d q.id))

-- ---- books that differ only in the order of pages of different IDs

pub data Same : List Page → List Page → Type 0 where
  nil : Same [] []
  skip : {q : Page} {b b' : List Page} → Same b b' → Same (q ∷ b) (q ∷ b')
  swap : {q r : Page} {b : List Page} → q.id ≢ r.id → Same (q ∷ r ∷ b) (r ∷ q ∷ b)
  after : {a b c : List Page} → Same a b → Same b c → Same a c

pub same_refl : (b : List Page) → Same b b
same_refl [] = nil
same_refl (q ∷ b) = skip (same_refl b)

pub page-same : (R t id : ℕ) {b b' : List Page} → Same b b' → page R t id b ≡ page R t id b'
page-same R t id nil = refl
page-same R t id (skip {q = q} s) = ap (cond (eqb q.id id && page_alive R t q) (Some q)) (page-same R t id s)
page-same R t id (swap {q = q} {r = r} {b = b} n) =
    go (eqb q.id id && page_alive R t q) (eqb r.id id && page_alive R t r) refl refl
  where
    go : (x y : Bool) → eqb q.id id && page_alive R t q ≡ x → eqb r.id id && page_alive R t r ≡ y
        → cond x (Some q) (cond y (Some r) (page R t id b)) ≡ cond y (Some r) (cond x (Some q) (page R t id b))
    go true true e f =
        absurd (n (eqb-true _ _ ((and-eq-true_iff (eqb q.id id) _).0 e).0 ∙ sym (eqb-true _ _ ((and-eq-true_iff (eqb r.id id) _).0 f).0)))
    go true false e f = refl
    go false true e f = refl
    go false false e f = refl
page-same R t id (after s s') = page-same R t id s ∙ page-same R t id s'

pub living-same : (R t : ℕ) {b b' : List Page} → Same b b' → living R t b ≡ living R t b'
living-same R t nil = refl
living-same R t (skip {q = q} s) = ap (λ (n : ℕ). one (page_alive R t q) + n) (living-same R t s)
living-same R t (swap n) = omega arith
living-same R t (after s s') = living-same R t s ∙ living-same R t s'

pub without-same : (id : ℕ) {b b' : List Page} → Same b b' → Same (without id b) (without id b')
without-same id nil = nil
without-same id (skip {q = q} {b = b} {b' = b'} s) = go (eqb q.id id) (without-same id s)
  where
    go : (x : Bool) → Same (without id b) (without id b') → Same (cond x (without id b) (q ∷ without id b)) (cond x (without id b') (q ∷ without id b'))
    go true ih = ih
    go false ih = skip ih
without-same id (swap {q = q} {r = r} {b = b} n) = go (eqb q.id id) (eqb r.id id)
  where
    go : (x y : Bool) → Same (cond x (cond y (without id b) (r ∷ without id b)) (q ∷ cond y (without id b) (r ∷ without id b)))
        (cond y (cond x (without id b) (q ∷ without id b)) (r ∷ cond x (without id b) (q ∷ without id b)))
    go true true = same_refl (without id b)
    go true false = same_refl (r ∷ without id b)
    go false true = same_refl (q ∷ without id b)
    go false false = swap n
without-same id (after s s') = after (without-same id s) (without-same id s')

-- two pages of different IDs, put in either order
pub put-put : (q r : Page) (b : List Page) → q.id ≢ r.id
    → Same (q ∷ without q.id (r ∷ without r.id b)) (r ∷ without r.id (q ∷ without q.id b))
put-put q r b n =
    rw (ne_eqb r.id q.id (λ e. n (sym e)), ne_eqb q.id r.id n)
    (rw (without-comm q.id r.id b) (swap n))
