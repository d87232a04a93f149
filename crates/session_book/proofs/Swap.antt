-- Two calls of equal clock reading that belong to different sessions, or of which one names none, may change places in the
-- book. Assumes nothing.
use Rattle.std.specs.Prelude.{None, Option, Some}
use Rattle.std.proofs.lemmas.Option.{none-some}
use mathlib.Core.Path.{◌≡◌, refl, sym, ap, ap₂, ◌∙◌, subst, subst₂}
use mathlib.Core.Logic.{◌≢◌}
use mathlib.Core.Bool.{Bool, true, false, cond}
use mathlib.Core.List.{List, ◌∷◌}
use Prim.Native.Nat.{ℕ, ◌+◌, ◌≤◌}
use native.Mathlib.Omega.{arith}
use Rattle.session_record.specs.declared.Peer.{Peer}
use Rattle.session_book.specs.Call.{Call, refused, Decision, early, reaches}
use Rattle.session_book.specs.Book.{Page, page, living, without, until, page_alive, most, crowded, fresh, accept, refuse, new_page, BookEntry, enters, replay, full, judge, judge_by, turn, tell, outcome_by, next_by}
use borrow.Author.Tests.{leb-true, leb-false, le-leb, lt-leb}
use Rattle.session_book.proofs.Pages.{Distinct, distinct-put, page-put, living-put-new, living-put-old, Same, skip, same_refl, page-same, living-same, page-alive, without-same, put-put}

-- ---- books that differ in the order of their pages take a call alike

pub judge-same : (R t id p : ℕ) (a : Peer) {b b' : List Page} → Same b b' → judge R b t a id p ≡ judge R b' t a id p
judge-same R t id p a {b} {b'} s = ap₂ (λ o x. judge_by o x t a id p) (page-same R t id s) crowded-same
  where
    crowded-same : crowded R t b ≡ crowded R t b'
    crowded-same = rw (living-same R t s)

turn-same : (e : BookEntry) (id : ℕ) {b b' : List Page} → Same b b' → Same (turn e id b) (turn e id b')
turn-same (enters q) id s = skip (without-same id s)
turn-same (replay q) id s = skip (without-same id s)
turn-same full id s = s

pub outcome-same : {H : Type 0} (d : Decision H) (R : ℕ) (c : Call) {b b' : List Page} → Same b b' → outcome_by d R b c ≡ outcome_by d R b' c
outcome-same (early n o) R c s = refl
outcome-same (reaches id p hd pl) R c s = ap (λ e. tell e c hd pl) (judge-same R c.clock id p c.peer s)

pub next-same : {H : Type 0} (d : Decision H) (R : ℕ) (c : Call) {b b' : List Page} → Same b b' → Same (next_by d R b c) (next_by d R b' c)
next-same (early n o) R c s = s
next-same (reaches id p hd pl) R c {b} {b'} s =
    subst (λ (e : BookEntry). Same (turn (judge R b c.clock c.peer id p) id b) (turn e id b')) (judge-same R c.clock id p c.peer s)
    (turn-same (judge R b c.clock c.peer id p) id s)

-- ---- what an entry is: its page has the ID of its call

abbrev pub Made : (id : ℕ) → BookEntry → Type 0
Made id (enters q) = q.id ≡ id
Made id (replay q) = q.id ≡ id
Made id full = Unit {0}

made_by : (o : Option Page) (no_room : Bool) (t : ℕ) (a : Peer) (id p : ℕ) → Made id (judge_by o no_room t a id p)
made_by (Some q) no_room t a id p = go (fresh q p)
  where
    go : (x : Bool) → Made id (cond x (enters (accept t a id p q)) (replay (refuse id p q)))
    go true = refl
    go false = refl
made_by None true t a id p = tt
made_by None false t a id p = refl

pub made : (R : ℕ) (b : List Page) (t : ℕ) (a : Peer) (id p : ℕ) → Made id (judge R b t a id p)
made R b t a id p = made_by (page R t id b) (crowded R t b) t a id p

-- a page that accepts now is alive
pub accept-alive : (R t : ℕ) (a : Peer) (i p : ℕ) (q : Page) → page_alive R t q ≡ true → page_alive R t (accept t a i p q) ≡ true
accept-alive R t a i p q e = le-leb t (until R (accept t a i p q)) (omega (arith, leb-true t (until R q) e))

pub new-alive : (R t : ℕ) (a : Peer) (i p : ℕ) → page_alive R t (new_page t a i p) ≡ true
new-alive R t a i p = le-leb t (until R (new_page t a i p)) (omega arith)

distinct-turn : (id : ℕ) (e : BookEntry) → Made id e → (b : List Page) → Distinct b → Distinct (turn e id b)
distinct-turn id (enters q) m b d = subst (λ (i : ℕ). Distinct (q ∷ without i b)) m (distinct-put q b d)
distinct-turn id (replay q) m b d = subst (λ (i : ℕ). Distinct (q ∷ without i b)) m (distinct-put q b d)
distinct-turn id full m b d = d

pub distinct-next : {H : Type 0} (d : Decision H) (R : ℕ) (c : Call) (b : List Page) → Distinct b → Distinct (next_by d R b c)
distinct-next (early n o) R c b h = h
distinct-next (reaches id p hd pl) R c b h =
    distinct-turn id (judge R b c.clock c.peer id p) (made R b c.clock c.peer id p) b h

-- an entry of one session leaves the page of another
pub page-turn : (R t i j : ℕ) (e : BookEntry) → Made i e → (b : List Page) → i ≢ j → page R t j (turn e i b) ≡ page R t j b
page-turn R t i j (enters q) m b n =
    subst (λ (k : ℕ). page R t j (q ∷ without k b) ≡ page R t j b) m (page-put R t j q b (λ h. n (sym m ∙ h)))
page-turn R t i j (replay q) m b n =
    subst (λ (k : ℕ). page R t j (q ∷ without k b) ≡ page R t j b) m (page-put R t j q b (λ h. n (sym m ∙ h)))
page-turn R t i j full m b n = refl

-- how many more are alive after an entry
abbrev gain : Option Page → Bool → ℕ
gain (Some q) x = 0
gain None true = 0
gain None false = 1

living-turn : (R t i p : ℕ) (a : Peer) (b : List Page) → Distinct b
    → living R t (turn (judge R b t a i p) i b) ≡ living R t b + gain (page R t i b) (crowded R t b)
living-turn R t i p a b d = go (page R t i b) (crowded R t b) refl
  where
    inner : (q : Page) → page R t i b ≡ Some q → (y : Bool) → living R t (turn (cond y (enters (accept t a i p q)) (replay (refuse i p q))) i b) ≡ living R t b + 0
    inner q e true = omega (arith, living-put-old R t (accept t a i p q) q b d (accept-alive R t a i p q (page-alive R t i b q e)) e)
    inner q e false = omega (arith, living-put-old R t (refuse i p q) q b d (page-alive R t i b q e) e)

    go : (o : Option Page) (x : Bool) → page R t i b ≡ o → living R t (turn (judge_by o x t a i p) i b) ≡ living R t b + gain o x
    go (Some q) x e = inner q e (fresh q p)
    go None true e = omega arith
    go None false e = omega (arith, living-put-new R t (new_page t a i p) b (new-alive R t a i p) e)

-- what an entry depends on
judge-room : (o : Option Page) (x y : Bool) (t : ℕ) (a : Peer) (i p : ℕ) → judge_by o x t a i p ≢ full → (o ≡ None → x ≡ false → y ≡ false)
    → judge_by o y t a i p ≡ judge_by o x t a i p
judge-room (Some q) x y t a i p n f = refl
judge-room None true y t a i p n f = absurd (n refl)
judge-room None false y t a i p n f = rw (f refl refl)

not-full-room : (o : Option Page) (x : Bool) (t : ℕ) (a : Peer) (i p : ℕ) → judge_by o x t a i p ≢ full → o ≡ None → x ≡ false
not-full-room (Some q) x t a i p n e = absurd (none-some _ (sym e))
not-full-room None true t a i p n e = absurd (n refl)
not-full-room None false t a i p n e = refl

-- where there is room for a new page, there is room with fewer alive
crowded-less : (R t : ℕ) (b c : List Page) → living R t b ≤ living R t c → crowded R t c ≡ false → crowded R t b ≡ false
crowded-less R t b c h x = lt-leb most (living R t b) (omega (arith, leb-false most (living R t c) x))

-- ---- the two calls of different sessions, at one reading

module _ (R t i j px py : ℕ) (ax ay : Peer) (b : List Page) (d : Distinct b) (n : i ≢ j) where
  abbrev first : BookEntry
  first = judge R b t ax i px

  abbrev b₁ : List Page
  b₁ = turn first i b

  abbrev second : BookEntry
  second = judge R b₁ t ay j py

  -- the second, taken first
  abbrev second' : BookEntry
  second' = judge R b t ay j py

  abbrev b₂ : List Page
  b₂ = turn second' j b

  abbrev first' : BookEntry
  first' = judge R b₂ t ax i px

  same₁ : page R t j b₁ ≡ page R t j b
  same₁ = page-turn R t i j first (made R b t ax i px) b n

  same₂ : page R t i b₂ ≡ page R t i b
  same₂ = page-turn R t j i second' (made R b t ay j py) b (λ e. n (sym e))

  module _ (nx : first ≢ full) (ny : second ≢ full) where
    second-same : second' ≡ second
    second-same =
        judge-room (page R t j b) (crowded R t b₁) (crowded R t b) t ay j py
        (λ e. ny (ap (λ o. judge_by o (crowded R t b₁) t ay j py) same₁ ∙ e))
        (λ _ x. crowded-less R t b b₁ (omega (arith, living-turn R t i px ax b d)) x)
        ∙ sym (ap (λ o. judge_by o (crowded R t b₁) t ay j py) same₁)

    -- where both are new there is room for two
    room : page R t i b ≡ None → crowded R t b ≡ false → crowded R t b₂ ≡ false
    room ex x = go (page R t j b) refl
      where
        one_more : living R t b₁ ≡ living R t b + 1
        one_more = living-turn R t i px ax b d ∙ ap₂ (λ o y. living R t b + gain o y) ex x

        go : (o : Option Page) → page R t j b ≡ o → crowded R t b₂ ≡ false
        go (Some q) e = crowded-less R t b₂ b (omega (arith, grown)) x
          where
            grown : living R t b₂ ≡ living R t b + 0
            grown = living-turn R t j py ay b d ∙ ap (λ (o : Option Page). living R t b + gain o (crowded R t b)) e
        go None e = crowded-less R t b₂ b₁ (omega (arith, grown, one_more)) y
          where
            grown : living R t b₂ ≡ living R t b + 1
            grown = living-turn R t j py ay b d ∙ ap₂ (λ o z. living R t b + gain o z) e x

            y : crowded R t b₁ ≡ false
            y = not-full-room (page R t j b₁) (crowded R t b₁) t ay j py ny (same₁ ∙ e)

    first-same : first' ≡ first
    first-same =
        ap (λ o. judge_by o (crowded R t b₂) t ax i px) same₂
        ∙ judge-room (page R t i b) (crowded R t b) (crowded R t b₂) t ax i px nx room

  puts : (q r : Page) → q.id ≡ i → r.id ≡ j → Same (r ∷ without j (q ∷ without i b)) (q ∷ without i (r ∷ without j b))
  puts q r m k =
      subst₂ (λ (x y : ℕ). Same (r ∷ without y (q ∷ without x b)) (q ∷ without x (r ∷ without y b))) m k
      (put-put r q b (λ e. n (sym m ∙ sym e ∙ k)))

  turns : (e f : BookEntry) → Made i e → Made j f → Same (turn f j (turn e i b)) (turn e i (turn f j b))
  turns (enters q) (enters r) m k = puts q r m k
  turns (enters q) (replay r) m k = puts q r m k
  turns (enters q) full m k = same_refl _
  turns (replay q) (enters r) m k = puts q r m k
  turns (replay q) (replay r) m k = puts q r m k
  turns (replay q) full m k = same_refl _
  turns full (enters r) m k = same_refl _
  turns full (replay r) m k = same_refl _
  turns full full m k = same_refl _

-- ---- the same of two calls

-- the datagrams do not reach the window in one session
abbrev pub Apart : {H : Type 0} → Decision H → Decision H → Type 0
Apart (early n o) e = Unit {0}
Apart (reaches i p hd pl) (early n o) = Unit {0}
Apart (reaches i p hd pl) (reaches j p' hd' pl') = i ≢ j

-- `y` before `x` instead of after it: the same outcomes, and the same pages up to their order
pub record Swapped {H : Type 0} (dx dy : Decision H) (R : ℕ) (b : List Page) (x y : Call) : Type 0 where
  pub of-y : outcome_by dy R b y ≡ outcome_by dy R (next_by dx R b x) y
  pub of-x : outcome_by dx R (next_by dy R b y) x ≡ outcome_by dx R b x
  pub books : Same (next_by dy R (next_by dx R b x) y) (next_by dx R (next_by dy R b y) x)

not_full : {H : Type 0} (e : BookEntry) (c : Call) (hd : H) (pl : List ℕ) → (tell e c hd pl).answer ≢ refused 9 → e ≢ full
not_full e c hd pl n h = n (ap (λ (f : BookEntry). (tell f c hd pl).answer) h)

-- `x` at the reading t, `y` at the reading u
module _ {H : Type 0} (R i j px py : ℕ) (hx hy : H) (lx ly : List ℕ) (b : List Page) (x y : Call) where
  abbrev Both : ℕ → ℕ → Type 0
  Both t u =
      let e = judge R b t x.peer i px in
      let f = judge R b u y.peer j py in
      let f' = judge R (turn e i b) u y.peer j py in
      let e' = judge R (turn f j b) t x.peer i px in
      (tell f y hy ly ≡ tell f' y hy ly) × (tell e' x hx lx ≡ tell e x hx lx) × Same (turn f' j (turn e i b)) (turn e' i (turn f j b))

  both : (t : ℕ) → Distinct b → i ≢ j → judge R b t x.peer i px ≢ full
      → judge R (turn (judge R b t x.peer i px) i b) t y.peer j py ≢ full → Both t t
  both t d n nx ny =
      let sy = second-same R t i j px py x.peer y.peer b d n nx ny in
      let sx = first-same R t i j px py x.peer y.peer b d n nx ny in (
        ap (λ (e : BookEntry). tell e y hy ly) sy,
        ap (λ (e : BookEntry). tell e x hx lx) sx,
        subst₂ (λ (f e : BookEntry). Same (turn f j (turn (judge R b t x.peer i px) i b)) (turn e i (turn (judge R b t y.peer j py) j b)))
            sy (sym sx)
            (turns R t i j px py x.peer y.peer b d n
            (judge R b t x.peer i px) (judge R b t y.peer j py) (made R b t x.peer i px) (made R b t y.peer j py)),
      )

pub swap-calls : {H : Type 0} (dx dy : Decision H) (R : ℕ) (b : List Page) (x y : Call) → Distinct b → Apart dx dy → x.clock ≡ y.clock
    → (outcome_by dx R b x).answer ≢ refused 9 → (outcome_by dy R (next_by dx R b x) y).answer ≢ refused 9 → Swapped dx dy R b x y
swap-calls (early n o) dy R b x y d a e nx ny = record { of-y = refl; of-x = refl; books = same_refl _ }
swap-calls (reaches i p hd pl) (early n o) R b x y d a e nx ny = record { of-y = refl; of-x = refl; books = same_refl _ }
swap-calls (reaches i px hx lx) (reaches j py hy ly) R b x y d a e nx ny = record { of-y = r.0; of-x = r.1; books = r.2 }
  where
    r : Both R i j px py hx hy lx ly b x y x.clock y.clock
    r =
        subst (λ (u : ℕ). judge R (turn (judge R b x.clock x.peer i px) i b) u y.peer j py ≢ full
        → Both R i j px py hx hy lx ly b x y x.clock u) e
        (both R i j px py hx hy lx ly b x y x.clock d a (not_full _ x hx lx nx)) (not_full _ y hy ly ny)
