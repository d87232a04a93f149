-- The table's records and the book's pages: what holds between them at a clock reading, that it still holds later, and that it
-- holds after an acceptance. `ρ i` is record i. Assumes nothing.
use Rattle.std.specs.Prelude.{None, Option, Some}
use Rattle.std.proofs.lemmas.Option.{none-some, same_Some}
use mathlib.Core.Path.{◌≡◌, refl, sym, ap, ap₂, ◌∙◌, subst}
use mathlib.Core.Logic.{◌≢◌}
use mathlib.Core.Bool.{Bool, true, false, cond, not, ◌&&◌, true≢false, and-eq-true_iff}
use mathlib.Core.List.{List, [], ◌∷◌}
use Prim.Native.Nat.{ℕ, ◌+◌, ◌≤◌, ◌<◌, zero-le}
use native.Mathlib.Omega.{arith}
use lib.Dec.{eqb, leb}
use Rattle.session_table.specs.Sizes.{capacity}
use Rattle.session_table.specs.Table.{Record, live, holds}
use Rattle.session_book.specs.Book.{Page, one, page_alive, page, living, without}
use borrow.Author.Tests.{leb-true, eqb-true, eqb-false, eq-eqb, le-leb}
use Rattle.session_book.proofs.Pages.{page-alive, dead-after, page-later, living_of, held, living_of-held, living-split, Distinct, distinct-put, page-put}
use Rattle.session_book.proofs.Search.{tally, tally-but}
use Rattle.session_book.proofs.Window.{Match}

-- ---- dead stays dead

-- what `live` asks of a record's time, and `page_alive` of a page's
abbrev pub alive : (R clock last : ℕ) → Bool
alive R clock last = leb clock (last + R)

pub alive-before : (R t u last : ℕ) → t ≤ u → alive R u last ≡ true → alive R t last ≡ true
alive-before R t u last h e = le-leb t (last + R) (omega (arith, leb-true u (last + R) e))

-- a record is alive as long as its page
pub alive-same : (R u : ℕ) (r : Record) (q : Page) → Match r q → alive R u r.last ≡ page_alive R u q
alive-same R u r q m = ap (alive R u) m.last

-- no page at one reading, none later
pub living_of-none-later : (R t u id : ℕ) (b : List Page) → t ≤ u → page R t id b ≡ None → living_of R u id b ≡ 0
living_of-none-later R t u id [] h e = refl
living_of-none-later R t u id (x ∷ b) h e = go (living_of-none-later R t u id b h) (eqb x.id id) (page_alive R t x) refl e
  where
    go : (page R t id b ≡ None → living_of R u id b ≡ 0) → (y z : Bool) → page_alive R t x ≡ z
        → cond (y && z) (Some x) (page R t id b) ≡ None → one (y && page_alive R u x) + living_of R u id b ≡ 0
    go ih true true f g = absurd (none-some _ (sym g))
    go ih true false f g = rw (dead-after R t u x h f) (omega (arith, ih g))
    go ih false z f g = omega (arith, ih g)

-- with one page for the ID, it is the one that counts
pub living_of-some-later : (R t u id : ℕ) (b : List Page) (q : Page) → t ≤ u → held id b ≤ 1 → page R t id b ≡ Some q → living_of R u id b ≡ one (page_alive R u q)
living_of-some-later R t u id [] q h d e = absurd (none-some _ e)
living_of-some-later R t u id (x ∷ b) q h d e = go (living_of-some-later R t u id b q h) (eqb x.id id) (page_alive R t x) refl d e
  where
    go : (held id b ≤ 1 → page R t id b ≡ Some q → living_of R u id b ≡ one (page_alive R u q)) → (y z : Bool) → page_alive R t x ≡ z → one y + held id b ≤ 1
        → cond (y && z) (Some x) (page R t id b) ≡ Some q → one (y && page_alive R u x) + living_of R u id b ≡ one (page_alive R u q)
    go ih true true f k g =
        let s : one (page_alive R u x) ≡ one (page_alive R u q) = ap (λ (w : Page). one (page_alive R u w)) (same_Some _ _ g) in
        omega (arith, living_of-held R u id b)
    go ih true false f k g = rw (dead-after R t u x h f) (omega (arith, ih (omega arith) g))
    go ih false z f k g = omega (arith, ih (omega arith) g)

-- with one page for an ID, the one found later was found before
pub page-earlier : (R t u id : ℕ) (b : List Page) (q : Page) → t ≤ u → held id b ≤ 1 → page R u id b ≡ Some q → page R t id b ≡ Some q
page-earlier R t u id b q h d e = go (page R t id b) refl
  where
    counted : living_of R u id b ≡ one (page_alive R u q)
    counted = living_of-some-later R u u id b q (omega arith) d e

    go : (o : Option Page) → page R t id b ≡ o → page R t id b ≡ Some q
    go None f =
        absurd (let z = living_of-none-later R t u id b h f in let o : one (page_alive R u q) ≡ 1 = ap one (page-alive R u id b q e) in omega (arith, counted))
    go (Some p) f = f ∙ sym later ∙ e
      where
        p-alive : (x : Bool) → page_alive R u p ≡ x → page_alive R u p ≡ true
        p-alive true g = g
        p-alive false g =
            absurd (let z : living_of R u id b ≡ 0 = living_of-some-later R t u id b p h d f ∙ ap one g in
            let o : one (page_alive R u q) ≡ 1 = ap one (page-alive R u id b q e) in omega (arith, counted))

        later : page R u id b ≡ Some p
        later = page-later R t u id b p h f (p-alive (page_alive R u p) refl)

-- ---- what holds at a reading

pub record Found (R t : ℕ) (r : Record) (b : List Page) : Type 0 where
  pub it : Page
  pub is_it : page R t r.id b ≡ Some it
  pub matches : Match r it
  pub past : it.last ≤ t

pub record Held (R t id : ℕ) (ρ : ℕ → Record) : Type 0 where
  pub at : ℕ
  pub inside : at < capacity
  pub has : holds R t id (ρ at) ≡ true

pub record Rel (R t : ℕ) (ρ : ℕ → Record) (b : List Page) : Type 0 where
  pub forth : (i : ℕ) → i < capacity → live R t (ρ i) ≡ true → Found R t (ρ i) b
  pub back : (id : ℕ) (q : Page) → page R t id b ≡ Some q → Held R t id ρ
  pub unique : (i j id : ℕ) → i < capacity → j < capacity → holds R t id (ρ i) ≡ true → holds R t id (ρ j) ≡ true → i ≡ j
  pub counts : (u : ℕ) → t ≤ u → tally (λ i. live R u (ρ i)) 0 capacity ≡ living R u b
  pub distinct : Distinct b

-- the record's word in use is not 0
abbrev pub in_use : Record → Bool
in_use r = not (eqb r.used 0)

live-before : (R t u : ℕ) (r : Record) → t ≤ u → live R u r ≡ true → live R t r ≡ true
live-before R t u r h e =
    ap₂ (λ (x y : Bool). x && y) ((and-eq-true_iff (in_use r) _).0 e).0 (alive-before R t u r.last h ((and-eq-true_iff (in_use r) _).0 e).1)

pub live-after : (R t u : ℕ) (r : Record) → t ≤ u → live R t r ≡ false → live R u r ≡ false
live-after R t u r h e = go (live R u r) refl
  where
    go : (x : Bool) → live R u r ≡ x → live R u r ≡ false
    go true f = absurd (true≢false (sym (live-before R t u r h f) ∙ e))
    go false f = f

pub holds-live : (R t id : ℕ) (r : Record) → holds R t id r ≡ true → live R t r ≡ true
holds-live R t id r e = ((and-eq-true_iff (live R t r) _).0 e).0

pub holds-id : (R t id : ℕ) (r : Record) → holds R t id r ≡ true → r.id ≡ id
holds-id R t id r e = eqb-true r.id id ((and-eq-true_iff (live R t r) _).0 e).1

pub holds_of : (R t id : ℕ) (r : Record) → live R t r ≡ true → r.id ≡ id → holds R t id r ≡ true
holds_of R t id r e f = ap₂ (λ (x y : Bool). x && y) e (eq-eqb r.id id f)

-- it still holds at any later reading
pub later : (R t u : ℕ) (ρ : ℕ → Record) (b : List Page) → t ≤ u → Rel R t ρ b → Rel R u ρ b
later R t u ρ b h rel =
    record {
      forth = λ i l e.
          let f = rel.forth i l (live-before R t u (ρ i) h e) in
          record {
            it = f.it;
            is_it = page-later R t u (ρ i).id b f.it h f.is_it
                (sym (alive-same R u (ρ i) f.it f.matches) ∙ ((and-eq-true_iff (in_use (ρ i)) _).0 e).1);
            matches = f.matches;
            past = omega (arith, f.past);
          };
      back = λ id q e. back id q e;
      unique = λ i j id l m e f. rel.unique i j id l m (earlier i id e) (earlier j id f);
      counts = λ w g. rel.counts w (omega arith);
      distinct = rel.distinct;
    }
  where
    earlier : (i id : ℕ) → holds R u id (ρ i) ≡ true → holds R t id (ρ i) ≡ true
    earlier i id e = holds_of R t id (ρ i) (live-before R t u (ρ i) h (holds-live R u id (ρ i) e)) (holds-id R u id (ρ i) e)

    back : (id : ℕ) (q : Page) → page R u id b ≡ Some q → Held R u id ρ
    back id q e =
        let e' = page-earlier R t u id b q h (rel.distinct id) e in
        let k = rel.back id q e' in
        let f = rel.forth k.at k.inside (holds-live R t id (ρ k.at) k.has) in
        let same : f.it ≡ q = same_Some _ _ (sym f.is_it ∙ ap (λ (n : ℕ). page R t n b) (holds-id R t id (ρ k.at) k.has) ∙ e') in
        record {
          at = k.at;
          inside = k.inside;
          has = holds_of R u id (ρ k.at)
              (ap₂ (λ (x y : Bool). x && y) ((and-eq-true_iff (in_use (ρ k.at)) _).0 (holds-live R t id (ρ k.at) k.has)).0
              (alive-same R u (ρ k.at) f.it f.matches ∙ ap (page_alive R u) same ∙ page-alive R u id b q e))
              (holds-id R t id (ρ k.at) k.has);
        }

balance : (x y o a n l w c : ℕ) → x + o ≡ y + a → a ≡ n → y ≡ l → l ≡ w + c → c ≡ o → x ≡ n + w
balance x y o a n l w c e f g h k = omega arith

-- ---- an acceptance at the reading t: record i becomes r, and the page q is put into the book

module _ (R t : ℕ) (ρ ρ' : ℕ → Record) (b : List Page) (rel : Rel R t ρ b) (i : ℕ) (inside : i < capacity) (r : Record) (q : Page)
    (m : Match r q) (used : in_use r ≡ true) (alive-now : page_alive R t q ≡ true) (past : q.last ≤ t)
    (is_r : ρ' i ≡ r) (others : (j : ℕ) → j < capacity → j ≢ i → ρ' j ≡ ρ j)
    -- before: no other record has the ID, record i had it if it was alive, and that was the count of the ID's pages
    (alone : (j : ℕ) → j < capacity → j ≢ i → holds R t q.id (ρ j) ≡ false)
    (own : live R t (ρ i) ≡ true → (ρ i).id ≡ q.id)
    (counted : (u : ℕ) → t ≤ u → living_of R u q.id b ≡ one (live R u (ρ i))) where
  live-r : (u : ℕ) → live R u r ≡ page_alive R u q
  live-r u = ap₂ (λ (x y : Bool). x && y) used (alive-same R u r q m)

  found-r : Found R t r (q ∷ without q.id b)
  found-r =
      record {
        it = q;
        is_it = ap (λ (x : Bool). cond x (Some q) (page R t r.id (without q.id b)))
            (ap₂ (λ (x y : Bool). x && y) (eq-eqb q.id r.id (sym m.id)) alive-now);
        matches = m;
        past = past;
      }

  forth' : (j : ℕ) → j < capacity → live R t (ρ' j) ≡ true → Found R t (ρ' j) (q ∷ without q.id b)
  forth' j l e = go (eqb j i) refl
    where
      go : (x : Bool) → eqb j i ≡ x → Found R t (ρ' j) (q ∷ without q.id b)
      go true f = subst (λ (s : Record). Found R t s (q ∷ without q.id b)) (sym (ap ρ' (eqb-true j i f) ∙ is_r)) found-r
      go false f = subst (λ (s : Record). Found R t s (q ∷ without q.id b)) (sym same) there
        where
          n : j ≢ i
          n = eqb-false j i f

          same : ρ' j ≡ ρ j
          same = others j l n

          old : Found R t (ρ j) b
          old = rel.forth j l (ap (live R t) (sym same) ∙ e)

          differs : q.id ≢ (ρ j).id
          differs h = true≢false (sym (holds_of R t q.id (ρ j) (ap (live R t) (sym same) ∙ e) (sym h)) ∙ alone j l n)

          there : Found R t (ρ j) (q ∷ without q.id b)
          there = record { it = old.it; is_it = page-put R t (ρ j).id q b differs ∙ old.is_it; matches = old.matches; past = old.past }

  back' : (id : ℕ) (p : Page) → page R t id (q ∷ without q.id b) ≡ Some p → Held R t id ρ'
  back' id p e = go (eqb q.id id) refl
    where
      go : (x : Bool) → eqb q.id id ≡ x → Held R t id ρ'
      go true f =
          record {
            at = i;
            inside = inside;
            has = ap (holds R t id) is_r ∙ holds_of R t id r (live-r t ∙ alive-now) (m.id ∙ eqb-true q.id id f);
          }
      go false f = record { at = k.at; inside = k.inside; has = ap (holds R t id) (others k.at k.inside n) ∙ k.has }
        where
          k : Held R t id ρ
          k = rel.back id p (sym (page-put R t id q b (eqb-false q.id id f)) ∙ e)

          n : k.at ≢ i
          n h =
              eqb-false q.id id f
              (sym (own (ap (λ (s : ℕ). live R t (ρ s)) (sym h) ∙ holds-live R t id (ρ k.at) k.has))
              ∙ ap (λ (s : ℕ). (ρ s).id) (sym h) ∙ holds-id R t id (ρ k.at) k.has)

  -- a record of ρ' that has an ID alive is record i with q's ID, or it is as it was
  not-both : (j id : ℕ) → j < capacity → j ≢ i → holds R t id (ρ' i) ≡ true → holds R t id (ρ' j) ≡ true → ⊥
  not-both j id l n e f =
      let mine : id ≡ q.id = sym (holds-id R t id (ρ' i) e) ∙ ap (λ (s : Record). s.id) is_r ∙ m.id in
      true≢false (sym f ∙ ap (holds R t id) (others j l n) ∙ ap (λ (s : ℕ). holds R t s (ρ j)) mine ∙ alone j l n)

  unique' : (j k id : ℕ) → j < capacity → k < capacity → holds R t id (ρ' j) ≡ true → holds R t id (ρ' k) ≡ true → j ≡ k
  unique' j k id lj lk ej ek = go (eqb j i) (eqb k i) refl refl
    where
      go : (x y : Bool) → eqb j i ≡ x → eqb k i ≡ y → j ≡ k
      go true true f g = eqb-true j i f ∙ sym (eqb-true k i g)
      go true false f g =
          absurd (not-both k id lk (eqb-false k i g) (ap (λ (s : ℕ). holds R t id (ρ' s)) (sym (eqb-true j i f)) ∙ ej) ek)
      go false true f g =
          absurd (not-both j id lj (eqb-false j i f) (ap (λ (s : ℕ). holds R t id (ρ' s)) (sym (eqb-true k i g)) ∙ ek) ej)
      go false false f g =
          rel.unique j k id lj lk (ap (holds R t id) (sym (others j lj (eqb-false j i f))) ∙ ej)
          (ap (holds R t id) (sym (others k lk (eqb-false k i g))) ∙ ek)

  counts' : (u : ℕ) → t ≤ u → tally (λ j. live R u (ρ' j)) 0 capacity ≡ living R u (q ∷ without q.id b)
  counts' u h =
      let a = tally-but (λ j. live R u (ρ' j)) (λ j. live R u (ρ j)) 0 capacity i zero-le (omega arith)
      (λ j _ l n. ap (live R u) (others j (omega arith) n)) in
      let new : one (live R u (ρ' i)) ≡ one (page_alive R u q) = ap one (ap (live R u) is_r ∙ live-r u) in
      balance _ _ _ _ _ _ _ _ a new (rel.counts u h) (living-split R u q.id b) (counted u h)

  pub put : Rel R t ρ' (q ∷ without q.id b)
  put = record { forth = forth'; back = back'; unique = unique'; counts = counts'; distinct = distinct-put q b rel.distinct }
