-- A rearrangement of calls in the book, moved one call at a time. A run is given by the numbers of its calls; `call i` is call
-- number i. Assumes nothing.
use Rattle.std.specs.Prelude.{Option, Some}
use mathlib.Core.Path.{◌≡◌, refl, sym, ap, ap₂, ◌∙◌, subst}
use mathlib.Core.Logic.{◌≢◌}
use mathlib.Core.Bool.{Bool, true, false}
use mathlib.Core.List.{List, [], ◌∷◌, ◌++◌, map}
use Prim.Native.Nat.{ℕ, ◌+◌, ◌≤◌, ◌<◌}
use native.Mathlib.Omega.{arith}
use lib.Dec.{eqb}
use Rattle.session_book.specs.Call.{Call, Outcome, refused, Decision, early, reaches}
use Rattle.session_book.specs.Book.{Page, one, book_outcome, book_next, book_outcomes, book_after}
use Rattle.session_book.specs.Demand3.{Each, Pairs, times, Named}
use borrow.Author.Tests.{eqb-true, eq-eqb}
use Rattle.session_book.proofs.Pages.{Distinct, Same, after, same_refl}
use Rattle.session_book.proofs.Swap.{outcome-same, next-same, distinct-next, Apart, Swapped, swap-calls}

-- ---- lists

pub cons_head : {A : Type 0} {x y : A} {l m : List A} → x ∷ l ≡ y ∷ m → x ≡ y
cons_head {A} {x} e = cc

pub cons_tail : {A : Type 0} {x y : A} {l m : List A} → x ∷ l ≡ y ∷ m → l ≡ m
cons_tail e = cc

-- y is in the list
abbrev pub In : ℕ → List ℕ → Type 0
In y l = 1 ≤ times y l

in_head : (y : ℕ) (l : List ℕ) → In y (y ∷ l)
in_head y l = rw (eq-eqb y y refl) (omega arith)

in_tail : (y x : ℕ) (l : List ℕ) → In y l → In y (x ∷ l)
in_tail y x l h = omega arith

pub each_at : (P : ℕ → Type 0) (l : List ℕ) → Each P l → (y : ℕ) → In y l → P y
each_at P [] e y h = absurd (omega arith)
each_at P (x ∷ l) e y h = go (each_at P l e.1 y) (eqb x y) refl h
  where
    go : (In y l → P y) → (t : Bool) → eqb x y ≡ t → 1 ≤ one t + times y l → P y
    go ih true f k = subst P (eqb-true x y f) e.0
    go ih false f k = ih (omega arith)

pub times-append : (i : ℕ) (l m : List ℕ) → times i (l ++ m) ≡ times i l + times i m
times-append i [] m = omega arith
times-append i (x ∷ l) m = omega (arith, times-append i l m)

-- a list taken apart at one of its elements
pub record Split (x : ℕ) (l : List ℕ) : Type 0 where
  pub pre : List ℕ
  pub post : List ℕ
  pub whole : l ≡ pre ++ x ∷ post

pub split-in : (x : ℕ) (l : List ℕ) → In x l → Split x l
split-in x [] h = absurd (omega arith)
split-in x (y ∷ l) h = go (split-in x l) (eqb y x) refl h
  where
    go : (In x l → Split x l) → (t : Bool) → eqb y x ≡ t → 1 ≤ one t + times x l → Split x (y ∷ l)
    go ih true f k = record { pre = []; post = l; whole = ap (λ (z : ℕ). z ∷ l) (eqb-true y x f) }
    go ih false f k =
        let s = ih (omega arith) in record { pre = y ∷ s.pre; post = s.post; whole = ap {B = List ℕ} (λ r. y ∷ r) s.whole }

each-mid : (P : ℕ → Type 0) (pre : List ℕ) (x : ℕ) (post : List ℕ) → Each P (pre ++ x ∷ post) → P x
each-mid P [] x post e = e.0
each-mid P (y ∷ pre) x post e = each-mid P pre x post e.1

each-drop : (P : ℕ → Type 0) (pre : List ℕ) (x : ℕ) (post : List ℕ) → Each P (pre ++ x ∷ post) → Each P (pre ++ post)
each-drop P [] x post e = e.1
each-drop P (y ∷ pre) x post e = (e.0, each-drop P pre x post e.1)

pairs-mid : (P : ℕ → ℕ → Type 0) (pre : List ℕ) (x : ℕ) (post : List ℕ) → Pairs P (pre ++ x ∷ post) → Each (λ y. P y x) pre
pairs-mid P [] x post e = tt
pairs-mid P (y ∷ pre) x post e = (each-mid (P y) pre x post e.0, pairs-mid P pre x post e.1)

pairs-drop : (P : ℕ → ℕ → Type 0) (pre : List ℕ) (x : ℕ) (post : List ℕ) → Pairs P (pre ++ x ∷ post) → Pairs P (pre ++ post)
pairs-drop P [] x post e = e.1
pairs-drop P (y ∷ pre) x post e = (each-drop (P y) pre x post e.0, pairs-drop P pre x post e.1)

module _ {H : Type 0} (decide : Call → Decision H) (belongs : Call → Option ℕ) (named : Named decide belongs) (R : ℕ) (call : ℕ → Call) (o : ℕ → Outcome H) where
  -- the outcomes of the calls numbered `ts` from the book b are those of `o`
  abbrev pub Gives : List Page → List ℕ → Type 0
  Gives b ts = book_outcomes decide R b (map call ts) ≡ map o ts

  abbrev pub end : List Page → List ℕ → List Page
  end b ts = book_after decide R b (map call ts)

  -- ---- books that differ in the order of their pages

  gives_same : (ts : List ℕ) {b b' : List Page} → Same b b' → Gives b ts → Gives b' ts
  gives_same [] s g = refl
  gives_same (i ∷ ts) {b} {b'} s g =
      ap₂ {C = List (Outcome H)} (λ x l. x ∷ l) (sym (outcome-same (decide (call i)) R (call i) s) ∙ cons_head g)
      (gives_same ts (next-same (decide (call i)) R (call i) s) (cons_tail g))

  end_same : (ts : List ℕ) {b b' : List Page} → Same b b' → Same (end b ts) (end b' ts)
  end_same [] s = s
  end_same (i ∷ ts) s = end_same ts (next-same (decide (call i)) R (call i) s)

  -- ---- one call to the front

  -- call number y may be passed by call number x
  abbrev Free : ℕ → ℕ → Type 0
  Free y x = ((call y).clock ≡ (call x).clock) × Apart (decide (call y)) (decide (call x))

  abbrev pub RoomIn : List ℕ → Type 0
  RoomIn ts = (i : ℕ) → In i ts → (o i).answer ≢ refused 9

  pub record Moved (b : List Page) (ts us : List ℕ) : Type 0 where
    pub gives : Gives b us
    pub ends : Same (end b ts) (end b us)

  move : (pre : List ℕ) (x : ℕ) (post : List ℕ) (b : List Page) → Distinct b → ((y : ℕ) → In y pre → Free y x)
      → RoomIn (pre ++ x ∷ post) → Gives b (pre ++ x ∷ post) → Moved b (pre ++ x ∷ post) (x ∷ pre ++ post)
  move [] x post b d free nf g = record { gives = g; ends = same_refl _ }
  move (y ∷ pre) x post b d free nf g =
      go (move pre x post (book_next decide R b (call y)) (distinct-next (decide (call y)) R (call y) b d) (λ z m. free z (in_tail z y pre m))
      (λ i m. nf i (in_tail i y (pre ++ x ∷ post) m)) (cons_tail g))
    where
      x-in : In x (pre ++ x ∷ post)
      x-in = omega (arith, times-append x pre (x ∷ post), in_head x post)

      go : Moved (book_next decide R b (call y)) (pre ++ x ∷ post) (x ∷ pre ++ post) → Moved b (y ∷ pre ++ x ∷ post) (x ∷ y ∷ pre ++ post)
      go m =
          record {
            gives = ap₂ {C = List (Outcome H)} (λ e l. e ∷ l) (sw.of-y ∙ ox)
                (ap₂ {C = List (Outcome H)} (λ e l. e ∷ l) (sw.of-x ∙ oy) (gives_same (pre ++ post) sw.books (cons_tail m.gives)));
            ends = after m.ends (end_same (pre ++ post) sw.books);
          }
        where
          oy : book_outcome decide R b (call y) ≡ o y
          oy = cons_head g

          ox : book_outcome decide R (book_next decide R b (call y)) (call x) ≡ o x
          ox = cons_head m.gives

          sw : Swapped (decide (call y)) (decide (call x)) R b (call y) (call x)
          sw =
              swap-calls (decide (call y)) (decide (call x)) R b (call y) (call x) d (free y (in_head y pre)).1 (free y (in_head y pre)).0
              (subst (λ (e : Outcome H). e.answer ≢ refused 9) (sym oy) (nf y (in_head y (pre ++ x ∷ post))))
              (subst (λ (e : Outcome H). e.answer ≢ refused 9) (sym ox) (nf x (in_tail x y (pre ++ x ∷ post) x-in)))

  -- ---- the whole rearrangement

  abbrev pub Rising : ℕ → ℕ → Type 0
  Rising i j = (i < j) × ((call i).clock ≤ (call j).clock)

  abbrev pub Kept : ℕ → ℕ → Type 0
  Kept i j = ((call i).clock ≤ (call j).clock) × ((id : ℕ) → belongs (call i) ≡ Some id → belongs (call j) ≡ Some id → i < j)

  -- x may pass y, which came before it and now comes after it
  may-pass : (y x : ℕ) → Rising y x → Kept x y → Free y x
  may-pass y x r k = (omega arith, apart (decide (call y)) (decide (call x)) refl refl)
    where
      apart : (d e : Decision H) → decide (call y) ≡ d → decide (call x) ≡ e → Apart d e
      apart (early n out) e f g = tt
      apart (reaches i p hd pl) (early n out) f g = tt
      apart (reaches i p hd pl) (reaches j q hd' pl') f g =
          λ h. let less : x < y = k.1 i (named (call x) j q hd' pl' g ∙ ap Some (sym h)) (named (call y) i p hd pl f) in omega arith

  pub shuffle : (us ts : List ℕ) (b : List Page) → Distinct b → ((i : ℕ) → times i us ≡ times i ts) → Pairs Rising ts → Pairs Kept us
      → RoomIn ts → Gives b ts → Moved b ts us
  shuffle [] [] b d same r k nf g = record { gives = g; ends = same_refl _ }
  shuffle [] (t ∷ ts) b d same r k nf g = absurd (let e = same t in let i = in_head t ts in omega arith)
  shuffle (x ∷ us) ts b d same r k nf g =
      let s = split-in x ts (omega (arith, same x, in_head x us)) in
      subst (λ (l : List ℕ). ((i : ℕ) → times i (x ∷ us) ≡ times i l) → Pairs Rising l → RoomIn l → Gives b l → Moved b l (x ∷ us)) (sym s.whole)
      (at (shuffle us) s.pre s.post) same r nf g
    where
      at : ((ts : List ℕ) (b : List Page) → Distinct b → ((i : ℕ) → times i us ≡ times i ts) → Pairs Rising ts → Pairs Kept us
          → RoomIn ts → Gives b ts → Moved b ts us)
          → (pre post : List ℕ) → ((i : ℕ) → times i (x ∷ us) ≡ times i (pre ++ x ∷ post)) → Pairs Rising (pre ++ x ∷ post) → RoomIn (pre ++ x ∷ post)
          → Gives b (pre ++ x ∷ post) → Moved b (pre ++ x ∷ post) (x ∷ us)
      at ih pre post same r nf g =
          record { gives = ap₂ {C = List (Outcome H)} (λ e l. e ∷ l) (cons_head mv.gives) rest.gives; ends = after mv.ends rest.ends }
        where
          fewer : (i : ℕ) → times i us ≡ times i (pre ++ post)
          fewer i = omega (arith, same i, times-append i pre (x ∷ post), times-append i pre post)

          mv : Moved b (pre ++ x ∷ post) (x ∷ pre ++ post)
          mv =
              move pre x post b d
              (λ y m. may-pass y x (each_at (λ z. Rising z x) pre (pairs-mid Rising pre x post r) y m)
              (each_at (Kept x) us k.0 y (omega (arith, fewer y, times-append y pre post))))
              nf g

          rest : Moved (book_next decide R b (call x)) (pre ++ post) us
          rest =
              ih (pre ++ post) (book_next decide R b (call x)) (distinct-next (decide (call x)) R (call x) b d) fewer (pairs-drop Rising pre x post r) k.1
              (λ i m. nf i (omega (arith, times-append i pre (x ∷ post), times-append i pre post))) (cons_tail mv.gives)
