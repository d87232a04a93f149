-- The book's part of the rearrangement claim: the positions of the calls, and the theorem. Assumes nothing.
use Rattle.std.specs.Prelude.{Option, Some}
use mathlib.Core.Path.{◌≡◌, refl, sym, ap, ◌∙◌, subst}
use mathlib.Core.Logic.{◌≢◌}
use mathlib.Core.Bool.{Bool, true, false}
use mathlib.Core.List.{List, [], ◌∷◌, map}
use Prim.Native.Nat.{ℕ, zero, suc, ◌+◌, ◌≤◌, ◌<◌, zero-le}
use native.Mathlib.Nat.{le_of_suc-le-suc}
use native.Mathlib.Omega.{arith}
use lib.Dec.{ltb, eqb}
use lib.ListN.{length, get_or}
use Rattle.session_book.specs.Call.{Call, no_call, Outcome, refused, Decision}
use Rattle.session_book.specs.Book.{Page, one, book_next, book_outcomes, book_after}
use Rattle.session_book.specs.Demand3.{Each, Pairs, times, clocks, Forward, call_at, Named, Rearranges, NotFull}
use borrow.Author.Tests.{ltb-true, ltb-false, eqb-true, eqb-false, eq-eqb, ne_eqb}
use Rattle.session_book.proofs.Pages.{Same}
use Rattle.session_book.proofs.Shuffle.{In, Moved, shuffle}

-- ---- the numbers from k on

abbrev pub up_to : (k n : ℕ) → List ℕ
up_to k zero = []
up_to k (suc n) = k ∷ up_to (suc k) n

map-up : {A : Type 0} (f : ℕ → A) (k n : ℕ) → map f (up_to (suc k) n) ≡ map (λ i. f (suc i)) (up_to k n)
map-up f k zero = refl
map-up {A} f k (suc n) = ap {B = List A} (λ l. f (suc k) ∷ l) (map-up f (suc k) n)

-- a list is its elements in order
pub map-get_or : {A : Type 0} (l : List A) (d : A) → map (λ i. get_or l i d) (up_to 0 (length l)) ≡ l
map-get_or [] d = refl
map-get_or {A} (x ∷ l) d = ap {B = List A} (λ r. x ∷ r) (map-up (λ i. get_or (x ∷ l) i d) 0 (length l) ∙ map-get_or l d)

times-out : (i k n : ℕ) → i < k → times i (up_to k n) ≡ 0
times-out i k zero h = refl
times-out i k (suc n) h = rw (ne_eqb k i (omega arith)) (omega (arith, times-out i (suc k) n (omega arith)))

times-past : (i k n : ℕ) → k + n ≤ i → times i (up_to k n) ≡ 0
times-past i k zero h = refl
times-past i k (suc n) h = rw (ne_eqb k i (omega arith)) (omega (arith, times-past i (suc k) n (omega arith)))

times-within : (i k n : ℕ) → k ≤ i → i < k + n → times i (up_to k n) ≡ 1
times-within i k zero h l = absurd (omega arith)
times-within i k (suc n) h l = go (times-within i (suc k) n) (eqb k i) refl
  where
    go : (suc k ≤ i → i < suc k + n → times i (up_to (suc k) n) ≡ 1) → (x : Bool) → eqb k i ≡ x → one x + times i (up_to (suc k) n) ≡ 1
    go ih true e = omega (arith, times-out i (suc k) n (omega (arith, eqb-true k i e)))
    go ih false e = omega (arith, ih (omega (arith, eqb-false k i e)) (omega arith))

pub times-up_to : (i n : ℕ) → one (ltb i n) ≡ times i (up_to 0 n)
times-up_to i n = go (ltb i n) refl
  where
    go : (x : Bool) → ltb i n ≡ x → one x ≡ times i (up_to 0 n)
    go true e = sym (times-within i 0 n zero-le (omega (arith, ltb-true i n e)))
    go false e = sym (times-past i 0 n (omega (arith, ltb-false i n e)))

-- ---- lists

pub each_from : (P : ℕ → Type 0) (l : List ℕ) → ((y : ℕ) → In y l → P y) → Each P l
each_from P [] f = tt
each_from P (x ∷ l) f = (f x (rw (eq-eqb x x refl) (omega arith)), each_from P l (λ y h. f y (omega arith)))

pub each_map : {A B : Type 0} (P : B → Type 0) (f : A → B) (l : List A) → Each (λ x. P (f x)) l → Each P (map f l)
each_map P f [] e = tt
each_map P f (x ∷ l) e = (e.0, each_map P f l e.1)

each-unmap : {A B : Type 0} (P : B → Type 0) (f : A → B) (l : List A) → Each P (map f l) → Each (λ x. P (f x)) l
each-unmap P f [] e = tt
each-unmap P f (x ∷ l) e = (e.0, each-unmap P f l e.1)

pairs-unmap : {A B : Type 0} (P : B → B → Type 0) (f : A → B) (l : List A) → Pairs P (map f l) → Pairs (λ x y. P (f x) (f y)) l
pairs-unmap P f [] e = tt
pairs-unmap P f (x ∷ l) e = (each-unmap (P (f x)) f l e.0, pairs-unmap P f l e.1)

each_both : {A : Type 0} (P Q : A → Type 0) (l : List A) → Each P l → Each Q l → Each (λ x. P x × Q x) l
each_both P Q [] e f = tt
each_both P Q (x ∷ l) e f = ((e.0, f.0), each_both P Q l e.1 f.1)

pairs-both : {A : Type 0} (P Q : A → A → Type 0) (l : List A) → Pairs P l → Pairs Q l → Pairs (λ x y. P x y × Q x y) l
pairs-both P Q [] e f = tt
pairs-both P Q (x ∷ l) e f = (each_both (P x) (Q x) l e.0 f.0, pairs-both P Q l e.1 f.1)

each-above : (i k n : ℕ) → i < k → Each (λ j. i < j) (up_to k n)
each-above i k zero h = tt
each-above i k (suc n) h = (h, each-above i (suc k) n (omega arith))

pairs-up_to : (k n : ℕ) → Pairs ◌<◌ (up_to k n)
pairs-up_to k zero = tt
pairs-up_to k (suc n) = (each-above k (suc k) n (omega arith), pairs-up_to (suc k) n)

pub each-get_or : {A : Type 0} (P : A → Type 0) (l : List A) (d : A) (i : ℕ) → Each P l → i < length l → P (get_or l i d)
each-get_or P [] d i e h = absurd (omega arith)
each-get_or P (x ∷ l) d zero e h = e.0
each-get_or P (x ∷ l) d (suc i) e h = each-get_or P l d i e.1 (le_of_suc-le-suc h)

-- ---- the theorem

-- a rearrangement has no other number
pub in_order : (belongs : Call → Option ℕ) (cs : List Call) (order : List ℕ) → Rearranges belongs cs order
    → (i : ℕ) → In i order → i < length cs
in_order belongs cs order re i h = go (ltb i (length cs)) refl
  where
    go : (x : Bool) → ltb i (length cs) ≡ x → i < length cs
    go true e = ltb-true i (length cs) e
    go false e = absurd (omega (arith, re.once i ∙ ap one e))

module _ {H : Type 0} (decide : Call → Decision H) (belongs : Call → Option ℕ) (named : Named decide belongs) (R : ℕ) where
  length-outcomes : (b : List Page) (cs : List Call) → length (book_outcomes decide R b cs) ≡ length cs
  length-outcomes b [] = refl
  length-outcomes b (c ∷ cs) = ap suc (length-outcomes (book_next decide R b c) cs)

  module _ (cs : List Call) (forward : Forward cs) (room : Each NotFull (book_outcomes decide R [] cs)) (order : List ℕ)
      (re : Rearranges belongs cs order) (missing : Outcome H) where
    abbrev pub first : List (Outcome H)
    first = book_outcomes decide R [] cs

    abbrev pub outcome_at : ℕ → Outcome H
    outcome_at i = get_or first i missing

    abbrev numbers : List ℕ
    numbers = up_to 0 (length cs)

    calls : map (call_at cs) numbers ≡ cs
    calls = map-get_or cs no_call

    gives : book_outcomes decide R [] (map (call_at cs) numbers) ≡ map outcome_at numbers
    gives =
        ap (book_outcomes decide R []) calls ∙ sym (map-get_or first missing)
        ∙ ap (λ (n : ℕ). map outcome_at (up_to 0 n)) (length-outcomes [] cs)

    below : (i : ℕ) → In i order → i < length cs
    below = in_order belongs cs order re

    not_full : (i : ℕ) → i < length cs → (outcome_at i).answer ≢ refused 9
    not_full i h = each-get_or NotFull first missing i room (subst (λ (n : ℕ). i < n) (sym (length-outcomes [] cs)) h)

    moved : Moved decide belongs named R (call_at cs) outcome_at [] numbers order
    moved =
        shuffle decide belongs named R (call_at cs) outcome_at order numbers [] (λ id. zero-le)
        (λ i. re.once i ∙ times-up_to i (length cs))
        (pairs-both ◌<◌ (λ i j. (call_at cs i).clock ≤ (call_at cs j).clock) numbers (pairs-up_to 0 (length cs))
        (pairs-unmap (λ c d. c.clock ≤ d.clock) (call_at cs) numbers
        (pairs-unmap ◌≤◌ (λ (c : Call). c.clock) (map (call_at cs) numbers)
        (subst (λ (l : List Call). Pairs ◌≤◌ (clocks l)) (sym calls) forward))))
        (pairs-both (λ i j. (call_at cs i).clock ≤ (call_at cs j).clock)
        (λ i j. (id : ℕ) → belongs (call_at cs i) ≡ Some id → belongs (call_at cs j) ≡ Some id → i < j) order
        (pairs-unmap (λ c d. c.clock ≤ d.clock) (call_at cs) order
        (pairs-unmap ◌≤◌ (λ (c : Call). c.clock) (map (call_at cs) order) (subst (Pairs ◌≤◌) (sym re.same_clocks) forward)))
        re.sessions_in_order)
        (λ i h. not_full i (below i (omega (arith, re.once i, times-up_to i (length cs)))))
        gives

    pub rearranged-outcomes : book_outcomes decide R [] (map (call_at cs) order) ≡ map outcome_at order
    rearranged-outcomes = moved.gives

    pub rearranged-room : Each NotFull (book_outcomes decide R [] (map (call_at cs) order))
    rearranged-room =
        subst (Each NotFull) (sym rearranged-outcomes)
        (each_map NotFull outcome_at order (each_from (λ i. NotFull (outcome_at i)) order (λ i h. not_full i (below i h))))

    pub rearranged-pages : Same (book_after decide R [] cs) (book_after decide R [] (map (call_at cs) order))
    rearranged-pages =
        subst (λ (l : List Call). Same (book_after decide R [] l) (book_after decide R [] (map (call_at cs) order))) calls moved.ends
