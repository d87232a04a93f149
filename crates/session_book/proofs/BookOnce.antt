-- The book accepts no byte string twice: a page outlives the 60 seconds in which one of its datagrams is timely.
-- Assumes nothing.
use Rattle.std.specs.Prelude.{None, Option, Some}
use mathlib.Core.Path.{◌≡◌, refl, sym, ap, ◌∙◌, subst, subst₂}
use mathlib.Core.Logic.{◌≢◌}
use mathlib.Core.Bool.{Bool, true, false, cond, ◌||◌, false≢true, and-false}
use mathlib.Core.List.{List, [], ◌∷◌}
use Prim.Native.Nat.{ℕ, suc, ◌+◌, ◌≤◌}
use native.Mathlib.Omega.{arith}
use lib.Dec.{ltb, eqb}
use borrow.Author.Tests.{eqb-true, eqb-false, eq-eqb, le-leb, lt-leb}
use Rattle.session_record.specs.declared.Peer.{Peer}
use Rattle.session_book.specs.Call.{Call, Decision, early, reaches}
use Rattle.session_book.specs.Book.{Page, page_alive, page, without, until, member, fresh, crowded, accept, refuse, new_page, BookEntry, enters, replay, judge, judge_by, turn, tell, outcome_by, next_by, book_outcome, book_next, book_outcomes}
use Rattle.session_book.specs.Demand3.{Each, Pairs, clocks}
use Rattle.session_book.specs.Counts.{is_opened}
use Rattle.session_book.specs.Once.{accepted, Once, apart, Stamped, LongEnough, NotBefore, BookOnce}
use Rattle.session_book.proofs.Pages.{page-alive, page-head, page-later}
use Rattle.session_book.proofs.Swap.{made, page-turn, accept-alive, new-alive}

-- At the reading v the book has a page alive for the ID, which accepted p, and has had a datagram at t or later.
record Knows (R : ℕ) (b : List Page) (v t id p : ℕ) : Type 0 where
  it : Page
  is_it : page R v id b ≡ Some it
  has : member p it.accepted ≡ true
  below : p ≤ it.h
  since : t ≤ it.last

-- it has one for as long as R after t
abbrev Known : (R : ℕ) → List Page → (v t id p : ℕ) → Type 0
Known R b v t id p = v ≤ t + R → Knows R b v t id p

-- what is known is not fresh
pub not-fresh : (q : Page) (p : ℕ) → member p q.accepted ≡ true → p ≤ q.h → fresh q p ≡ false
not-fresh q p m l = let above : ltb q.h p ≡ false = lt-leb (suc q.h) p (omega arith) in simp (above, m, and-false)

-- the same book at a later reading
known-later : (R : ℕ) (b : List Page) (v w t id p : ℕ) → v ≤ w → Known R b v t id p → Known R b w t id p
known-later R b v w t id p l known h =
    let k = known (omega arith) in
    record {
      it = k.it;
      is_it = page-later R v w id b k.it l k.is_it (le-leb w (until R k.it) (omega (arith, k.since)));
      has = k.has;
      below = k.below;
      since = k.since;
    }

module _ (R : ℕ) (b : List Page) (v t id p : ℕ) (past : t ≤ v) (known : Known R b v t id p) (a : Peer) (x : ℕ) where
  -- a packet ID of another session
  known-other : (i : ℕ) → i ≢ id → Known R (turn (judge R b v a i x) i b) v t id p
  known-other i n h =
      let k = known h in
      record {
        it = k.it;
        is_it = page-turn R v i id (judge R b v a i x) (made R b v a i x) b n ∙ k.is_it;
        has = k.has;
        below = k.below;
        since = k.since;
      }

  -- and one of its own, accepted or refused
  known-own : Known R (turn (judge R b v a id x) id b) v t id p
  known-own h =
      subst (λ (o : Option Page). Knows R (turn (judge_by o (crowded R v b) v a id x) id b) v t id p) (sym k.is_it) (go (fresh k.it x))
    where
      k : Knows R b v t id p
      k = known h

      alive : page_alive R v k.it ≡ true
      alive = page-alive R v id b k.it k.is_it

      still : (y : Bool) → (y || member p k.it.accepted) ≡ true
      still true = refl
      still false = k.has

      go : (y : Bool) → Knows R (turn (cond y (enters (accept v a id x k.it)) (replay (refuse id x k.it))) id b) v t id p
      go true =
          record {
            it = accept v a id x k.it;
            is_it = page-head R v id (accept v a id x k.it) (without id b) refl (accept-alive R v a id x k.it alive);
            has = search (still (eqb x p), k.has);
            below = omega (arith, k.below);
            since = omega (arith, past, k.since);
          }
      go false =
          record {
            it = refuse id x k.it;
            is_it = page-head R v id (refuse id x k.it) (without id b) refl alive;
            has = k.has;
            below = k.below;
            since = k.since;
          }

  known-turned : (i : ℕ) → Known R (turn (judge R b v a i x) i b) v t id p
  known-turned i = go (eqb i id) refl
    where
      go : (y : Bool) → eqb i id ≡ y → Known R (turn (judge R b v a i x) i b) v t id p
      go true e = subst (λ (j : ℕ). Known R (turn (judge R b v a j x) j b) v t id p) (sym (eqb-true i id e)) known-own
      go false e = known-other i (eqb-false i id e)

-- ---- a call

module _ {H : Type 0} (decide : Call → Decision H) (stamped : Stamped decide) (R : ℕ) (enough : LongEnough R) where
  -- what was known before a call is known after it
  known_next : (d : Decision H) (b : List Page) (c : Call) (v t id p : ℕ) → v ≤ c.clock → t ≤ v → Known R b v t id p
      → Known R (next_by d R b c) c.clock t id p
  known_next (early n o) b c v t id p l past known = known-later R b v c.clock t id p l known
  known_next (reaches i x hd pl) b c v t id p l past known =
      known-turned R b c.clock t id p (omega arith) (known-later R b v c.clock t id p l known) c.peer x i

  -- bytes whose ID and packet ID are known, with a time up to 30 past t, are not accepted again: once they are forgotten they are stale
  again : (d : Decision H) (b : List Page) (c : Call) (t : ℕ) (bytes : List ℕ) → decide c ≡ d → stamped.stamp_of bytes ≤ t + apart
      → Known R b c.clock t (stamped.id_of bytes) (stamped.packet_of bytes) → is_opened (outcome_by d R b c).answer ≡ true → bytes ≢ c.datagram
  again (early n o) b c t bytes e s known op = absurd (false≢true op)
  again (reaches i x hd pl) b c t bytes e s known op = λ same.
      let r = stamped.reaching c i x hd pl e in
      let is_i : i ≡ stamped.id_of bytes = r.its-id ∙ ap stamped.id_of (sym same) in
      let is_x : x ≡ stamped.packet_of bytes = r.its-packet ∙ ap stamped.packet_of (sym same) in
      let timely : c.clock ≤ stamped.stamp_of bytes + apart =
      subst (λ (y : List ℕ). c.clock ≤ stamped.stamp_of y + apart) (sym same) r.not_behind in
      let k = known (omega arith) in
      let refused : judge R b c.clock c.peer i x ≡ replay (refuse i x k.it) =
      ap (λ (o : Option Page). judge_by o (crowded R c.clock b) c.clock c.peer i x)
      (ap (λ (j : ℕ). page R c.clock j b) is_i ∙ k.is_it)
      ∙ ap (λ (y : Bool). cond y (enters (accept c.clock c.peer i x k.it)) (replay (refuse i x k.it)))
      (ap (fresh k.it) is_x ∙ not-fresh k.it (stamped.packet_of bytes) k.has k.below) in
      false≢true (sym (ap (λ (f : BookEntry). is_opened (tell f c hd pl).answer) refused) ∙ op)

  -- what a call accepts is known after it
  learned : (d : Decision H) (b : List Page) (c : Call) → decide c ≡ d → is_opened (outcome_by d R b c).answer ≡ true
      → Known R (next_by d R b c) c.clock c.clock (stamped.id_of c.datagram) (stamped.packet_of c.datagram)
  learned (early n o) b c e op = absurd (false≢true op)
  learned (reaches i x hd pl) b c e op =
      let r = stamped.reaching c i x hd pl e in
      subst₂ (λ (j y : ℕ). Known R (turn (judge R b c.clock c.peer i x) i b) c.clock c.clock j y) r.its-id r.its-packet
      (λ h. by (page R c.clock i b) refl (crowded R c.clock b) op)
    where
      marked : (l : List ℕ) → member x (x ∷ l) ≡ true
      marked l = ap (λ (y : Bool). y || member x l) (eq-eqb x x refl)

      by : (o : Option Page) → page R c.clock i b ≡ o → (z : Bool) → is_opened (tell (judge_by o z c.clock c.peer i x) c hd pl).answer ≡ true
          → Knows R (turn (judge_by o z c.clock c.peer i x) i b) c.clock c.clock i x
      by (Some q) e z f = pick (fresh q x) f
        where
          now : Page
          now = accept c.clock c.peer i x q

          pick : (w : Bool) → is_opened (tell (cond w (enters now) (replay (refuse i x q))) c hd pl).answer ≡ true
              → Knows R (turn (cond w (enters now) (replay (refuse i x q))) i b) c.clock c.clock i x
          pick true f =
              record {
                it = now;
                is_it = page-head R c.clock i now (without i b) refl
                    (accept-alive R c.clock c.peer i x q (page-alive R c.clock i b q e));
                has = marked q.accepted;
                below = omega arith;
                since = omega arith;
              }
          pick false f = absurd (false≢true f)
      by None e true f = absurd (false≢true f)
      by None e false f =
          let now = new_page c.clock c.peer i x in
          record {
            it = now;
            is_it = page-head R c.clock i now (without i b) refl (new-alive R c.clock c.peer i x);
            has = marked [];
            below = omega arith;
            since = omega arith;
          }

  stamped-early : (d : Decision H) (b : List Page) (c : Call) → decide c ≡ d → is_opened (outcome_by d R b c).answer ≡ true
      → stamped.stamp_of c.datagram ≤ c.clock + apart
  stamped-early (early n o) b c e op = absurd (false≢true op)
  stamped-early (reaches i x hd pl) b c e op = (stamped.reaching c i x hd pl e).not-ahead

  -- ---- a run

  -- bytes that were accepted at t, in the calls after it
  never-again : (cs : List Call) (b : List Page) (v t : ℕ) (bytes : List ℕ) → stamped.stamp_of bytes ≤ t + apart → t ≤ v
      → Known R b v t (stamped.id_of bytes) (stamped.packet_of bytes) → Pairs NotBefore (v ∷ clocks cs)
      → Each (λ d. bytes ≢ d) (accepted cs (book_outcomes decide R b cs))
  never-again [] b v t bytes s past known forward = tt
  never-again (c ∷ cs) b v t bytes s past known forward =
      let onward : v ≤ c.clock = omega (arith, forward.0.0) in
      go (is_opened (book_outcome decide R b c).answer) refl
      (known-later R b v c.clock t (stamped.id_of bytes) (stamped.packet_of bytes) onward known)
      (never-again cs (book_next decide R b c) c.clock t bytes s (omega arith)
      (known_next (decide c) b c v t (stamped.id_of bytes) (stamped.packet_of bytes) onward past known) forward.1)
    where
      go : (x : Bool) → is_opened (book_outcome decide R b c).answer ≡ x
          → Known R b c.clock t (stamped.id_of bytes) (stamped.packet_of bytes)
          → Each (λ d. bytes ≢ d) (accepted cs (book_outcomes decide R (book_next decide R b c) cs))
          → Each (λ d. bytes ≢ d) (cond x (c.datagram ∷ accepted cs (book_outcomes decide R (book_next decide R b c) cs))
          (accepted cs (book_outcomes decide R (book_next decide R b c) cs)))
      go true e here rest = (again (decide c) b c t bytes refl s here e, rest)
      go false e here rest = rest

  from : (cs : List Call) (b : List Page) → Pairs NotBefore (clocks cs) → Once cs (book_outcomes decide R b cs)
  from [] b forward = tt
  from (c ∷ cs) b forward = go (is_opened (book_outcome decide R b c).answer) refl (from cs (book_next decide R b c) forward.1)
    where
      go : (x : Bool) → is_opened (book_outcome decide R b c).answer ≡ x → Once cs (book_outcomes decide R (book_next decide R b c) cs)
          → Pairs (λ a d. a ≢ d) (cond x (c.datagram ∷ accepted cs (book_outcomes decide R (book_next decide R b c) cs))
          (accepted cs (book_outcomes decide R (book_next decide R b c) cs)))
      go true e rest = (
        never-again cs (book_next decide R b c) c.clock c.clock c.datagram (stamped-early (decide c) b c refl e) (omega arith)
            (learned (decide c) b c refl e) forward,
        rest,
      )
      go false e rest = rest

pub book-once : {H : Type 0} (decide : Call → Decision H) → Stamped decide → BookOnce decide
book-once decide stamped R enough cs forward = from decide stamped R enough cs [] forward
