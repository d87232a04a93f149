-- What is fresh in a record, and the record that accepts it, case by case.
-- Assumes nothing.
use Prim.Native.Nat.{ℕ, ◌+◌, ◌-◌, ◌*◌, ◌%◌, ◌^◌, ◌<◌, ◌≤◌, max}
use mathlib.Core.Bool.{Bool, true, false, not, ◌&&◌, ◌||◌, cond}
use mathlib.Core.Path.{◌≡◌, refl, sym, ap, ◌∙◌}
use lib.Dec.{ltb}
use borrow.Author.Tests.{lt-ltb, le-ltb, ltb-true}
use Rattle.session_record.specs.declared.Peer.{Peer}
use Rattle.session_window.specs.Window.{window, bit}
use Rattle.session_record.specs.Record.{Record, fresh_in, marked_with, one_more, accept_in}

both : (a b : Bool) → (a && not b) ≡ true → (a ≡ true) × (b ≡ false)
both true false e = (refl, refl)
both true true e = (refl, sym e)
both false true e = (e, sym e)
both false false e = (e, refl)

module _ (r : Record) (p : ℕ) where
  at_most : p ≤ r.h → fresh_in r p ≡ ltb (r.h - p) window && not (bit r.marks (r.h - p))
  at_most l = ap (λ (b : Bool). b || ltb (r.h - p) window && not (bit r.marks (r.h - p))) (le-ltb r.h p l)

  pub fresh-within : p ≤ r.h → r.h - p < window → fresh_in r p ≡ not (bit r.marks (r.h - p))
  fresh-within l w = at_most l ∙ ap (λ (b : Bool). b && not (bit r.marks (r.h - p))) (lt-ltb (r.h - p) window w)

  -- a fresh p at or below h is in the window, and its bit is not set
  pub fresh-below : p ≤ r.h → fresh_in r p ≡ true → (r.h - p < window) × (bit r.marks (r.h - p) ≡ false)
  fresh-below l f =
      let e = both (ltb (r.h - p) window) (bit r.marks (r.h - p)) (sym (at_most l) ∙ f) in
      (ltb-true (r.h - p) window e.0, e.1)

module _ (marks h p : ℕ) where
  pub marked-above : h < p → marked_with marks h p ≡ (marks * 2 ^ (p - h) + 1) % 2 ^ window
  marked-above l = ap (λ (b : Bool). cond b ((marks * 2 ^ (p - h) + 1) % 2 ^ window) (marks + 2 ^ (h - p))) (lt-ltb h p l)

  pub marked-below : p ≤ h → marked_with marks h p ≡ marks + 2 ^ (h - p)
  marked-below l = ap (λ (b : Bool). cond b ((marks * 2 ^ (p - h) + 1) % 2 ^ window) (marks + 2 ^ (h - p))) (le-ltb h p l)

-- a record is the one that accepts p where the four fields that change are right
pub accepts : (r : Record) (clock p : ℕ) (a : Peer) (h l m n : ℕ) → h ≡ max r.h p → l ≡ max r.last clock → m ≡ marked_with r.marks r.h p
    → n ≡ one_more r.accepted
    → ◌≡◌ {A = Record}
    (record { used = r.used; id = r.id; h = h; last = l; marks = m; peer = a; accepted = n; repeats = r.repeats })
    (accept_in clock a p r)
accepts r clock p a h l m n eh el em en =
    λ i. record { used = r.used; id = r.id; h = eh i; last = el i; marks = em i; peer = a; accepted = en i; repeats = r.repeats }
