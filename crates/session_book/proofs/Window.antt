-- A record's marks against a page's accepted packet IDs: they agree within the window, and still do once a packet is
-- accepted. Assumes nothing.
use mathlib.Core.Path.{◌≡◌, refl, sym, ap, ap₂, ◌∙◌, subst}
use mathlib.Core.Logic.{◌≢◌}
use mathlib.Core.Bool.{Bool, true, false, cond, not, ◌&&◌, ◌||◌, false≢true, and-eq-true_iff, or-false}
use Prim.Native.Nat.{ℕ, zero, suc, ◌+◌, ◌-◌, ◌*◌, ◌%◌, ◌^◌, ◌≤◌, ◌<◌, max}
use native.Mathlib.Nat.{max-eq_right, mod-lt}
use native.Mathlib.Omega.{arith}
use lib.Dec.{ltb, eqb, lit<}
use lib.Pow.{pow_pos}
use Rattle.session_record.specs.declared.Peer.{Peer}
use Rattle.session_window.specs.Window.{window, bit}
use Rattle.session_record.specs.Record.{one_more}
use Rattle.session_table.specs.Table.{Record, fresh_in, marked_with, accept_in, new_record}
use Rattle.session_book.specs.Book.{Page, member, fresh, counted, accept, refuse, new_page}
use borrow.Author.Tests.{ltb-true, ltb-false, eqb-true, eqb-false, eq-eqb, ne_eqb, not-true}
use Rattle.session_book.proofs.Words.{repeat_in}
use Rattle.session_book.proofs.Bits.{bit-zero, bit-suc, moved-zero, moved-low, moved-high, bit_cut, set_same, set_other, set-fits}

-- the record of a page
pub record Match (r : Record) (q : Page) : Type 0 where
  pub id : r.id ≡ q.id
  pub h : r.h ≡ q.h
  pub last : r.last ≡ q.last
  pub peer : r.peer ≡ q.peer
  pub accepted : r.accepted ≡ q.acceptances
  pub repeats : r.repeats ≡ q.repeats
  pub marks : (d : ℕ) → d < window → d ≤ q.h → bit r.marks d ≡ member (q.h - d) q.accepted
  pub fits : r.marks < 2 ^ window
  pub below : (p : ℕ) → member p q.accepted ≡ true → p ≤ q.h

-- not above the highest: not accepted
above : (q : Page) → ((p : ℕ) → member p q.accepted ≡ true → p ≤ q.h) → (p : ℕ) → q.h < p → member p q.accepted ≡ false
above q below p l = go (member p q.accepted) refl
  where
    go : (x : Bool) → member p q.accepted ≡ x → member p q.accepted ≡ false
    go true e = absurd (omega (arith, below p e))
    go false e = e

-- ---- both find the same packets fresh

pub fresh-same : (r : Record) (q : Page) → Match r q → (p : ℕ) → fresh_in r p ≡ fresh q p
fresh-same r q m p = subst (λ (h : ℕ). ltb h p || ltb (h - p) window && not (bit r.marks (h - p)) ≡ fresh q p) (sym m.h) (go (ltb q.h p) refl)
  where
    go : (x : Bool) → ltb q.h p ≡ x
        → x || ltb (q.h - p) window && not (bit r.marks (q.h - p)) ≡ x || ltb (q.h - p) window && not (member p q.accepted)
    go true e = refl
    go false e = near (ltb (q.h - p) window) refl
      where
        l : p ≤ q.h
        l = omega (arith, ltb-false q.h p e)

        near : (y : Bool) → ltb (q.h - p) window ≡ y → y && not (bit r.marks (q.h - p)) ≡ y && not (member p q.accepted)
        near true f =
            ap not (m.marks (q.h - p) (ltb-true (q.h - p) window f) (omega arith)
            ∙ ap (λ (k : ℕ). member k q.accepted) (let e' : q.h - (q.h - p) ≡ p = omega (arith, l) in e'))
        near false f = refl

-- ---- a packet above the highest

up-marks : (r : Record) (q : Page) → Match r q → (p k : ℕ) → p ≡ q.h + suc k
    → (d : ℕ) → d < window → d ≤ p → bit ((r.marks * 2 ^ suc k + 1) % 2 ^ window) d ≡ (eqb p (p - d) || member (p - d) q.accepted)
up-marks r q m p k e d w l = bit_cut window d (r.marks * 2 ^ suc k + 1) w ∙ go d w l
  where
    go : (d : ℕ) → d < window → d ≤ p → bit (r.marks * 2 ^ suc k + 1) d ≡ (eqb p (p - d) || member (p - d) q.accepted)
    go zero w l =
        moved-zero r.marks k ∙ sym (ap (λ (x : Bool). x || member (p - 0) q.accepted) (eq-eqb p (p - 0) (omega arith)))
    go (suc d) w l = by (ltb d k) refl
      where
        other : eqb p (p - suc d) ≡ false
        other = ne_eqb p (p - suc d) (omega arith)

        by : (x : Bool) → ltb d k ≡ x → bit (r.marks * 2 ^ suc k + 1) (suc d) ≡ (eqb p (p - suc d) || member (p - suc d) q.accepted)
        by true f =
            moved-low r.marks k d (ltb-true d k f)
            ∙ sym (ap₂ (λ (x y : Bool). x || y) other (above q m.below (p - suc d) (omega (arith, ltb-true d k f))))
        by false f =
            let g : k ≤ d = omega (arith, ltb-false d k f) in
            ap (bit (r.marks * 2 ^ suc k + 1)) (let s : suc d ≡ suc k + (d - k) = omega arith in s)
            ∙ moved-high r.marks k (d - k)
            ∙ m.marks (d - k) (omega arith) (omega arith)
            ∙ ap (λ (j : ℕ). member j q.accepted) (let s : q.h - (d - k) ≡ p - suc d = omega arith in s)
            ∙ sym (ap (λ (x : Bool). x || member (p - suc d) q.accepted) other)

below_more : (p : ℕ) (q : Page) → ((j : ℕ) → member j q.accepted ≡ true → j ≤ q.h) → (j : ℕ) → (eqb p j || member j q.accepted) ≡ true → j ≤ max q.h p
below_more p q b j e = go (eqb p j) refl e
  where
    go : (x : Bool) → eqb p j ≡ x → (x || member j q.accepted) ≡ true → j ≤ max q.h p
    go true f g = omega (arith, eqb-true p j f)
    go false f g = omega (arith, b j g)

-- both count alike
one_more_lem : (m n : ℕ) → m ≡ n → one_more m ≡ counted n
unfolding one_more
one_more_lem m n e = ap counted e

pub match-accept : (r : Record) (q : Page) → Match r q → (t : ℕ) (a : Peer) (i p : ℕ) → r.id ≡ i → q.last ≤ t → fresh q p ≡ true
    → Match (accept_in t a p r) (accept t a i p q)
match-accept r q m t a i p is_id l f =
    record {
      id = is_id;
      h = ap (λ (x : ℕ). max x p) m.h;
      last = ap (λ (x : ℕ). max x t) m.last ∙ max-eq_right l;
      peer = refl;
      accepted = one_more_lem r.accepted q.acceptances m.accepted;
      repeats = m.repeats;
      marks = λ d w k. marks d w k (ltb q.h p) refl;
      fits = subst (λ (x : ℕ). marked_with r.marks x p < 2 ^ window) (sym m.h) (fits (ltb q.h p) refl);
      below = below_more p q m.below;
    }
  where
    -- below the highest: near enough, and not yet marked
    near : ltb q.h p ≡ false → (p ≤ q.h) × (q.h - p < window) × (bit r.marks (q.h - p) ≡ false)
    near e =
        let both = (and-eq-true_iff (ltb (q.h - p) window) (not (member p q.accepted))).0
        (subst (λ (x : Bool). x || ltb (q.h - p) window && not (member p q.accepted) ≡ true) e f) in
        let le : p ≤ q.h = omega (arith, ltb-false q.h p e) in
        let w : q.h - p < window = ltb-true (q.h - p) window both.0 in (
          le,
          w,
          m.marks (q.h - p) w (omega arith) ∙ ap (λ (k : ℕ). member k q.accepted) (let s : q.h - (q.h - p) ≡ p = omega arith in s)
              ∙ not-true (member p q.accepted) both.1,
        )

    fits : (x : Bool) → ltb q.h p ≡ x → cond (ltb q.h p) ((r.marks * 2 ^ (p - q.h) + 1) % 2 ^ window) (r.marks + 2 ^ (q.h - p)) < 2 ^ window
    fits true e = rw e (mod-lt (r.marks * 2 ^ (p - q.h) + 1) (pow_pos window))
    fits false e = let n = near e in rw e (set-fits (q.h - p) window r.marks n.2 n.1 m.fits)

    -- p below the highest is marked where it stands
    set-marks : ltb q.h p ≡ false → (d : ℕ) → d < window → d ≤ q.h → (y : Bool) → eqb d (q.h - p) ≡ y
        → bit (r.marks + 2 ^ (q.h - p)) d ≡ (eqb p (q.h - d) || member (q.h - d) q.accepted)
    set-marks e d w k true g =
        let s : d ≡ q.h - p = eqb-true d (q.h - p) g in
        ap (bit (r.marks + 2 ^ (q.h - p))) s ∙ set_same (q.h - p) r.marks (near e).2
        ∙ sym (ap (λ (x : Bool). x || member (q.h - d) q.accepted) (eq-eqb p (q.h - d) (omega (arith, (near e).0))))
    set-marks e d w k false g =
        let s : d ≢ q.h - p = eqb-false d (q.h - p) g in
        set_other (q.h - p) d r.marks (near e).2 s ∙ m.marks d w k
        ∙ sym (ap (λ (x : Bool). x || member (q.h - d) q.accepted) (ne_eqb p (q.h - d) (omega (arith, (near e).0))))

    marks : (d : ℕ) → d < window → d ≤ max q.h p → (x : Bool) → ltb q.h p ≡ x
        → bit (marked_with r.marks r.h p) d ≡ (eqb p (max q.h p - d) || member (max q.h p - d) q.accepted)
    marks d w k true e =
        let l : q.h < p = ltb-true q.h p e in
        ap (λ (x : ℕ). bit (marked_with r.marks x p) d) m.h
        ∙ ap (λ (x : Bool). bit (cond x ((r.marks * 2 ^ (p - q.h) + 1) % 2 ^ window) (r.marks + 2 ^ (q.h - p))) d) e
        ∙ ap (λ (s : ℕ). bit ((r.marks * 2 ^ s + 1) % 2 ^ window) d) (let s : p - q.h ≡ suc (p - suc q.h) = omega arith in s)
        ∙ up-marks r q m p (p - suc q.h) (omega arith) d w (omega arith)
        ∙ ap (λ (z : ℕ). eqb p (z - d) || member (z - d) q.accepted) (let s : p ≡ max q.h p = omega arith in s)
    marks d w k false e =
        let l : p ≤ q.h = (near e).0 in
        ap (λ (x : ℕ). bit (marked_with r.marks x p) d) m.h
        ∙ ap (λ (x : Bool). bit (cond x ((r.marks * 2 ^ (p - q.h) + 1) % 2 ^ window) (r.marks + 2 ^ (q.h - p))) d) e
        ∙ set-marks e d w (omega arith) (eqb d (q.h - p)) refl
        ∙ ap (λ (z : ℕ). eqb p (z - d) || member (z - d) q.accepted) (let s : q.h ≡ max q.h p = omega arith in s)

-- ---- a new session

one-high : (d : ℕ) → bit 1 (suc d) ≡ false
one-high d = bit-suc 1 d ∙ zero_bits d
  where
    zero_bits : (d : ℕ) → bit 0 d ≡ false
    zero_bits zero = bit-zero 0
    zero_bits (suc d) = bit-suc 0 d ∙ zero_bits d

pub match-new : (t : ℕ) (a : Peer) (i p : ℕ) → Match (new_record t a i p) (new_page t a i p)
match-new t a i p =
    record {
      id = refl;
      h = refl;
      last = refl;
      peer = refl;
      accepted = refl;
      repeats = refl;
      marks = λ d w k. marks d k;
      fits = lit< tt;
      below = λ j e. below j (eqb p j) refl e;
    }
  where
    marks : (d : ℕ) → d ≤ p → bit 1 d ≡ (eqb p (p - d) || false)
    marks zero k = sym (or-false (eqb p (p - 0)) ∙ eq-eqb p (p - 0) (omega arith))
    marks (suc d) k = one-high d ∙ sym (or-false (eqb p (p - suc d)) ∙ ne_eqb p (p - suc d) (omega arith))

    below : (j : ℕ) (x : Bool) → eqb p j ≡ x → (eqb p j || false) ≡ true → j ≤ p
    below j true e f = omega (arith, eqb-true p j e)
    below j false e f = absurd (false≢true (sym e ∙ sym (or-false (eqb p j)) ∙ f))

-- ---- a repeat

pub match-repeat : (r : Record) (q : Page) → Match r q → (i p : ℕ) → r.id ≡ i → Match (repeat_in r) (refuse i p q)
match-repeat r q m i p is_id =
    record {
      id = is_id;
      h = m.h;
      last = m.last;
      peer = m.peer;
      accepted = m.accepted;
      repeats = one_more_lem r.repeats q.repeats m.repeats;
      marks = m.marks;
      fits = m.fits;
      below = m.below;
    }
