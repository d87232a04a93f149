-- How the table is built: each doubling of the right entries gives right entries, and four of them a part.
-- Assumes nothing.
use mathlib.Core.Path.{◌≡◌, refl, sym, ap, ap₂, ◌∙◌, subst}
use mathlib.Core.List.{List}
use Prim.Native.Nat.{ℕ, zero, suc, ◌+◌, ◌*◌, ◌^◌, ◌<◌, ◌≤◌}
use native.Mathlib.Nat.{add-zero, add_assoc, le_refl}
use native.Mathlib.Omega.{arith}
use borrow.Author.Count.{below_none, below_more}
use lib.Bits.{bit_xor}
use lib.Dec.{lit<}
use lib.ListN.{length, set, length-set}
use lib.Seq.{get_or-set_same, get_or-set_other}
use Rattle.ghash.specs.Field.{next}
use Rattle.ghash.specs.Table.{TableFor, key_in, Doubled, Made, entry, entry_in, steps}
use Rattle.ghash.specs.Words.{words}
use Rattle.ghash.proofs.TableLaws.{entry-none, entry_first, entry-half, entry-sum}

-- n of the entries from at + m on are made
pub record Making (t u : List ℕ) (at m v n : ℕ) : Type 0 where
  pub size : length u ≡ length t
  pub below : (j : ℕ) → j < at + m → entry_in u j ≡ entry_in t j
  pub above : (j : ℕ) → j < n → entry_in u (at + m + j) ≡ bit_xor (entry_in t (at + j)) v

pub making-none : (t : List ℕ) (at m v : ℕ) → Making t t at m v 0
making-none t at m v = record { size = refl; below = λ j l. refl; above = λ j l. absurd (omega arith) }

-- another entry than the one that is written
other : (u : List ℕ) (i j hi lo : ℕ) → (j ≡ i → ⊥) → entry_in (set (set u (2 * i) hi) (2 * i + 1) lo) j ≡ entry_in u j
other u i j hi lo d =
    ap₂ words
    (get_or-set_other (set u (2 * i) hi) (2 * i + 1) (2 * j) lo 0 (omega arith) ∙ get_or-set_other u (2 * i) (2 * j) hi 0 (omega arith))
    (get_or-set_other (set u (2 * i) hi) (2 * i + 1) (2 * j + 1) lo 0 (omega arith) ∙ get_or-set_other u (2 * i) (2 * j + 1) hi 0 (omega arith))

written : (u : List ℕ) (i hi lo : ℕ) → 2 * i + 1 < length u → entry_in (set (set u (2 * i) hi) (2 * i + 1) lo) i ≡ words hi lo
written u i hi lo l =
    ap₂ words
    (get_or-set_other (set u (2 * i) hi) (2 * i + 1) (2 * i) lo 0 (omega arith) ∙ get_or-set_same u (2 * i) hi 0 (omega arith))
    (get_or-set_same (set u (2 * i) hi) (2 * i + 1) lo 0 (simp length-set l))

pub written-size : (u u' : List ℕ) (i hi lo : ℕ) → u' ≡ set (set u (2 * i) hi) (2 * i + 1) lo → length u' ≡ length u
written-size u u' i hi lo w = ap length w ∙ length-set (set u (2 * i) hi) (2 * i + 1) lo ∙ length-set u (2 * i) hi

pub making-more : (t u u' : List ℕ) (at m v n hi lo : ℕ) → length u ≡ 128 → at ≤ 48 → m ≤ 8 → n < m → Making t u at m v n
    → words hi lo ≡ bit_xor (entry_in u (at + n)) v → u' ≡ set (set u (2 * (at + m + n)) hi) (2 * (at + m + n) + 1) lo → Making t u' at m v (n + 1)
making-more t u u' at m v n hi lo s a b l k e w = subst (λ (x : List ℕ). Making t x at m v (n + 1)) (sym w) (record {
  size = simp length-set k.size;
  below = λ j h. other u (at + m + n) j hi lo (omega arith) ∙ k.below j h;
  above = below_more (λ (j : ℕ). entry_in (set (set u (2 * (at + m + n)) hi) (2 * (at + m + n) + 1) lo) (at + m + j) ≡ bit_xor (entry_in t (at + j)) v) n
      (λ j h. other u (at + m + n) (at + m + j) hi lo (omega arith) ∙ k.above j h)
      (written u (at + m + n) hi lo (omega arith) ∙ e ∙ ap (λ (x : ℕ). bit_xor x v) (k.below (at + n) (omega arith)));
})

pub making-all : (t u : List ℕ) (at m v n : ℕ) → n ≡ m → Making t u at m v n → Doubled t u at m v
making-all t u at m v n e k = record { size = k.size; below = k.below; above = λ j l. k.above j (omega arith) }

-- the first n entries from at on are right
pub record Right (t : List ℕ) (at h n : ℕ) : Type 0 where
  pub holds : (j : ℕ) → j < n → entry_in t (at + j) ≡ entry h j

right-first : (t : List ℕ) (at h : ℕ) → entry_in t (at + 0) ≡ 0 → Right t at h 1
right-first t at h e = record {
  holds = below_more (λ (j : ℕ). entry_in t (at + j) ≡ entry h j) 0 (below_none (λ (j : ℕ). entry_in t (at + j) ≡ entry h j)) (e ∙ sym (entry-none h));
}

right-doubled : (t u : List ℕ) (at h k v : ℕ) → Right t at h (2 ^ k) → v ≡ entry h (2 ^ k) → Doubled t u at (2 ^ k) v → Right u at h (2 ^ k + 2 ^ k)
right-doubled t u at h k v r e d = record { holds = up_to (2 ^ k) (le_refl (2 ^ k)) }
  where
    up_to : (n : ℕ) → n ≤ 2 ^ k → (j : ℕ) → j < 2 ^ k + n → entry_in u (at + j) ≡ entry h j
    up_to zero l j b =
        let b' : j < 2 ^ k = subst (λ (m : ℕ). j < m) (add-zero (2 ^ k)) b in
        d.below (at + j) (omega arith) ∙ r.holds j b'
    up_to (suc n) l j b =
        below_more (λ (i : ℕ). entry_in u (at + i) ≡ entry h i) (2 ^ k + n) (up_to n (omega arith))
        (ap (entry_in u) (sym (add_assoc at (2 ^ k) n)) ∙ d.above n l ∙ ap₂ bit_xor (r.holds n l) e ∙ sym (entry-sum h k n l))
        j
        (subst (λ (m : ℕ). j < m) (omega arith) b)

-- ---- a part

module _ (t t0 t1 t2 t3 t4 : List ℕ) (at v v1 v2 v3 : ℕ) (w : t0 ≡ set (set t (2 * at) 0) (2 * at + 1) 0) (n1 : v1 ≡ next v) (n2 : v2 ≡ next v1) (n3 : v3 ≡ next v2)
    (d0 : Doubled t0 t1 at 1 v3) (d1 : Doubled t1 t2 at 2 v2) (d2 : Doubled t2 t3 at 4 v1) (d3 : Doubled t3 t4 at 8 v) where
  -- four doublings from the entry for 0 on, by the steps of the hash key in turn
  part_right : 2 * at + 1 < length t → Right t4 at v 16
  part_right l =
      let e8 : v ≡ entry v 8 = sym (entry_first v) in
      let e4 : v1 ≡ entry v 4 = n1 ∙ ap next e8 ∙ sym (entry-half v 4 (lit< tt)) in
      let e2 : v2 ≡ entry v 2 = n2 ∙ ap next e4 ∙ sym (entry-half v 2 (lit< tt)) in
      let e1 : v3 ≡ entry v 1 = n3 ∙ ap next e2 ∙ sym (entry-half v 1 (lit< tt)) in
      let r1 = right-doubled t0 t1 at v 0 v3 (right-first t0 at v (ap (entry_in t0) (add-zero at) ∙ ap (λ (x : List ℕ). entry_in x at) w ∙ written t at 0 0 l)) e1 d0 in
      let r2 = right-doubled t1 t2 at v 1 v2 r1 e2 d1 in
      let r4 = right-doubled t2 t3 at v 2 v1 r2 e4 d2 in
      right-doubled t3 t4 at v 3 v r4 e8 d3

  part-below : (n : ℕ) → n < at → entry_in t4 n ≡ entry_in t n
  part-below n l =
      d3.below n (omega arith) ∙ d2.below n (omega arith) ∙ d1.below n (omega arith) ∙ d0.below n (omega arith) ∙ ap (λ (x : List ℕ). entry_in x n) w ∙ other t at n 0 0 (omega arith)

  -- one part more
  pub part-made : (h j : ℕ) → j < 4 → at ≡ 16 * j → v ≡ steps (4 * j) h → Made t h j → Made t4 h (j + 1)
  part-made h j f e s m = record {
    size = d3.size ∙ d2.size ∙ d1.size ∙ d0.size ∙ written-size t t0 at 0 0 w ∙ m.size;
    at = below_more (λ (i : ℕ). (n : ℕ) → n < 16 → entry_in t4 (16 * i + n) ≡ entry (steps (4 * i) h) n) j
        (λ i l n b. part-below (16 * i + n) (omega arith) ∙ m.at i l n b)
        (λ n b.
        let z = m.size in
        ap (λ (k : ℕ). entry_in t4 (k + n)) (sym e)
        ∙ (part_right (omega (arith, z))).holds n b
        ∙ ap (λ (x : ℕ). entry x n) s);
  }

pub made_none : (t : List ℕ) (h : ℕ) → length t ≡ 128 → Made t h 0
made_none t h s = record { size = s; at = λ j l. absurd (omega arith) }

pub made_all : (t : List ℕ) (h k : ℕ) → k ≡ 4 → Made t h k → TableFor t h
made_all t h k e m = record { size = m.size; at = λ j l n b. m.at j (omega arith) n b }

-- ---- the key of a table

pub key_in_lem : (t : List ℕ) (h : ℕ) → TableFor t h → key_in t ≡ h
unfolding key_in steps
key_in_lem t h f = f.at 0 (lit< tt) 8 (lit< tt) ∙ entry_first h

pub table-for-key : (t : List ℕ) (h : ℕ) → TableFor t h → TableFor t (key_in t)
table-for-key t h f = subst (TableFor t) (sym (key_in_lem t h f)) f
