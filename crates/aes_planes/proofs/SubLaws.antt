-- SubBytes on planes is SBOX of each byte of each block.
-- Assumes nothing.
use mathlib.Core.Path.{◌≡◌, refl, sym, ap, ◌∙◌, subst}
use mathlib.Core.Logic.{◌⊎◌, ⊎_elim}
use mathlib.Core.List.{List}
use Prim.Native.Nat.{ℕ, zero, suc, ◌+◌, ◌*◌, ◌-◌, ◌/◌, ◌%◌, ◌<◌, ◌≤◌}
use native.Mathlib.Nat.{add-zero, not-suc-le-zero, eq-or-lt_of_le, eq-zero-or-pos}
use native.Mathlib.Numerals.{add-one}
use native.Mathlib.Omega.{arith}
use lib.Dec.{lit<, lit≤}
use lib.ListN.{length, get_or, set, length-set}
use lib.Seq.{get_or-set_same, get_or-set_other}
use Rattle.aes_tables.specs.SBox.{s_box}
use Rattle.aes_circuit.proofs.Digits.{below}
use Rattle.aes_circuit.specs.Circuit.{sbox_of, byte_at}
use Rattle.aes_circuit.specs.Planes.{bits_from, planes}
use Rattle.aes_circuit.specs.declared.Bits.{Bits}
use Rattle.aes_circuit.proofs.SBoxLaws.{sbox-planes}
use Rattle.aes_circuit.proofs.PlaneLaws.{bits-from}
use Rattle.aes_planes.specs.State.{cell, sub_cell, Substituted}
use Rattle.aes_planes.specs.Sub.{store_of, row_of, sub_of}

-- ---- one turn of each loop

pub load-law : (s : List ℕ) (at : ℕ)
    → record {
      x0 = get_or s (at + 28) 0;
      x1 = get_or s (at + 24) 0;
      x2 = get_or s (at + 20) 0;
      x3 = get_or s (at + 16) 0;
      x4 = get_or s (at + 12) 0;
      x5 = get_or s (at + 8) 0;
      x6 = get_or s (at + 4) 0;
      x7 = get_or s at 0;
    } ≡ planes 4 s at
unfolding planes bits_from
load-law s at =
    λ i. record {
      x0 = get_or s (at + 28) 0;
      x1 = get_or s (at + 24) 0;
      x2 = get_or s (at + 20) 0;
      x3 = get_or s (at + 16) 0;
      x4 = get_or s (at + 12) 0;
      x5 = get_or s (at + 8) 0;
      x6 = get_or s (at + 4) 0;
      x7 = get_or s (sym (add-zero at) i) 0;
    }

pub row_step : (t₀ s : List ℕ) (r j : ℕ) {t u v : List ℕ} {y x : Bits} → t ≡ row_of t₀ s r j → y ≡ planes 4 s (32 * r + j) → x ≡ sbox_of 0xffffffff y
    → u ≡ store_of t (64 * r + j) x → v ≡ store_of u (64 * r + 4 + j) x → v ≡ row_of t₀ s r (j + 1)
unfolding row_of
row_step t₀ s r j et ey ex eu ev =
    let e = ex ∙ ap (sbox_of 0xffffffff) ey in
    ev ∙ (λ i. store_of ((eu ∙ (λ i. store_of (et i) (64 * r + j) (e i))) i) (64 * r + 4 + j) (e i)) ∙ sym (ap (row_of t₀ s r) (add-one j))

-- row r - 1, after the rows from r on
pub sub-step : (t₀ s : List ℕ) (r : ℕ) {t u : List ℕ} → 0 < r → r ≤ 4 → t ≡ sub_of t₀ s (4 - r) → u ≡ row_of t s (r - 1) 4 → u ≡ sub_of t₀ s (4 - (r - 1))
unfolding sub_of
sub-step t₀ s r {t} {u} low high et eu =
    let row : r - 1 ≡ 3 - (4 - r) = omega arith in
    let next : 4 - (r - 1) ≡ suc (4 - r) = omega arith in
    rw next (eu ∙ (λ i. row_of (et i) s (row i) 4))

-- ---- eight planes stored

pub length-store_of : (t : List ℕ) (at : ℕ) (x : Bits) → length t ≡ 256 → length (store_of t at x) ≡ 256
unfolding store_of
length-store_of t at x l = simp length-set (omega arith)

module _ (t : List ℕ) (at : ℕ) (x : Bits) where
  store_of-other : (q : ℕ) → (q ≡ at → ⊥) → ((m : ℕ) → m < 8 → q ≡ at + m * 8 → ⊥) → get_or (store_of t at x) q 0 ≡ get_or t q 0
  unfolding store_of
  store_of-other q n₀ n =
      let t7 = set t (at + 56) x.x0 in
      let t6 = set t7 (at + 48) x.x1 in
      let t5 = set t6 (at + 40) x.x2 in
      let t4 = set t5 (at + 32) x.x3 in
      let t3 = set t4 (at + 24) x.x4 in
      let t2 = set t3 (at + 16) x.x5 in
      let t1 = set t2 (at + 8) x.x6 in
      get_or-set_other t1 at q x.x7 0 n₀ ∙ get_or-set_other t2 (at + 8) q x.x6 0 (n 1 (lit< tt))
      ∙ get_or-set_other t3 (at + 16) q x.x5 0 (n 2 (lit< tt)) ∙ get_or-set_other t4 (at + 24) q x.x4 0 (n 3 (lit< tt))
      ∙ get_or-set_other t5 (at + 32) q x.x3 0 (n 4 (lit< tt)) ∙ get_or-set_other t6 (at + 40) q x.x2 0 (n 5 (lit< tt))
      ∙ get_or-set_other t7 (at + 48) q x.x1 0 (n 6 (lit< tt)) ∙ get_or-set_other t (at + 56) q x.x0 0 (n 7 (lit< tt))

  store_kept : (p : ℕ) → ((i m : ℕ) → i < 8 → m < 8 → p + i * 8 ≡ at + m * 8 → ⊥) → planes 8 (store_of t at x) p ≡ planes 8 t p
  unfolding planes
  store_kept p n =
      bits-from _ _ (λ i h. store_of-other (p + i * 8) (λ e. n i 0 h (lit< tt) (e ∙ sym (add-zero at))) (λ m hm e. n i m h hm e))

  store-holds : length t ≡ 256 → at < 200 → planes 8 (store_of t at x) at ≡ x
  unfolding store_of planes bits_from
  store-holds l h =
      let t7 = set t (at + 56) x.x0 in
      let t6 = set t7 (at + 48) x.x1 in
      let t5 = set t6 (at + 40) x.x2 in
      let t4 = set t5 (at + 32) x.x3 in
      let t3 = set t4 (at + 24) x.x4 in
      let t2 = set t3 (at + 16) x.x5 in
      let t1 = set t2 (at + 8) x.x6 in
      let l7 : length t7 ≡ 256 = length-set t (at + 56) x.x0 ∙ l in
      let l6 : length t6 ≡ 256 = length-set t7 (at + 48) x.x1 ∙ l7 in
      let l5 : length t5 ≡ 256 = length-set t6 (at + 40) x.x2 ∙ l6 in
      let l4 : length t4 ≡ 256 = length-set t5 (at + 32) x.x3 ∙ l5 in
      let l3 : length t3 ≡ 256 = length-set t4 (at + 24) x.x4 ∙ l4 in
      let l2 : length t2 ≡ 256 = length-set t3 (at + 16) x.x5 ∙ l3 in
      let l1 : length t1 ≡ 256 = length-set t2 (at + 8) x.x6 ∙ l2 in
      let p0 : (q : ℕ) → at < q → get_or (set t1 at x.x7) q 0 ≡ get_or t1 q 0 = λ q g. get_or-set_other t1 at q x.x7 0 (λ e. omega arith) in
      let p1 : (q : ℕ) → at + 8 < q → get_or t1 q 0 ≡ get_or t2 q 0 = λ q g. get_or-set_other t2 (at + 8) q x.x6 0 (λ e. omega arith) in
      let p2 : (q : ℕ) → at + 16 < q → get_or t2 q 0 ≡ get_or t3 q 0 = λ q g. get_or-set_other t3 (at + 16) q x.x5 0 (λ e. omega arith) in
      let p3 : (q : ℕ) → at + 24 < q → get_or t3 q 0 ≡ get_or t4 q 0 = λ q g. get_or-set_other t4 (at + 24) q x.x4 0 (λ e. omega arith) in
      let p4 : (q : ℕ) → at + 32 < q → get_or t4 q 0 ≡ get_or t5 q 0 = λ q g. get_or-set_other t5 (at + 32) q x.x3 0 (λ e. omega arith) in
      let p5 : (q : ℕ) → at + 40 < q → get_or t5 q 0 ≡ get_or t6 q 0 = λ q g. get_or-set_other t6 (at + 40) q x.x2 0 (λ e. omega arith) in
      let p6 : (q : ℕ) → at + 48 < q → get_or t6 q 0 ≡ get_or t7 q 0 = λ q g. get_or-set_other t7 (at + 48) q x.x1 0 (λ e. omega arith) in
      let e7 = ap (λ (q : ℕ). get_or (set t1 at x.x7) q 0) (add-zero at) ∙ get_or-set_same t1 at x.x7 0 (omega arith) in
      let e6 = p0 (at + 8) (omega arith) ∙ get_or-set_same t2 (at + 8) x.x6 0 (omega arith) in
      let e5 = p0 (at + 16) (omega arith) ∙ p1 (at + 16) (omega arith) ∙ get_or-set_same t3 (at + 16) x.x5 0 (omega arith) in
      let e4 = p0 (at + 24) (omega arith) ∙ p1 (at + 24) (omega arith) ∙ p2 (at + 24) (omega arith) ∙ get_or-set_same t4 (at + 24) x.x4 0 (omega arith) in
      let e3 = p0 (at + 32) (omega arith) ∙ p1 (at + 32) (omega arith) ∙ p2 (at + 32) (omega arith) ∙ p3 (at + 32) (omega arith)
      ∙ get_or-set_same t5 (at + 32) x.x3 0 (omega arith) in
      let e2 = p0 (at + 40) (omega arith) ∙ p1 (at + 40) (omega arith) ∙ p2 (at + 40) (omega arith) ∙ p3 (at + 40) (omega arith) ∙ p4 (at + 40) (omega arith)
      ∙ get_or-set_same t6 (at + 40) x.x2 0 (omega arith) in
      let e1 = p0 (at + 48) (omega arith) ∙ p1 (at + 48) (omega arith) ∙ p2 (at + 48) (omega arith) ∙ p3 (at + 48) (omega arith) ∙ p4 (at + 48) (omega arith)
      ∙ p5 (at + 48) (omega arith) ∙ get_or-set_same t7 (at + 48) x.x1 0 (omega arith) in
      let e0 = p0 (at + 56) (omega arith) ∙ p1 (at + 56) (omega arith) ∙ p2 (at + 56) (omega arith) ∙ p3 (at + 56) (omega arith) ∙ p4 (at + 56) (omega arith)
      ∙ p5 (at + 56) (omega arith) ∙ p6 (at + 56) (omega arith) ∙ get_or-set_same t (at + 56) x.x0 0 (omega arith) in
      λ i. record { x0 = e0 i; x1 = e1 i; x2 = e2 i; x3 = e3 i; x4 = e4 i; x5 = e5 i; x6 = e6 i; x7 = e7 i }

-- ---- a row

-- two places of a column and a row have no plane in common
apart : (r c r' c' : ℕ) → c < 8 → c' < 8 → ((r ≡ r') × (c ≡ c') → ⊥) → (i m : ℕ) → i < 8 → m < 8 → 64 * r + c + i * 8 ≡ 64 * r' + c' + m * 8 → ⊥
apart r c r' c' hc hc' n i m hi hm e =
    let ec : c ≡ c' = omega arith in
    let er : r ≡ r' = omega arith in
    n (er, ec)

module _ (s : List ℕ) (r : ℕ) (hr : r < 4) where
  sub : ℕ → Bits
  sub c = sbox_of 0xffffffff (planes 4 s (32 * r + c))

  length-row : (t : List ℕ) → length t ≡ 256 → (j : ℕ) → length (row_of t s r j) ≡ 256
  unfolding row_of sub
  length-row t l zero = l
  length-row t l (suc j) =
      length-store_of (store_of (row_of t s r j) (64 * r + j) (sub j)) (64 * r + 4 + j) (sub j) (length-store_of (row_of t s r j) (64 * r + j) (sub j) (length-row t l j))

  -- another row stays
  row_kept : (t : List ℕ) (j : ℕ) → j ≤ 4 → (r' c : ℕ) → c < 8 → (r' ≡ r → ⊥) → planes 8 (row_of t s r j) (64 * r' + c) ≡ planes 8 t (64 * r' + c)
  unfolding row_of sub
  row_kept t zero hj r' c hc n = refl
  row_kept t (suc j) hj r' c hc n =
      store_kept (store_of (row_of t s r j) (64 * r + j) (sub j)) (64 * r + 4 + j) (sub j) (64 * r' + c)
      (λ i m hi hm e. apart r' c r (4 + j) hc (omega arith) (λ p. n p.0) i m hi hm (omega arith))
      ∙ store_kept (row_of t s r j) (64 * r + j) (sub j) (64 * r' + c) (λ i m hi hm e. apart r' c r j hc (omega arith) (λ p. n p.0) i m hi hm e)
      ∙ row_kept t j (omega arith) r' c hc n

  -- column c, at both places
  abbrev Twice : List ℕ → ℕ → Type 0
  Twice u c = (planes 8 u (64 * r + c) ≡ sub c) × (planes 8 u (64 * r + (4 + c)) ≡ sub c)

  row-holds : (t : List ℕ) → length t ≡ 256 → (j : ℕ) → j ≤ 4 → (c : ℕ) → c < j → Twice (row_of t s r j) c
  unfolding row_of sub
  row-holds t l zero hj c hc = absurd (not-suc-le-zero hc)
  row-holds t l (suc j) hj c hc = ⊎_elim same (λ h. before h (row-holds t l j (omega arith) c h)) (below c j hc)
    where
      lu : length (row_of t s r j) ≡ 256
      lu = length-row t l j

      here : Twice (row_of t s r (suc j)) j
      here =
          let e : 64 * r + (4 + j) ≡ 64 * r + 4 + j = omega arith in (
            store_kept (store_of (row_of t s r j) (64 * r + j) (sub j)) (64 * r + 4 + j) (sub j) (64 * r + j)
                (λ i m hi hm e. apart r j r (4 + j) (omega arith) (omega arith) (λ p. omega (arith, p.1)) i m hi hm (omega arith))
                ∙ store-holds (row_of t s r j) (64 * r + j) (sub j) lu (omega arith),
            ap (planes 8 (row_of t s r (suc j))) e
                ∙ store-holds (store_of (row_of t s r j) (64 * r + j) (sub j)) (64 * r + 4 + j) (sub j) (length-store_of (row_of t s r j) (64 * r + j) (sub j) lu) (omega arith),
          )

      same : c ≡ j → Twice (row_of t s r (suc j)) c
      same e = subst (Twice (row_of t s r (suc j))) (sym e) here

      before : c < j → Twice (row_of t s r j) c → Twice (row_of t s r (suc j)) c
      before h q = (
        store_kept (store_of (row_of t s r j) (64 * r + j) (sub j)) (64 * r + 4 + j) (sub j) (64 * r + c)
            (λ i m hi hm e. apart r c r (4 + j) (omega arith) (omega arith) (λ p. omega (arith, p.1)) i m hi hm (omega arith))
            ∙ store_kept (row_of t s r j) (64 * r + j) (sub j) (64 * r + c) (λ i m hi hm e. apart r c r j (omega arith) (omega arith) (λ p. omega (arith, p.1)) i m hi hm e)
            ∙ q.0,
        store_kept (store_of (row_of t s r j) (64 * r + j) (sub j)) (64 * r + 4 + j) (sub j) (64 * r + (4 + c))
            (λ i m hi hm e. apart r (4 + c) r (4 + j) (omega arith) (omega arith) (λ p. omega (arith, p.1)) i m hi hm (omega arith))
            ∙ store_kept (row_of t s r j) (64 * r + j) (sub j) (64 * r + (4 + c))
            (λ i m hi hm e. apart r (4 + c) r j (omega arith) (omega arith) (λ p. omega (arith, p.1)) i m hi hm e)
            ∙ q.1,
      )

-- ---- the four rows

module _ (s : List ℕ) where
  length-sub : (t : List ℕ) → length t ≡ 256 → (n : ℕ) → n ≤ 4 → length (sub_of t s n) ≡ 256
  unfolding sub_of
  length-sub t l zero h = l
  length-sub t l (suc n) h = length-row s (3 - n) (omega arith) (sub_of t s n) (length-sub t l n (omega arith)) 4

  sub_holds : (t : List ℕ) → length t ≡ 256 → (n : ℕ) → n ≤ 4 → (r : ℕ) → r < 4 → 3 < r + n → (c : ℕ) → c < 4
      → (planes 8 (sub_of t s n) (64 * r + c) ≡ sbox_of 0xffffffff (planes 4 s (32 * r + c)))
      × (planes 8 (sub_of t s n) (64 * r + (4 + c)) ≡ sbox_of 0xffffffff (planes 4 s (32 * r + c)))
  unfolding sub_of sub
  sub_holds t l zero hn r hr g c hc = absurd (omega arith)
  sub_holds t l (suc n) hn r hr g c hc =
      let u = sub_of t s n in
      ⊎_elim
      (λ e. let er : r ≡ 3 - n = omega arith in
      subst (λ (q : ℕ). (planes 8 (row_of u s (3 - n) 4) (64 * q + c) ≡ sbox_of 0xffffffff (planes 4 s (32 * q + c)))
      × (planes 8 (row_of u s (3 - n) 4) (64 * q + (4 + c)) ≡ sbox_of 0xffffffff (planes 4 s (32 * q + c)))) (sym er)
      (row-holds s (3 - n) (omega arith) u (length-sub t l n (omega arith)) 4 (lit≤ tt) c hc))
      (λ b. let p = sub_holds t l n (omega arith) r hr b c hc in (
        row_kept s (3 - n) (omega arith) u 4 (lit≤ tt) r c (omega arith) (λ e. omega arith) ∙ p.0,
        row_kept s (3 - n) (omega arith) u 4 (lit≤ tt) r (4 + c) (omega arith) (λ e. omega arith) ∙ p.1,
      ))
      (split r n g)
    where
      split : (r n : ℕ) → 3 < r + suc n → (3 ≡ r + n) ⊎ (3 < r + n)
      split r n g = eq-or-lt_of_le (omega arith)

  pub substituted : (t : List ℕ) → length t ≡ 256 → Substituted s (sub_of t s 4)
  unfolding cell sub_cell
  substituted t l =
      record {
        each = λ k r c hk hr hc.
            ⊎_elim
            (λ e. let h : c < 4 = omega arith in
            let ec : c % 4 ≡ c = omega arith in
            ap (byte_at k) (sub_holds t l 4 (lit≤ tt) r hr (omega arith) c h).0 ∙ sbox-planes (planes 4 s (32 * r + c)) k hk
            ∙ ap (λ (d : ℕ). s_box (byte_at k (planes 4 s (32 * r + d)))) (sym ec))
            (λ g. let ec : 4 + c % 4 ≡ c = omega arith in
            let h : c % 4 < 4 = omega arith in
            ap (λ (d : ℕ). byte_at k (planes 8 (sub_of t s 4) (64 * r + d))) (sym ec)
            ∙ ap (byte_at k) (sub_holds t l 4 (lit≤ tt) r hr (omega arith) (c % 4) h).1 ∙ sbox-planes (planes 4 s (32 * r + c % 4)) k hk)
            (eq-zero-or-pos (c / 4));
      }
