-- Plans: how few datagrams it takes, that the plan made is one of these, and which words are a plan's.
-- Assumes nothing.
use mathlib.Core.Path.{◌≡◌, refl, sym, ap, ap₂, subst, ◌∙◌}
use mathlib.Core.Bool.{Bool, true, false, ◌&&◌, and-eq-true_iff}
use mathlib.Core.List.{List, [], ◌∷◌}
use Prim.Native.Nat.{ℕ, zero, suc, ◌+◌, ◌-◌, ◌*◌, ◌/◌, ◌≤◌, ◌<◌}
use native.Mathlib.Nat.{suc-mul, div-lt_iff_lt-mul, lt-div-mul-add, div-mul-le_self}
use native.Mathlib.Omega.{arith}
use lib.Dec.{eqb, leb, ltb}
use lib.ListN.{length}
use borrow.Author.Tests.{eq-eqb, le-leb, lt-ltb, leb-true, leb-false, ltb-true, eqb-true, eqb-false}
use Rattle.plan_pieces.specs.Plans.{Piece, words, total, Each, Fits, Good, fewest, piece_fits, adds, passes, smaller, made}
use Rattle.plan_pieces.proofs.NumberLaws.{fewest-none, fewest-some, smaller-first, smaller-second}

-- ---- words

pub length-words : (p : List Piece) → length (words p) ≡ 2 * length p
length-words [] = refl
length-words (x ∷ p) = let h = length-words p in omega arith

pub length-made : (most n k : ℕ) → length (made most n k) ≡ k
unfolding made
length-made most n zero = refl
length-made most n (suc k) = ap suc (length-made most (n - smaller n most) k)

-- ---- no plan has fewer datagrams

module _ (head limit : ℕ) where
  -- so many datagrams carry no more
  carried : (p : List Piece) → Each head limit p → total p ≤ length p * (limit - head)
  carried [] e = omega arith
  carried (x ∷ p) e =
      let h = carried p e.1 in
      let l = e.0.1 in
      let m = suc-mul (length p) (limit - head) in
      omega arith

  -- with room for a byte, the fewest datagrams carry it, and one less would not
  tight : (n : ℕ) → 0 < n → 0 < limit - head
      → (n ≤ fewest n (limit - head) * (limit - head)) × (fewest n (limit - head) * (limit - head) < n + (limit - head))
  tight n p q =
      let m = limit - head in
      let e = fewest-some n m (λ z. omega arith) in
      let k = (n - 1) / m in
      let u : n - 1 < k * m + m = lt-div-mul-add q in
      let v : k * m ≤ n - 1 = div-mul-le_self (n - 1) m in
      let w : fewest n m * m ≡ k * m + m = ap (λ (x : ℕ). x * m) (sym e) ∙ (let s : (k + 1) * m ≡ k * m + m = omega arith in s) in
      (omega arith, omega arith)

  -- what is carried by k takes at most k
  few-enough : (n k : ℕ) → (0 < n → 0 < limit - head) → n ≤ k * (limit - head) → fewest n (limit - head) ≤ k
  few-enough n k r l = go (eqb n 0) refl
    where
      go : (b : Bool) → eqb n 0 ≡ b → fewest n (limit - head) ≤ k
      go true z = let e = fewest-none n (limit - head) (eqb-true n 0 z) in omega arith
      go false z =
          let f = eqb-false n 0 z in
          let p : 0 < n = omega arith in
          let e = fewest-some n (limit - head) f in
          let u : n - 1 < k * (limit - head) = omega arith in
          let v : (n - 1) / (limit - head) < k = (div-lt_iff_lt-mul {k = limit - head} {x = n - 1} {y = k} (r p)).1 u in
          omega arith

  pub least : (n : ℕ) → (0 < n → 0 < limit - head) → (q : List Piece) → Fits head limit n q → fewest n (limit - head) ≤ length q
  least n r q f =
      let c = carried q f.1 in
      let s = f.0 in
      few-enough n (length q) r (omega arith)

  -- ---- the plan made

  -- the next piece, and what is left for the others
  record Next (n k x : ℕ) : Type 0 where
    some : 0 < x
    within : x ≤ n
    fitting : x ≤ limit - head
    enough : n - x ≤ k * (limit - head)
    needed : k * (limit - head) < n - x + (limit - head)

  next : (n k : ℕ) → 0 < limit - head → n ≤ suc k * (limit - head) → suc k * (limit - head) < n + (limit - head)
      → Next n k (smaller n (limit - head))
  next n k p l u = go (leb n (limit - head)) refl
    where
      go : (b : Bool) → leb n (limit - head) ≡ b → Next n k (smaller n (limit - head))
      go true e =
          let le = leb-true n (limit - head) e in
          let m = suc-mul k (limit - head) in
          subst (Next n k) (smaller-first n (limit - head) le)
          (record { some = omega arith; within = omega arith; fitting = le; enough = omega arith; needed = omega arith })
      go false e =
          let lt = leb-false n (limit - head) e in
          let m = suc-mul k (limit - head) in
          subst (Next n k) (smaller-second n (limit - head) lt)
          (record { some = p; within = omega arith; fitting = omega arith; enough = omega arith; needed = omega arith })

  made-fits : (k n : ℕ) → 0 < limit - head → n ≤ k * (limit - head) → k * (limit - head) < n + (limit - head)
      → Fits head limit n (made (limit - head) n k)
  unfolding made
  made-fits zero n p l u = (omega arith, tt)
  made-fits (suc k) n p l u =
      let x = smaller n (limit - head) in
      let s = next n k p l u in
      let r = made-fits k (n - x) p s.enough s.needed in
      let t = r.0 in
      (omega arith, ((s.some, omega arith), r.1))

  empty-fits : (n : ℕ) → n ≡ 0 → Fits head limit n (made (limit - head) n 0)
  unfolding made
  empty-fits n e = (sym e, tt)

  pub fewest-fits : (n : ℕ) → (0 < n → 0 < limit - head) → Fits head limit n (made (limit - head) n (fewest n (limit - head)))
  fewest-fits n r = go (eqb n 0) refl
    where
      go : (b : Bool) → eqb n 0 ≡ b → Fits head limit n (made (limit - head) n (fewest n (limit - head)))
      go true z =
          let e = eqb-true n 0 z in
          subst (λ (k : ℕ). Fits head limit n (made (limit - head) n k)) (fewest-none n (limit - head) e) (empty-fits n e)
      go false z =
          let f = eqb-false n 0 z in
          let p : 0 < n = omega arith in
          let q = r p in
          let t = tight n p q in
          made-fits (fewest n (limit - head)) n q t.0 t.1

  -- ---- good is: fits, and has the fewest

  module _ (n : ℕ) (room : 0 < n → 0 < limit - head) where
    pub good-count : (p : List Piece) → Good head limit n p → length p ≡ fewest n (limit - head)
    good-count p g =
        let l = g.1 (made (limit - head) n (fewest n (limit - head))) (fewest-fits n room) in
        let e = length-made (limit - head) n (fewest n (limit - head)) in
        let m = least n room p g.0 in
        omega arith

    pub count-good : (p : List Piece) → Fits head limit n p → length p ≡ fewest n (limit - head) → Good head limit n p
    count-good p f e = (f, λ q g. let m = least n room q g in omega arith)

    pub made-good : Good head limit n (made (limit - head) n (fewest n (limit - head)))
    made-good =
        count-good (made (limit - head) n (fewest n (limit - head))) (fewest-fits n room)
        (length-made (limit - head) n (fewest n (limit - head)))

  -- ---- which words are a plan's

  pub adds-words : (p : List Piece) → Each head limit p → adds (limit - head) (total p) (words p) ≡ true
  unfolding adds piece_fits
  adds-words [] e = refl
  adds-words (x ∷ p) e =
      let a = x.bytes in
      let l = e.0.1 in
      let s : a + x.padding ≤ limit - head = omega arith in
      let w : a ≤ a + total p = omega arith in
      let d : a + total p - a ≡ total p = omega arith in
      ap₂ ◌&&◌ (ap₂ ◌&&◌ (lt-ltb 0 a e.0.0) (ap₂ ◌&&◌ (le-leb a (a + total p) w) (le-leb (a + x.padding) (limit - head) s)))
      (ap (λ (r : ℕ). adds (limit - head) r (words p)) d ∙ adds-words p e.1)

  pub adds-tells : (w : List ℕ) (rest : ℕ) → adds (limit - head) rest w ≡ true → (p : List Piece) × ((w ≡ words p) × Fits head limit rest p)
  unfolding adds piece_fits
  adds-tells [] rest e = ([], (refl, (sym (eqb-true rest 0 e), tt)))
  adds-tells (x ∷ []) rest e = absurd (let z : ◌≡◌ {A = ℕ} 0 1 = cc in omega arith)
  adds-tells (x ∷ y ∷ w) rest e =
      let b = (and-eq-true_iff (piece_fits (limit - head) rest x y) (adds (limit - head) (rest - x) w)).0 e in
      let r = adds-tells w (rest - x) b.1 in
      let b₁ = (and-eq-true_iff (ltb 0 x) (leb x rest && leb (x + y) (limit - head))).0 b.0 in
      let b₂ = (and-eq-true_iff (leb x rest) (leb (x + y) (limit - head))).0 b₁.1 in
      let some = ltb-true 0 x b₁.0 in
      let within = leb-true x rest b₂.0 in
      let fitting = leb-true (x + y) (limit - head) b₂.1 in
      let t = r.1.1.0 in
      let p : Piece = record { bytes = x; padding = y } in
      (p ∷ r.0, (ap (λ (v : List ℕ). x ∷ (y ∷ v)) r.1.0, (omega arith, ((some, omega arith), r.1.1.1))))

  module _ (n : ℕ) (room : 0 < n → 0 < limit - head) (w : List ℕ) where
    pub passes-tells : passes (limit - head) n w ≡ true → (p : List Piece) × ((w ≡ words p) × Good head limit n p)
    unfolding passes
    passes-tells e =
        let k = fewest n (limit - head) in
        let b = (and-eq-true_iff (eqb (length w) (2 * k)) (adds (limit - head) n w)).0 e in
        let c = eqb-true (length w) (2 * k) b.0 in
        let a = adds-tells w n b.1 in
        let l = ap length a.1.0 in
        let m = length-words a.0 in
        (a.0, (a.1.0, count-good n room a.0 a.1.1 (omega arith)))

    pub good-passes : (p : List Piece) → w ≡ words p → Good head limit n p → passes (limit - head) n w ≡ true
    unfolding passes
    good-passes p e g =
        let k = fewest n (limit - head) in
        let c = good-count n room p g in
        let l = ap length e in
        let m = length-words p in
        let s : length w ≡ 2 * k = omega arith in
        ap₂ ◌&&◌ (eq-eqb (length w) (2 * k) s)
        (ap₂ (λ (r : ℕ) (v : List ℕ). adds (limit - head) r v) (sym g.0.0) e ∙ adds-words p g.0.1)
