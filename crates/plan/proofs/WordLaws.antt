-- A plan's words, read and written two by two.
-- Assumes nothing.
use mathlib.Core.Path.{◌≡◌, refl, sym, ap, ◌∙◌}
use mathlib.Core.Bool.{Bool, true, false, ◌&&◌, and-eq-true_iff}
use mathlib.Core.List.{List, [], ◌∷◌}
use Prim.Native.Nat.{ℕ, zero, suc, ◌+◌, ◌-◌, ◌*◌, ◌/◌, ◌%◌, ◌≤◌, ◌<◌}
use native.Mathlib.Omega.{arith}
use native.Mathlib.Numerals.{add-one}
use lib.Dec.{eqb, leb, ltb}
use lib.ListN.{length, get_or, set, take, drop, drop_of_length-le}
use Rattle.std.proofs.lemmas.List.{get_or-drop}
use Rattle.std.specs.Simd.{first_chunks}
use lib.Seq.{sets, drop-cons}
use borrow.Author.Tests.{eq-eqb, ne_eqb, leb-true}
use Rattle.plan_pieces.specs.Plans.{words, fewest, piece_fits, adds, passes, smaller, made}

-- ---- reading

-- the two words of a piece are where they stand in the plan
front-first : (w : List ℕ) → get_or (take 2 w) 0 0 ≡ get_or w 0 0
front-first [] = refl
front-first (a ∷ w) = refl

front-second : (w : List ℕ) → get_or (take 2 w) 1 0 ≡ get_or w 1 0
front-second [] = refl
front-second (a ∷ []) = refl
front-second (a ∷ (b ∷ w)) = refl

first-in : (n : ℕ) (w : List ℕ) (i : ℕ) → i < n → get_or (get_or (first_chunks 2 n w) i []) 0 0 ≡ get_or w (2 * i) 0
first-in zero w i l = absurd (omega arith)
first-in (suc n) w zero l = front-first w
first-in (suc n) w (suc i) l =
    let e : 2 + 2 * i ≡ 2 * suc i = omega arith in
    first-in n (drop 2 w) i (omega arith) ∙ get_or-drop 2 w (2 * i) 0 ∙ ap (λ (k : ℕ). get_or w k 0) e

second-in : (n : ℕ) (w : List ℕ) (i : ℕ) → i < n → get_or (get_or (first_chunks 2 n w) i []) 1 0 ≡ get_or w (2 * i + 1) 0
second-in zero w i l = absurd (omega arith)
second-in (suc n) w zero l = front-second w
second-in (suc n) w (suc i) l =
    let e : 2 + (2 * i + 1) ≡ 2 * suc i + 1 = omega arith in
    second-in n (drop 2 w) i (omega arith) ∙ get_or-drop 2 w (2 * i + 1) 0 ∙ ap (λ (k : ℕ). get_or w k 0) e

module _ (w : List ℕ) (pieces : List (List ℕ)) (e : pieces ≡ first_chunks 2 (length w / 2) w) (i : ℕ) (l : i < length w / 2) where
  pub first-there : get_or (get_or pieces i []) 0 0 ≡ get_or w (2 * i) 0
  first-there = ap (λ (x : List (List ℕ)). get_or (get_or x i []) 0 0) e ∙ first-in (length w / 2) w i l

  pub second-there : get_or (get_or pieces i []) 1 0 ≡ get_or w (2 * i + 1) 0
  second-there = ap (λ (x : List (List ℕ)). get_or (get_or x i []) 1 0) e ∙ second-in (length w / 2) w i l

pub fits-within : (most rest x y : ℕ) → piece_fits most rest x y ≡ true → x ≤ rest
unfolding piece_fits
fits-within most rest x y e =
    let f = (and-eq-true_iff (ltb 0 x) (leb x rest && leb (x + y) most)).0 e in
    leb-true x rest ((and-eq-true_iff (leb x rest) (leb (x + y) most)).0 f.1).0

module _ (most n : ℕ) (w : List ℕ) where
  -- the next two words
  next-two : (j : ℕ) → j + 1 < length w → drop j w ≡ get_or w j 0 ∷ (get_or w (j + 1) 0 ∷ drop (j + 2) w)
  next-two j h =
      drop-cons w j 0 (omega arith)
      ∙ ap (λ (t : List ℕ). get_or w j 0 ∷ t)
      (ap (λ (k : ℕ). drop k w) (sym (add-one j))
      ∙ drop-cons w (j + 1) 0 h
      ∙ ap (λ (k : ℕ). get_or w (j + 1) 0 ∷ drop k w) (let e : suc (j + 1) ≡ j + 2 = omega arith in e))

  adds-next : (rest j : ℕ) → j + 1 < length w
      → adds most rest (drop j w)
      ≡ piece_fits most rest (get_or w j 0) (get_or w (j + 1) 0) && adds most (rest - get_or w j 0) (drop (j + 2) w)
  unfolding adds
  adds-next rest j h = ap (adds most rest) (next-two j h)

  pub adds_on : (rest i x y : ℕ) → 2 * i + 1 < length w → x ≡ get_or w (2 * i) 0 → y ≡ get_or w (2 * i + 1) 0 → (b : Bool)
      → b ≡ piece_fits most rest x y → b ≡ true → adds most rest (drop (2 * i) w) ≡ adds most n w
      → adds most (rest - x) (drop (2 * (i + 1)) w) ≡ adds most n w
  adds_on rest i x y h ex ey b eb t inv =
      ap (λ (k : ℕ). adds most (rest - x) (drop k w)) (let e : 2 * (i + 1) ≡ 2 * i + 2 = omega arith in e)
      ∙ (λ j. sym t j && adds most (rest - x) (drop (2 * i + 2) w))
      ∙ (λ j. eb j && adds most (rest - x) (drop (2 * i + 2) w))
      ∙ (λ j. piece_fits most rest (ex j) (ey j) && adds most (rest - ex j) (drop (2 * i + 2) w))
      ∙ sym (adds-next rest (2 * i) h) ∙ inv

  pub odd-fails : (length w % 2 ≡ 0 → ⊥) → false ≡ passes most n w
  unfolding passes
  odd-fails f =
      let g : length w ≡ 2 * fewest n most → ⊥ = λ d. f (omega arith) in
      ap (λ (b : Bool). b && adds most n w) (sym (ne_eqb (length w) (2 * fewest n most) g))

  pub count-fails : (k : ℕ) → k ≡ fewest n most → (length w / 2 ≡ k → ⊥) → false ≡ passes most n w
  unfolding passes
  count-fails k e f =
      let g : length w ≡ 2 * fewest n most → ⊥ = λ d. f (omega arith) in
      ap (λ (b : Bool). b && adds most n w) (sym (ne_eqb (length w) (2 * fewest n most) g))

  counted : (k : ℕ) → k ≡ fewest n most → length w % 2 ≡ 0 → length w / 2 ≡ k → adds most n w ≡ passes most n w
  unfolding passes
  counted k e f g =
      let s : length w ≡ 2 * fewest n most = omega arith in
      ap (λ (b : Bool). b && adds most n w) (sym (eq-eqb (length w) (2 * fewest n most) s))

  module _ (k : ℕ) (ek : k ≡ fewest n most) (even : length w % 2 ≡ 0) (half : length w / 2 ≡ k) where
    pub piece-fails : (rest i x y : ℕ) → 2 * i + 1 < length w → x ≡ get_or w (2 * i) 0 → y ≡ get_or w (2 * i + 1) 0 → (b : Bool)
        → b ≡ piece_fits most rest x y → b ≡ false → adds most rest (drop (2 * i) w) ≡ adds most n w → false ≡ passes most n w
    piece-fails rest i x y h ex ey b eb t inv =
        (λ j. sym t j && adds most (rest - x) (drop (2 * i + 2) w))
        ∙ (λ j. eb j && adds most (rest - x) (drop (2 * i + 2) w))
        ∙ (λ j. piece_fits most rest (ex j) (ey j) && adds most (rest - ex j) (drop (2 * i + 2) w))
        ∙ sym (adds-next rest (2 * i) h) ∙ inv ∙ counted k ek even half

    pub all_read : (rest i : ℕ) → length w / 2 ≤ i → adds most rest (drop (2 * i) w) ≡ adds most n w → eqb rest 0 ≡ passes most n w
    unfolding adds
    all_read rest i h inv =
        let l : length w ≤ 2 * i = omega arith in
        ap (adds most rest) (sym (drop_of_length-le w {i = 2 * i} l)) ∙ inv ∙ counted k ek even half

-- ---- writing

module _ (most n k : ℕ) (start : List ℕ) where
  -- what is written, with the plan of what is left, is the whole plan
  abbrev pub Written : List ℕ → (rest i : ℕ) → Type 0
  Written plan rest i = sets plan (2 * i) (words (made most rest (k - i))) ≡ sets start 0 (words (made most n k))

  pub write-none : Written start n 0
  write-none = let q : k - 0 ≡ k = omega arith in ap (λ (m : ℕ). sets start 0 (words (made most n m))) q

  pub write-next : (plan : List ℕ) (rest i x : ℕ) → i < k → x ≡ smaller rest most → Written plan rest i
      → Written (set (set plan (2 * i) x) (2 * i + 1) 0) (rest - x) (i + 1)
  unfolding made
  write-next plan rest i x l e w =
      let p : 2 * (i + 1) ≡ suc (suc (2 * i)) = omega arith in
      let q : k - i ≡ suc (k - (i + 1)) = omega arith in
      (λ j. sets (set (set plan (2 * i) (e j)) (add-one (2 * i) j) 0) (p j) (words (made most (rest - e j) (k - (i + 1)))))
      ∙ ap (λ (m : ℕ). sets plan (2 * i) (words (made most rest m))) (sym q) ∙ w

  pub write-all : (plan : List ℕ) (rest i : ℕ) → k ≤ i → Written plan rest i → plan ≡ sets start 0 (words (made most n k))
  unfolding made
  write-all plan rest i l w =
      let q : 0 ≡ k - i = omega arith in
      ap (λ (m : ℕ). sets plan (2 * i) (words (made most rest m))) q ∙ w
