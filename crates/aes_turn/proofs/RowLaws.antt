-- Where the words of an exchange and of a stage stand.
-- Assumes nothing.
use mathlib.Core.Path.{◌≡◌, refl, sym, ap₂, ◌∙◌, subst}
use mathlib.Core.Logic.{⊎_elim}
use mathlib.Core.List.{List}
use Prim.Native.Nat.{ℕ, zero, suc, ◌+◌, ◌*◌, ◌<◌, ◌≤◌}
use native.Mathlib.Nat.{not-suc-le-zero}
use native.Mathlib.Omega.{arith}
use lib.ListN.{length, get_or, set, length-set}
use lib.Seq.{get_or-set_same, get_or-set_other}
use Rattle.aes_circuit.proofs.Digits.{below}
use Rattle.aes_turn.specs.Turn.{low_word, high_word, exchange_of, stage_of}
use Rattle.aes_turn.proofs.TurnLaws.{pair-below}

module _ (s : List ℕ) (at d m : ℕ) where
  -- the words that x changes, as they were
  low : ℕ → ℕ
  low x = low_word d m (get_or s (at + x) 0) (get_or s (at + 4 * d + x) 0)

  high : ℕ → ℕ
  high x = high_word d m (get_or s (at + x) 0) (get_or s (at + 4 * d + x) 0)

  length-exchange : length s ≡ 128 → (n : ℕ) → length (exchange_of s at d m n) ≡ 128
  unfolding exchange_of
  length-exchange l zero = l
  length-exchange l (suc n) =
      let u = exchange_of s at d m n in
      let e = length-exchange l n in
      let a = get_or u (at + n) 0 in
      let b = get_or u (at + 4 * d + n) 0 in
      length-set (set u (at + 4 * d + n) (high_word d m a b)) (at + n) (low_word d m a b) ∙ length-set u (at + 4 * d + n) (high_word d m a b) ∙ e

  exchange-rest : (n q : ℕ) → ((x : ℕ) → x < n → q ≡ at + x → ⊥) → ((x : ℕ) → x < n → q ≡ at + 4 * d + x → ⊥)
      → get_or (exchange_of s at d m n) q 0 ≡ get_or s q 0
  unfolding exchange_of
  exchange-rest zero q f g = refl
  exchange-rest (suc n) q f g =
      let u = exchange_of s at d m n in
      let a = get_or u (at + n) 0 in
      let b = get_or u (at + 4 * d + n) 0 in
      get_or-set_other (set u (at + 4 * d + n) (high_word d m a b)) (at + n) q (low_word d m a b) 0 (f n (omega arith))
      ∙ get_or-set_other u (at + 4 * d + n) q (high_word d m a b) 0 (g n (omega arith))
      ∙ exchange-rest n q (λ x h. f x (omega arith)) (λ x h. g x (omega arith))

  exchange-holds : length s ≡ 128 → at + 8 * d ≤ 128 → (n : ℕ) → n ≤ 4 * d → (x : ℕ) → x < n
      → (get_or (exchange_of s at d m n) (at + x) 0 ≡ low x) × (get_or (exchange_of s at d m n) (at + 4 * d + x) 0 ≡ high x)
  unfolding exchange_of low high
  exchange-holds l ha zero hn x hx = absurd (not-suc-le-zero hx)
  exchange-holds l ha (suc n) hn x hx =
      let u = exchange_of s at d m n in
      let lu : length u ≡ 128 = length-exchange l n in
      let a = get_or u (at + n) 0 in
      let b = get_or u (at + 4 * d + n) 0 in
      let v = set u (at + 4 * d + n) (high_word d m a b) in
      let lv : length v ≡ 128 = length-set u (at + 4 * d + n) (high_word d m a b) ∙ lu in
      let ea : a ≡ get_or s (at + n) 0 = exchange-rest n (at + n) (λ x h e. omega arith) (λ x h e. omega arith) in
      let eb : b ≡ get_or s (at + 4 * d + n) 0 = exchange-rest n (at + 4 * d + n) (λ x h e. omega arith) (λ x h e. omega arith) in
      ⊎_elim
      (λ e. subst (λ (y : ℕ).
      (get_or (set v (at + n) (low_word d m a b)) (at + y) 0 ≡ low_word d m (get_or s (at + y) 0) (get_or s (at + 4 * d + y) 0))
      × (get_or (set v (at + n) (low_word d m a b)) (at + 4 * d + y) 0 ≡ high_word d m (get_or s (at + y) 0) (get_or s (at + 4 * d + y) 0))) (sym e) (
        get_or-set_same v (at + n) (low_word d m a b) 0 (omega arith) ∙ ap₂ (low_word d m) ea eb,
        get_or-set_other v (at + n) (at + 4 * d + n) (low_word d m a b) 0 (λ e. omega arith)
            ∙ get_or-set_same u (at + 4 * d + n) (high_word d m a b) 0 (omega arith) ∙ ap₂ (high_word d m) ea eb,
      ))
      (λ h. let p = exchange-holds l ha n (omega arith) x h in (
        get_or-set_other v (at + n) (at + x) (low_word d m a b) 0 (λ e. omega arith)
            ∙ get_or-set_other u (at + 4 * d + n) (at + x) (high_word d m a b) 0 (λ e. omega arith) ∙ p.0,
        get_or-set_other v (at + n) (at + 4 * d + x) (low_word d m a b) 0 (λ e. omega arith)
            ∙ get_or-set_other u (at + 4 * d + n) (at + 4 * d + x) (high_word d m a b) 0 (λ e. omega arith) ∙ p.1,
      ))
      (below x n hx)

-- ---- a stage

module _ (s : List ℕ) (d m : ℕ) (l : length s ≡ 128) where
  pub length-stage : (n : ℕ) → length (stage_of s d m n) ≡ 128
  unfolding stage_of
  length-stage zero = l
  length-stage (suc n) = length-exchange (stage_of s d m n) (8 * d * n) d m (length-stage n) (4 * d)

  stage-rest : (n q : ℕ) → 8 * d * n ≤ q → get_or (stage_of s d m n) q 0 ≡ get_or s q 0
  unfolding stage_of
  stage-rest zero q h = refl
  stage-rest (suc n) q h =
      let g = pair-below d n (suc n) (omega arith) in
      exchange-rest (stage_of s d m n) (8 * d * n) d m (4 * d) q (λ x hx e. omega (arith, g)) (λ x hx e. omega (arith, g))
      ∙ stage-rest n q (omega (arith, g))

  pub stage-holds : (n : ℕ) → 8 * d * n ≤ 128 → (i x : ℕ) → i < n → x < 4 * d
      → (get_or (stage_of s d m n) (8 * d * i + x) 0 ≡ low_word d m (get_or s (8 * d * i + x) 0) (get_or s (8 * d * i + 4 * d + x) 0))
      × (get_or (stage_of s d m n) (8 * d * i + 4 * d + x) 0 ≡ high_word d m (get_or s (8 * d * i + x) 0) (get_or s (8 * d * i + 4 * d + x) 0))
  unfolding stage_of low high
  stage-holds zero hn i x hi hx = absurd (not-suc-le-zero hi)
  stage-holds (suc n) hn i x hi hx =
      let u = stage_of s d m n in
      let g = pair-below d n (suc n) (omega arith) in
      ⊎_elim
      (λ e. subst (λ (y : ℕ).
      (get_or (exchange_of u (8 * d * n) d m (4 * d)) (8 * d * y + x) 0 ≡ low_word d m (get_or s (8 * d * y + x) 0) (get_or s (8 * d * y + 4 * d + x) 0))
      × (get_or (exchange_of u (8 * d * n) d m (4 * d)) (8 * d * y + 4 * d + x) 0 ≡ high_word d m (get_or s (8 * d * y + x) 0) (get_or s (8 * d * y + 4 * d + x) 0)))
      (sym e)
      (let p = exchange-holds u (8 * d * n) d m (length-stage n) (omega (arith, g)) (4 * d) (omega arith) x hx in
      let ea = stage-rest n (8 * d * n + x) (omega arith) in
      let eb = stage-rest n (8 * d * n + 4 * d + x) (omega arith) in
      (p.0 ∙ ap₂ (low_word d m) ea eb, p.1 ∙ ap₂ (high_word d m) ea eb)))
      (λ h. let p = stage-holds n (omega (arith, g)) i x h hx in
      let f = pair-below d i n h in (
        exchange-rest u (8 * d * n) d m (4 * d) (8 * d * i + x) (λ y hy e. omega (arith, f)) (λ y hy e. omega (arith, f)) ∙ p.0,
        exchange-rest u (8 * d * n) d m (4 * d) (8 * d * i + 4 * d + x) (λ y hy e. omega (arith, f)) (λ y hy e. omega (arith, f)) ∙ p.1,
      ))
      (below i n hi)
