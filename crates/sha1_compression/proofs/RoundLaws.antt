-- The rounds, one by one and joined; their functions and constants in each phase.
-- Assumes nothing.
use Rattle.std.proofs.Common.{◌≡◌, ℕ, zero, suc, ◌+◌, ◌-◌, ◌%◌, ◌^◌, ◌<◌, ◌≤◌, cond, ltb, List, length, get_or, take, drop, sym, ap, ◌∙◌, ap₂, add-zero, arith, le-ltb, lt-ltb, get_or-take, length-drop}
use lib.Seq.{length-take-le}
use Rattle.std.proofs.lemmas.List.{get_or-drop}
use Rattle.sha1_compression.specs.declared.State.{State}
use Rattle.sha1_compression.specs.Functions.{ROTL, of_twenty, f, K, Ch, Parity, Maj}
use Rattle.sha1_compression.specs.Rounds.{turn, one_round, rounds}
use Rattle.sha1_compression.proofs.SumLaws.{sum5}

-- ---- functions and constants

module _ (t p q r v : ℕ) where
  first : t < 20 → p ≡ of_twenty t p q r v
  unfolding of_twenty
  first h = λ i. cond (sym (lt-ltb t 20 h) i) p (cond (ltb t 40) q (cond (ltb t 60) r v))

  second : 20 ≤ t → t < 40 → q ≡ of_twenty t p q r v
  unfolding of_twenty
  second l h = λ i. cond (sym (le-ltb t 20 l) i) p (cond (sym (lt-ltb t 40 h) i) q (cond (ltb t 60) r v))

  third : 40 ≤ t → t < 60 → r ≡ of_twenty t p q r v
  unfolding of_twenty
  third l h =
      let l' : 20 ≤ t = omega arith in
      λ i. cond (sym (le-ltb t 20 l') i) p (cond (sym (le-ltb t 40 l) i) q (cond (sym (lt-ltb t 60 h) i) r v))

  fourth : 60 ≤ t → v ≡ of_twenty t p q r v
  unfolding of_twenty
  fourth l =
      let l' : 20 ≤ t = omega arith in
      let l'' : 40 ≤ t = omega arith in
      λ i. cond (sym (le-ltb t 20 l') i) p (cond (sym (le-ltb t 40 l'') i) q (cond (sym (le-ltb t 60 l) i) r v))

-- fₜ and Kₜ of each phase
pub ch-values : (t x y z r : ℕ) → t < 20 → r ≡ Ch x y z → r ≡ f t x y z
unfolding f
ch-values t x y z r h e = e ∙ first t _ _ _ _ h

pub parity-values : (t x y z r : ℕ) → 20 ≤ t → t < 40 → r ≡ Parity x y z → r ≡ f t x y z
unfolding f
parity-values t x y z r l h e = e ∙ second t _ _ _ _ l h

pub maj-values : (t x y z r : ℕ) → 40 ≤ t → t < 60 → r ≡ Maj x y z → r ≡ f t x y z
unfolding f
maj-values t x y z r l h e = e ∙ third t _ _ _ _ l h

pub last-values : (t x y z r : ℕ) → 60 ≤ t → r ≡ Parity x y z → r ≡ f t x y z
unfolding f
last-values t x y z r l e = e ∙ fourth t _ _ _ _ l

pub first-constant : (t : ℕ) → t < 20 → 0x5a827999 ≡ K t
unfolding K
first-constant t h = first t _ _ _ _ h

pub second-constant : (t : ℕ) → 20 ≤ t → t < 40 → 0x6ed9eba1 ≡ K t
unfolding K
second-constant t l h = second t _ _ _ _ l h

pub third-constant : (t : ℕ) → 40 ≤ t → t < 60 → 0x8f1bbcdc ≡ K t
unfolding K
third-constant t l h = third t _ _ _ _ l h

pub fourth-constant : (t : ℕ) → 60 ≤ t → 0xca62c1d6 ≡ K t
unfolding K
fourth-constant t l = fourth t _ _ _ _ l

-- ---- one round

-- what it leaves, from the rotations
pub turned : (s : State) (x k w : ℕ) {p u : ℕ} → p ≡ ROTL 5 s.a → u ≡ ROTL 30 s.b
    → record { a = (p + (x + ((k + w) % 2 ^ 32 + s.e) % 2 ^ 32) % 2 ^ 32) % 2 ^ 32; b = s.a; c = u; d = s.c; e = s.d } ≡ turn s x k w
unfolding turn
turned s x k w {p} ep eu =
    let e = sum5 p x s.e k w ∙ ap (λ (n : ℕ). (n + x + s.e + k + w) % 2 ^ 32) ep in
    λ i. record { a = e i; b = s.a; c = eu i; d = s.c; e = s.d }

-- from its constant and the value of its function
pub of_turn : (t : ℕ) (s : State) (x k w : ℕ) {r : State} → x ≡ f t s.b s.c s.d → k ≡ K t → r ≡ turn s x k w → r ≡ one_round t s w
unfolding one_round
of_turn t s x k w ex ek er = er ∙ λ i. turn s (ex i) (ek i) w

-- ---- several rounds

rounds-add : (m n t : ℕ) (s : State) (w : List ℕ) → rounds (m + n) t s w ≡ rounds n (t + m) (rounds m t s w) w
unfolding rounds
rounds-add zero n t s w =
    let e : zero + n ≡ n = omega arith in
    ap₂ (λ (k u : ℕ). rounds k u s w) e (sym (add-zero t))
rounds-add (suc m) n t s w =
    let e : suc m + n ≡ suc (m + n) = omega arith in
    let e' : t + 1 + m ≡ t + suc m = omega arith in
    let s' = one_round t s (get_or w t 0) in
    ap (λ (k : ℕ). rounds k t s w) e
    ∙ rounds-add m n (t + 1) s' w
    ∙ ap (λ (u : ℕ). rounds n u (rounds m (t + 1) s' w) w) e'

module _ (w : List ℕ) (from : ℕ) (s : State) where
  -- n rounds, and m behind them
  pub join : (n m : ℕ) {z r : State} → z ≡ rounds n from s w → r ≡ rounds m (from + n) z w → r ≡ rounds (n + m) from s w
  join n m ez er = er ∙ ap (λ (z : State). rounds m (from + n) z w) ez ∙ sym (rounds-add n m from s w)

  -- one round behind n
  pub one_more : (n : ℕ) {z r : State} → z ≡ rounds n from s w → r ≡ one_round (from + n) z (get_or w (from + n) 0)
      → r ≡ rounds (n + 1) from s w
  unfolding rounds
  one_more n ez er = join n 1 ez er

-- ---- the twenty words of a phase

module _ (w : List ℕ) (from : ℕ) where
  abbrev pub phase-words : List ℕ
  phase-words = take (from + 20 - from) (drop from w)

  pub length-phase : from + 20 ≤ length w → length phase-words ≡ 20
  length-phase h =
      let e : from + 20 - from ≡ 20 = omega arith in
      rw e (length-take-le 20 (drop from w) (omega (arith, length-drop from w)))

  pub word-of-phase : (i : ℕ) → i < 20 → get_or phase-words i 0 ≡ get_or w (from + i) 0
  word-of-phase i h =
      let e : from + 20 - from ≡ 20 = omega arith in
      rw e (get_or-take 20 (drop from w) i 0 h ∙ get_or-drop from w i 0)
