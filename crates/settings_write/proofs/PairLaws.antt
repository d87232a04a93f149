-- The words taken two by two: number and length of each setting.
-- Assumes nothing.
use mathlib.Core.Path.{◌≡◌, refl, ap, ◌∙◌}
use mathlib.Core.List.{List, [], ◌∷◌}
use Prim.Native.Nat.{ℕ, zero, suc, ◌+◌, ◌*◌, ◌<◌}
use native.Mathlib.Omega.{arith}
use lib.ListN.{get_or, drop, take}
use Rattle.std.proofs.lemmas.List.{get_or-drop}
use Rattle.std.specs.Simd.{first_chunks}
use Rattle.settings_write.specs.Writing.{number_at, length_at, size_of}

number-first : (ws : List ℕ) → get_or (take 2 ws) 0 0 ≡ get_or ws 0 0
number-first [] = refl
number-first (a ∷ ws) = refl

length-first : (ws : List ℕ) → get_or (take 2 ws) 1 0 ≡ get_or ws 1 0
length-first [] = refl
length-first (a ∷ []) = refl
length-first (a ∷ (b ∷ ws)) = refl

number-in : (n : ℕ) (ws : List ℕ) (i : ℕ) → i < n → get_or (get_or (first_chunks 2 n ws) i []) 0 0 ≡ number_at ws i
number-in zero ws i l = absurd (omega arith)
number-in (suc n) ws zero l = number-first ws
number-in (suc n) ws (suc i) l =
    let e : 2 + 2 * i ≡ 2 * suc i = omega arith in
    number-in n (drop 2 ws) i (omega arith) ∙ get_or-drop 2 ws (2 * i) 0 ∙ ap (λ (k : ℕ). get_or ws k 0) e

length-in : (n : ℕ) (ws : List ℕ) (i : ℕ) → i < n → get_or (get_or (first_chunks 2 n ws) i []) 1 0 ≡ length_at ws i
length-in zero ws i l = absurd (omega arith)
length-in (suc n) ws zero l = length-first ws
length-in (suc n) ws (suc i) l =
    let e : 2 + (2 * i + 1) ≡ 2 * suc i + 1 = omega arith in
    length-in n (drop 2 ws) i (omega arith) ∙ get_or-drop 2 ws (2 * i + 1) 0 ∙ ap (λ (k : ℕ). get_or ws k 0) e

module _ (ws : List ℕ) (pairs : List (List ℕ)) (e : pairs ≡ first_chunks 2 (size_of ws) ws) (i : ℕ) (l : i < size_of ws) where
  pub number-there : get_or (get_or pairs i []) 0 0 ≡ number_at ws i
  number-there = ap (λ (x : List (List ℕ)). get_or (get_or x i []) 0 0) e ∙ number-in (size_of ws) ws i l

  pub length-there : get_or (get_or pairs i []) 1 0 ≡ length_at ws i
  length-there = ap (λ (x : List (List ℕ)). get_or (get_or x i []) 1 0) e ∙ length-in (size_of ws) ws i l
