-- The buffer that holds T(i), info and a counter: what is stored, read as the message, and put in the place of T(i).
-- Assumes nothing.
use mathlib.Core.Path.{◌≡◌, refl, sym, ap, ap₂, ◌∙◌}
use mathlib.Core.List.{List, [], ◌∷◌, ◌++◌, append_assoc}
use Prim.Native.Nat.{ℕ, zero, suc, ◌+◌, ◌-◌, ◌≤◌}
use native.Mathlib.Omega.{arith}
use lib.ListN.{length, take, drop, set, replicate, length-append}
use lib.Seq.{set_at, drop_at, take_at, take-append-add}
use Rattle.octets.specs.Buffers.{put}
use Rattle.sha1_hash.proofs.BlockLaws.{drop-replicate}
use Rattle.hmac.specs.Hmac.{mac_with}
use Rattle.hmac.specs.declared.Keyed.{Keyed}
use Rattle.hmac.proofs.HmacLaws.{length-mac}
use Rattle.hkdf.specs.Buffer.{laid, start_at, message, before}

-- where a message starts
pub start_first : (i : ℕ) → i ≡ 0 → 20 ≡ start_at i
unfolding start_at
start_first zero e = refl
start_first (suc i) e = absurd (omega arith)

pub start-later : (i : ℕ) → (i ≡ 0 → ⊥) → 0 ≡ start_at i
unfolding start_at
start-later zero f = absurd (f refl)
start-later (suc i) f = refl

-- info put in its place among zeros
pub laid-first : (info : List ℕ) → length info ≤ 235 → put (replicate 256 0) 20 info ≡ laid (replicate 20 0) info 0
unfolding put laid
laid-first info h =
    let e : 256 - (20 + length info) ≡ suc (235 - length info) = omega arith in
    append_assoc (replicate 20 0) info (drop (20 + length info) (replicate 256 0))
    ∙ ap (λ (z : List ℕ). replicate 20 0 ++ (info ++ z)) (drop-replicate (20 + length info) 256 ∙ ap (λ (j : ℕ). replicate {A = ℕ} j 0) e)

module _ (t info : List ℕ) (size : length t ≡ 20) where
  -- the counter
  laid-count : (m x y : ℕ) → length info ≡ m → set (laid t info x) (20 + m) y ≡ laid t info y
  unfolding laid
  laid-count m x y e =
      let z : List ℕ = replicate (235 - length info) 0 in
      let n : length (t ++ info) ≡ 20 + m = omega (arith, length-append t info) in
      ap (λ (l : List ℕ). set l (20 + m) y) (sym (append_assoc t info (x ∷ z)))
      ∙ set_at (t ++ info) x z y (20 + m) n
      ∙ append_assoc t info (y ∷ z)

  -- the message
  laid-message : (m x i : ℕ) → length info ≡ m → message (laid t info x) m i ≡ before i t ++ (info ++ x ∷ [])
  unfolding laid message start_at before
  laid-message m x zero e =
      let z : List ℕ = replicate (235 - length info) 0 in
      let n : 21 + m - 20 ≡ length info + 1 = omega arith in
      ap₂ (λ (j : ℕ) (l : List ℕ). take j l) n (drop_at t (info ++ x ∷ z) 20 size)
      ∙ take-append-add info (x ∷ z) 1
  laid-message m x (suc i) e =
      let z : List ℕ = replicate (235 - length info) 0 in
      let n : 21 + m - 0 ≡ length t + (length info + 1) = omega arith in
      ap (λ (j : ℕ). take j (t ++ (info ++ x ∷ z))) n
      ∙ take-append-add t (info ++ x ∷ z) (length info + 1)
      ∙ ap (λ (l : List ℕ). t ++ l) (take-append-add info (x ∷ z) 1)

  -- another string in t's place
  laid-put : (d : List ℕ) (x : ℕ) → length d ≡ 20 → put (laid t info x) 0 d ≡ laid d info x
  unfolding put laid
  laid-put d x e =
      let z : List ℕ = replicate (235 - length info) 0 in
      let n : length t ≡ 0 + length d = omega arith in
      ap (λ (l : List ℕ). d ++ l) (drop_at t (info ++ x ∷ z) (0 + length d) n)

  pub take-laid : (x : ℕ) → take 20 (laid t info x) ≡ t
  unfolding laid
  take-laid x = take_at t (info ++ x ∷ replicate (235 - length info) 0) 20 size

-- ---- what the code does from T(i) to T(i + 1): b₁ with the counter, d the new T, b₂ with it in place

pub next-laid : (k : Keyed) (b b₁ b₂ d : List ℕ) (m i : ℕ) → b₁ ≡ set b (20 + m) (i + 1) → d ≡ mac_with k (message b₁ m i) → b₂ ≡ put b₁ 0 d
    → (t info : List ℕ) → length t ≡ 20 → length info ≡ m → b ≡ laid t info i
    → b₂ ≡ laid (mac_with k (before i t ++ (info ++ (i + 1) ∷ []))) info (i + 1)
next-laid k b b₁ b₂ d m i e₁ ed e₂ t info et ei eb =
    let l = e₁ ∙ ap (λ (x : List ℕ). set x (20 + m) (i + 1)) eb ∙ laid-count t info et m i (i + 1) ei in
    let n = ed ∙ ap (λ (x : List ℕ). mac_with k (message x m i)) l ∙ ap (mac_with k) (laid-message t info et m (i + 1) i ei) in
    e₂ ∙ ap₂ (λ (x y : List ℕ). put x 0 y) l n
    ∙ laid-put t info et (mac_with k (before i t ++ (info ++ (i + 1) ∷ []))) (i + 1) (length-mac k (before i t ++ (info ++ (i + 1) ∷ [])))
