-- What the functions on words do to the bytes on the way back: a column, a round, the inverse cipher.
-- Assumes nothing.
use mathlib.Core.Path.{◌≡◌, refl, ap, ◌∙◌, subst}
use mathlib.Core.List.{List, [], ◌∷◌, map}
use Prim.Native.Nat.{ℕ, zero, suc, ◌+◌, ◌-◌, ◌*◌, ◌≤◌, ◌<◌}
use native.Mathlib.Omega.{arith}
use lib.ListN.{get_or, take}
use Rattle.octets.specs.Buffers.{◌⊞◌}
use Rattle.aes_tables.specs.Field.{◌•◌}
use Rattle.aes_tables.specs.Tables.{IsTable, inv_mix_entry}
use Rattle.aes_tables.proofs.Products.{product_lt}
use Rattle.aes.specs.Cipher.{add_round_key, round_key}
use Rattle.aes.specs.KeyExpansion.{key_expansion}
use Rattle.aes.specs.Words.{bytes, turned, column_sum}
use Rattle.aes.proofs.WordLaws.{bytes-column}
use Rattle.aes.proofs.KeyedLaws.{add_same, round-keys}
use Rattle.aes_inverse.specs.InvCipher.{inv_mix_column, inv_mix_columns, inv_sub_bytes, inv_shift_rows, inv_rounds, inv_cipher, inv_aes}

-- ---- a column

inv-mix-bytes : (x : ℕ) → x < 256 → bytes (inv_mix_entry x) ≡ 14 • x ∷ 9 • x ∷ 13 • x ∷ 11 • x ∷ []
unfolding inv_mix_entry
inv-mix-bytes x h = bytes-column _ _ _ _ (product_lt 14 x h) (product_lt 9 x h) (product_lt 13 x h) (product_lt 11 x h)

module _ (t : List ℕ) (x y z v : ℕ) (lx : x < 256) (ly : y < 256) (lz : z < 256) (lv : v < 256) where
  pub inv-mixed-law : IsTable inv_mix_entry t → column_sum t x y z v ≡ inv_mix_column x y z v
  unfolding column_sum turned inv_mix_column ◌⊞◌
  inv-mixed-law p = λ i. at x lx i ⊞ turned 1 (at y ly i) ⊞ turned 2 (at z lz i) ⊞ turned 3 (at v lv i)
    where
      at : (n : ℕ) → n < 256 → bytes (get_or t n 0) ≡ 14 • n ∷ 9 • n ∷ 13 • n ∷ 11 • n ∷ []
      at n l = ap bytes (p.entry n l) ∙ inv-mix-bytes n l

-- ---- the inverse cipher

-- one round back
inv-step : (w : List (List ℕ)) (n : ℕ) (s k m r e : List ℕ) → inv_rounds w (suc n) s ≡ e → k ≡ round_key w (suc n)
    → m ≡ inv_sub_bytes (inv_shift_rows s) ⊞ k → r ≡ inv_mix_columns m → inv_rounds w n r ≡ e
unfolding inv_rounds add_round_key
inv-step w n s k m r e h ek em er =
    ap (inv_rounds w n) (er ∙ ap inv_mix_columns (em ∙ ap (λ (l : List ℕ). inv_sub_bytes (inv_shift_rows s) ⊞ l) ek)) ∙ h

pub inv-round-law : (w : List (List ℕ)) (n : ℕ) (s k m r e : List ℕ) → 0 < n → inv_rounds w n s ≡ e → k ≡ round_key w n
    → m ≡ inv_sub_bytes (inv_shift_rows s) ⊞ k → r ≡ inv_mix_columns m → inv_rounds w (n - 1) r ≡ e
inv-round-law w n s k m r e l h ek em er =
    let p : n ≡ suc (n - 1) = omega arith in
    inv-step w (n - 1) s k m r e (subst (λ (i : ℕ). inv_rounds w i s ≡ e) p h) (subst (λ (i : ℕ). k ≡ round_key w i) p ek) em er

pub inv-cipher-law : (w : List (List ℕ)) (nr n : ℕ) (x k₀ s₀ s k r : List ℕ) → k₀ ≡ round_key w nr → s₀ ≡ x ⊞ k₀ → n ≡ 0
    → inv_rounds w n s ≡ inv_rounds w (nr - 1) s₀ → k ≡ round_key w 0 → r ≡ inv_sub_bytes (inv_shift_rows s) ⊞ k → r ≡ inv_cipher nr w x
unfolding inv_cipher add_round_key inv_rounds
inv-cipher-law w nr n x k₀ s₀ s k r e₀ es₀ en es ek er =
    er ∙ (λ i. inv_sub_bytes (inv_shift_rows ((subst (λ (m : ℕ). inv_rounds w m s ≡ inv_rounds w (nr - 1) s₀) en es) i)) ⊞ ek i)
    ∙ ap (λ (l : List ℕ). inv_sub_bytes (inv_shift_rows (inv_rounds w (nr - 1) l)) ⊞ round_key w 0) (es₀ ∙ ap (λ (l : List ℕ). x ⊞ l) e₀)

-- ---- the inverse cipher under a key

-- two expanded keys with the same round keys
module _ (v w : List (List ℕ)) (nr : ℕ) (e : (r : ℕ) → r ≤ nr → round_key v r ≡ round_key w r) where
  inv-rounds-same : (n : ℕ) → n ≤ nr → (s : List ℕ) → inv_rounds v n s ≡ inv_rounds w n s
  unfolding inv_rounds
  inv-rounds-same zero h s = refl
  inv-rounds-same (suc n) h s =
      inv-rounds-same n (omega arith) (inv_mix_columns (add_round_key v (suc n) (inv_sub_bytes (inv_shift_rows s))))
      ∙ ap (λ (t : List ℕ). inv_rounds w n (inv_mix_columns t)) (add_same v w nr e (suc n) h (inv_sub_bytes (inv_shift_rows s)))

  inv-cipher-same : (s : List ℕ) → inv_cipher nr v s ≡ inv_cipher nr w s
  unfolding inv_cipher
  inv-cipher-same s =
      add_same v w nr e 0 (omega arith) (inv_sub_bytes (inv_shift_rows (inv_rounds v (nr - 1) (add_round_key v nr s))))
      ∙ ap (λ (t : List ℕ). add_round_key w 0 (inv_sub_bytes (inv_shift_rows t)))
      (inv-rounds-same (nr - 1) (omega arith) (add_round_key v nr s) ∙ ap (inv_rounds w (nr - 1)) (add_same v w nr e nr (omega arith) s))

pub inv-cipher-aes : (nk : ℕ) (key l : List ℕ) → map bytes (take (4 * nk + 28) l) ≡ key_expansion nk key
    → (s : List ℕ) → inv_cipher (nk + 6) (map bytes l) s ≡ inv_aes nk key s
unfolding inv_aes
inv-cipher-aes nk key l e s = inv-cipher-same (map bytes l) (key_expansion nk key) (nk + 6) (round-keys nk key l e) s
