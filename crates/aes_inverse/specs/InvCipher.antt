-- FIPS 197, section 5.3: the inverse cipher.
use Rattle.std.specs.Prelude.{List, [], ◌∷◌, map, ℕ, zero, suc, ◌+◌, ◌-◌, ◌%◌}
use Rattle.aes_tables.specs.Field.{◌⊕◌, ◌•◌}
use Rattle.aes_tables.specs.SBox.{inv_sbox}
use Rattle.aes.specs.Cipher.{at, state, by_column, add_round_key}
use Rattle.aes.specs.KeyExpansion.{key_expansion}

-- 5.3.1
unfoldable pub inv_shift_rows : List ℕ → List ℕ
inv_shift_rows s = state (λ r c. at s r ((c + 4 - r) % 4))

-- 5.3.2
unfoldable pub inv_sub_bytes : List ℕ → List ℕ
inv_sub_bytes = map inv_sbox

-- 5.3.3
unfoldable pub inv_mix_column : ℕ → ℕ → ℕ → ℕ → List ℕ
inv_mix_column a b c d =
    14 • a ⊕ 11 • b ⊕ 13 • c ⊕ 9 • d
    ∷ 9 • a ⊕ 14 • b ⊕ 11 • c ⊕ 13 • d
    ∷ 13 • a ⊕ 9 • b ⊕ 14 • c ⊕ 11 • d
    ∷ 11 • a ⊕ 13 • b ⊕ 9 • c ⊕ 14 • d ∷ []

unfoldable pub inv_mix_columns : List ℕ → List ℕ
inv_mix_columns = by_column inv_mix_column

-- n rounds, the last of them round 1
unfoldable pub inv_rounds : List (List ℕ) → ℕ → List ℕ → List ℕ
inv_rounds w zero s = s
inv_rounds w (suc n) s = inv_rounds w n (inv_mix_columns (add_round_key w (suc n) (inv_sub_bytes (inv_shift_rows s))))

-- INVCIPHER(in, Nr, w)
unfoldable pub inv_cipher : ℕ → List (List ℕ) → List ℕ → List ℕ
inv_cipher nr w s = add_round_key w 0 (inv_sub_bytes (inv_shift_rows (inv_rounds w (nr - 1) (add_round_key w nr s))))

-- the inverse of AES at Nk 4, 6 and 8
unfoldable pub inv_aes : ℕ → List ℕ → List ℕ → List ℕ
inv_aes nk key = inv_cipher (nk + 6) (key_expansion nk key)
