-- The rounds of one block, the last one without MixColumns.
use Rattle.std.specs.Prelude.{◌≡◌, ℕ, zero, suc, ◌*◌, ◌<◌, ◌≤◌, cond, List, nat_lt}
use Rattle.octets.specs.Buffers.{◌⊞◌}
use Rattle.aes.specs.Cipher.{sub_bytes, shift_rows, mix_columns, round_key}
use Rattle.aes_planes.specs.State.{key_at}

-- round r of n, with the round key k
unfoldable pub step_of : ℕ → ℕ → List ℕ → List ℕ → List ℕ
step_of n r k s = cond (nat_lt r n) (mix_columns (shift_rows (sub_bytes s)) ⊞ k) (shift_rows (sub_bytes s) ⊞ k)

-- the first r rounds of n
unfoldable pub done_of : List (List ℕ) → ℕ → ℕ → List ℕ → List ℕ
done_of w n zero s = s
done_of w n (suc r) s = step_of n (suc r) (round_key w (suc r)) (done_of w n r s)

-- the masks κ hold the expanded key w, for every block, as far as n rounds use it
pub record Keys (w : List (List ℕ)) (n : ℕ) (κ : List ℕ) : Type 0 where
  pub each : (i r : ℕ) → i < 32 → r ≤ n → key_at i κ (4 * r) ≡ round_key w r
