-- The rounds on planes are those of FIPS 197, for each block.
-- Assumes nothing.
use Rattle.std.proofs.Common.{◌≡◌, ℕ, zero, suc, ◌+◌, ◌-◌, ◌*◌, ◌<◌, ◌≤◌, Bool, cond, List, length, sym, refl, ap, ◌∙◌, le_refl, add-one, arith, le-ltb, lt-ltb}
use Rattle.octets.specs.Buffers.{◌⊞◌}
use Rattle.aes.specs.Cipher.{sub_bytes, shift_rows, mix_columns, round_key, add_round_key, rounds, cipher}
use Rattle.aes_planes.specs.Mix.{columns_of, last_of}
use Rattle.aes_planes.specs.State.{block_at, key_at}
use Rattle.aes_planes.proofs.MixLaws.{mix-block, last_block}
use Rattle.aes_planes.specs.Sub.{sub_of}
use Rattle.aes_planes.proofs.SubLaws.{substituted}
use Rattle.aes_sliced.specs.Rounds.{step_of, done_of}

module _ (s t κ : List ℕ) (n r : ℕ) (l : length s ≡ 128) (lt : length t ≡ 256) (i : ℕ) (hi : i < 32) {t' s' : List ℕ} where
  pub mixing : r < n → t' ≡ sub_of t s 4 → s' ≡ columns_of s t' κ (4 * r) 4 → block_at i s' ≡ step_of n r (key_at i κ (4 * r)) (block_at i s)
  unfolding step_of
  mixing h et es =
      ap (block_at i) (es ∙ ap (λ (x : List ℕ). columns_of s x κ (4 * r) 4) et)
      ∙ mix-block s s (sub_of t s 4) κ (4 * r) i l hi (substituted s t lt)
      ∙ sym (ap (λ (b : Bool). cond b (mix_columns (shift_rows (sub_bytes (block_at i s))) ⊞ key_at i κ (4 * r)) (shift_rows (sub_bytes (block_at i s)) ⊞ key_at i κ (4 * r))) (lt-ltb _ _ h))

  pub last : n ≤ r → t' ≡ sub_of t s 4 → s' ≡ last_of s t' κ (4 * r) 8 → block_at i s' ≡ step_of n r (key_at i κ (4 * r)) (block_at i s)
  unfolding step_of
  last h et es =
      ap (block_at i) (es ∙ ap (λ (x : List ℕ). last_of s x κ (4 * r) 8) et)
      ∙ last_block s s (sub_of t s 4) κ (4 * r) i l hi (substituted s t lt)
      ∙ sym (ap (λ (b : Bool). cond b (mix_columns (shift_rows (sub_bytes (block_at i s))) ⊞ key_at i κ (4 * r)) (shift_rows (sub_bytes (block_at i s)) ⊞ key_at i κ (4 * r))) (le-ltb _ _ h))

-- one round more
pub done-step : (w : List (List ℕ)) (n r : ℕ) (b₀ b b' k : List ℕ) → b ≡ done_of w n r b₀ → k ≡ round_key w (r + 1) → b' ≡ step_of n (r + 1) k b
    → b' ≡ done_of w n (r + 1) b₀
unfolding done_of
done-step w n r b₀ b b' k e ek f =
    f ∙ (λ i. step_of n (r + 1) (ek i) (e i)) ∙ ap (λ (m : ℕ). step_of n m (round_key w m) (done_of w n r b₀)) (add-one r) ∙ sym (ap (λ (m : ℕ). done_of w n m b₀) (add-one r))

-- ---- all rounds

done-rounds : (w : List (List ℕ)) (n : ℕ) (b : List ℕ) (r : ℕ) → r < n → done_of w n r b ≡ rounds w r b
unfolding done_of rounds step_of add_round_key
done-rounds w n b zero h = refl
done-rounds w n b (suc r) h =
    ap (λ (x : List ℕ). step_of n (suc r) (round_key w (suc r)) x) (done-rounds w n b r (omega arith))
    ∙ ap (λ (c : Bool). cond c (mix_columns (shift_rows (sub_bytes (rounds w r b))) ⊞ round_key w (suc r)) (shift_rows (sub_bytes (rounds w r b)) ⊞ round_key w (suc r))) (lt-ltb _ _ h)

pub done-cipher : (w : List (List ℕ)) (m : ℕ) (b : List ℕ) → done_of w (suc m) (suc m) (add_round_key w 0 b) ≡ cipher (suc m) w b
unfolding done_of step_of cipher add_round_key
done-cipher w m b =
    let e : suc m - 1 ≡ m = omega arith in
    ap (λ (x : List ℕ). step_of (suc m) (suc m) (round_key w (suc m)) x) (done-rounds w (suc m) (b ⊞ round_key w 0) m (omega arith))
    ∙ ap (λ (c : Bool).
    cond c (mix_columns (shift_rows (sub_bytes (rounds w m (b ⊞ round_key w 0)))) ⊞ round_key w (suc m))
    (shift_rows (sub_bytes (rounds w m (b ⊞ round_key w 0))) ⊞ round_key w (suc m))) (le-ltb (suc m) (suc m) (le_refl (suc m)))
    ∙ sym (ap (λ (q : ℕ). shift_rows (sub_bytes (rounds w q (b ⊞ round_key w 0))) ⊞ round_key w (suc m)) e)
