-- The inverse cipher undoes the cipher, whatever the number of rounds and the key.
-- Assumes nothing.
use mathlib.Core.Path.{◌≡◌, refl, sym, ap, ap₂, ◌∙◌}
use mathlib.Core.List.{List, [], ◌∷◌, ◌++◌, map}
use Prim.Native.Nat.{ℕ, zero, suc, ◌+◌, ◌-◌}
use lib.ListN.{get_or}
use Rattle.octets.specs.Buffers.{Octets}
use Rattle.octets.proofs.BufferLaws.{octets-tail, xor-twice}
use Rattle.aes_tables.specs.SBox.{s_box, inv_sbox}
use Rattle.aes_tables.proofs.Substitution.{inv_sbox-s_box}
use Rattle.aes.specs.Cipher.{IsBlock, at, state, by_column, sub_bytes, shift_rows, mix_column, mix_columns, round_key, add_round_key, rounds, cipher}
use Rattle.aes.specs.KeyExpansion.{key_expansion, aes}
use Rattle.aes_inverse.specs.InvCipher.{inv_shift_rows, inv_sub_bytes, inv_mix_column, inv_mix_columns, inv_rounds, inv_cipher, inv_aes}
use Rattle.aes_inverse.proofs.MixLaws.{unmixed}
use Rattle.aes.proofs.BlockLaws.{state-at, byte_at, block-sub, block-shift, block-add, block-rounds, KeyOctets, octets-key_expansion}

-- ---- each step undone

unsubstituted : (s : List ℕ) → Octets s → map inv_sbox (map s_box s) ≡ s
unsubstituted [] p = refl
unsubstituted (x ∷ s) p = ap₂ (λ (y : ℕ) (t : List ℕ). y ∷ t) (inv_sbox-s_box x (p.octet 0)) (unsubstituted s (octets-tail p))

inv-sub : (s : List ℕ) → IsBlock s → inv_sub_bytes (sub_bytes s) ≡ s
unfolding inv_sub_bytes sub_bytes
inv-sub s b = unsubstituted s b.bytes

inv-shift : (s : List ℕ) → IsBlock s → inv_shift_rows (shift_rows s) ≡ s
unfolding inv_shift_rows shift_rows state at
inv-shift s b = sym (state-at s b.size)

-- column c of a state after MixColumns
column : List ℕ → ℕ → List ℕ
column s c = mix_column (at s 0 c) (at s 1 c) (at s 2 c) (at s 3 c)

inv-mix-column : (s : List ℕ) → Octets s → (c : ℕ)
    → inv_mix_column (get_or (column s c) 0 0) (get_or (column s c) 1 0) (get_or (column s c) 2 0) (get_or (column s c) 3 0)
    ≡ at s 0 c ∷ at s 1 c ∷ at s 2 c ∷ at s 3 c ∷ []
unfolding column mix_column
inv-mix-column s p c = let byte = byte_at p in unmixed _ _ _ _ (byte 0 c) (byte 1 c) (byte 2 c) (byte 3 c)

inv-mix : (s : List ℕ) → IsBlock s → inv_mix_columns (mix_columns s) ≡ s
unfolding inv_mix_columns mix_columns by_column mix_column column state at
inv-mix s b =
    (λ i. inv-mix-column s p 0 i ++ (inv-mix-column s p 1 i ++ (inv-mix-column s p 2 i ++ inv-mix-column s p 3 i)))
    ∙ sym (state-at s b.size)
  where
    p : Octets s
    p = b.bytes

inv-add : (w : List (List ℕ)) (r : ℕ) (s : List ℕ) → add_round_key w r (add_round_key w r s) ≡ s
unfolding add_round_key
inv-add w r s = xor-twice s (round_key w r)

-- SubBytes and ShiftRows, undone
inv-sub-shift : (s : List ℕ) → IsBlock s → inv_sub_bytes (inv_shift_rows (shift_rows (sub_bytes s))) ≡ s
inv-sub-shift s b = ap inv_sub_bytes (inv-shift (sub_bytes s) (block-sub b)) ∙ inv-sub s b

-- ---- the rounds

module _ (w : List (List ℕ)) (k : KeyOctets w) where
  inv-rounds : (n : ℕ) (s : List ℕ) → IsBlock s → inv_rounds w n (shift_rows (sub_bytes (rounds w n s))) ≡ shift_rows (sub_bytes s)
  unfolding inv_rounds rounds
  inv-rounds zero s b = refl
  inv-rounds (suc n) s b =
      let t = shift_rows (sub_bytes (rounds w n s)) in
      ap (λ (x : List ℕ). inv_rounds w n (inv_mix_columns (add_round_key w (suc n) x)))
      (inv-sub-shift (rounds w (suc n) s) (block-rounds k (suc n) b))
      ∙ ap (λ (x : List ℕ). inv_rounds w n (inv_mix_columns x)) (inv-add w (suc n) (mix_columns t))
      ∙ ap (inv_rounds w n) (inv-mix t (block-shift (block-sub (block-rounds k n b))))
      ∙ inv-rounds n s b

  -- INVCIPHER(CIPHER(in, Nr, w), Nr, w) = in
  pub inv-cipher-undoes : (nr : ℕ) (s : List ℕ) → IsBlock s → inv_cipher nr w (cipher nr w s) ≡ s
  unfolding inv_cipher cipher
  inv-cipher-undoes nr s b =
      let b₀ = block-add k 0 b in
      ap (λ (x : List ℕ). add_round_key w 0 (inv_sub_bytes (inv_shift_rows (inv_rounds w (nr - 1) x))))
      (inv-add w nr (shift_rows (sub_bytes (rounds w (nr - 1) (add_round_key w 0 s)))))
      ∙ ap (λ (x : List ℕ). add_round_key w 0 (inv_sub_bytes (inv_shift_rows x))) (inv-rounds (nr - 1) (add_round_key w 0 s) b₀)
      ∙ ap (add_round_key w 0) (inv-sub-shift (add_round_key w 0 s) b₀)
      ∙ inv-add w 0 s

-- the same under a key: every block encrypted, then decrypted, is itself
pub inv-aes-undoes : (nk : ℕ) (key s : List ℕ) → Octets key → IsBlock s → inv_aes nk key (aes nk key s) ≡ s
unfolding inv_aes aes
inv-aes-undoes nk key s p b = inv-cipher-undoes (key_expansion nk key) (octets-key_expansion nk key p) (nk + 6) s b
