-- The masks hold the expanded key, for every block.
-- Assumes nothing.
use Rattle.std.proofs.Common.{◌≡◌, ℕ, zero, suc, ◌+◌, ◌-◌, ◌*◌, ◌/◌, ◌%◌, ◌^◌, ◌<◌, ◌≤◌, cond, eqb, List, map, length, get_or, set, sym, refl, ap, ◌∙◌, subst, ⊎_elim, not-suc-le-zero, add-one, arith, lit≤, eqb→eq, length-set, get_or-set_other, get_or-set_same}
use Rattle.octets.proofs.Table.{at_each}
use Rattle.aes_tables.specs.SBox.{bit}
use Rattle.aes.specs.Words.{bytes}
use Rattle.aes.proofs.RoundLaws.{round-key-law}
use Rattle.aes_circuit.specs.Circuit.{digit_bits, byte_of, byte_at}
use Rattle.aes_circuit.specs.Planes.{bits_from, planes}
use Rattle.aes_circuit.proofs.Digits.{below, bit-ones}
use Rattle.aes_circuit.proofs.PlaneLaws.{bits-from}
use Rattle.aes_planes.specs.State.{key_cell, key_at}
use Rattle.aes_sliced.specs.Rounds.{Keys}
use Rattle.aes_sliced.specs.Blocks.{words_at}
use Rattle.aes_sliced.proofs.BlockLaws.{word_cell, words-state, states, word_byte}
use Rattle.aes_sliced.specs.Masks.{mask_word, mask_bit_of, masks_of}

pub bit-step : (κ₀ w : List ℕ) (b n : ℕ) (u : List ℕ) {v : ℕ} → u ≡ mask_bit_of κ₀ w b n → v ≡ mask_word (get_or w n 0) b
    → set u (60 * b + n) v ≡ mask_bit_of κ₀ w b (n + 1)
unfolding mask_bit_of
bit-step κ₀ w b n u e f = (λ i. set (e i) (60 * b + n) (f i)) ∙ sym (ap (mask_bit_of κ₀ w b) (add-one n))

pub masks-step : (κ₀ w : List ℕ) (n b : ℕ) {u v : List ℕ} → u ≡ masks_of κ₀ w n b → v ≡ mask_bit_of u w b n → v ≡ masks_of κ₀ w n (b + 1)
unfolding masks_of
masks-step κ₀ w n b e f = f ∙ ap (λ (x : List ℕ). mask_bit_of x w b n) e ∙ sym (ap (masks_of κ₀ w n) (add-one b))

-- ---- a mask

zero_bit : (k : ℕ) → k < 32 → bit 0 k ≡ 0
unfolding bit
zero_bit k h = eqb→eq _ _ (at_each 32 (λ n. eqb (0 / 2 ^ n % 2) 0) tt k h)

mask-digit : (x b k : ℕ) → k < 32 → bit (mask_word x b) k ≡ bit x b
unfolding mask_word bit
mask-digit x b k h = go (x / 2 ^ b % 2) (omega arith)
  where
    go : (y : ℕ) → y < 2 → bit (cond (eqb y 0) 0 0xffffffff) k ≡ y
    go zero hy = zero_bit k h
    go (suc zero) hy = bit-ones k h
    go (suc (suc y)) hy = absurd (omega arith)

-- ---- where the masks stand

module _ (κ w : List ℕ) (b : ℕ) where
  length-bit : (n : ℕ) → length (mask_bit_of κ w b n) ≡ length κ
  unfolding mask_bit_of
  length-bit zero = refl
  length-bit (suc n) = length-set (mask_bit_of κ w b n) (60 * b + n) (mask_word (get_or w n 0) b) ∙ length-bit n

  bit-rest : (n q : ℕ) → ((i : ℕ) → i < n → q ≡ 60 * b + i → ⊥) → get_or (mask_bit_of κ w b n) q 0 ≡ get_or κ q 0
  unfolding mask_bit_of
  bit-rest zero q f = refl
  bit-rest (suc n) q f =
      get_or-set_other (mask_bit_of κ w b n) (60 * b + n) q (mask_word (get_or w n 0) b) 0 (f n (omega arith)) ∙ bit-rest n q (λ i h. f i (omega arith))

  bit-holds : (n : ℕ) → 60 * b + n ≤ length κ → (i : ℕ) → i < n → get_or (mask_bit_of κ w b n) (60 * b + i) 0 ≡ mask_word (get_or w i 0) b
  unfolding mask_bit_of
  bit-holds zero hl i hi = absurd (not-suc-le-zero hi)
  bit-holds (suc n) hl i hi =
      let u = mask_bit_of κ w b n in
      let lu : length u ≡ length κ = length-bit n in
      let v = mask_word (get_or w n 0) b in
      ⊎_elim
      (λ e. subst (λ (y : ℕ). get_or (set u (60 * b + n) v) (60 * b + y) 0 ≡ mask_word (get_or w y 0) b) (sym e) (get_or-set_same u (60 * b + n) v 0 (omega arith)))
      (λ h. get_or-set_other u (60 * b + n) (60 * b + i) v 0 (λ e. omega arith) ∙ bit-holds n (omega arith) i h)
      (below i n hi)

module _ (κ w : List ℕ) (n : ℕ) (l : length κ ≡ 1920) (hn : n ≤ 60) where
  length-masks : (b : ℕ) → length (masks_of κ w n b) ≡ 1920
  unfolding masks_of
  length-masks zero = l
  length-masks (suc b) = length-bit (masks_of κ w n b) w b n ∙ length-masks b

  masks-hold : (b : ℕ) → b ≤ 32 → (a i : ℕ) → a < b → i < n → get_or (masks_of κ w n b) (60 * a + i) 0 ≡ mask_word (get_or w i 0) a
  unfolding masks_of
  masks-hold zero hb a i ha hi = absurd (not-suc-le-zero ha)
  masks-hold (suc b) hb a i ha hi =
      let u = masks_of κ w n b in
      let lu : length u ≡ 1920 = length-masks b in
      ⊎_elim
      (λ e. subst (λ (y : ℕ). get_or (mask_bit_of u w b n) (60 * y + i) 0 ≡ mask_word (get_or w i 0) y) (sym e) (bit-holds u w b n (omega arith) i hi))
      (λ h. bit-rest u w b n (60 * a + i) (λ y hy e. omega arith) ∙ masks-hold b (omega arith) a i h hi)
      (below a b ha)

  -- ---- the round keys

  key-cell : (k r c m : ℕ) → k < 32 → r < 4 → m + c < n → key_cell k (masks_of κ w n 32) m r c ≡ get_or w (m + c) 0 / 2 ^ (8 * r) % 256
  unfolding key_cell byte_at digit_bits planes bits_from
  key-cell k r c m hk hr hm =
      ap byte_of (bits-from (λ i. bit (get_or (masks_of κ w n 32) (480 * r + (m + c) + i * 60) 0) k) (λ i. bit (get_or w (m + c) 0) (8 * r + i))
      (λ i h. let e : 480 * r + (m + c) + i * 60 ≡ 60 * (8 * r + i) + (m + c) = omega arith in
      ap (λ (q : ℕ). bit (get_or (masks_of κ w n 32) q 0) k) e
      ∙ ap (λ (x : ℕ). bit x k) (masks-hold 32 (lit≤ tt) (8 * r + i) (m + c) (omega arith) hm) ∙ mask-digit (get_or w (m + c) 0) (8 * r + i) k hk))
      ∙ word_byte (get_or w (m + c) 0) r

pub masks-keys : (κ w : List ℕ) (n : ℕ) → length κ ≡ 1920 → n < 15 → Keys (map bytes w) n (masks_of κ w (4 * n + 4) 32)
unfolding key_at word_cell words_at
masks-keys κ w n l hn =
    record {
      each = λ k r hk hr.
          states (key_cell k (masks_of κ w (4 * n + 4) 32) (4 * r)) (word_cell r w)
          (λ row c hrow hc. key-cell κ w (4 * n + 4) l (omega arith) k row c (4 * r) hk hrow (omega arith))
          ∙ words-state r w ∙ round-key-law w r;
    }

-- 0 less a bit, modulo 2^32
pub mask-law : (x b : ℕ) → (0 + (2 ^ 32 - x / 2 ^ b % 2)) % 2 ^ 32 ≡ mask_word x b
unfolding mask_word
mask-law x b = go (x / 2 ^ b % 2) (omega arith)
  where
    go : (y : ℕ) → y < 2 → (0 + (2 ^ 32 - y)) % 2 ^ 32 ≡ cond (eqb y 0) 0 0xffffffff
    go zero hy = omega arith
    go (suc zero) hy = omega arith
    go (suc (suc y)) hy = absurd (omega arith)
