-- Planes and words: block k is digit k of the planes, and its words stand at 4 * k.
-- Assumes nothing.
use Rattle.std.proofs.Common.{◌≡◌, ℕ, zero, suc, ◌+◌, ◌-◌, ◌*◌, ◌/◌, ◌%◌, ◌^◌, ◌<◌, ◌≤◌, List, [], ◌∷◌, length, get_or, set, sym, refl, ap, ◌∙◌, subst, ap₂, ⊎_elim, not-suc-le-zero, add-zero, div-one, add-one, arith, lit<, lit≤, length-set, get_or-set_other, get_or-set_same}
use lib.Bits.{bit_xor}
use Rattle.octets.specs.Buffers.{◌⊞◌}
use Rattle.aes_tables.specs.Field.{◌⊕◌}
use Rattle.aes_tables.specs.SBox.{bit}
use Rattle.aes.specs.Cipher.{state, add_round_key, round_key, cipher}
use Rattle.aes_circuit.proofs.Digits.{below}
use Rattle.aes_circuit.specs.Circuit.{◌⊻◌, digit_bits, byte_of, bits_of, byte_at}
use Rattle.aes_circuit.specs.Planes.{bits_from, planes, xor_bits}
use Rattle.aes_circuit.proofs.PlaneLaws.{bits-from, byte-bits, xor-planes}
use Rattle.aes_planes.specs.State.{cell, key_cell, block_at, key_at}
use Rattle.aes_turn.specs.Turn.{turn_of}
use Rattle.aes_turn.proofs.WordLaws.{bit-shr, bit-mod}
use Rattle.aes_turn.proofs.MatrixLaws.{turn-digit}
use Rattle.aes_sliced.specs.Rounds.{done_of, Keys}
use Rattle.aes_sliced.proofs.RoundsLaws.{done-cipher}
use Rattle.aes_sliced.specs.Blocks.{words_at, add_of, first_of}

-- ---- a byte of a word, from its bits

pub word_byte : (w r : ℕ) → byte_of (bits_from (λ i. bit w (8 * r + i))) ≡ w / 2 ^ (8 * r) % 256
unfolding bits_of bits_from
word_byte w r =
    ap byte_of (bits-from (λ i. bit w (8 * r + i)) (λ i. bit (w / 2 ^ (8 * r) % 256) i)
    (λ i h. sym (bit-mod (w / 2 ^ (8 * r)) 8 i h ∙ bit-shr w (8 * r) i)))
    ∙ byte-bits (w / 2 ^ (8 * r) % 256) (omega arith)

-- the cell of block k, from the bits at its planes
cell-bits : (s : List ℕ) (k r c : ℕ) → cell k s r c ≡ byte_of (bits_from (λ i. bit (get_or s (4 * (8 * r + i) + c) 0) k))
unfolding cell byte_at digit_bits planes bits_from
cell-bits s k r c =
    ap byte_of (bits-from (λ i. bit (get_or s (32 * r + c + i * 4) 0) k) (λ i. bit (get_or s (4 * (8 * r + i) + c) 0) k)
    (λ i h. let e : 32 * r + c + i * 4 ≡ 4 * (8 * r + i) + c = omega arith in ap (λ (q : ℕ). bit (get_or s q 0) k) e))

module _ (s : List ℕ) (l : length s ≡ 128) (k r c : ℕ) (hk : k < 32) (hr : r < 4) (hc : c < 4) where
  -- planes made from words, and words made from planes
  into : cell k (turn_of s) r c ≡ get_or s (4 * k + c) 0 / 2 ^ (8 * r) % 256
  into =
      cell-bits (turn_of s) k r c
      ∙ ap byte_of (bits-from _ _ (λ i h. turn-digit s l (8 * r + i) k c (omega arith) hk hc)) ∙ word_byte (get_or s (4 * k + c) 0) r

  back : get_or (turn_of s) (4 * k + c) 0 / 2 ^ (8 * r) % 256 ≡ cell k s r c
  back =
      sym (word_byte (get_or (turn_of s) (4 * k + c) 0) r)
      ∙ ap byte_of (bits-from _ _ (λ i h. turn-digit s l k (8 * r + i) c hk (omega arith) hc)) ∙ sym (cell-bits s k r c)

-- ---- a block

unfoldable pub word_cell : ℕ → List ℕ → ℕ → ℕ → ℕ
word_cell k s r c = get_or s (4 * k + c) 0 / 2 ^ (8 * r) % 256

pub words-state : (k : ℕ) (s : List ℕ) → state (word_cell k s) ≡ words_at k s
unfolding state word_cell words_at
words-state k s =
    λ i. e (div-one (z i) i) ∷ z i / 256 % 256 ∷ z i / 65536 % 256 ∷ z i / 16777216 % 256
    ∷ e (div-one (get_or s (4 * k + 1) 0) i) ∷ get_or s (4 * k + 1) 0 / 256 % 256 ∷ get_or s (4 * k + 1) 0 / 65536 % 256 ∷ get_or s (4 * k + 1) 0 / 16777216 % 256
    ∷ e (div-one (get_or s (4 * k + 2) 0) i) ∷ get_or s (4 * k + 2) 0 / 256 % 256 ∷ get_or s (4 * k + 2) 0 / 65536 % 256 ∷ get_or s (4 * k + 2) 0 / 16777216 % 256
    ∷ e (div-one (get_or s (4 * k + 3) 0) i) ∷ get_or s (4 * k + 3) 0 / 256 % 256 ∷ get_or s (4 * k + 3) 0 / 65536 % 256 ∷ get_or s (4 * k + 3) 0 / 16777216 % 256 ∷ []
  where
    e : ℕ → ℕ
    e n = n % 256

    z : get_or s (4 * k + 0) 0 ≡ get_or s (4 * k) 0
    z = ap (λ (q : ℕ). get_or s q 0) (add-zero (4 * k))

-- states are equal cell by cell
pub states : (f g : ℕ → ℕ → ℕ) → ((r c : ℕ) → r < 4 → c < 4 → f r c ≡ g r c) → state f ≡ state g
unfolding state
states f g e =
    λ i. h 0 0 (lit< tt) (lit< tt) i ∷ h 1 0 (lit< tt) (lit< tt) i ∷ h 2 0 (lit< tt) (lit< tt) i ∷ h 3 0 (lit< tt) (lit< tt) i
    ∷ h 0 1 (lit< tt) (lit< tt) i ∷ h 1 1 (lit< tt) (lit< tt) i ∷ h 2 1 (lit< tt) (lit< tt) i ∷ h 3 1 (lit< tt) (lit< tt) i
    ∷ h 0 2 (lit< tt) (lit< tt) i ∷ h 1 2 (lit< tt) (lit< tt) i ∷ h 2 2 (lit< tt) (lit< tt) i ∷ h 3 2 (lit< tt) (lit< tt) i
    ∷ h 0 3 (lit< tt) (lit< tt) i ∷ h 1 3 (lit< tt) (lit< tt) i ∷ h 2 3 (lit< tt) (lit< tt) i ∷ h 3 3 (lit< tt) (lit< tt) i ∷ []
  where
    h : (r c : ℕ) → r < 4 → c < 4 → f r c ≡ g r c
    h = e

module _ (s : List ℕ) (l : length s ≡ 128) (k : ℕ) (hk : k < 32) where
  pub turn-into : block_at k (turn_of s) ≡ words_at k s
  unfolding block_at word_cell
  turn-into = states (cell k (turn_of s)) (word_cell k s) (λ r c hr hc. into s l k r c hk hr hc) ∙ words-state k s

  pub turn-back : words_at k (turn_of s) ≡ block_at k s
  unfolding block_at word_cell
  turn-back = sym (words-state k (turn_of s)) ∙ states (word_cell k (turn_of s)) (cell k s) (λ r c hr hc. back s l k r c hk hr hc)

-- ---- the first round key

pub add_step : (s κ : List ℕ) (i j : ℕ) (u : List ℕ) → u ≡ add_of s κ i j
    → set u (4 * i + j) (bit_xor (get_or u (4 * i + j) 0) (get_or κ (60 * i + j) 0)) ≡ add_of s κ i (j + 1)
unfolding add_of ◌⊻◌
add_step s κ i j u e =
    ap (λ (v : List ℕ). set v (4 * i + j) (bit_xor (get_or v (4 * i + j) 0) (get_or κ (60 * i + j) 0))) e ∙ sym (ap (add_of s κ i) (add-one j))

pub first_step : (s κ : List ℕ) (i : ℕ) {u v : List ℕ} → u ≡ first_of s κ i → v ≡ add_of u κ i 4 → v ≡ first_of s κ (i + 1)
unfolding first_of
first_step s κ i e f = f ∙ ap (λ (x : List ℕ). add_of x κ i 4) e ∙ sym (ap (first_of s κ) (add-one i))

module _ (s κ : List ℕ) (i : ℕ) where
  length-add : (j : ℕ) → length (add_of s κ i j) ≡ length s
  unfolding add_of
  length-add zero = refl
  length-add (suc j) = length-set (add_of s κ i j) (4 * i + j) (get_or (add_of s κ i j) (4 * i + j) 0 ⊻ get_or κ (60 * i + j) 0) ∙ length-add j

  add-rest : (j q : ℕ) → ((c : ℕ) → c < j → q ≡ 4 * i + c → ⊥) → get_or (add_of s κ i j) q 0 ≡ get_or s q 0
  unfolding add_of
  add-rest zero q n = refl
  add-rest (suc j) q n =
      get_or-set_other (add_of s κ i j) (4 * i + j) q (get_or (add_of s κ i j) (4 * i + j) 0 ⊻ get_or κ (60 * i + j) 0) 0 (n j (omega arith))
      ∙ add-rest j q (λ c h. n c (omega arith))

  add_holds : (j : ℕ) → 4 * i + j ≤ length s → (c : ℕ) → c < j → get_or (add_of s κ i j) (4 * i + c) 0 ≡ get_or s (4 * i + c) 0 ⊻ get_or κ (60 * i + c) 0
  unfolding add_of
  add_holds zero hl c hc = absurd (not-suc-le-zero hc)
  add_holds (suc j) hl c hc =
      let u = add_of s κ i j in
      let lu : length u ≡ length s = length-add j in
      let v = get_or u (4 * i + j) 0 ⊻ get_or κ (60 * i + j) 0 in
      ⊎_elim
      (λ e. subst (λ (y : ℕ). get_or (set u (4 * i + j) v) (4 * i + y) 0 ≡ get_or s (4 * i + y) 0 ⊻ get_or κ (60 * i + y) 0) (sym e)
      (get_or-set_same u (4 * i + j) v 0 (omega arith) ∙ ap (λ (x : ℕ). x ⊻ get_or κ (60 * i + j) 0) (add-rest j (4 * i + j) (λ c h e. omega arith))))
      (λ h. get_or-set_other u (4 * i + j) (4 * i + c) v 0 (λ e. omega arith) ∙ add_holds j (omega arith) c h)
      (below c j hc)

module _ (s κ : List ℕ) (l : length s ≡ 128) where
  length-first : (n : ℕ) → length (first_of s κ n) ≡ 128
  unfolding first_of
  length-first zero = l
  length-first (suc n) = length-add (first_of s κ n) κ n 4 ∙ length-first n

  first_rest : (n q : ℕ) → 4 * n ≤ q → get_or (first_of s κ n) q 0 ≡ get_or s q 0
  unfolding first_of
  first_rest zero q h = refl
  first_rest (suc n) q h = add-rest (first_of s κ n) κ n 4 q (λ c hc e. omega arith) ∙ first_rest n q (omega arith)

  first_holds : (n : ℕ) → n ≤ 32 → (i c : ℕ) → i < n → c < 4 → get_or (first_of s κ n) (4 * i + c) 0 ≡ get_or s (4 * i + c) 0 ⊻ get_or κ (60 * i + c) 0
  unfolding first_of
  first_holds zero hn i c hi hc = absurd (not-suc-le-zero hi)
  first_holds (suc n) hn i c hi hc =
      let u = first_of s κ n in
      let lu : length u ≡ 128 = length-first n in
      ⊎_elim
      (λ e. subst (λ (y : ℕ). get_or (add_of u κ n 4) (4 * y + c) 0 ≡ get_or s (4 * y + c) 0 ⊻ get_or κ (60 * y + c) 0) (sym e)
      (add_holds u κ n 4 (omega arith) c hc ∙ ap (λ (x : ℕ). x ⊻ get_or κ (60 * n + c) 0) (first_rest n (4 * n + c) (omega arith))))
      (λ h. add-rest u κ n 4 (4 * i + c) (λ y hy e. omega arith) ∙ first_holds n (omega arith) i c h hc)
      (below i n hi)

  summed : (r c : ℕ) → r < 4 → c < 4 → planes 4 (first_of s κ 32) (32 * r + c) ≡ xor_bits (planes 4 s (32 * r + c)) (planes 60 κ (480 * r + (0 + c)))
  unfolding planes xor_bits bits_from
  summed r c hr hc =
      bits-from (λ i. get_or (first_of s κ 32) (32 * r + c + i * 4) 0) (λ i. get_or s (32 * r + c + i * 4) 0 ⊻ get_or κ (480 * r + (0 + c) + i * 60) 0)
      (λ i h. let e : 32 * r + c + i * 4 ≡ 4 * (8 * r + i) + c = omega arith in
      let f : 60 * (8 * r + i) + c ≡ 480 * r + (0 + c) + i * 60 = omega arith in
      ap (λ (q : ℕ). get_or (first_of s κ 32) q 0) e ∙ first_holds 32 (lit≤ tt) (8 * r + i) c (omega arith) hc
      ∙ ap₂ (λ (x y : ℕ). get_or s x 0 ⊻ get_or κ y 0) (sym e) f)

  first_cell : (k r c : ℕ) → r < 4 → c < 4 → cell k (first_of s κ 32) r c ≡ cell k s r c ⊕ key_cell k κ 0 r c
  unfolding cell key_cell
  first_cell k r c hr hc = ap (byte_at k) (summed r c hr hc) ∙ xor-planes (planes 4 s (32 * r + c)) (planes 60 κ (480 * r + (0 + c))) k

  pub first_block : (k : ℕ) → block_at k (first_of s κ 32) ≡ block_at k s ⊞ key_at k κ 0
  unfolding block_at key_at state ◌⊞◌
  first_block k = states (cell k (first_of s κ 32)) (λ r c. cell k s r c ⊕ key_cell k κ 0 r c) (λ r c hr hc. first_cell k r c hr hc)

-- ---- the whole

pub cipher-law : (s κ : List ℕ) (n : ℕ) (s1 s2 s3 s4 : List ℕ) (w : List (List ℕ)) (i : ℕ) → length s ≡ 128 → length s1 ≡ 128 → length s3 ≡ 128 → 0 < n → Keys w n κ → i < 32
    → s1 ≡ turn_of s → s2 ≡ first_of s1 κ 32 → block_at i s3 ≡ done_of w n n (block_at i s2) → s4 ≡ turn_of s3 → words_at i s4 ≡ cipher n w (words_at i s)
unfolding add_round_key
cipher-law s κ n s1 s2 s3 s4 w i l l1 l3 hn p hi e1 e2 e3 e4 =
    let e : n ≡ suc (n - 1) = omega arith in
    let k : key_at i κ 0 ≡ round_key w 0 = p.each i 0 hi (omega arith) in
    ap (words_at i) e4 ∙ turn-back s3 l3 i hi ∙ e3
    ∙ ap (done_of w n n) (ap (block_at i) e2 ∙ first_block s1 κ l1 i ∙ (λ j. (ap (block_at i) e1 ∙ turn-into s l i hi) j ⊞ k j))
    ∙ ap (λ (m : ℕ). done_of w m m (words_at i s ⊞ round_key w 0)) e ∙ done-cipher w (n - 1) (words_at i s)
    ∙ sym (ap (λ (m : ℕ). cipher m w (words_at i s)) e)
