-- GCTR block by block, in place; that it keeps the length and undoes itself; AES in counter mode.
-- Assumes nothing.
use Rattle.std.proofs.Common.{◌≡◌, ℕ, zero, suc, ◌+◌, ◌-◌, ◌*◌, ◌/◌, ◌%◌, ◌^◌, ◌<◌, ◌≤◌, min, Bool, true, false, cond, ◌⊎◌, List, [], ◌∷◌, ◌++◌, map, length, take, drop, sym, refl, ap, ◌∙◌, subst, ap₂, inl, inr, append_assoc, append-nil, mod-lt, arith, lit<, length-append, length-drop, take-append-drop, drop_of_length-le, length-take, take_all, drop-drop, take_at, drop_at}
use native.Mathlib.Decide.{dec_le}
use Rattle.octets.specs.Buffers.{block_count, put, ◌⊞◌}
use Rattle.octets.proofs.BufferLaws.{length-xor, xor-twice, length-put, take-put-min, drop-put-min}
use Rattle.octets.specs.Numbers.{to_be}
use Rattle.aes.specs.KeyExpansion.{key_expansion}
use Rattle.aes.specs.Keyed.{nk_of, lawful}
use Rattle.aes.specs.Words.{bytes}
use Rattle.aes.proofs.KeyedLaws.{cipher-aes}
use Rattle.ctr.proofs.CounterLaws.{counter_next}
use Rattle.ctr.specs.Kept.{Kept}
use Rattle.ctr.specs.Gctr.{inc32, gctr_blocks, gctr, ciph_at, aes_block, counter_block, aes_ctr}

-- ---- one block more

-- the text o, of which the first `at` bytes are done, before and after the block at `at`
module _ (ciph : ℕ → List ℕ) (s o : List ℕ) (at cb : ℕ) (within : at ≤ length o) (rest : drop at o ≡ drop at s) where
  block : List ℕ
  block = take 16 (drop at o) ⊞ ciph cb

  length-block : length block ≡ min 16 (length o - at)
  unfolding block
  length-block = length-xor (take 16 (drop at o)) (ciph cb) ∙ length-take 16 (drop at o) ∙ ap (min 16) (length-drop at o)

  pub next-length : length (put o at (take 16 (drop at o) ⊞ ciph cb)) ≡ length o
  unfolding block
  next-length = length-put o at block (omega (arith, length-block))

  pub next-rest : drop (at + 16) (put o at (take 16 (drop at o) ⊞ ciph cb)) ≡ drop (at + 16) s
  unfolding block
  next-rest = drop-put-min o at 16 block within length-block ∙ sym (drop-drop 16 at o) ∙ ap (drop 16) rest ∙ drop-drop 16 at s

  pub next-done : (m : ℕ) (e : List ℕ) → take at o ++ gctr_blocks ciph (suc m) cb (drop at s) ≡ e
      → take (at + 16) (put o at (take 16 (drop at o) ⊞ ciph cb)) ++ gctr_blocks ciph m (inc32 cb) (drop (at + 16) s) ≡ e
  unfolding block gctr_blocks
  next-done m e h =
      ap₂ (λ (x y : List ℕ). x ++ gctr_blocks ciph m (inc32 cb) y) (take-put-min o at 16 block within length-block) (sym (drop-drop 16 at s))
      ∙ append_assoc (take at o) block (gctr_blocks ciph m (inc32 cb) (drop 16 (drop at s)))
      ∙ ap (λ (t : List ℕ). take at o ++ ((take 16 t ⊞ ciph cb) ++ gctr_blocks ciph m (inc32 cb) (drop 16 (drop at s)))) rest
      ∙ h

module _ (ciph : ℕ → List ℕ) (nonce : List ℕ) (counter : ℕ) (s : List ℕ) where
  pub kept-none : counter < 2 ^ 32 → Kept ciph nonce counter s s counter 0
  unfolding gctr
  kept-none l =
      let all : block_count s - 0 ≡ block_count s = omega arith in
      record {
        within = omega arith;
        size = refl;
        fits = l;
        rest = refl;
        done = ap (λ (m : ℕ). gctr_blocks ciph m (counter_block nonce counter) s) all;
      }

  pub kept_more : (o p : List ℕ) (c e i : ℕ) → i < block_count s → Kept ciph nonce counter s o c i
      → p ≡ put o (16 * i) (take 16 (drop (16 * i) o) ⊞ ciph (counter_block nonce c)) → e ≡ (c + 1) % 2 ^ 32 → Kept ciph nonce counter s p e (i + 1)
  kept_more o p c e i l v q n =
      let cb = counter_block nonce c in
      let at : 16 * (i + 1) ≡ 16 * i + 16 = omega arith in
      let left : block_count s - i ≡ suc (block_count s - (i + 1)) = omega arith in
      let z = v.size in
      let in-text : 16 * i ≤ length o = omega (arith, z) in
      let next = counter_next nonce c v.fits ∙ ap (counter_block nonce) (sym n) in
      record {
        within = omega arith;
        size = ap length q ∙ next-length ciph s o (16 * i) cb in-text v.rest ∙ v.size;
        fits = subst (λ (x : ℕ). x < 2 ^ 32) (sym n) (mod-lt (c + 1) (lit< tt));
        rest = ap₂ drop at q ∙ next-rest ciph s o (16 * i) cb in-text v.rest ∙ ap (λ (x : ℕ). drop x s) (sym at);
        done =
            (λ j. take (at j) (q j) ++ gctr_blocks ciph (block_count s - (i + 1)) (sym next j) (drop (at j) s))
            ∙ next-done ciph s o (16 * i) cb in-text v.rest _ _
            (ap (λ (m : ℕ). take (16 * i) o ++ gctr_blocks ciph m cb (drop (16 * i) s)) (sym left) ∙ v.done);
      }

  pub kept-all : (o : List ℕ) (c i : ℕ) → block_count s ≤ i → Kept ciph nonce counter s o c i → o ≡ gctr ciph (counter_block nonce counter) s
  unfolding gctr_blocks
  kept-all o c i l v =
      let z = v.size in
      let none : block_count s - i ≡ 0 = omega arith in
      let all : length o ≤ 16 * i = omega (arith, z) in
      sym (take_all (16 * i) o all) ∙ sym (append-nil (take (16 * i) o))
      ∙ ap (λ (m : ℕ). take (16 * i) o ++ gctr_blocks ciph m (counter_block nonce c) (drop (16 * i) s)) (sym none)
      ∙ v.done

-- ---- GCTR keeps the length, and undoes itself

empty : (s : List ℕ) → length s ≡ 0 → s ≡ []
empty [] e = refl
empty (a ∷ s) e = absurd (omega arith)

module _ (ciph : ℕ → List ℕ) where
  length-first : (cb : ℕ) (s : List ℕ) → length (take 16 s ⊞ ciph cb) ≡ min 16 (length s)
  length-first cb s = length-xor (take 16 s) (ciph cb) ∙ length-take 16 s

  length-gctr_blocks : (n cb : ℕ) (s : List ℕ) → length s ≤ 16 * n → length (gctr_blocks ciph n cb s) ≡ length s
  unfolding gctr_blocks
  length-gctr_blocks zero cb s h = omega arith
  length-gctr_blocks (suc n) cb s h =
      length-append (take 16 s ⊞ ciph cb) (gctr_blocks ciph n (inc32 cb) (drop 16 s))
      ∙ omega (arith, length-first cb s, length-gctr_blocks n (inc32 cb) (drop 16 s) (omega (arith, length-drop 16 s)), length-drop 16 s)

  -- the first block of the output and those behind it: a is whole, or b is empty
  parts : (a b : List ℕ) → length a ≤ 16 → (16 ≤ length a) ⊎ (b ≡ []) → (take 16 (a ++ b) ≡ a) × (drop 16 (a ++ b) ≡ b)
  parts a b h (inl l) = (take_at a b 16 (omega arith), drop_at a b 16 (omega arith))
  parts a b h (inr e) =
      let n : a ++ b ≡ a = ap (λ (t : List ℕ). a ++ t) e ∙ append-nil a in
      (ap (take 16) n ∙ take_all 16 a h, ap (drop 16) n ∙ drop_of_length-le a h ∙ sym e)

  whole-or-last : (n cb : ℕ) (s : List ℕ) → length s ≤ 16 * suc n
      → (16 ≤ length (take 16 s ⊞ ciph cb)) ⊎ (gctr_blocks ciph n (inc32 cb) (drop 16 s) ≡ [])
  whole-or-last n cb s h = pick (dec_le 16 (length s))
    where
      pick : Dec (16 ≤ length s) → (16 ≤ length (take 16 s ⊞ ciph cb)) ⊎ (gctr_blocks ciph n (inc32 cb) (drop 16 s) ≡ [])
      pick (yes l) = inl (omega (arith, length-first cb s))
      pick (no f) =
          inr
          (empty (gctr_blocks ciph n (inc32 cb) (drop 16 s))
          (omega (arith, length-gctr_blocks n (inc32 cb) (drop 16 s) (omega (arith, length-drop 16 s)), length-drop 16 s)))

  gctr_blocks-twice : (n cb : ℕ) (s : List ℕ) → length s ≤ 16 * n → gctr_blocks ciph n cb (gctr_blocks ciph n cb s) ≡ s
  unfolding gctr_blocks
  gctr_blocks-twice zero cb s h = sym (empty s (omega arith))
  gctr_blocks-twice (suc n) cb s h =
      let a = take 16 s ⊞ ciph cb in
      let p = parts a (gctr_blocks ciph n (inc32 cb) (drop 16 s)) (omega (arith, length-first cb s)) (whole-or-last n cb s h) in
      ap₂ (λ (x y : List ℕ). (x ⊞ ciph cb) ++ gctr_blocks ciph n (inc32 cb) y) p.0 p.1
      ∙ ap₂ (λ (x y : List ℕ). x ++ y) (xor-twice (take 16 s) (ciph cb))
      (gctr_blocks-twice n (inc32 cb) (drop 16 s) (omega (arith, length-drop 16 s)))
      ∙ take-append-drop 16 s

  pub length-gctr : (icb : ℕ) (s : List ℕ) → length (gctr ciph icb s) ≡ length s
  unfolding gctr
  length-gctr icb s = length-gctr_blocks (block_count s) icb s (omega arith)

  pub gctr-twice : (icb : ℕ) (s : List ℕ) → gctr ciph icb (gctr ciph icb s) ≡ s
  unfolding gctr
  gctr-twice icb s =
      ap (λ (n : ℕ). gctr_blocks ciph ((n + 15) / 16) icb (gctr_blocks ciph (block_count s) icb s)) (length-gctr_blocks (block_count s) icb s (omega arith))
      ∙ gctr_blocks-twice (block_count s) icb s (omega arith)

-- ---- AES in counter mode

-- CIPH_K at the words that the key expansion left is AES under the key
pub ciph-aes : (nk : ℕ) (key w : List ℕ) → map bytes (take (4 * nk + 28) w) ≡ key_expansion nk key → ciph_at (nk + 6) w ≡ aes_block nk key
unfolding aes_block
ciph-aes nk key w e = λ i x. cipher-aes nk key w e (to_be 16 x) i

module _ (key nonce : List ℕ) (c : ℕ) (s : List ℕ) where
  pub ctr-refused : lawful 12 key nonce ≡ false → s ≡ aes_ctr key nonce c s
  unfolding aes_ctr
  ctr-refused e = sym (ap (λ (b : Bool). cond b (gctr (aes_block (nk_of (length key)) key) (counter_block nonce c) s) s) e)

  pub ctr-done : lawful 12 key nonce ≡ true → (o : List ℕ) (nk : ℕ) (w m : List ℕ) → nk ≡ nk_of (length key)
      → map bytes (take (4 * nk + 28) w) ≡ key_expansion nk key → m ≡ nonce
      → o ≡ gctr (ciph_at (nk + 6) w) (counter_block m c) s → o ≡ aes_ctr key nonce c s
  unfolding aes_ctr
  ctr-done e o nk w m en ew em eo =
      eo ∙ (λ i. gctr (ciph-aes nk key w ew i) (counter_block (em i) c) s) ∙ (λ i. gctr (aes_block (en i) key) (counter_block nonce c) s)
      ∙ sym (ap (λ (b : Bool). cond b (gctr (aes_block (nk_of (length key)) key) (counter_block nonce c) s) s) e)
