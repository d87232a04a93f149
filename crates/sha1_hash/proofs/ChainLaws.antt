-- Blocks one by one; a message's whole blocks and its padded rest.
-- Assumes nothing.
use Rattle.std.proofs.Common.{◌≡◌, ℕ, zero, suc, ◌+◌, ◌-◌, ◌*◌, ◌/◌, ◌%◌, ◌^◌, ◌<◌, ◌≤◌, List, ◌∷◌, ◌++◌, length, drop, replicate, sym, refl, ap, ◌∙◌, ap₂, arith, length-append, length-drop, drop_of_length-le, drop-drop, drop_at}
use lib.ListN.{length-replicate}
use lib.Seq.{drop-append-le}
use Rattle.octets.specs.Buffers.{put}
use Rattle.octets.specs.Numbers.{to_be}
use Rattle.octets.proofs.NumberLaws.{be-append, length-to_be, to_be-mod}
use Rattle.sha1_compression.specs.declared.State.{State}
use Rattle.sha1_compression.specs.Schedule.{words, block_words}
use Rattle.sha1_compression.specs.Compression.{compressed}
use Rattle.sha1_hash.specs.Hash.{zeros, padding, chain, all_blocks}
use Rattle.sha1_hash.proofs.BlockLaws.{one_block, second_block, two_blocks, length_marked}

-- ---- bytes behind whole blocks

words_append : (k : ℕ) (p q : List ℕ) → 4 * k ≤ length p → words k (p ++ q) ≡ words k p
unfolding words
words_append zero p q h = refl
words_append (suc k) p q h =
    let l : 4 ≤ length p = omega arith in
    let r : 4 * k ≤ length (drop 4 p) = omega (arith, length-drop 4 p) in
    ap₂ (λ (x : ℕ) (t : List ℕ). x ∷ t) (be-append 4 p q l)
    (ap (words k) (drop-append-le 4 p q l) ∙ words_append k (drop 4 p) q r)

-- a block b in front, and less than one
pub chain-block : (z : State) (p b q : List ℕ) → p ≡ b ++ q → length b ≡ 64
    → chain (length q / 64) (compressed z (block_words b)) q ≡ chain (length p / 64) z p
unfolding chain
chain-block z p b q e l =
    let n : length (b ++ q) / 64 ≡ suc (length q / 64) = omega (arith, length-append b q) in
    sym
    (ap (λ (p : List ℕ). chain (length p / 64) z p) e
    ∙ ap (λ (k : ℕ). chain k z (b ++ q)) n
    ∙ λ i. chain (length q / 64) (compressed z (words_append 16 b q (omega arith) i)) (drop_at b q 64 l i))

pub chain-rest : (z : State) (p : List ℕ) → length p < 64 → z ≡ chain (length p / 64) z p
unfolding chain
chain-rest z p h =
    let n : 0 ≡ length p / 64 = omega arith in
    ap (λ (k : ℕ). chain k z p) n

chain-append : (n k : ℕ) (h : State) (s q : List ℕ) → 64 * n ≤ length s
    → chain (n + k) h (s ++ q) ≡ chain k (chain n h s) (drop (64 * n) s ++ q)
unfolding chain
chain-append zero k h s q l = let e : zero + k ≡ k = omega arith in ap (λ (j : ℕ). chain j h (s ++ q)) e
chain-append (suc n) k h s q l =
    let e : suc n + k ≡ suc (n + k) = omega arith in
    let f : 64 ≤ length s = omega arith in
    let r : 64 * n ≤ length (drop 64 s) = omega (arith, length-drop 64 s) in
    let d : 64 + 64 * n ≡ 64 * suc n = omega arith in
    let h' = compressed h (block_words s) in
    ap (λ (j : ℕ). chain j h (s ++ q)) e
    ∙ ap₂ (λ (w t : List ℕ). chain (n + k) (compressed h w) t) (words_append 16 s q f) (drop-append-le 64 s q f)
    ∙ chain-append n k h' (drop 64 s) q r
    ∙ ap (λ (t : List ℕ). chain k (chain n h' (drop 64 s)) (t ++ q)) (drop-drop (64 * n) 64 s ∙ ap (λ (j : ℕ). drop j s) d)

-- whole blocks p in front of s
pub all_append : (h : State) (p s : List ℕ) → length p % 64 ≡ 0 → all_blocks h (p ++ s) ≡ all_blocks (all_blocks h p) s
unfolding all_blocks
all_append h p s e =
    let n = length p / 64 in
    let k : length (p ++ s) / 64 ≡ n + length s / 64 = omega (arith, length-append p s) in
    let l : 64 * n ≤ length p = omega arith in
    let w : length p ≤ 64 * n = omega arith in
    ap (λ (j : ℕ). chain j h (p ++ s)) k
    ∙ chain-append n (length s / 64) h p s l
    ∙ ap (chain (length s / 64) (chain n h p)) (ap (λ (t : List ℕ). t ++ s) (drop_of_length-le p w))

-- ---- the rest of a message, padded

add-mod : (a b : ℕ) → (a % 2 ^ 64 + b) % 2 ^ 64 ≡ (a + b) % 2 ^ 64
add-mod a b = omega arith

times_mod : (a : ℕ) → a % 2 ^ 64 * 2 ^ 3 % 2 ^ 64 ≡ a * 2 ^ 3 % 2 ^ 64
times_mod a = omega arith

-- the length in bits, from what is added modulo 2^64
pub in-bits : (blocks n : ℕ) {w : ℕ} → w ≡ (blocks * 2 ^ 6 % 2 ^ 64 + n) % 2 ^ 64 → w * 2 ^ 3 % 2 ^ 64 ≡ 8 * (64 * blocks + n) % 2 ^ 64
in-bits blocks n e =
    let s : (blocks * 2 ^ 6 + n) * 2 ^ 3 ≡ 8 * (64 * blocks + n) = omega arith in
    ap (λ (x : ℕ). x * 2 ^ 3 % 2 ^ 64) (e ∙ add-mod (blocks * 2 ^ 6) n) ∙ times_mod (blocks * 2 ^ 6 + n) ∙ ap (λ (x : ℕ). x % 2 ^ 64) s

rest-size : (b k : ℕ) → (64 * b + k) % 64 ≡ k - k / 64 * 64
rest-size b k = omega arith

zeros-one : (x m : ℕ) → x ≡ m → m < 56 → (119 - x) % 64 ≡ 55 - m
zeros-one x m e h = omega arith

zeros-two : (x m : ℕ) → x ≡ m → 56 ≤ m → m < 64 → (119 - x) % 64 ≡ 119 - m
zeros-two x m e l h = omega arith

length-padding : (l : ℕ) → length (padding l) ≡ zeros l + 9
unfolding padding
length-padding l =
    let z = zeros l in
    omega (arith, length-append (replicate z 0) (to_be 8 (8 * l)), length-replicate {A = ℕ} z 0, length-to_be 8 (8 * l))

-- how many blocks a padded message has: l bytes, p with the padding, m in the last block, k zeros
blocks-one : (l p m k : ℕ) → p ≡ l + (k + 9) → m ≡ l - l / 64 * 64 → k ≡ 55 - m → m < 56 → p / 64 ≡ l / 64 + 1
blocks-one l p m k ep em ek h = omega arith

blocks-two : (l p m k : ℕ) → p ≡ l + (k + 9) → m ≡ l - l / 64 * 64 → k ≡ 119 - m → m < 64 → p / 64 ≡ l / 64 + 2
blocks-two l p m k ep em ek h = omega arith

-- h the hash value behind the first blocks of a message, s what is left of it, t what is left of it behind its whole blocks
module _ (h : State) (s t : List ℕ) (blocks bits at : ℕ) {z r : State} where
  pub finish-one : bits ≡ 8 * (64 * blocks + length s) % 2 ^ 64 → at ≡ length s / 64 * 64 → length s - at < 56
      → z ≡ chain (length s / 64) h s → t ≡ drop at s
      → r ≡ compressed z (block_words (put (t ++ 0x80 ∷ replicate (63 - length t) 0) 56 (to_be 8 bits)))
      → r ≡ all_blocks h (s ++ padding (64 * blocks + length s))
  unfolding all_blocks chain padding
  finish-one eb ea lm ez et er =
      let l = 64 * blocks + length s in
      let n = length s / 64 in
      let m : length t ≡ length s - at = ap length et ∙ length-drop at s in
      let m' : length t < 56 = omega arith in
      let q : l % 64 ≡ length t = rest-size blocks (length s) ∙ ap (λ (k : ℕ). length s - k) (sym ea) ∙ sym m in
      let k : zeros l ≡ 55 - length t = zeros-one (l % 64) (length t) q m' in
      let d : at ≡ 64 * n = omega arith in
      let w : length (s ++ padding l) / 64 ≡ n + 1 = blocks-one (length s) (length (s ++ padding l)) (length t) (zeros l) (length-append s (padding l) ∙ ap (λ (j : ℕ). length s + j) (length-padding l)) (m ∙ ap (λ (j : ℕ). length s - j) ea) k m' in
      let f : 64 * n ≤ length s = omega arith in
      er
      ∙ ap (λ (b : List ℕ). compressed z (block_words b))
      (one_block t (to_be 8 bits) m' (length-to_be 8 bits)
      ∙ (λ i. t ++ 0x80 ∷ (replicate (sym k i) 0 ++ (ap (to_be 8) eb ∙ to_be-mod 8 (8 * l)) i)))
      ∙ (λ i. compressed (ez i) (block_words ((et ∙ ap (λ (j : ℕ). drop j s) d) i ++ padding l)))
      ∙ sym (ap (λ (j : ℕ). chain j h (s ++ padding l)) w ∙ chain-append n 1 h s (padding l) f)

  pub finish-two : bits ≡ 8 * (64 * blocks + length s) % 2 ^ 64 → at ≡ length s / 64 * 64 → 56 ≤ length s - at
      → z ≡ chain (length s / 64) h s → t ≡ drop at s
      → r ≡ compressed (compressed z (block_words (t ++ 0x80 ∷ replicate (63 - length t) 0))) (block_words (put (replicate 64 0) 56 (to_be 8 bits)))
      → r ≡ all_blocks h (s ++ padding (64 * blocks + length s))
  unfolding all_blocks chain padding
  finish-two eb ea lm ez et er =
      let l = 64 * blocks + length s in
      let n = length s / 64 in
      let m : length t ≡ length s - at = ap length et ∙ length-drop at s in
      let m' : 56 ≤ length t = omega arith in
      let m'' : length t < 64 = omega arith in
      let q : l % 64 ≡ length t = rest-size blocks (length s) ∙ ap (λ (k : ℕ). length s - k) (sym ea) ∙ sym m in
      let k : zeros l ≡ 119 - length t = zeros-two (l % 64) (length t) q m' m'' in
      let d : at ≡ 64 * n = omega arith in
      let w : length (s ++ padding l) / 64 ≡ n + 2 = blocks-two (length s) (length (s ++ padding l)) (length t) (zeros l) (length-append s (padding l) ∙ ap (λ (j : ℕ). length s + j) (length-padding l)) (m ∙ ap (λ (j : ℕ). length s - j) ea) k m'' in
      let f : 64 * n ≤ length s = omega arith in
      let u : 64 ≤ length (t ++ 0x80 ∷ replicate (63 - length t) 0) = omega (arith, length_marked t (63 - length t)) in
      let v : length (t ++ 0x80 ∷ replicate (63 - length t) 0) ≡ 64 = omega (arith, length_marked t (63 - length t)) in
      let b1 = t ++ 0x80 ∷ replicate (63 - length t) 0 in
      let b2 = replicate 56 0 ++ to_be 8 bits in
      let e : b1 ++ b2 ≡ t ++ padding l = sym (two_blocks t (to_be 8 bits) m' m'') ∙ (λ i. t ++ 0x80 ∷ (replicate (sym k i) 0 ++ (ap (to_be 8) eb ∙ to_be-mod 8 (8 * l)) i)) in
      er
      ∙ ap (λ (b : List ℕ). compressed (compressed z (block_words b1)) (block_words b)) (second_block (to_be 8 bits) (length-to_be 8 bits))
      ∙ sym (λ i. compressed (compressed z (words_append 16 b1 b2 u i)) (block_words (drop_at b1 b2 64 v i)))
      ∙ ap (chain 2 z) e
      ∙ (λ i. chain 2 (ez i) ((et ∙ ap (λ (j : ℕ). drop j s) d) i ++ padding l))
      ∙ sym (ap (λ (j : ℕ). chain j h (s ++ padding l)) w ∙ chain-append n 2 h s (padding l) f)
