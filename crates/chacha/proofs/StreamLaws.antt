-- The key stream and what is encrypted with it: lengths, that encryption undoes itself, and a text encrypted in parts.
-- Assumes nothing.
use Rattle.std.proofs.Common.{◌≡◌, ℕ, suc, ◌+◌, ◌-◌, ◌*◌, ◌/◌, ◌%◌, ◌^◌, ◌<◌, ◌≤◌, min, List, [], ◌∷◌, ◌++◌, map, length, take, drop, sym, refl, ap, ◌∙◌, ap₂, append_assoc, append-nil, add-zero, mod-eq_of_lt, arith, length-drop, drop_of_length-le, take_at, drop_at}
use native.Mathlib.Decide.{dec_le}
use lib.Bits.{bit_xor}
use lib.Seq.{take-nil, drop-nil, take-append-le}
use Rattle.octets.specs.Buffers.{put, ◌⊞◌}
use Rattle.octets.proofs.BufferLaws.{length-xor, xor-twice, xor-none, xor_all, put_whole}
use Rattle.chacha.specs.Words.{word}
use Rattle.chacha.specs.ChaCha.{doubles, initial, counted, block_of, key_block, joined, key_stream, stream, ends, hchacha}
use Rattle.chacha.specs.Lanes.{numbered, blocks_of}
use Rattle.chacha.proofs.WordLaws.{length-bytes}
use Rattle.chacha.proofs.BlockLaws.{length-block_of, length-joined, joined-add, joined-one, joined_same}

-- ---- lengths

pub length-key_block : (n : ℕ) (key : List ℕ) (counter : ℕ) (nonce : List ℕ) → length (key_block n key counter nonce) ≡ 64
unfolding key_block
length-key_block n key counter nonce = length-block_of n (counted key counter nonce)

pub length-hchacha : (n : ℕ) (key nonce : List ℕ) → length (hchacha n key nonce) ≡ 32
unfolding hchacha ends
length-hchacha n key nonce = length-bytes (ends (doubles n (initial key (map (word nonce) (0 ∷ 1 ∷ 2 ∷ 3 ∷ [])))))

pub length-key_stream : (n : ℕ) (key : List ℕ) (counter : ℕ) (nonce : List ℕ) (m : ℕ) → length (key_stream n key counter nonce m) ≡ 64 * m
unfolding key_stream
length-key_stream n key counter nonce m = length-joined (λ (c : ℕ). key_block n key c nonce) (λ c. length-key_block n key c nonce) counter m

pub length-stream : (n : ℕ) (key : List ℕ) (counter : ℕ) (nonce s : List ℕ) → length (stream n key counter nonce s) ≡ length s
unfolding stream
length-stream n key counter nonce s = length-xor s (key_stream n key counter nonce ((length s + 63) / 64))

-- ---- there and back

pub stream-back : (n : ℕ) (key : List ℕ) (counter : ℕ) (nonce s : List ℕ)
    → stream n key counter nonce (stream n key counter nonce s) ≡ s
unfolding stream
stream-back n key counter nonce s =
    ap (λ (l : ℕ). stream n key counter nonce s ⊞ key_stream n key counter nonce ((l + 63) / 64)) (length-stream n key counter nonce s)
    ∙ xor-twice s (key_stream n key counter nonce ((length s + 63) / 64))

-- ---- the counter

-- it counts modulo 2^32
key_block-mod : (n : ℕ) (key : List ℕ) (c d : ℕ) (nonce : List ℕ) → c % 2 ^ 32 ≡ d % 2 ^ 32 → key_block n key c nonce ≡ key_block n key d nonce
unfolding key_block counted
key_block-mod n key c d nonce e =
    ap (λ (x : ℕ). block_of n (initial key (x ∷ word nonce 0 ∷ word nonce 1 ∷ word nonce 2 ∷ []))) e

key_stream-mod : (n : ℕ) (key : List ℕ) (c d : ℕ) (nonce : List ℕ) (m : ℕ) → c % 2 ^ 32 ≡ d % 2 ^ 32
    → key_stream n key c nonce m ≡ key_stream n key d nonce m
unfolding key_stream
key_stream-mod n key c d nonce m e =
    joined_same (λ (x : ℕ). key_block n key x nonce) (λ (x : ℕ). key_block n key x nonce) c d m
    (λ j h. key_block-mod n key (c + j) (d + j) nonce (omega arith))

-- the blocks of a state with another counter
pub blocks-stream : (n : ℕ) (key : List ℕ) (counter : ℕ) (nonce : List ℕ) (c m : ℕ)
    → blocks_of n (counted key counter nonce) c m ≡ key_stream n key c nonce m
unfolding key_stream key_block counted initial numbered
blocks-stream n key counter nonce c m = refl

-- a + b blocks are a of them, and b from there on
key_stream-add : (n : ℕ) (key : List ℕ) (counter : ℕ) (nonce : List ℕ) (a b : ℕ)
    → key_stream n key counter nonce (a + b) ≡ key_stream n key counter nonce a ++ key_stream n key (counter + a) nonce b
unfolding key_stream
key_stream-add n key counter nonce a b = joined-add (λ (c : ℕ). key_block n key c nonce) counter a b

pub key_stream-one : (n : ℕ) (key : List ℕ) (counter : ℕ) (nonce : List ℕ) → key_stream n key counter nonce 1 ≡ key_block n key counter nonce
unfolding key_stream
key_stream-one n key counter nonce = joined-one (λ (c : ℕ). key_block n key c nonce) counter

-- a buffer that is filled with them
pub filled : (n : ℕ) (key : List ℕ) (counter : ℕ) (nonce : List ℕ) (c m : ℕ) (d o s : List ℕ) → length d ≡ 64 * m → s ≡ counted key counter nonce
    → o ≡ put d 0 (blocks_of n s c m) → o ≡ key_stream n key c nonce m
filled n key counter nonce c m d o s h es eo =
    eo ∙ ap (λ (t : List ℕ). put d 0 (blocks_of n t c m)) es ∙ ap (put d 0) (blocks-stream n key counter nonce c m)
    ∙ put_whole d (key_stream n key c nonce m) (omega (arith, length-key_stream n key c nonce m))

-- ---- exclusive or with one string behind another

xor-front : (s k b : List ℕ) → s ⊞ (k ++ b) ≡ take (length k) (s ⊞ k) ++ (drop (length k) s ⊞ b)
unfolding ◌⊞◌
xor-front [] k b = sym (ap₂ (λ (x y : List ℕ). x ++ (y ⊞ b)) (take-nil (length k)) (drop-nil (length k)))
xor-front (a ∷ s) [] b = refl
xor-front (a ∷ s) (x ∷ k) b = ap (λ (t : List ℕ). bit_xor a x ∷ t) (xor-front s k b)

drop-xor : (s k : List ℕ) → drop (length k) (s ⊞ k) ≡ drop (length k) s
unfolding ◌⊞◌
drop-xor [] k = refl
drop-xor (a ∷ s) [] = refl
drop-xor (a ∷ s) (x ∷ k) = drop-xor s k

-- k into s, and then b from where k ended
xor-behind : (s k b : List ℕ) → put (s ⊞ k) (length k) (drop (length k) (s ⊞ k) ⊞ b) ≡ s ⊞ (k ++ b)
unfolding put
xor-behind s k b =
    let t = drop (length k) (s ⊞ k) ⊞ b in
    let past : length (s ⊞ k) ≤ length k + length t = omega (arith, length-xor (drop (length k) (s ⊞ k)) b, length-drop (length k) (s ⊞ k)) in
    ap (λ (r : List ℕ). take (length k) (s ⊞ k) ++ t ++ r) (drop_of_length-le (s ⊞ k) past) ∙ append-nil (take (length k) (s ⊞ k) ++ t)
    ∙ ap (λ (r : List ℕ). take (length k) (s ⊞ k) ++ (r ⊞ b)) (drop-xor s k)
    ∙ sym (xor-front s k b)

-- what lies behind the text's end does not show
xor-over : (s k b : List ℕ) → length s ≤ length k → s ⊞ (k ++ b) ≡ s ⊞ k
xor-over s k b h = sym (xor_all s (k ++ b) (length k) (omega arith)) ∙ ap (λ (t : List ℕ). s ⊞ t) (take_at k b (length k) refl)

empty : (t : List ℕ) → length t ≡ 0 → t ≡ []
empty [] e = refl
empty (a ∷ t) e = absurd (omega arith)

-- what is empty wherever it could show
xor-either : (s g b k : List ℕ) → (length g < length s → (length b ≡ 0) × (length k ≡ 0)) → s ⊞ (g ++ b) ≡ s ⊞ (g ++ k)
xor-either s g b k h = pick (dec_le (length s) (length g))
  where
    pick : Dec (length s ≤ length g) → s ⊞ (g ++ b) ≡ s ⊞ (g ++ k)
    pick (yes d) = xor-over s g b d ∙ sym (xor-over s g k d)
    pick (no d) =
        let z = h (omega arith) in
        ap (λ (t : List ℕ). s ⊞ (g ++ t)) (empty b z.0 ∙ sym (empty k z.1))

module _ (n : ℕ) (key : List ℕ) (counter : ℕ) (nonce s : List ℕ) where
  -- more blocks than the text needs
  pub stream-over : (m : ℕ) → length s ≤ 64 * m → s ⊞ key_stream n key counter nonce m ≡ stream n key counter nonce s
  unfolding stream
  stream-over m h =
      let a = (length s + 63) / 64 in
      let e : m ≡ a + (m - a) = omega arith in
      let l : length s ≤ length (key_stream n key counter nonce a) = omega (arith, length-key_stream n key counter nonce a) in
      ap (λ (x : ℕ). s ⊞ key_stream n key counter nonce x) e
      ∙ ap (λ (t : List ℕ). s ⊞ t) (key_stream-add n key counter nonce a (m - a))
      ∙ xor-over s (key_stream n key counter nonce a) (key_stream n key (counter + a) nonce (m - a)) l

-- ---- a text encrypted in two parts, with m blocks and with those behind them

pub first-bytes : (n : ℕ) (key : List ℕ) (counter : ℕ) (nonce : List ℕ) (m k : ℕ) → k ≤ 64
    → take k (key_stream n key counter nonce (suc m)) ≡ take k (key_block n key counter nonce)
unfolding key_stream joined
first-bytes n key counter nonce m k h = take-append-le k (key_block n key counter nonce) _ (omega (arith, length-key_block n key counter nonce))

pub behind-first : (n : ℕ) (key : List ℕ) (counter : ℕ) (nonce : List ℕ) (m : ℕ)
    → drop 64 (key_stream n key counter nonce (suc m)) ≡ key_stream n key (suc counter) nonce m
unfolding key_stream joined
behind-first n key counter nonce m = drop_at (key_block n key counter nonce) _ 64 (length-key_block n key counter nonce)

module _ (n : ℕ) (key : List ℕ) (counter : ℕ) (nonce s : List ℕ) (m : ℕ) (o : List ℕ) (eo : o ≡ s ⊞ key_stream n key counter nonce m) where
  pub in_one : length o ≤ 64 * m → o ≡ stream n key counter nonce s
  in_one h = eo ∙ stream-over n key counter nonce s m (omega (arith, ap length eo, length-xor s (key_stream n key counter nonce m)))

  pub in_two : (p : List ℕ) → p ≡ put o (64 * m) (stream n key (counter + m) nonce (drop (64 * m) o)) → p ≡ stream n key counter nonce s
  unfolding stream
  in_two p ep =
      let k = key_stream n key counter nonce m in
      let a = (length (drop (64 * m) o) + 63) / 64 in
      let at : 64 * m ≡ length k = sym (length-key_stream n key counter nonce m) in
      let all : length s ≤ 64 * (m + a) = omega (arith, length-drop (64 * m) o, ap length eo, length-xor s k) in
      ep ∙ (λ i. put (eo i) (at i) (drop (at i) (eo i) ⊞ key_stream n key (counter + m) nonce a))
      ∙ xor-behind s k (key_stream n key (counter + m) nonce a)
      ∙ ap (λ (x : List ℕ). s ⊞ x) (sym (key_stream-add n key counter nonce m a))
      ∙ stream-over n key counter nonce s (m + a) all

-- ---- a text encrypted four blocks at a time

-- the first m blocks of s are done in the text o, and c is the counter of the next one
pub record Kept (n : ℕ) (key : List ℕ) (counter : ℕ) (nonce s o : List ℕ) (c m : ℕ) : Type 0 where
  pub count : c ≡ (counter + m) % 2 ^ 32
  pub done : o ≡ s ⊞ key_stream n key counter nonce m

module _ (n : ℕ) (key : List ℕ) (counter : ℕ) (nonce s : List ℕ) where
  pub kept-none : counter < 2 ^ 32 → Kept n key counter nonce s s counter 0
  unfolding key_stream joined
  kept-none l = record { count = sym (ap (λ (c : ℕ). c % 2 ^ 32) (add-zero counter) ∙ mod-eq_of_lt l); done = sym (xor-none s) }

  pub kept-size : (o : List ℕ) (c m : ℕ) → Kept n key counter nonce s o c m → length o ≡ length s
  kept-size o c m v = ap length v.done ∙ length-xor s (key_stream n key counter nonce m)

  -- four blocks more, of which b has those that the text needs
  pub kept_more : (o p b d : List ℕ) (c e i m : ℕ) → Kept n key counter nonce s o c (4 * i) → m ≤ 4 → min 256 (length s - 256 * i) ≤ 64 * m
      → length d ≡ 256 → b ≡ put d 0 (key_stream n key c nonce m) → p ≡ put o (256 * i) (drop (256 * i) o ⊞ b) → e ≡ (c + 4) % 2 ^ 32
      → Kept n key counter nonce s p e (4 * (i + 1))
  unfolding put
  kept_more o p b d c e i m v hm enough ld eb ep ee =
      let before = key_stream n key counter nonce (4 * i) in
      let made = key_stream n key (counter + 4 * i) nonce m in
      let g = key_stream n key counter nonce (4 * i + m) in
      let junk = drop (0 + length (key_stream n key c nonce m)) d in
      let more = key_stream n key (counter + (4 * i + m)) nonce (4 - m) in
      let lb = length-key_stream n key counter nonce (4 * i) in
      let lg = length-key_stream n key counter nonce (4 * i + m) in
      let lm = length-key_stream n key c nonce m in
      let at : 256 * i ≡ length before = omega (arith, lb) in
      let all : 4 * i + m + (4 - m) ≡ 4 * (i + 1) = omega arith in
      let count = v.count in
      record {
        count = omega (arith, count);
        done =
            ep ∙ (λ t. put (v.done t) (at t) (drop (at t) (v.done t) ⊞ eb t))
            ∙ xor-behind s before (key_stream n key c nonce m ++ junk)
            ∙ ap (λ (x : List ℕ). s ⊞ (before ++ (x ++ junk))) (key_stream-mod n key c (counter + 4 * i) nonce m (omega (arith, count)))
            ∙ ap (λ (x : List ℕ). s ⊞ x) (sym (append_assoc before made junk))
            ∙ ap (λ (x : List ℕ). s ⊞ (x ++ junk)) (sym (key_stream-add n key counter nonce (4 * i) m))
            ∙ xor-either s g junk more
            (λ l. (omega (arith, length-drop (0 + length (key_stream n key c nonce m)) d, lm, lg), omega (arith, lg, length-key_stream n key (counter + (4 * i + m)) nonce (4 - m))))
            ∙ ap (λ (x : List ℕ). s ⊞ x) (sym (key_stream-add n key counter nonce (4 * i + m) (4 - m)))
            ∙ ap (λ (k : ℕ). s ⊞ key_stream n key counter nonce k) all;
      }

  pub kept-all : (o : List ℕ) (c m : ℕ) → length s ≤ 64 * m → Kept n key counter nonce s o c m → o ≡ stream n key counter nonce s
  kept-all o c m h v = v.done ∙ stream-over n key counter nonce s m h
