-- The counter block: its bytes, and one up.
-- Assumes nothing.
use Rattle.std.proofs.Common.{◌≡◌, ℕ, ◌+◌, ◌*◌, ◌/◌, ◌%◌, ◌^◌, ◌<◌, List, [], ◌∷◌, ◌++◌, length, take, drop, sym, refl, ap, ◌∙◌, ap₂, arith, take_all, drop-drop, take-add, w32}
use Rattle.std.specs.Int.{swap_bytes}
use lib.Arith.{digits_div, digits_mod}
use Rattle.octets.specs.Buffers.{Octets}
use Rattle.octets.specs.Numbers.{be, to_be, le}
use Rattle.octets.proofs.BufferLaws.{octets-append}
use Rattle.octets.proofs.NumberLaws.{to_be-add, to_be-high, to_be-be}
use Rattle.aes_tables.specs.Tables.{column}
use Rattle.aes.specs.Words.{bytes}
use Rattle.aes.proofs.WordLaws.{octets-bytes, bytes-column, bytes_read}
use Rattle.ctr.specs.Gctr.{inc32, counter_block}

-- a counter's bytes, the highest first
pub bytes-swapped : (x : ℕ) → x < 2 ^ 32 → bytes (swap_bytes w32 x) ≡ to_be 4 x
unfolding to_be
bytes-swapped x h =
    let high : x / 0x100_0000 ≡ x / 0x100_0000 % 256 = omega arith in
    let low : x % 256 ≡ x / 1 % 256 = omega arith in
    let swapped : swap_bytes w32 x ≡ column (x / 0x100_0000) (x / 0x1_0000 % 256) (x / 256 % 256) (x % 256) = omega arith in
    ap bytes swapped ∙ bytes-column _ _ _ _ (omega arith) (omega arith) (omega arith) (omega arith)
    ∙ (λ i. high i ∷ x / 0x1_0000 % 256 ∷ x / 256 % 256 ∷ low i ∷ [])

-- the bytes of a counter block: the nonce, and the counter behind it
pub counter-bytes : (a b c x : ℕ) → x < 2 ^ 32
    → bytes a ++ (bytes b ++ (bytes c ++ to_be 4 x)) ≡ to_be 16 (counter_block (bytes a ++ (bytes b ++ bytes c)) x)
unfolding counter_block
counter-bytes a b c x h =
    let n = bytes a ++ (bytes b ++ bytes c) in
    let o : Octets n = octets-append _ _ (octets-bytes a) (octets-append _ _ (octets-bytes b) (octets-bytes c)) in
    sym
    (to_be-add 12 4 (be 12 n * 2 ^ 32 + x)
    ∙ ap₂ (λ (p q : List ℕ). p ++ q) (ap (to_be 12) (digits_div (be 12 n) h) ∙ to_be-be o refl) (to_be-high 4 (be 12 n) x))

-- the next counter block has the same nonce
pub counter_next : (nonce : List ℕ) (x : ℕ) → x < 2 ^ 32 → inc32 (counter_block nonce x) ≡ counter_block nonce ((x + 1) % 2 ^ 32)
unfolding inc32 counter_block
counter_next nonce x h =
    ap₂ (λ (p q : ℕ). p * 2 ^ 32 + (q + 1) % 2 ^ 32) (digits_div (be 12 nonce) h) (digits_mod (be 12 nonce) h)

-- a nonce is its three words
pub nonce-words : (s : List ℕ) → Octets s → length s ≡ 12
    → bytes (le 4 (drop 0 s)) ++ (bytes (le 4 (drop 4 s)) ++ bytes (le 4 (drop 8 s))) ≡ s
nonce-words s p e =
    (λ i. bytes_read s 0 p (omega arith) i ++ (bytes_read s 4 p (omega arith) i ++ bytes_read s 8 p (omega arith) i))
    ∙ ap (λ (x : List ℕ). take 4 s ++ x) (ap (λ (y : List ℕ). take 4 (drop 4 s) ++ take 4 y) (sym (drop-drop 4 4 s)) ∙ sym (take-add 4 4 (drop 4 s)))
    ∙ sym (take-add 4 8 s) ∙ take_all 12 s (omega arith)
