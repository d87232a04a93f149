-- The bytes of some words, and a buffer that they are written into word by word.
-- Assumes nothing.
use Rattle.std.proofs.Common.{◌≡◌, ℕ, ◌+◌, ◌-◌, ◌*◌, ◌/◌, ◌%◌, ◌^◌, ◌<◌, ◌≤◌, List, [], ◌∷◌, ◌++◌, length, get_or, take, sym, refl, ap, ap₂, ◌∙◌, mod-eq_of_lt, append_assoc, append-nil, add-one, arith, length-append, length-take-le, take-suc}
use Rattle.std.specs.Prelude.{bit_or}
use Rattle.std.specs.Int.{w32, rotate_left}
use lib.Seq.{take-length}
use Rattle.octets.specs.Buffers.{put}
use Rattle.octets.specs.Numbers.{to_le}
use Rattle.octets.proofs.BufferLaws.{length-put, put-behind}
use Rattle.octets.proofs.NumberLaws.{length-to_le}
use Rattle.chacha.specs.Words.{rotl, bytes}

-- u32's rotation
pub rotated : (x k : ℕ) → 0 < k → k < 32 → rotate_left w32 x k ≡ rotl x k
unfolding rotl
rotated x k low high =
    ap₂ (λ (a b : ℕ). bit_or (x * 2 ^ a % 2 ^ 32) (x / 2 ^ b)) (mod-eq_of_lt high)
    (ap (λ (a : ℕ). (32 - a) % 32) (mod-eq_of_lt high) ∙ mod-eq_of_lt (omega arith))

pub length-bytes : (w : List ℕ) → length (bytes w) ≡ 4 * length w
unfolding bytes
length-bytes [] = refl
length-bytes (a ∷ w) = length-append (to_le 4 a) (bytes w) ∙ omega (arith, length-to_le 4 a, length-bytes w)

bytes-append : (v w : List ℕ) → bytes (v ++ w) ≡ bytes v ++ bytes w
unfolding bytes
bytes-append [] w = refl
bytes-append (a ∷ v) w = ap (λ (t : List ℕ). to_le 4 a ++ t) (bytes-append v w) ∙ sym (append_assoc (to_le 4 a) (bytes v) (bytes w))

-- one word more
bytes_next : (w : List ℕ) (i : ℕ) → i < length w → bytes (take i w) ++ to_le 4 (get_or w i 0) ≡ bytes (take (i + 1) w)
unfolding bytes
bytes_next w i h =
    sym
    (ap (λ (k : ℕ). bytes (take k w)) (add-one i) ∙ ap bytes (take-suc w i 0 h) ∙ bytes-append (take i w) (get_or w i 0 ∷ [])
    ∙ ap (λ (t : List ℕ). bytes (take i w) ++ t) (append-nil (to_le 4 (get_or w i 0))))

module _ (d : List ℕ) (at : ℕ) (w : List ℕ) (room : at + 4 * length w ≤ length d) where
  length-first : (i : ℕ) → i ≤ length w → length (bytes (take i w)) ≡ 4 * i
  length-first i h = length-bytes (take i w) ∙ ap (λ (k : ℕ). 4 * k) (length-take-le i w h)

  pub written-size : (i : ℕ) → i ≤ length w → (o : List ℕ) → o ≡ put d at (bytes (take i w)) → length o ≡ length d
  written-size i h o e = ap length e ∙ length-put d at (bytes (take i w)) (omega (arith, length-first i h))

  pub written_next : (i k x : ℕ) → i < length w → k ≡ at + 4 * i → x ≡ get_or w i 0 → (o p : List ℕ) → o ≡ put d at (bytes (take i w))
      → p ≡ put o k (to_le 4 x) → p ≡ put d at (bytes (take (i + 1) w))
  written_next i k x h ek ex o p e f =
      let n = length-first i (omega arith) in
      put-behind d (bytes (take i w)) (to_le 4 x) o p at k (omega (arith, n)) (omega (arith, n)) e f
      ∙ ap (λ (y : ℕ). put d at (bytes (take i w) ++ to_le 4 y)) ex
      ∙ ap (put d at) (bytes_next w i h)

  pub written_all : (i : ℕ) → i ≡ length w → (o : List ℕ) → o ≡ put d at (bytes (take i w)) → o ≡ put d at (bytes w)
  written_all i h o e = e ∙ ap (λ (k : ℕ). put d at (bytes (take k w))) h ∙ ap (λ (t : List ℕ). put d at (bytes t)) (take-length w)
