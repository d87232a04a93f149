-- The bytes of a word: of four bytes packed, of a rotated word, of a sum, read and written.
-- Assumes nothing.
use mathlib.Core.Path.{◌≡◌, sym, ap, ◌∙◌}
use mathlib.Core.List.{List, [], ◌∷◌, ◌++◌}
use Prim.Native.Nat.{ℕ, ◌+◌, ◌*◌, ◌/◌, ◌%◌, ◌^◌, ◌≤◌, ◌<◌}
use native.Mathlib.Omega.{arith}
use lib.Bits.{bit_or, bit_xor, xor_shr, xor_mod}
use lib.ListN.{length, take, drop, length-drop}
use lib.Seq.{drop-drop, take-add, length-take-le}
use Rattle.std.specs.Int.{rotate_left}
use Rattle.std.proofs.Common.{w32}
use Rattle.std.proofs.lemmas.Nat.{or_shifted}
use Rattle.octets.specs.Buffers.{Octets, put, ◌⊞◌}
use Rattle.octets.specs.Numbers.{le, to_le}
use Rattle.octets.proofs.BufferLaws.{octets-nil, octets-cons, octets-take, octets-drop, put-put}
use Rattle.octets.proofs.NumberLaws.{le-take, to_le-le}
use Rattle.aes_tables.specs.Tables.{column}
use Rattle.aes.specs.Words.{bytes, turned}

pub bytes-column : (a b c d : ℕ) → a < 256 → b < 256 → c < 256 → d < 256 → bytes (column a b c d) ≡ a ∷ b ∷ c ∷ d ∷ []
bytes-column a b c d ha hb hc hd = λ i. e0 i ∷ e1 i ∷ e2 i ∷ e3 i ∷ []
  where
    e0 : column a b c d % 256 ≡ a
    e0 = omega arith

    e1 : column a b c d / 256 % 256 ≡ b
    e1 = omega arith

    e2 : column a b c d / 65536 % 256 ≡ c
    e2 = omega arith

    e3 : column a b c d / 16777216 % 256 ≡ d
    e3 = omega arith

-- ---- a word rotated by bytes

module _ (a b c d : ℕ) (ha : a < 256) (hb : b < 256) (hc : c < 256) (hd : d < 256) where
  column-rotate1 : column a b c d / 16777216 + column a b c d % 16777216 * 256 ≡ column d a b c
  column-rotate1 = omega arith

  column-rotate2 : column a b c d / 65536 + column a b c d % 65536 * 65536 ≡ column c d a b
  column-rotate2 = high ∙ omega arith
    where
      high : column a b c d / 65536 + column a b c d % 65536 * 65536 ≡ (c + d * 256) + (a + b * 256) * 65536
      high = omega arith

  column-rotate3 : column a b c d / 256 + column a b c d % 256 * 16777216 ≡ column b c d a
  column-rotate3 = omega arith

module _ (w : ℕ) (h : w < 2 ^ 32) where
  -- a word is made of its bytes
  whole : w ≡ column (w % 256) (w / 256 % 256) (w / 65536 % 256) (w / 16777216 % 256)
  whole =
      let high : w / 16777216 % 256 ≡ w / 16777216 = omega arith in
      omega (arith, high)

  byte : (n : ℕ) → n % 256 < 256
  byte n = omega arith

  rotated1 : rotate_left w32 w 8 ≡ w / 16777216 + w % 16777216 * 256
  rotated1 =
      let high : w * 256 % 2 ^ 32 ≡ w % 16777216 * 2 ^ 8 = omega arith in
      let low : w / 16777216 < 2 ^ 8 = omega arith in
      let sum : w % 16777216 * 2 ^ 8 + w / 16777216 ≡ w / 16777216 + w % 16777216 * 256 = omega arith in
      ap (λ (x : ℕ). bit_or x (w / 16777216)) high ∙ or_shifted (w % 16777216) 8 (w / 16777216) low ∙ sum

  pub bytes-rotate1 : bytes (rotate_left w32 w 8) ≡ turned 1 (bytes w)
  unfolding turned
  bytes-rotate1 =
      ap bytes rotated1
      ∙ ap (λ (x : ℕ). bytes (x / 16777216 + x % 16777216 * 256)) whole
      ∙ ap bytes (column-rotate1 _ _ _ _ (byte _) (byte _) (byte _) (byte _)) ∙ bytes-column _ _ _ _ (byte _) (byte _) (byte _) (byte _)

  rotated2 : rotate_left w32 w 16 ≡ w / 65536 + w % 65536 * 65536
  rotated2 =
      let high : w * 65536 % 2 ^ 32 ≡ w % 65536 * 2 ^ 16 = omega arith in
      let low : w / 65536 < 2 ^ 16 = omega arith in
      let sum : w % 65536 * 2 ^ 16 + w / 65536 ≡ w / 65536 + w % 65536 * 65536 = omega arith in
      ap (λ (x : ℕ). bit_or x (w / 65536)) high ∙ or_shifted (w % 65536) 16 (w / 65536) low ∙ sum

  pub bytes-rotate2 : bytes (rotate_left w32 w 16) ≡ turned 2 (bytes w)
  unfolding turned
  bytes-rotate2 =
      ap bytes rotated2
      ∙ ap (λ (x : ℕ). bytes (x / 65536 + x % 65536 * 65536)) whole
      ∙ ap bytes (column-rotate2 _ _ _ _ (byte _) (byte _) (byte _) (byte _)) ∙ bytes-column _ _ _ _ (byte _) (byte _) (byte _) (byte _)

  rotated3 : rotate_left w32 w 24 ≡ w / 256 + w % 256 * 16777216
  rotated3 =
      let high : w * 16777216 % 2 ^ 32 ≡ w % 256 * 2 ^ 24 = omega arith in
      let low : w / 256 < 2 ^ 24 = omega arith in
      let sum : w % 256 * 2 ^ 24 + w / 256 ≡ w / 256 + w % 256 * 16777216 = omega arith in
      ap (λ (x : ℕ). bit_or x (w / 256)) high ∙ or_shifted (w % 256) 24 (w / 256) low ∙ sum

  pub bytes-rotate3 : bytes (rotate_left w32 w 24) ≡ turned 3 (bytes w)
  unfolding turned
  bytes-rotate3 =
      ap bytes rotated3
      ∙ ap (λ (x : ℕ). bytes (x / 256 + x % 256 * 16777216)) whole
      ∙ ap bytes (column-rotate3 _ _ _ _ (byte _) (byte _) (byte _) (byte _)) ∙ bytes-column _ _ _ _ (byte _) (byte _) (byte _) (byte _)

-- ---- a sum of words

pub bytes-xor : (x y : ℕ) → bytes (bit_xor x y) ≡ bytes x ⊞ bytes y
unfolding ◌⊞◌
bytes-xor x y = λ i. xor_mod x y 8 i ∷ at 8 i ∷ at 16 i ∷ at 24 i ∷ []
  where
    at : (k : ℕ) → bit_xor x y / 2 ^ k % 256 ≡ bit_xor (x / 2 ^ k % 256) (y / 2 ^ k % 256)
    at k = ap (λ (n : ℕ). n % 256) (xor_shr x y k) ∙ xor_mod (x / 2 ^ k) (y / 2 ^ k) 8

-- ---- words read and written

pub octets-bytes : (w : ℕ) → Octets (bytes w)
octets-bytes w = octets-cons (omega arith) (octets-cons (omega arith) (octets-cons (omega arith) (octets-cons (omega arith) octets-nil)))

pub to_le-bytes : (w : ℕ) → to_le 4 w ≡ bytes w
unfolding to_le
to_le-bytes w = λ i. w % 256 ∷ w / 256 % 256 ∷ e2 i ∷ e3 i ∷ []
  where
    e2 : w / 256 / 256 % 256 ≡ w / 65536 % 256
    e2 = omega arith

    e3 : w / 256 / 256 / 256 % 256 ≡ w / 16777216 % 256
    e3 = omega arith

pub bytes_read : (s : List ℕ) (at : ℕ) → Octets s → at + 4 ≤ length s → bytes (le 4 (drop at s)) ≡ take 4 (drop at s)
bytes_read s at p h =
    let t = take 4 (drop at s) in
    ap bytes (sym (le-take 4 (drop at s))) ∙ sym (to_le-bytes (le 4 t))
    ∙ to_le-le (octets-take 4 (drop at s) (octets-drop at p)) (length-take-le 4 (drop at s) (omega (arith, length-drop at s)))

-- a block is its four words
pub four-words : (s : List ℕ) (at : ℕ)
    → take 4 (drop at s) ++ (take 4 (drop (at + 4) s) ++ (take 4 (drop (at + 8) s) ++ take 4 (drop (at + 12) s))) ≡ take 16 (drop at s)
four-words s at =
    let t = drop at s in
    sym (take-add 4 12 t ∙ ap (λ (x : List ℕ). take 4 t ++ x)
    (ap (take 12) (drop-drop 4 at s) ∙ take-add 4 8 (drop (at + 4) s) ∙ ap (λ (x : List ℕ). take 4 (drop (at + 4) s) ++ x)
    (ap (take 8) (drop-drop 4 (at + 4) s ∙ next 4) ∙ take-add 4 4 (drop (at + 8) s) ∙ ap (λ (x : List ℕ). take 4 (drop (at + 8) s) ++ x)
    (ap (take 4) (drop-drop 4 (at + 8) s ∙ next 8)))))
  where
    next : (k : ℕ) → drop (at + k + 4) s ≡ drop (at + (k + 4)) s
    next k = let e : at + k + 4 ≡ at + (k + 4) = omega arith in ap (λ (n : ℕ). drop n s) e

-- four words written one behind the other
pub put-words : (d : List ℕ) (at a b c e : ℕ) → at + 16 ≤ length d
    → put (put (put (put d at (bytes a)) (at + 4) (bytes b)) (at + 8) (bytes c)) (at + 12) (bytes e)
    ≡ put d at (bytes a ++ (bytes b ++ (bytes c ++ bytes e)))
put-words d at a b c e h =
    ap (λ (x : List ℕ). put (put x (at + 8) (bytes c)) (at + 12) (bytes e)) (put-put d at (bytes a) (omega arith) (bytes b))
    ∙ ap (λ (x : List ℕ). put x (at + 12) (bytes e)) (put-put d at (bytes a ++ bytes b) (omega arith) (bytes c))
    ∙ put-put d at (bytes a ++ (bytes b ++ bytes c)) (omega arith) (bytes e)
