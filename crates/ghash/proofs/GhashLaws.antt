-- GHASH over the blocks of a string, one by one.
-- Assumes nothing.
use mathlib.Core.Path.{◌≡◌, refl, ap, ◌∙◌}
use mathlib.Core.List.{List, [], ◌∷◌, ◌++◌}
use Prim.Native.Nat.{ℕ, suc, min, ◌+◌, ◌/◌, ◌^◌, ◌<◌}
use native.Mathlib.Nat.{mod-eq_of_lt}
use native.Mathlib.Omega.{arith}
use lib.Bits.{bit_xor}
use lib.ListN.{length, drop, length-append}
use Rattle.std.proofs.lemmas.List.{append-nil, drop_all, drop_at}
use Rattle.octets.specs.Buffers.{block_count}
use Rattle.octets.specs.Numbers.{be, to_be}
use Rattle.octets.proofs.NumberLaws.{be-append, be-to_be, length-to_be}
use Rattle.ghash.specs.Field.{mul}
use Rattle.ghash.specs.Ghash.{ghash_from, blocks, first_blocks}

-- one block more behind the others
pub ghash-snoc : (h y : ℕ) (xs : List ℕ) (x : ℕ) → ghash_from h y (xs ++ x ∷ []) ≡ mul (bit_xor (ghash_from h y xs) x) h
unfolding ghash_from
ghash-snoc h y [] x = refl
ghash-snoc h y (a ∷ xs) x = ghash-snoc h (mul (bit_xor y a) h) xs x

-- ---- a string taken apart in pieces of 16 bytes, of which the last may be short

block-first : (x r : List ℕ) → length x ≡ min 16 (length (x ++ r)) → be 16 (x ++ r) ≡ be 16 x
block-first x [] e = ap (be 16) (append-nil x)
block-first x (b ∷ r) e = be-append 16 x (b ∷ r) (omega (arith, length-append x (b ∷ r)))

block-rest : (x r : List ℕ) → length x ≡ min 16 (length (x ++ r)) → drop 16 (x ++ r) ≡ r
block-rest x [] e = drop_all 16 (x ++ []) (omega (arith, ap length (append-nil x)))
block-rest x (b ∷ r) e = drop_at x (b ∷ r) 16 (omega (arith, length-append x (b ∷ r)))

blocks-next : (x r : List ℕ) → length x ≡ min 16 (length (x ++ r)) → 0 < length (x ++ r) → blocks (x ++ r) ≡ be 16 x ∷ blocks r
unfolding blocks first_blocks
blocks-next x r e some =
    let n : block_count (x ++ r) ≡ suc (block_count r) = omega (arith, length-append x r) in
    ap (λ (k : ℕ). first_blocks k (x ++ r)) n
    ∙ (λ i. block-first x r e i ∷ first_blocks (block_count r) (block-rest x r e i))

pub ghash-next : (h y : ℕ) (s x r : List ℕ) → s ≡ x ++ r → length x ≡ min 16 (length s) → 0 < length s
    → ghash_from h y (blocks s) ≡ ghash_from h (mul (bit_xor y (be 16 x)) h) (blocks r)
unfolding ghash_from
ghash-next h y s x r es e some =
    let e' = rw es at e in
    let some' = rw es at some in
    ap (λ (t : List ℕ). ghash_from h y (blocks t)) es ∙ ap (ghash_from h y) (blocks-next x r e' some')

pub ghash-none : (h y : ℕ) (s : List ℕ) → length s ≡ 0 → ghash_from h y (blocks s) ≡ y
unfolding ghash_from first_blocks blocks
ghash-none h y [] e = refl
ghash-none h y (b ∷ s) e = absurd (omega arith)

-- the bytes of one block
pub ghash-block : (h y x : ℕ) → x < 2 ^ 128 → ghash_from h y (blocks (to_be 16 x)) ≡ mul (bit_xor y x) h
unfolding ghash_from first_blocks blocks
ghash-block h y x l =
    ap (λ (n : ℕ). ghash_from h y (first_blocks ((n + 15) / 16) (to_be 16 x))) (length-to_be 16 x)
    ∙ ap (λ (b : ℕ). mul (bit_xor y b) h) (be-to_be 16 x ∙ mod-eq_of_lt l)
