-- What is linear goes through the sum of four; four steps of GHASH are one sum of four products.
-- Assumes nothing.
use mathlib.Core.Path.{◌≡◌, refl, sym, ap, ap₂, ◌∙◌, subst}
use mathlib.Core.List.{List, ◌∷◌}
use Prim.Native.Nat.{ℕ, zero, suc, ◌+◌, ◌*◌, ◌/◌, ◌^◌, ◌<◌, ◌≤◌}
use native.Mathlib.Nat.{add-zero}
use native.Mathlib.Numerals.{add-one}
use native.Mathlib.Omega.{arith}
use lib.Bits.{xor_zero_r, xor_shr, xor_block}
use lib.Arith.{digits_lt}
use lib.ListN.{length, drop, length-drop}
use lib.Pow.{pow_pos}
use lib.Seq.{drop-drop}
use Rattle.octets.specs.Buffers.{block_count}
use Rattle.octets.specs.Numbers.{be}
use Rattle.octets.proofs.XorLaws.{xor-medial, xor_assoc}
use Rattle.ghash.specs.Ghash.{ghash_from, first_blocks, blocks}
use Rattle.ghash.specs.Table.{TableFor, key_in, steps, lookups, gather}
use Rattle.ghash.specs.Words.{words, block_of}
use Rattle.ghash.specs.declared.Element.{Element}
use Rattle.ghash.proofs.GatherLaws.{gather-more, joined}
use Rattle.ghash.proofs.StepLaws.{steps-xor}
use Rattle.ghash.proofs.DoubledLaws.{key_in_lem, table-for-key}
use Rattle.ghash_laws.specs.Laws.{Block, ◌⊕◌, ◌•◌}
use Rattle.ghash_laws.proofs.Laws.{right-distributive, commutative}
use Rattle.ghash_laws.proofs.SwapLaws.{mul-swap}
use Rattle.ghash_laws.proofs.BlockLaws.{mul-block}
use Rattle.ghash_four.specs.Four.{sum4, power, gathers, word_of, made, Four}

-- ---- the sum of four

-- two sums, added
sum4-xor : (a b c d w x y z : ℕ) → sum4 a b c d ⊕ sum4 w x y z ≡ sum4 (a ⊕ w) (b ⊕ x) (c ⊕ y) (d ⊕ z)
unfolding sum4
sum4-xor a b c d w x y z =
    xor-medial (a ⊕ b) (c ⊕ d) (w ⊕ x) (y ⊕ z) ∙ ap₂ ◌⊕◌ (xor-medial a b w x) (xor-medial c d y z)

module _ (f : ℕ → ℕ) (linear : (v w : ℕ) → f (v ⊕ w) ≡ f v ⊕ f w) where
  linear4 : (w x y z : ℕ) → f (sum4 w x y z) ≡ sum4 (f w) (f x) (f y) (f z)
  unfolding sum4
  linear4 w x y z = linear (w ⊕ x) (y ⊕ z) ∙ ap₂ ◌⊕◌ (linear w x) (linear y z)

up : (a b : ℕ) → (a ⊕ b) * 2 ^ 64 ≡ a * 2 ^ 64 ⊕ b * 2 ^ 64
up a b =
    sym
    (ap₂ ◌⊕◌ (sym (add-zero (a * 2 ^ 64))) (sym (add-zero (b * 2 ^ 64)))
    ∙ xor_block 64 a b 0 0 (pow_pos 64) (pow_pos 64) ∙ add-zero ((a ⊕ b) * 2 ^ 64))

-- ---- the lookups

module _ (h4 h3 h2 h1 a b c d k : ℕ) where
  pub gathers-more : {z e : ℕ} → z ≡ gathers h4 h3 h2 h1 a b c d k
      → e ≡ sum4 (lookups h4 (a / 2 ^ (16 * k)) 4) (lookups h3 (b / 2 ^ (16 * k)) 4) (lookups h2 (c / 2 ^ (16 * k)) 4) (lookups h1 (d / 2 ^ (16 * k)) 4)
      → z / 2 ^ 16 ⊕ e * 2 ^ 64 ≡ gathers h4 h3 h2 h1 a b c d (k + 1)
  unfolding gathers
  gathers-more p q =
      ap₂ (λ (x y : ℕ). x / 2 ^ 16 ⊕ y * 2 ^ 64) p q
      ∙ ap₂ ◌⊕◌
      (linear4 (λ (v : ℕ). v / 2 ^ 16) (λ v w. xor_shr v w 16) (gather h4 a k) (gather h3 b k) (gather h2 c k) (gather h1 d k))
      (linear4 (λ (v : ℕ). v * 2 ^ 64) up _ _ _ _)
      ∙ sum4-xor _ _ _ _ _ _ _ _
      ∙ (λ i. sum4 (gather-more h4 a k refl i) (gather-more h3 b k refl i) (gather-more h2 c k refl i) (gather-more h1 d k refl i))

-- both words, reduced
joined4 : (h4 h3 h2 h1 ah al bh bl ch cl dh dl : ℕ) → al < 2 ^ 64 → bl < 2 ^ 64 → cl < 2 ^ 64 → dl < 2 ^ 64
    → steps 64 (gathers h4 h3 h2 h1 ah bh ch dh 4 ⊕ steps 64 (gathers h4 h3 h2 h1 al bl cl dl 4))
    ≡ sum4 (words ah al • h4) (words bh bl • h3) (words ch cl • h2) (words dh dl • h1)
unfolding gathers
joined4 h4 h3 h2 h1 ah al bh bl ch cl dh dl la lb lc ld =
    ap (λ (v : ℕ). steps 64 (sum4 (gather h4 ah 4) (gather h3 bh 4) (gather h2 ch 4) (gather h1 dh 4) ⊕ v))
    (linear4 (steps 64) (steps-xor 64) (gather h4 al 4) (gather h3 bl 4) (gather h2 cl 4) (gather h1 dl 4))
    ∙ ap (steps 64) (sum4-xor _ _ _ _ _ _ _ _)
    ∙ linear4 (steps 64) (steps-xor 64) _ _ _ _
    ∙ (λ i. sum4 (joined h4 ah al la i) (joined h3 bh bl lb i) (joined h2 ch cl lc i) (joined h1 dh dl ld i))

-- one word more
pub made_more : (h4 h3 h2 h1 : ℕ) (a b c d : Element) (i : ℕ) {z g : ℕ} → z ≡ made h4 h3 h2 h1 a b c d i
    → g ≡ gathers h4 h3 h2 h1 (word_of a i) (word_of b i) (word_of c i) (word_of d i) 4 → steps 64 (g ⊕ z) ≡ made h4 h3 h2 h1 a b c d (i + 1)
unfolding made
made_more h4 h3 h2 h1 a b c d i e f = ap₂ (λ (x y : ℕ). steps 64 (x ⊕ y)) f e ∙ ap (made h4 h3 h2 h1 a b c d) (sym (add-one i))

pub made_all : (h4 h3 h2 h1 : ℕ) (a b c d : Element) → a.lo < 2 ^ 64 → b.lo < 2 ^ 64 → c.lo < 2 ^ 64 → d.lo < 2 ^ 64
    → made h4 h3 h2 h1 a b c d 2 ≡ sum4 (block_of a • h4) (block_of b • h3) (block_of c • h2) (block_of d • h1)
unfolding made word_of
made_all h4 h3 h2 h1 a b c d la lb lc ld =
    ap (λ (v : ℕ). steps 64 (gathers h4 h3 h2 h1 a.hi b.hi c.hi d.hi 4 ⊕ steps 64 v))
    (xor_zero_r (gathers h4 h3 h2 h1 a.lo b.lo c.lo d.lo 4))
    ∙ joined4 h4 h3 h2 h1 a.hi a.lo b.hi b.lo c.hi c.lo d.hi d.lo la lb lc ld

-- ---- four steps

module _ (h : ℕ) (block : Block h) where
  power-block : (n : ℕ) → Block (power h n)
  unfolding power
  power-block zero = block
  power-block (suc n) = mul-block h block (power h n)

  -- one step more: (x • h^n) • h = h • (x • h^n) = x • (h • h^n) = x • h^(n + 1)
  power-more : (x n : ℕ) → (x • power h n) • h ≡ x • power h (suc n)
  unfolding power
  power-more x n =
      commutative (x • power h n) h (mul-block (power h n) (power-block n) x) block
      ∙ mul-swap h x (power h n)
      ∙ ap (λ (v : ℕ). x • v) (commutative h (power h n) block (power-block n))

  -- a sum that was multiplied, and a block more
  more : (s t b : ℕ) → s • h ≡ t → (s ⊕ b) • h ≡ t ⊕ b • h
  more s t b e = right-distributive s b h ∙ ap (λ (v : ℕ). v ⊕ b • h) e

  pub four-steps : (y a b c d : ℕ) (xs : List ℕ)
      → ghash_from h y (a ∷ b ∷ c ∷ d ∷ xs) ≡ ghash_from h (sum4 ((y ⊕ a) • power h 3) (b • power h 2) (c • power h 1) (d • h)) xs
  unfolding ghash_from sum4 power
  four-steps y a b c d xs =
      let x = y ⊕ a in
      let h1 = power h 1 in
      let h2 = power h 2 in
      let h3 = power h 3 in
      let e2 : (x • h ⊕ b) • h ≡ x • h1 ⊕ b • h = more (x • h) (x • h1) b (power-more x 0) in
      let e3 : (x • h1 ⊕ b • h ⊕ c) • h ≡ x • h2 ⊕ b • h1 ⊕ c • h =
      more (x • h1 ⊕ b • h) (x • h2 ⊕ b • h1) c (more (x • h1) (x • h2) (b • h) (power-more x 1) ∙ ap (λ (v : ℕ). x • h2 ⊕ v) (power-more b 0)) in
      let e4 : (x • h2 ⊕ b • h1 ⊕ c • h ⊕ d) • h ≡ x • h3 ⊕ b • h2 ⊕ c • h1 ⊕ d • h =
      more (x • h2 ⊕ b • h1 ⊕ c • h) (x • h3 ⊕ b • h2 ⊕ c • h1) d
      (more (x • h2 ⊕ b • h1) (x • h3 ⊕ b • h2) (c • h) (more (x • h2) (x • h3) (b • h1) (power-more x 2) ∙ ap (λ (v : ℕ). x • h3 ⊕ v) (power-more b 1))
      ∙ ap (λ (v : ℕ). x • h3 ⊕ b • h2 ⊕ v) (power-more c 0)) in
      ap (λ (v : ℕ). ghash_from h v xs)
      (ap (λ (v : ℕ). ((v ⊕ c) • h ⊕ d) • h) e2 ∙ ap (λ (v : ℕ). (v ⊕ d) • h) e3 ∙ e4 ∙ xor_assoc (x • h3 ⊕ b • h2) (c • h1) (d • h))

-- ---- the blocks of a string

module _ (s : List ℕ) (at : ℕ) (within : at + 64 ≤ length s) where
  drop1 : drop 16 (drop at s) ≡ drop (at + 16) s
  drop1 = drop-drop 16 at s

  drop2 : drop 16 (drop 16 (drop at s)) ≡ drop (at + 32) s
  drop2 = let e : at + 16 + 16 ≡ at + 32 = omega arith in ap (drop 16) drop1 ∙ drop-drop 16 (at + 16) s ∙ ap (λ (k : ℕ). drop k s) e

  drop3 : drop 16 (drop 16 (drop 16 (drop at s))) ≡ drop (at + 48) s
  drop3 = let e : at + 32 + 16 ≡ at + 48 = omega arith in ap (drop 16) drop2 ∙ drop-drop 16 (at + 32) s ∙ ap (λ (k : ℕ). drop k s) e

  drop4 : drop 16 (drop 16 (drop 16 (drop 16 (drop at s)))) ≡ drop (at + 64) s
  drop4 = let e : at + 48 + 16 ≡ at + 64 = omega arith in ap (drop 16) drop3 ∙ drop-drop 16 (at + 48) s ∙ ap (λ (k : ℕ). drop k s) e

  four-blocks : blocks (drop at s)
      ≡ be 16 (drop at s) ∷ be 16 (drop (at + 16) s) ∷ be 16 (drop (at + 32) s) ∷ be 16 (drop (at + 48) s) ∷ blocks (drop (at + 64) s)
  unfolding blocks first_blocks
  four-blocks =
      let m = block_count (drop (at + 64) s) in
      let e : block_count (drop at s) ≡ suc (suc (suc (suc m))) = omega (arith, length-drop at s, length-drop (at + 64) s) in
      ap (λ (k : ℕ). first_blocks k (drop at s)) e
      ∙ (λ i. be 16 (drop at s) ∷ be 16 (drop1 i) ∷ be 16 (drop2 i) ∷ be 16 (drop3 i) ∷ first_blocks m (drop4 i))

  pub ghash-four : (h y : ℕ) → Block h
      → ghash_from h y (blocks (drop at s))
      ≡ ghash_from h
      (sum4 ((y ⊕ be 16 (drop at s)) • power h 3) (be 16 (drop (at + 16) s) • power h 2) (be 16 (drop (at + 32) s) • power h 1)
      (be 16 (drop (at + 48) s) • h))
      (blocks (drop (at + 64) s))
  ghash-four h y b = ap (ghash_from h y) four-blocks ∙ four-steps h b y _ _ _ _ _

-- ---- the tables

pub four-tables : (t4 t3 t2 t1 : List ℕ) (h4 h3 h2 : ℕ) → TableFor t4 h4 → TableFor t3 h3 → TableFor t2 h2 → TableFor t1 (key_in t1) → Four t4 t3 t2 t1
four-tables t4 t3 t2 t1 h4 h3 h2 p4 p3 p2 p1 =
    record { fourth = table-for-key t4 h4 p4; third = table-for-key t3 h3 p3; second = table-for-key t2 h2 p2; first = p1 }

pub table-for : {t : List ℕ} {v w : ℕ} (h : ℕ) → v ≡ w → TableFor t (v • h) → TableFor t (w • h)
table-for {t} {v} {w} h e p = subst (λ (x : ℕ). TableFor t (x • h)) e p

pub words-block : (hi lo : ℕ) → hi < 2 ^ 64 → lo < 2 ^ 64 → Block (words hi lo)
words-block hi lo h l = digits_lt h l

-- one step of four, with the tables' keys
pub step-law : (t4 t3 t2 t1 s : List ℕ) (y r i : ℕ) → Block (key_in t1) → 64 * i + 64 ≤ length s
    → TableFor t4 (power (key_in t1) 3) → TableFor t3 (power (key_in t1) 2) → TableFor t2 (power (key_in t1) 1)
    → r
    ≡ sum4 ((y ⊕ be 16 (drop (64 * i) s)) • key_in t4) (be 16 (drop (64 * i + 16) s) • key_in t3) (be 16 (drop (64 * i + 32) s) • key_in t2)
    (be 16 (drop (64 * i + 48) s) • key_in t1)
    → ghash_from (key_in t1) r (blocks (drop (64 * (i + 1)) s)) ≡ ghash_from (key_in t1) y (blocks (drop (64 * i) s))
step-law t4 t3 t2 t1 s y r i b l p4 p3 p2 e =
    let h = key_in t1 in
    let at : 64 * (i + 1) ≡ 64 * i + 64 = omega arith in
    (λ k. ghash_from h (e k) (blocks (drop (at k) s)))
    ∙ (λ k. ghash_from h
    (sum4 ((y ⊕ be 16 (drop (64 * i) s)) • key_in_lem t4 _ p4 k) (be 16 (drop (64 * i + 16) s) • key_in_lem t3 _ p3 k)
    (be 16 (drop (64 * i + 32) s) • key_in_lem t2 _ p2 k) (be 16 (drop (64 * i + 48) s) • h))
    (blocks (drop (64 * i + 64) s)))
    ∙ sym (ghash-four s (64 * i) l h y b)
