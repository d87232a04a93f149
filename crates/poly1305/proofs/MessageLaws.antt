-- The blocks of a message, one by one; zeros and lengths behind it.
-- Assumes nothing.
use mathlib.Core.Path.{◌≡◌, refl, ap, ap₂, sym, ◌∙◌}
use mathlib.Core.List.{List, ◌++◌, append-nil}
use Prim.Native.Nat.{ℕ, zero, suc, ◌+◌, ◌*◌, ◌-◌, ◌%◌, ◌/◌, ◌^◌, ◌<◌, ◌≤◌}
use native.Mathlib.Omega.{arith}
use lib.ListN.{length, take, drop, replicate, length-append, length-drop, length-replicate}
use lib.Seq.{drop-drop, take_all, take_at, take-append-le, drop-append-le, drop_at}
use Rattle.octets.specs.Buffers.{block_count}
use Rattle.octets.proofs.NumberLaws.{length-to_le}
use Rattle.octets.specs.Numbers.{to_le}
use Rattle.poly1305.specs.declared.limbs.Limbs.{Limbs}
use Rattle.poly1305.specs.Limbs.{Loose, digits, value}
use Rattle.poly1305.specs.Poly1305.{prime, mod_p, block_number, poly_from, poly, zero_padded, padded, lengths, mac_data}

-- ---- a loop over whole blocks

-- a whole block has no byte that is lacking
whole-block : (x : List ℕ) → length x ≡ 16 → zero_padded (take 16 x) ≡ x
unfolding zero_padded
whole-block x e =
    let t : take 16 x ≡ x = take_all 16 x (omega arith) in
    let none : 16 - length x ≡ 0 = omega arith in
    ap (λ (y : List ℕ). y ++ replicate (16 - length y) 0) t ∙ ap (λ (n : ℕ). x ++ replicate n 0) none ∙ append-nil x

-- the whole blocks of s are the block x and those of t
pub blocks_next : (r a : ℕ) (s x t : List ℕ) → s ≡ x ++ t → length x ≡ 16
    → poly_from (length s / 16) r a s ≡ poly_from (length t / 16) r (mod_p ((a + block_number (zero_padded (take 16 x))) * r)) t
unfolding poly_from
blocks_next r a s x t e l =
    let n : length s / 16 ≡ suc (length t / 16) = omega (arith, ap length e, length-append x t) in
    let first : take 16 s ≡ zero_padded (take 16 x) = ap (take 16) e ∙ take_at x t 16 l ∙ sym (whole-block x l) in
    ap (λ (k : ℕ). poly_from k r a s) n
    ∙ ap₂ (λ (b u : List ℕ). poly_from (length t / 16) r (mod_p ((a + block_number b) * r)) u) first (ap (drop 16) e ∙ drop_at x t 16 l)

pub blocks_none : (r a : ℕ) (t : List ℕ) → length t < 16 → poly_from (length t / 16) r a t ≡ a
unfolding poly_from
blocks_none r a t h =
    let n : length t / 16 ≡ 0 = omega arith in
    ap (λ (k : ℕ). poly_from k r a t) n

-- five limbs that are 0
module _ (l : Limbs) (e : (l.l0 ≡ 0) × ((l.l1 ≡ 0) × ((l.l2 ≡ 0) × ((l.l3 ≡ 0) × (l.l4 ≡ 0))))) where
  pub zero-loose : Loose l
  zero-loose = record { b0 = omega (arith, e.0); b1 = omega (arith, e.1.0); b2 = omega (arith, e.1.1.0); b3 = omega (arith, e.1.1.1.0); b4 = omega (arith, e.1.1.1.1) }

  pub zero-value : mod_p (value l) ≡ 0
  unfolding mod_p prime digits
  zero-value = λ i. mod_p (digits (2 ^ 26) (e.0 i) (e.1.0 i) (e.1.1.0 i) (e.1.1.1.0 i) (e.1.1.1.1 i))

-- ---- n blocks and one more

behind : (n r a : ℕ) (s : List ℕ) → poly_from (n + 1) r a s ≡ mod_p ((poly_from n r a s + block_number (take 16 (drop (16 * n) s))) * r)
unfolding poly_from
behind zero r a s = refl
behind (suc n) r a s =
    let e : suc n + 1 ≡ suc (n + 1) = omega arith in
    let d : 16 + 16 * n ≡ 16 * suc n = omega arith in
    let b = mod_p ((a + block_number (take 16 s)) * r) in
    ap (λ (k : ℕ). poly_from k r a s) e ∙ behind n r b (drop 16 s)
    ∙ ap (λ (t : List ℕ). mod_p ((poly_from n r b (drop 16 s) + block_number (take 16 t)) * r)) (drop-drop (16 * n) 16 s ∙ ap (λ (k : ℕ). drop k s) d)

-- n blocks do not see what stands behind them
front : (n r a : ℕ) (s t : List ℕ) → 16 * n ≤ length s → poly_from n r a (s ++ t) ≡ poly_from n r a s
unfolding poly_from
front zero r a s t h = refl
front (suc n) r a s t h =
    let l : 16 ≤ length s = omega arith in
    ap₂ (λ (x y : List ℕ). poly_from n r (mod_p ((a + block_number x) * r)) y) (take-append-le 16 s t l) (drop-append-le 16 s t l)
    ∙ front n r (mod_p ((a + block_number (take 16 s)) * r)) (drop 16 s) t (omega (arith, length-drop 16 s))

-- ---- all of a message, from what its whole blocks gave

module _ (r a : ℕ) (s : List ℕ) (whole : a ≡ poly_from (length s / 16) r 0 s) where
  pub poly-whole : length s % 16 ≡ 0 → a ≡ poly r s
  unfolding poly
  poly-whole h = let e : length s / 16 ≡ block_count s = omega arith in whole ∙ ap (λ (n : ℕ). poly_from n r 0 s) e

  pub poly-short : (t : List ℕ) → (length s % 16 ≡ 0 → ⊥) → t ≡ drop (length s - length s % 16) s → mod_p ((a + block_number t) * r) ≡ poly r s
  unfolding poly
  poly-short t h e =
      let n = length s / 16 in
      let at : length s - length s % 16 ≡ 16 * n = omega arith in
      let c : n + 1 ≡ block_count s = omega (arith, h) in
      let l : length (drop (16 * n) s) ≤ 16 = omega (arith, length-drop (16 * n) s) in
      (λ i. mod_p ((whole i + block_number ((e ∙ ap (λ (k : ℕ). drop k s) at ∙ sym (take_all 16 (drop (16 * n) s) l)) i)) * r))
      ∙ sym (behind n r 0 s) ∙ ap (λ (k : ℕ). poly_from k r 0 s) c

  -- the same with zeros up to a whole block
  pub padded-whole : length s % 16 ≡ 0 → a ≡ poly r (padded s)
  unfolding padded
  padded-whole h =
      let e : (16 - length s % 16) % 16 ≡ 0 = omega arith in
      poly-whole h ∙ ap (poly r) (sym (ap (λ (n : ℕ). s ++ replicate n 0) e ∙ append-nil s))

  pub padded-short : (t : List ℕ) → (length s % 16 ≡ 0 → ⊥) → t ≡ drop (length s - length s % 16) s
      → mod_p ((a + block_number (zero_padded (take 16 t))) * r) ≡ poly r (padded s)
  unfolding padded zero_padded poly
  padded-short t h e =
      let n = length s / 16 in
      let k = (16 - length s % 16) % 16 in
      let z = replicate {A = ℕ} k 0 in
      let u = drop (16 * n) s in
      let at : length s - length s % 16 ≡ 16 * n = omega arith in
      let lu : length u ≤ 16 = omega (arith, length-drop (16 * n) s) in
      let kz : 16 - length u ≡ k = omega (arith, length-drop (16 * n) s) in
      let lz : length z ≡ k = length-replicate {A = ℕ} k 0 in
      let within : 16 * n ≤ length s = omega arith in
      let full : length (u ++ z) ≤ 16 = omega (arith, length-append u z) in
      let c : n + 1 ≡ block_count (s ++ z) = omega (arith, length-append s z) in
      let et : take 16 t ≡ u = ap (take 16) (e ∙ ap (λ (j : ℕ). drop j s) at) ∙ take_all 16 u lu in
      ap (λ (b : List ℕ). mod_p ((a + block_number b) * r))
      (ap (λ (x : List ℕ). x ++ replicate (16 - length x) 0) et ∙ ap (λ (j : ℕ). u ++ replicate j 0) kz
      ∙ sym (ap (take 16) (drop-append-le (16 * n) s z within) ∙ take_all 16 (u ++ z) full))
      ∙ ap (λ (x : ℕ). mod_p ((x + block_number (take 16 (drop (16 * n) (s ++ z)))) * r)) (whole ∙ sym (front n r 0 s z within))
      ∙ sym (behind n r 0 (s ++ z)) ∙ ap (λ (j : ℕ). poly_from j r 0 (s ++ z)) c

-- ---- and with the lengths behind that

length-lengths : (n : ℕ) → length (lengths n) ≡ 16
unfolding lengths
length-lengths n = omega (arith, length-append (to_le 8 0) (to_le 8 n), length-to_le 8 0, length-to_le 8 n)

length-padded : (s : List ℕ) → length (padded s) ≡ length s + (16 - length s % 16) % 16
unfolding padded
length-padded s = let k = (16 - length s % 16) % 16 in omega (arith, length-append s (replicate k 0), length-replicate {A = ℕ} k 0)

pub mac-data : (r a : ℕ) (c : List ℕ) → a ≡ poly r (padded c) → mod_p ((a + block_number (lengths (length c))) * r) ≡ poly r (mac_data c)
unfolding poly mac_data
mac-data r a c e =
    let p = padded c in
    let q = lengths (length c) in
    let n = block_count p in
    let lq : length q ≡ 16 = length-lengths (length c) in
    let lp : length p ≡ 16 * n = omega (arith, length-padded c) in
    let w : 16 * n ≤ length p = omega arith in
    let m : n + 1 ≡ block_count (p ++ q) = omega (arith, length-append p q) in
    let lt : length q ≤ 16 = omega arith in
    (λ i. mod_p (((e ∙ sym (front n r 0 p q w)) i + block_number (sym (ap (take 16) (drop_at p q (16 * n) lp) ∙ take_all 16 q lt) i)) * r))
    ∙ sym (behind n r 0 (p ++ q)) ∙ ap (λ (k : ℕ). poly_from k r 0 (p ++ q)) m
