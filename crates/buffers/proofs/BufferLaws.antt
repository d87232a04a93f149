-- Laws of byte strings: exclusive or, bytes, what is put into a buffer, comparison.
-- Assumes nothing.
use mathlib.Core.Bool.{Bool, true, false, ◌&&◌, false≢true, and-eq-true_iff, and-true, and_assoc}
use mathlib.Core.Path.{◌≡◌, refl, sym, ap, ap₂, ◌∙◌, subst}
use mathlib.Core.List.{List, [], ◌∷◌, ◌++◌, append_assoc, append-nil}
use Prim.Native.Nat.{ℕ, zero, suc, ◌+◌, ◌-◌, ◌≤◌, ◌<◌, min}
use native.Mathlib.Nat.{le_of_eq, le_of_lt, le_of_suc-le-suc, not-suc-le-zero}
use native.Mathlib.Numerals.{add-one}
use native.Mathlib.Decide.{dec_le}
use native.Mathlib.Omega.{arith}
use mir.Syntax.{w8}
use mir.Val.{Fits}
use lib.Bits.{bit_xor, bit_or, xor_lt, xor_self, or_zero_l, or_add_and, and_le_l, and_le_r}
use borrow.Author.Tests.{eq-eqb, ne_eqb, eqb-true, eqb-false}
use lib.Dec.{eqb, lit<}
use lib.ListN.{length, get_or, take, drop, set, replicate, length-append, length-drop, length-replicate, drop_of_length-le}
use lib.Seq.{get_or-drop, take_at, drop_at, drop-drop, length-take-le, append_snoc, set_split, paste-zero, take-suc, take-length, take_all, take-nil}
use Rattle.buffers.specs.Buffers.{Octets, put, ◌⊞◌, same}
use Rattle.buffers.proofs.XorLaws.{xor-cancel, xor-zero}

-- ---- bytes

pub octets-nil : Octets []
octets-nil = record { octet = λ i. lit< tt }

-- what a slice of u8 is known to be
pub octets-fit : (s : List ℕ) → ((i : ℕ) → Fits w8 (get_or s i 0)) → Octets s
octets-fit s f = record { octet = λ i. (f i).fits }

pub octets-cons : {a : ℕ} {s : List ℕ} → a < 256 → Octets s → Octets (a ∷ s)
octets-cons {a} {s} h p = record { octet = go }
  where
    go : (i : ℕ) → get_or (a ∷ s) i 0 < 256
    go zero = h
    go (suc i) = p.octet i

pub octets-tail : {a : ℕ} {s : List ℕ} → Octets (a ∷ s) → Octets s
octets-tail p = record { octet = λ i. p.octet (suc i) }

pub octets-append : (s t : List ℕ) → Octets s → Octets t → Octets (s ++ t)
octets-append [] t p q = q
octets-append (a ∷ s) t p q = octets-cons (p.octet 0) (octets-append s t (octets-tail p) q)

pub octets-drop : (n : ℕ) {s : List ℕ} → Octets s → Octets (drop n s)
octets-drop n {s} p = record { octet = λ i. subst (λ (x : ℕ). x < 256) (sym (get_or-drop n s i 0)) (p.octet (n + i)) }

pub octets-take : (n : ℕ) (s : List ℕ) → Octets s → Octets (take n s)
octets-take zero s p = octets-nil
octets-take (suc n) [] p = octets-nil
octets-take (suc n) (a ∷ s) p = octets-cons (p.octet 0) (octets-take n s (octets-tail p))

-- what `&s[at..]` holds
pub rest : (s : List ℕ) (at : ℕ) → take (length s - at) (drop at s) ≡ drop at s
rest s at = take_all (length s - at) (drop at s) (le_of_eq (length-drop at s))

-- ---- exclusive or

pub length-xor : (s k : List ℕ) → length (s ⊞ k) ≡ length s
unfolding ◌⊞◌
length-xor [] k = refl
length-xor (a ∷ s) [] = refl
length-xor (a ∷ s) (b ∷ k) = ap suc (length-xor s k)

-- (s ⊞ k) ⊞ k = s
pub xor-twice : (s k : List ℕ) → s ⊞ k ⊞ k ≡ s
unfolding ◌⊞◌
xor-twice [] k = refl
xor-twice (a ∷ s) [] = refl
xor-twice (a ∷ s) (b ∷ k) = ap₂ (λ (x : ℕ) (t : List ℕ). x ∷ t) (xor-cancel a b) (xor-twice s k)

pub octets-xor : (s k : List ℕ) → Octets s → Octets k → Octets (s ⊞ k)
unfolding ◌⊞◌
octets-xor [] k p q = p
octets-xor (a ∷ s) [] p q = p
octets-xor (a ∷ s) (b ∷ k) p q =
    octets-cons (xor_lt 8 a b (p.octet 0) (q.octet 0)) (octets-xor s k (octets-tail p) (octets-tail q))

-- byte by byte: none of k, one more byte of it, as much as there is room for
pub xor-none : (s : List ℕ) → s ⊞ [] ≡ s
unfolding ◌⊞◌
xor-none [] = refl
xor-none (a ∷ s) = refl

xor-suc : (s k : List ℕ) (i : ℕ) → i < length s → i < length k
    → set (s ⊞ take i k) i (bit_xor (get_or (s ⊞ take i k) i 0) (get_or k i 0)) ≡ s ⊞ take (suc i) k
unfolding ◌⊞◌
xor-suc [] k i h l = absurd (not-suc-le-zero h)
xor-suc (a ∷ s) [] i h l = absurd (not-suc-le-zero l)
xor-suc (a ∷ s) (b ∷ k) zero h l = ap (λ (t : List ℕ). bit_xor a b ∷ t) (sym (xor-none s))
xor-suc (a ∷ s) (b ∷ k) (suc i) h l = ap (λ (t : List ℕ). bit_xor a b ∷ t) (xor-suc s k i (le_of_suc-le-suc h) (le_of_suc-le-suc l))

pub xor-next : (s k : List ℕ) (i : ℕ) → i < length s → i < length k
    → set (s ⊞ take i k) i (bit_xor (get_or (s ⊞ take i k) i 0) (get_or k i 0)) ≡ s ⊞ take (i + 1) k
xor-next s k i h l = xor-suc s k i h l ∙ ap (λ (n : ℕ). s ⊞ take n k) (sym (add-one i))

pub xor_all : (s k : List ℕ) (n : ℕ) → min (length s) (length k) ≤ n → s ⊞ take n k ≡ s ⊞ k
unfolding ◌⊞◌
xor_all [] k n h = refl
xor_all (a ∷ s) [] n h = ap (λ (t : List ℕ). (a ∷ s) ⊞ t) (take-nil n)
xor_all (a ∷ s) (b ∷ k) zero h = absurd (omega arith)
xor_all (a ∷ s) (b ∷ k) (suc n) h = ap (λ (t : List ℕ). bit_xor a b ∷ t) (xor_all s k n (omega arith))

-- ---- what is put into a buffer

module _ (d : List ℕ) (at : ℕ) (s : List ℕ) (fits : at + length s ≤ length d) where
  length_front : length (take at d ++ s) ≡ at + length s
  length_front = length-append (take at d) s ∙ ap (λ (n : ℕ). n + length s) (length-take-le at d (omega arith))

  pub length-put : length (put d at s) ≡ length d
  unfolding put
  length-put =
      length-append (take at d ++ s) (drop (at + length s) d)
      ∙ omega (arith, length_front, length-drop (at + length s) d)

  pub take_put : take (at + length s) (put d at s) ≡ take at d ++ s
  unfolding put
  take_put = take_at (take at d ++ s) (drop (at + length s) d) (at + length s) length_front

  pub drop-put : drop (at + length s) (put d at s) ≡ drop (at + length s) d
  unfolding put
  drop-put = drop_at (take at d ++ s) (drop (at + length s) d) (at + length s) length_front

  -- one string behind the other is the two of them at once
  pub put-put : (t : List ℕ) → put (put d at s) (at + length s) t ≡ put d at (s ++ t)
  unfolding put
  put-put t =
      let n : at + length s + length t ≡ at + length (s ++ t) = omega (arith, length-append s t) in
      ap₂ (λ (x y : List ℕ). x ++ t ++ y) take_put
      (sym (drop-drop (length t) (at + length s) (put d at s)) ∙ ap (drop (length t)) drop-put
      ∙ drop-drop (length t) (at + length s) d)
      ∙ ap₂ (λ (x : List ℕ) (k : ℕ). x ++ drop k d) (append_assoc (take at d) s t) n

-- the same, by what each writer left
pub put-behind : (d s t v w : List ℕ) (at n : ℕ) → n ≡ at + length s → at + length s ≤ length d → v ≡ put d at s → w ≡ put v n t
    → w ≡ put d at (s ++ t)
put-behind d s t v w at n en h ev ew = ew ∙ (λ i. put (ev i) (en i) t) ∙ put-put d at s h t

-- a second string of the same length takes the first one's place
pub put-again : (d s t : List ℕ) → 0 + length s ≤ length d → length t ≡ length s → put (put d 0 s) 0 t ≡ put d 0 t
unfolding put
put-again d s t h e =
    let n : 0 + length t ≡ 0 + length s = ap (λ (k : ℕ). 0 + k) e in
    ap (λ (x : List ℕ). t ++ x) (ap (λ (k : ℕ). drop k (put d 0 s)) n ∙ drop-put d 0 s h ∙ ap (λ (k : ℕ). drop k d) (sym n))

-- one byte
pub put_one : (d : List ℕ) (at a : ℕ) → at < length d → put d at (a ∷ []) ≡ set d at a
unfolding put
put_one d at a h =
    ap (λ (k : ℕ). take at d ++ (a ∷ []) ++ drop k d) (add-one at)
    ∙ append_snoc (take at d) a (drop (suc at) d)
    ∙ sym (set_split d at a h)

-- a string put in byte by byte: none of it, one more byte, all of it
pub put-none : (d : List ℕ) (at : ℕ) → d ≡ put d at []
unfolding put
put-none d at = paste-zero d at []

module _ (d : List ℕ) (at : ℕ) (s : List ℕ) (i : ℕ) (inside : at + i < length d) (more : i < length s) where
  part : length (take i s) ≡ i
  part = length-take-le i s (le_of_lt more)

  fits : at + length (take i s) ≤ length d
  fits = omega (arith, part)

  pub put_next : set (put d at (take i s)) (at + i) (get_or s i 0) ≡ put d at (take (i + 1) s)
  put_next =
      sym (put_one (put d at (take i s)) (at + i) (get_or s i 0) (omega (arith, length-put d at (take i s) fits)))
      ∙ ap (λ (k : ℕ). put (put d at (take i s)) (at + k) (get_or s i 0 ∷ [])) (sym part)
      ∙ put-put d at (take i s) fits (get_or s i 0 ∷ [])
      ∙ ap (put d at) (sym (take-suc s i 0 more) ∙ ap (λ (k : ℕ). take k s) (sym (add-one i)))

pub put_all : (d : List ℕ) (at : ℕ) (s : List ℕ) (n : ℕ) → n ≡ length s → put d at (take n s) ≡ put d at s
put_all d at s n e = ap (λ (k : ℕ). put d at (take k s)) e ∙ ap (put d at) (take-length s)

-- a string as long as the buffer takes its place
pub put_whole : (d s : List ℕ) → length d ≤ length s → put d 0 s ≡ s
unfolding put
put_whole d s h =
    let e : length d ≤ 0 + length s = omega arith in
    ap (λ (x : List ℕ). s ++ x) (drop_of_length-le d e) ∙ append-nil s

-- what stands in a lent part is put back
pub part-put : (d ys : List ℕ) (at k : ℕ) → length ys ≡ k → take at d ++ (ys ++ drop k (drop at d)) ≡ put d at ys
unfolding put
part-put d ys at k e =
    sym (append_assoc (take at d) ys (drop k (drop at d)))
    ∙ ap (λ (r : List ℕ). take at d ++ ys ++ r) (drop-drop k at d ∙ ap (λ (n : ℕ). drop (at + n) d) (sym e))

-- the same of a part that was filled with zeros
pub zeros-put : (d ys : List ℕ) (at k n : ℕ) → ys ≡ replicate (length (take k (drop at d))) 0 → k ≡ n → at + n ≤ length d
    → take at d ++ (ys ++ drop k (drop at d)) ≡ put d at (replicate n 0)
zeros-put d ys at k n e same fits =
    let size : length (take k (drop at d)) ≡ n =
    omega (arith, length-take-le k (drop at d) (omega (arith, length-drop at d))) in
    let zeros : ys ≡ replicate n 0 = e ∙ ap (λ (m : ℕ). replicate m 0) size in
    part-put d ys at k (omega (arith, ap length zeros, length-replicate {A = ℕ} n 0)) ∙ ap (put d at) zeros

-- n bytes, or those that are left, put at a place
module _ (d : List ℕ) (at n : ℕ) (b : List ℕ) (within : at ≤ length d) (size : length b ≡ min n (length d - at)) where
  pub take-put-min : take (at + n) (put d at b) ≡ take at d ++ b
  take-put-min = pick (dec_le n (length d - at))
    where
      fits : at + length b ≤ length d
      fits = omega arith

      pick : Dec (n ≤ length d - at) → take (at + n) (put d at b) ≡ take at d ++ b
      pick (yes h) = let e : at + n ≡ at + length b = omega arith in ap (λ (k : ℕ). take k (put d at b)) e ∙ take_put d at b fits
      pick (no f) =
          let e : length (put d at b) ≤ at + length b = omega (arith, length-put d at b fits) in
          let l : length (put d at b) ≤ at + n = omega (arith, length-put d at b fits) in
          take_all (at + n) (put d at b) l ∙ sym (take_all (at + length b) (put d at b) e) ∙ take_put d at b fits

  pub drop-put-min : drop (at + n) (put d at b) ≡ drop (at + n) d
  drop-put-min = pick (dec_le n (length d - at))
    where
      fits : at + length b ≤ length d
      fits = omega arith

      pick : Dec (n ≤ length d - at) → drop (at + n) (put d at b) ≡ drop (at + n) d
      pick (yes h) =
          let e : at + n ≡ at + length b = omega arith in
          ap (λ (k : ℕ). drop k (put d at b)) e ∙ drop-put d at b fits ∙ ap (λ (k : ℕ). drop k d) (sym e)
      pick (no f) =
          let l : length (put d at b) ≤ at + n = omega (arith, length-put d at b fits) in
          let m : length d ≤ at + n = omega arith in
          drop_of_length-le (put d at b) l ∙ sym (drop_of_length-le d m)

-- a string with zeros behind it reads as the string itself
pub get_or-zeros : (n i : ℕ) → get_or {A = ℕ} (replicate n 0) i 0 ≡ 0
get_or-zeros zero i = refl
get_or-zeros (suc n) zero = refl
get_or-zeros (suc n) (suc i) = get_or-zeros n i

get_or-behind : (s z : List ℕ) → ((i : ℕ) → get_or z i 0 ≡ 0) → (i : ℕ) → get_or (s ++ z) i 0 ≡ get_or s i 0
get_or-behind [] z e i = e i
get_or-behind (a ∷ s) z e zero = refl
get_or-behind (a ∷ s) z e (suc i) = get_or-behind s z e i

pub get_or-padded : (n : ℕ) (s : List ℕ) (i : ℕ) → get_or (put (replicate n 0) 0 s) i 0 ≡ get_or s i 0
unfolding put
get_or-padded n s i =
    let k = 0 + length s in
    get_or-behind s (drop k (replicate n 0)) (λ j. get_or-drop k (replicate n 0) j 0 ∙ get_or-zeros n (k + j)) i

-- ---- comparison

pub same_refl : (s : List ℕ) → same s s ≡ true
unfolding same
same_refl [] = refl
same_refl (a ∷ s) = ap₂ ◌&&◌ (eq-eqb a a refl) (same_refl s)

pub same-eq : (s t : List ℕ) → same s t ≡ true → s ≡ t
unfolding same
same-eq [] [] e = refl
same-eq [] (b ∷ t) e = absurd (false≢true e)
same-eq (a ∷ s) [] e = absurd (false≢true e)
same-eq (a ∷ s) (b ∷ t) e =
    let k = (and-eq-true_iff (eqb a b) (same s t)).0 e in
    ap₂ (λ (n : ℕ) (l : List ℕ). n ∷ l) (eqb-true a b k.0) (same-eq s t k.1)

-- one more byte
same-suc : (s t : List ℕ) (i : ℕ) → i < length s → i < length t
    → same (take (suc i) s) (take (suc i) t) ≡ (same (take i s) (take i t) && eqb (get_or s i 0) (get_or t i 0))
unfolding same
same-suc [] t i h l = absurd (not-suc-le-zero h)
same-suc (a ∷ s) [] i h l = absurd (not-suc-le-zero l)
same-suc (a ∷ s) (b ∷ t) zero h l = and-true (eqb a b)
same-suc (a ∷ s) (b ∷ t) (suc i) h l =
    ap (◌&&◌ (eqb a b)) (same-suc s t i (le_of_suc-le-suc h) (le_of_suc-le-suc l))
    ∙ sym (and_assoc (eqb a b) (same (take i s) (take i t)) (eqb (get_or s i 0) (get_or t i 0)))

pub same_next : (s t : List ℕ) (i : ℕ) → i < length s → i < length t
    → same (take (i + 1) s) (take (i + 1) t) ≡ (same (take i s) (take i t) && eqb (get_or s i 0) (get_or t i 0))
same_next s t i h l = ap (λ (n : ℕ). same (take n s) (take n t)) (add-one i) ∙ same-suc s t i h l

-- the differences so far, or that of two more bytes: none if there was none and the two are equal
pub no_difference : (d a b : ℕ) → eqb (bit_or d (bit_xor a b)) 0 ≡ (eqb d 0 && eqb a b)
no_difference d a b = go (eqb d 0) (eqb a b) refl refl
  where
    go : (x y : Bool) → eqb d 0 ≡ x → eqb a b ≡ y → eqb (bit_or d (bit_xor a b)) 0 ≡ (x && y)
    go true true p q =
        eq-eqb (bit_or d (bit_xor a b)) 0
        (ap₂ (λ (m n : ℕ). bit_or m (bit_xor n b)) (eqb-true d 0 p) (eqb-true a b q) ∙ or_zero_l (bit_xor b b) ∙ xor_self b)
    go true false p q =
        ne_eqb (bit_or d (bit_xor a b)) 0
        (λ e. eqb-false a b q (xor-zero a b (omega (arith, or_add_and d (bit_xor a b), and_le_l d (bit_xor a b), and_le_r d (bit_xor a b)))))
    go false y p q =
        ne_eqb (bit_or d (bit_xor a b)) 0
        (λ e. eqb-false d 0 p (omega (arith, or_add_and d (bit_xor a b), and_le_l d (bit_xor a b), and_le_r d (bit_xor a b))))
