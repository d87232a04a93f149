-- Eight bytes that are one number in two strings are the same bytes, and what agrees so goes on behind them.
-- Assumes nothing.
use mathlib.Core.Path.{◌≡◌, sym, ap, ◌∙◌}
use mathlib.Core.List.{List}
use Prim.Native.Nat.{ℕ, zero, suc, ◌+◌, ◌-◌, ◌*◌, ◌≤◌, ◌<◌}
use native.Mathlib.Omega.{arith}
use lib.ListN.{length, get_or, take, drop, length-drop}
use lib.Seq.{length-take-le}
use Rattle.std.proofs.lemmas.List.{get_or-take, get_or-drop}
use Rattle.octets.specs.Buffers.{Octets}
use Rattle.octets.specs.Numbers.{be, to_be}
use Rattle.octets.proofs.BufferLaws.{octets-take, octets-drop}
use Rattle.octets.proofs.NumberLaws.{be-take, to_be-be}
use Rattle.comparison.specs.Differences.{agree}
use Rattle.comparison.proofs.DifferenceLaws.{agree-more}

-- the n bytes from a place on, by their number
part-bytes : (n : ℕ) (s : List ℕ) (x : ℕ) → Octets s → x + n ≤ length s → to_be n (be n (drop x s)) ≡ take n (drop x s)
part-bytes n s x p h =
    let d = drop x s in
    let l : n ≤ length d = omega (arith, length-drop x s) in
    ap (to_be n) (sym (be-take n d)) ∙ to_be-be (octets-take n d (octets-drop x p)) (length-take-le n d l)

pub bytes-of : (n : ℕ) (a b : List ℕ) (x y : ℕ) → Octets a → Octets b → x + n ≤ length a → y + n ≤ length b
    → be n (drop x a) ≡ be n (drop y b) → (k : ℕ) → k < n → get_or a (x + k) 0 ≡ get_or b (y + k) 0
bytes-of n a b x y p q ha hb e k h =
    let same : take n (drop x a) ≡ take n (drop y b) = sym (part-bytes n a x p ha) ∙ ap (to_be n) e ∙ part-bytes n b y q hb in
    sym (get_or-drop x a k 0) ∙ sym (get_or-take n (drop x a) k 0 h) ∙ ap (λ (l : List ℕ). get_or l k 0) same
    ∙ get_or-take n (drop y b) k 0 h ∙ get_or-drop y b k 0

module _ (a b : List ℕ) (i j n : ℕ) where
  -- what agreed up to p, and the rest from there
  abbrev pub split : ℕ → ℕ
  split p = p + agree (n - p) a (i + p) b (j + p)

  pub agree-run : (q p : ℕ) → p + q ≤ n → ((k : ℕ) → k < q → get_or a (i + (p + k)) 0 ≡ get_or b (j + (p + k)) 0) → split p ≡ split (p + q)
  agree-run zero p h e = ap split (omega arith)
  agree-run (suc q) p h e =
      let back : split p ≡ split (p + q) = agree-run q p (omega arith) (λ k l. e k (omega arith)) in
      back ∙ agree-more a b i j n (p + q) (omega arith) (e q (omega arith)) ∙ ap split (omega arith)

  -- eight bytes more, by their numbers
  pub eights-more : (k : ℕ) → 8 * k + 8 ≤ n → Octets a → Octets b → i + n ≤ length a → j + n ≤ length b
      → be 8 (drop (i + 8 * k) a) ≡ be 8 (drop (j + 8 * k) b) → split (8 * k) ≡ split (8 * (k + 1))
  eights-more k h p q ha hb e =
      let bytes = bytes-of 8 a b (i + 8 * k) (j + 8 * k) p q (omega arith) (omega arith) e in
      let in-a : (m : ℕ) → i + (8 * k + m) ≡ i + 8 * k + m = λ m. omega arith in
      let in-b : (m : ℕ) → j + 8 * k + m ≡ j + (8 * k + m) = λ m. omega arith in
      let same : (m : ℕ) → m < 8 → get_or a (i + (8 * k + m)) 0 ≡ get_or b (j + (8 * k + m)) 0 =
      λ m l. ap (λ (x : ℕ). get_or a x 0) (in-a m) ∙ bytes m l ∙ ap (λ (x : ℕ). get_or b x 0) (in-b m) in
      let next : 8 * k + 8 ≡ 8 * (k + 1) = omega arith in
      agree-run 8 (8 * k) h same ∙ ap split next
