-- The key expansion: where a word stands in its group, what is added to it, and one word more.
-- Assumes nothing.
use mathlib.Core.Path.{◌≡◌, refl, sym, ap, ◌∙◌}
use mathlib.Core.Bool.{Bool, true, false, cond}
use mathlib.Core.List.{List, [], ◌∷◌, ◌++◌, map, map-append}
use Prim.Native.Nat.{ℕ, zero, suc, ◌+◌, ◌-◌, ◌*◌, ◌/◌, ◌%◌, ◌≤◌, ◌<◌}
use native.Mathlib.Nat.{add-zero, sub-zero, zero-sub, add-mod_left, mul-add-mod_self_right, mod-eq_of_lt, add-div_left, mul-add-div_right, div-eq_of_lt}
use native.Mathlib.Numerals.{add-one}
use native.Mathlib.Omega.{arith}
use lib.Bits.{bit_xor}
use lib.Dec.{eqb}
use lib.ListN.{get_or, set, take, drop, length, replicate}
use lib.Seq.{take-suc-set, drop-set-lt, get_or-set_same, get_or-take}
use borrow.Author.Tests.{eq-eqb, ne_eqb, lt-ltb, le-ltb}
use Rattle.octets.specs.Buffers.{◌⊞◌}
use Rattle.aes_tables.specs.Field.{x_times}
use Rattle.aes.specs.Cipher.{word}
use Rattle.aes.specs.KeyExpansion.{rot_word, sub_word, x_power, rcon, temp, key_words, expanded, key_expansion}
use Rattle.aes.specs.Words.{bytes}
use Rattle.aes.proofs.WordLaws.{bytes-xor}
use Rattle.aes.proofs.RoundLaws.{word-law}

-- ---- where word nk + n stands: its place in its group of nk words, and the constant of the next first word

pub record Place (nk n at c : ℕ) : Type 0 where
  pub group : ℕ
  pub number : n ≡ group * nk + at
  pub constant : c ≡ cond (eqb at 0) (x_power group) (x_times (x_power group))

first-place : (nk : ℕ) → Place nk 0 0 1
unfolding x_power
first-place nk = record { group = 0; number = omega arith; constant = refl }

-- behind any word of the group of g, the constant is the next one
advanced : (at c d g : ℕ) → c ≡ cond (eqb at 0) g (x_times g) → d ≡ cond (eqb at 0) (x_times c) c → d ≡ x_times g
advanced at c d g = go (eqb at 0)
  where
    go : (b : Bool) → c ≡ cond b g (x_times g) → d ≡ cond b (x_times c) c → d ≡ x_times g
    go true ec ed = ed ∙ ap x_times ec
    go false ec ed = ed ∙ ec

module _ (nk n at c : ℕ) (p : Place nk n at c) (d : ℕ) (ed : d ≡ cond (eqb at 0) (x_times c) c) where
  pub same-group : Place nk (n + 1) (at + 1) d
  same-group =
      let g = p.group in
      let later : at + 1 ≡ 0 → ⊥ = λ e. omega arith in
      record {
        group = g;
        number = omega (arith, p.number);
        constant =
            advanced at c d (x_power g) p.constant ed
            ∙ sym (ap (λ (b : Bool). cond b (x_power g) (x_times (x_power g))) (ne_eqb (at + 1) 0 later));
      }

  pub next-group : at + 1 ≡ nk → Place nk (n + 1) 0 d
  unfolding x_power
  next-group e = record {
    group = p.group + 1;
    number = omega (arith, p.number, e);
    constant = rw add-one (advanced at c d (x_power p.group) p.constant ed);
  }

module _ (nk n at c : ℕ) (p : Place nk n at c) where
  place_at : at < nk → (nk + n) % nk ≡ at
  place_at h = add-mod_left nk n ∙ rw p.number (mul-add-mod_self_right p.group nk at ∙ mod-eq_of_lt h)

  place-constant : at < nk → at ≡ 0 → x_power ((nk + n) / nk - 1) ≡ c
  place-constant h e =
      ap x_power (omega (arith, add-div_left n above, group))
      ∙ sym (p.constant ∙ ap (λ (b : Bool). cond b (x_power p.group) (x_times (x_power p.group))) (eq-eqb at 0 e))
    where
      above : 0 < nk
      above = omega arith

      group : n / nk ≡ p.group
      group = rw p.number (mul-add-div_right above p.group at ∙ ap (λ (m : ℕ). p.group + m) (div-eq_of_lt h) ∙ add-zero p.group)

-- ---- what is added to a word

module _ (nk i : ℕ) (t : List ℕ) where
  pub temp-first : i % nk ≡ 0 → temp nk i t ≡ sub_word (rot_word t) ⊞ rcon (i / nk)
  unfolding temp
  temp-first e = simp (eq-eqb _ _ e)

  pub temp-fourth : (i % nk ≡ 0 → ⊥) → 6 < nk → i % nk ≡ 4 → temp nk i t ≡ sub_word t
  unfolding temp
  temp-fourth n l e = simp (ne_eqb _ _ n, lt-ltb _ _ l, eq-eqb _ _ e)

  pub temp-other : (i % nk ≡ 0 → ⊥) → 6 < nk → (i % nk ≡ 4 → ⊥) → temp nk i t ≡ t
  unfolding temp
  temp-other n l e = simp (ne_eqb _ _ n, lt-ltb _ _ l, ne_eqb _ _ e)

  pub temp-short : (i % nk ≡ 0 → ⊥) → nk ≤ 6 → temp nk i t ≡ t
  unfolding temp
  temp-short n l = simp (ne_eqb _ _ n, le-ltb _ _ l)

-- a word is stored behind the first i
stored : (w : List ℕ) (i v : ℕ) → i < length w → map bytes (take (suc i) (set w i v)) ≡ map bytes (take i w) ++ bytes v ∷ []
stored w i v h = ap (map bytes) (take-suc-set w i v h) ∙ map-append bytes (take i w) (v ∷ [])

-- ---- the words that are not made yet are zeros

abbrev pub Zeros : (w : List ℕ) (from : ℕ) → Type 0
Zeros w from = (k : ℕ) → from ≤ k → drop k w ≡ replicate (60 - k) 0

drop-zeros : (k n : ℕ) → drop {A = ℕ} k (replicate n 0) ≡ replicate (n - k) 0
drop-zeros zero n = ap (λ (m : ℕ). replicate m 0) (sym (sub-zero n))
drop-zeros (suc k) zero = ap (λ (m : ℕ). replicate m 0) (sym (zero-sub (suc k)))
drop-zeros (suc k) (suc n) = let e : n - k ≡ suc n - suc k = omega arith in drop-zeros k n ∙ ap (λ (m : ℕ). replicate m 0) e

pub zeros-none : Zeros (replicate 60 0) 0
zeros-none k h = drop-zeros k 60

pub zeros-behind : (w : List ℕ) (i v from : ℕ) → i < from → Zeros w i → Zeros (set w i v) from
zeros-behind w i v from h z k l = drop-set-lt k w i v (omega arith) ∙ z k (omega arith)

-- ---- the loops

-- a word of the key
pub key-law : (w key : List ℕ) (i v : ℕ) → i < length w → map bytes (take i w) ≡ key_words key i
    → bytes v ≡ get_or key (4 * i) 0 ∷ get_or key (4 * i + 1) 0 ∷ get_or key (4 * i + 2) 0 ∷ get_or key (4 * i + 3) 0 ∷ []
    → map bytes (take (i + 1) (set w i v)) ≡ key_words key (i + 1)
unfolding key_words
key-law w key i v h e ev = rw add-one (stored w i v h ∙ (λ j. e j ++ ev j ∷ []))

-- a word among the first m
among : (w : List ℕ) (e : List (List ℕ)) (m i : ℕ) → i < m → map bytes (take m w) ≡ e → bytes (get_or w i 0) ≡ word e i
among w e m i h p = sym (word-law (take m w) i ∙ ap bytes (get_or-take m w i 0 h)) ∙ ap (λ (l : List (List ℕ)). word l i) p

-- the second loop, before word nk + n: the words so far, the last of them, where the next one stands, and what is behind
pub record Expanding (key w : List ℕ) (nk n t at c : ℕ) : Type 0 where
  pub words : map bytes (take (nk + n) w) ≡ expanded nk key n
  pub last : t ≡ get_or w (nk + n - 1) 0
  pub place : Place nk n at c
  pub rest : Zeros w (nk + n)

pub start-law : (w key : List ℕ) (nk i : ℕ) → i ≡ nk → map bytes (take i w) ≡ key_words key i → Zeros w i
    → Expanding key w nk 0 (get_or w (nk - 1) 0) 0 1
unfolding expanded
start-law w key nk i e h z = record {
  words = rw (add-zero, ← e) h;
  last = rw add-zero refl;
  place = first-place nk;
  rest = λ k l. z k (omega arith);
}

module _ (key w : List ℕ) (nk n t at c : ℕ) (x : Expanding key w nk n t at c) (fits : nk + n < length w) (within : at < nk) where
  next-words : (v : ℕ) → bytes v ≡ temp nk (nk + n) (bytes t)
      → map bytes (take (nk + (n + 1)) (set w (nk + n) (bit_xor (get_or w n 0) v))) ≡ expanded nk key (n + 1)
  unfolding expanded
  next-words v ev =
      let m : nk + (n + 1) ≡ suc (nk + n) = omega arith in
      rw (m, add-one)
      (stored w (nk + n) (bit_xor (get_or w n 0) v) fits
      ∙ (λ j. x.words j ++ (bytes-xor (get_or w n 0) v ∙ (λ k. among w e (nk + n) n (omega arith) x.words k ⊞ added k)) j ∷ []))
    where
      e : List (List ℕ)
      e = expanded nk key n

      added : bytes v ≡ temp nk (nk + n) (word e (nk + n - 1))
      added =
          ev
          ∙ ap (temp nk (nk + n)) (ap bytes x.last ∙ among w e (nk + n) (nk + n - 1) (omega arith) x.words)

  -- one word more, from what temp promises, and the place of the next
  pub next-law : (v b d : ℕ) → ((i : ℕ) → i % nk ≡ at → (at ≡ 0 → x_power (i / nk - 1) ≡ c) → bytes v ≡ temp nk i (bytes t)) → Place nk (n + 1) b d
      → Expanding key (set w (nk + n) (bit_xor (get_or w n 0) v)) nk (n + 1) (bit_xor (get_or w n 0) v) b d
  next-law v b d ev p = record {
    words = next-words v (ev (nk + n) (place_at nk n at c x.place within) (place-constant nk n at c x.place within));
    last = rw m (sym (get_or-set_same w (nk + n) (bit_xor (get_or w n 0) v) 0 fits));
    place = p;
    rest = zeros-behind w (nk + n) (bit_xor (get_or w n 0) v) (nk + (n + 1)) (omega arith) x.rest;
  }
    where
      m : nk + (n + 1) - 1 ≡ nk + n
      m = omega arith

pub end-law : (key w : List ℕ) (nk n t at c : ℕ) → n ≡ 3 * nk + 28 → Expanding key w nk n t at c
    → (map bytes (take (4 * nk + 28) w) ≡ key_expansion nk key) × (drop (4 * nk + 28) w ≡ replicate (60 - (4 * nk + 28)) 0)
unfolding key_expansion
end-law key w nk n t at c e x =
    let m : 4 * nk + 28 ≡ nk + n = omega arith in
    (rw (m, ← e) x.words, x.rest (4 * nk + 28) (omega arith))
