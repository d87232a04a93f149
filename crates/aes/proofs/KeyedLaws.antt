-- The cipher at the words that the key expansion left is AES under the key; the lengths of keys; blocks in place.
-- Assumes nothing.
use mathlib.Core.Path.{◌≡◌, refl, sym, ap, ap₂, ◌∙◌, subst}
use mathlib.Core.Bool.{Bool, true, false, cond, ◌&&◌}
use mathlib.Core.List.{List, ◌++◌, map}
use mathlib.Core.Logic.{◌⊎◌, inl, inr}
use Prim.Native.Nat.{ℕ, zero, suc, ◌+◌, ◌-◌, ◌*◌, ◌≤◌, ◌<◌}
use native.Mathlib.Omega.{arith}
use lib.Dec.{T, eqb, ltb, eqb→eq, lit<}
use lib.ListN.{length, take}
use lib.Seq.{get_or-take, take_all}
use borrow.Author.Tests.{eq-eqb, ne_eqb, lt-ltb}
use Rattle.octets.specs.Buffers.{put, ◌⊞◌}
use Rattle.octets.proofs.BufferLaws.{put_whole}
use Rattle.aes.specs.Cipher.{sub_bytes, shift_rows, mix_columns, word, round_key, add_round_key, rounds, cipher}
use Rattle.aes.specs.KeyExpansion.{key_expansion, aes}
use Rattle.aes.specs.Keyed.{nk_of, KeyLength, lawful, in_place}
use Rattle.aes.specs.Words.{bytes}
use Rattle.aes.proofs.RoundLaws.{word-law}

-- ---- the words behind the expanded key are not looked at

module _ (l : List ℕ) (m : ℕ) where
  word-take : (i : ℕ) → i < m → word (map bytes l) i ≡ word (map bytes (take m l)) i
  word-take i h = word-law l i ∙ ap bytes (sym (get_or-take m l i 0 h)) ∙ sym (word-law (take m l) i)

  round-key-take : (r : ℕ) → 4 * r + 3 < m → round_key (map bytes l) r ≡ round_key (map bytes (take m l)) r
  unfolding round_key
  round-key-take r h =
      λ i. word-take (4 * r) (omega arith) i
      ++ (word-take (4 * r + 1) (omega arith) i ++ (word-take (4 * r + 2) (omega arith) i ++ word-take (4 * r + 3) h i))

-- two expanded keys with the same round keys
module _ (v w : List (List ℕ)) (nr : ℕ) (e : (r : ℕ) → r ≤ nr → round_key v r ≡ round_key w r) where
  pub add_same : (r : ℕ) → r ≤ nr → (s : List ℕ) → add_round_key v r s ≡ add_round_key w r s
  unfolding add_round_key
  add_same r h s = ap (λ (k : List ℕ). s ⊞ k) (e r h)

  rounds-same : (n : ℕ) → n ≤ nr → (s : List ℕ) → rounds v n s ≡ rounds w n s
  unfolding rounds
  rounds-same zero h s = refl
  rounds-same (suc n) h s =
      add_same (suc n) h (mix_columns (shift_rows (sub_bytes (rounds v n s))))
      ∙ ap (λ (t : List ℕ). add_round_key w (suc n) (mix_columns (shift_rows (sub_bytes t)))) (rounds-same n (omega arith) s)

  cipher-same : (s : List ℕ) → cipher nr v s ≡ cipher nr w s
  unfolding cipher
  cipher-same s =
      add_same nr (omega arith) (shift_rows (sub_bytes (rounds v (nr - 1) (add_round_key v 0 s))))
      ∙ ap (λ (t : List ℕ). add_round_key w nr (shift_rows (sub_bytes t)))
      (rounds-same (nr - 1) (omega arith) (add_round_key v 0 s) ∙ ap (rounds w (nr - 1)) (add_same 0 (omega arith) s))

-- ---- the cipher under a key

module _ (nk : ℕ) (key l : List ℕ) (expands : map bytes (take (4 * nk + 28) l) ≡ key_expansion nk key) where
  pub round-keys : (r : ℕ) → r ≤ nk + 6 → round_key (map bytes l) r ≡ round_key (key_expansion nk key) r
  round-keys r h = round-key-take l (4 * nk + 28) r (omega arith) ∙ ap (λ (w : List (List ℕ)). round_key w r) expands

  pub cipher-aes : (s : List ℕ) → cipher (nk + 6) (map bytes l) s ≡ aes nk key s
  unfolding aes
  cipher-aes s = cipher-same (map bytes l) (key_expansion nk key) (nk + 6) round-keys s

-- ---- the lengths of keys

pub key-length : (n : ℕ) → (nk_of n ≡ 0 → ⊥) → KeyLength n (nk_of n)
unfolding nk_of
key-length n = go (eqb n 16) (eqb n 24) (eqb n 32) (eqb→eq n 16) (eqb→eq n 24) (eqb→eq n 32)
  where
    go : (a b c : Bool) → (T a → n ≡ 16) → (T b → n ≡ 24) → (T c → n ≡ 32) → (◌≡◌ {A = ℕ} (cond a 4 (cond b 6 (cond c 8 0))) 0 → ⊥)
        → KeyLength n (cond a 4 (cond b 6 (cond c 8 0)))
    go true b c e f g h = record { words = e tt; least = omega arith; most = omega arith }
    go false true c e f g h = record { words = f tt; least = omega arith; most = omega arith }
    go false false true e f g h = record { words = g tt; least = omega arith; most = omega arith }
    go false false false e f g h = absurd (h refl)

-- a string of 16 or of 32 bytes is a key of AES
pub key-of-size : (n : ℕ) → (n ≡ 16) ⊎ (n ≡ 32) → 0 < nk_of n
unfolding nk_of
key-of-size n (inl e) = subst (λ (k : ℕ). 0 < nk_of k) (sym e) (lit< tt)
key-of-size n (inr e) = subst (λ (k : ℕ). 0 < nk_of k) (sym e) (lit< tt)

-- no key of AES is longer than 32 bytes
pub key-most : (n : ℕ) → 0 < nk_of n → n ≤ 32
key-most n h =
    let k = key-length n (λ e. omega arith) in
    omega (arith, k.words, k.most)

-- ---- whether key and string have their lengths

module _ (n : ℕ) (key s : List ℕ) where
  pub no_key : nk_of (length key) ≡ 0 → lawful n key s ≡ false
  unfolding lawful
  no_key e = ap (λ (k : ℕ). ltb 0 k && eqb (length s) n) e

  -- where key_words gave nk
  module _ (nk : ℕ) (k : (nk ≡ nk_of (length key)) × KeyLength (length key) nk) where
    has_key : ltb 0 (nk_of (length key)) ≡ true
    has_key = lt-ltb _ _ (let l = k.1.least in let e = k.0 in omega (arith, l, e))

    pub no-string : (length s ≡ n → ⊥) → lawful n key s ≡ false
    unfolding lawful
    no-string e = ap₂ ◌&&◌ has_key (ne_eqb _ _ e)

    pub both-lawful : length s ≡ n → lawful n key s ≡ true
    unfolding lawful
    both-lawful e = ap₂ ◌&&◌ has_key (eq-eqb _ _ e)

-- ---- a block in place

module _ (key s : List ℕ) (f : ℕ → List ℕ → List ℕ → List ℕ) where
  pub in-place-refused : lawful 16 key s ≡ false → s ≡ in_place f key s
  unfolding in_place
  in-place-refused e = sym (ap (λ (b : Bool). cond b (f (nk_of (length key)) key s) s) e)

  pub in-place-lawful : 0 < nk_of (length key) → length s ≡ 16 → in_place f key s ≡ f (nk_of (length key)) key s
  unfolding in_place
  in-place-lawful k l = ap (λ (b : Bool). cond b (f (nk_of (length key)) key s) s) (both-lawful 16 key s _ (refl, key-length _ (λ e. omega arith)) l)

  -- the block x is read, and y, the same under f, is written in its place
  pub in_place_lem : (nk : ℕ) (o x y : List ℕ) → lawful 16 key s ≡ true → length s ≡ 16 → nk ≡ nk_of (length key) → x ≡ take 16 s
      → y ≡ f nk key x → length y ≡ 16 → o ≡ put s 0 y → o ≡ in_place f key s
  unfolding in_place
  in_place_lem nk o x y e l en ex ey ly eo =
      eo ∙ put_whole s y (omega arith) ∙ ey ∙ (λ i. f (en i) key (ex i)) ∙ ap (f (nk_of (length key)) key) (take_all 16 s (omega arith))
      ∙ sym (ap (λ (b : Bool). cond b (f (nk_of (length key)) key s) s) e)
