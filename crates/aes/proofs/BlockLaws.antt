-- The steps of the cipher keep a state a block: 16 bytes. And a block is the state of its bytes.
-- Assumes nothing.
use mathlib.Core.Path.{◌≡◌, refl, sym, ap, ◌∙◌}
use mathlib.Core.Bool.{Bool, true, false, cond}
use mathlib.Core.List.{List, [], ◌∷◌, ◌++◌, map}
use Prim.Native.Nat.{ℕ, zero, suc, ◌+◌, ◌-◌, ◌*◌, ◌/◌, ◌%◌, ◌≤◌, ◌<◌}
use native.Mathlib.Nat.{add-suc, suc-add}
use native.Mathlib.Omega.{arith}
use lib.Bits.{xor_lt}
use lib.Dec.{eqb, ltb, lit<}
use lib.ListN.{length, get_or, drop, length-map, drop_of_length-le}
use lib.Seq.{drop-cons}
use Rattle.octets.specs.Buffers.{Octets}
use Rattle.octets.proofs.BufferLaws.{octets-nil, octets-cons, octets-tail, octets-append, octets-take, octets-drop, octets-xor, length-xor}
use Rattle.aes_tables.specs.Field.{◌⊕◌, ◌•◌}
use Rattle.aes_tables.specs.SBox.{s_box}
use Rattle.aes_tables.proofs.Substitution.{s_box-lt}
use Rattle.aes_tables.proofs.Products.{x_times-lt, product_lt}
use Rattle.aes.specs.Cipher.{IsBlock, at, state, by_column, sub_bytes, shift_rows, mix_column, mix_columns, word, round_key, add_round_key, rounds, cipher}
use Rattle.aes.specs.KeyExpansion.{rot_word, sub_word, x_power, rcon, temp, key_words, expanded, key_expansion, aes}

-- ---- a block is the state of its bytes

-- the n elements of s from place i on
from : ℕ → ℕ → List ℕ → List ℕ
from i zero s = []
from i (suc n) s = get_or s i 0 ∷ from (suc i) n s

from-drop : (n i : ℕ) (s : List ℕ) → length s ≡ i + n → drop i s ≡ from i n s
unfolding from
from-drop zero i s e = let h : length s ≤ i = omega arith in drop_of_length-le s h
from-drop (suc n) i s e =
    drop-cons s i 0 (omega arith) ∙ ap (λ (l : List ℕ). get_or s i 0 ∷ l) (from-drop n (suc i) s (e ∙ add-suc i n ∙ sym (suc-add i n)))

pub state-at : (s : List ℕ) → length s ≡ 16 → s ≡ state (at s)
unfolding state at from
state-at s e = from-drop 16 0 s e

-- ---- the steps

pub octets-state : (f : ℕ → ℕ → ℕ) → ((r c : ℕ) → f r c < 256) → Octets (state f)
unfolding state
octets-state f h =
    octets-cons (h 0 0) (octets-cons (h 1 0) (octets-cons (h 2 0) (octets-cons (h 3 0)
    (octets-cons (h 0 1) (octets-cons (h 1 1) (octets-cons (h 2 1) (octets-cons (h 3 1)
    (octets-cons (h 0 2) (octets-cons (h 1 2) (octets-cons (h 2 2) (octets-cons (h 3 2)
    (octets-cons (h 0 3) (octets-cons (h 1 3) (octets-cons (h 2 3) (octets-cons (h 3 3) octets-nil)))))))))))))))

octets-sub : (s : List ℕ) → Octets s → Octets (map s_box s)
octets-sub [] p = octets-nil
octets-sub (x ∷ s) p = octets-cons (s_box-lt x (p.octet 0)) (octets-sub s (octets-tail p))

pub block-sub : {s : List ℕ} → IsBlock s → IsBlock (sub_bytes s)
unfolding sub_bytes
block-sub {s} b = record { size = length-map s s_box ∙ b.size; bytes = octets-sub s b.bytes }

pub block-shift : {s : List ℕ} → IsBlock s → IsBlock (shift_rows s)
unfolding shift_rows state at
block-shift {s} b = record { size = refl; bytes = octets-state (λ r c. at s r ((c + r) % 4)) (λ r c. b.bytes.octet (r + 4 * ((c + r) % 4))) }

sum4-lt : (a b c d : ℕ) → a < 256 → b < 256 → c < 256 → d < 256 → a ⊕ b ⊕ c ⊕ d < 256
sum4-lt a b c d ha hb hc hd = xor_lt 8 (a ⊕ b ⊕ c) d (xor_lt 8 (a ⊕ b) c (xor_lt 8 a b ha hb) hc) hd

octets-mix_column : (a b c d : ℕ) → a < 256 → b < 256 → c < 256 → d < 256 → Octets (mix_column a b c d)
unfolding mix_column
octets-mix_column a b c d ha hb hc hd =
    let by : (k x : ℕ) → x < 256 → k • x < 256 = product_lt in
    octets-cons (sum4-lt _ _ _ _ (by 2 a ha) (by 3 b hb) hc hd)
    (octets-cons (sum4-lt _ _ _ _ ha (by 2 b hb) (by 3 c hc) hd)
    (octets-cons (sum4-lt _ _ _ _ ha hb (by 2 c hc) (by 3 d hd))
    (octets-cons (sum4-lt _ _ _ _ (by 3 a ha) hb hc (by 2 d hd)) octets-nil)))

length-mix : (s : List ℕ) → length (mix_columns s) ≡ 16
unfolding mix_columns by_column mix_column
length-mix s = refl

length_shift : (s : List ℕ) → length (shift_rows s) ≡ 16
unfolding shift_rows state
length_shift s = refl

-- a block under AES, whatever the key and the block
pub length-aes : (nk : ℕ) (key s : List ℕ) → length (aes nk key s) ≡ 16
unfolding aes cipher add_round_key
length-aes nk key s =
    let w = key_expansion nk key in
    let t = sub_bytes (rounds w (nk + 6 - 1) (add_round_key w 0 s)) in
    length-xor (shift_rows t) (round_key w (nk + 6)) ∙ length_shift t

pub byte_at : {s : List ℕ} → Octets s → (r c : ℕ) → at s r c < 256
unfolding at
byte_at p r c = p.octet (r + 4 * c)

pub block-mix : {s : List ℕ} → IsBlock s → IsBlock (mix_columns s)
unfolding mix_columns by_column
block-mix {s} b =
    record {
      size = length-mix s;
      bytes = octets-append _ _ (col 0) (octets-append _ _ (col 1) (octets-append _ _ (col 2) (col 3)));
    }
  where
    col : (c : ℕ) → Octets (mix_column (at s 0 c) (at s 1 c) (at s 2 c) (at s 3 c))
    col c = let byte = byte_at b.bytes in octets-mix_column _ _ _ _ (byte 0 c) (byte 1 c) (byte 2 c) (byte 3 c)

-- ---- round keys

-- the words of an expanded key are bytes
pub record KeyOctets (w : List (List ℕ)) : Type 0 where
  pub word-octets : (i : ℕ) → Octets (word w i)

pub octets-round_key : {w : List (List ℕ)} → KeyOctets w → (r : ℕ) → Octets (round_key w r)
unfolding round_key
octets-round_key {w} k r =
    octets-append _ _ (k.word-octets (4 * r)) (octets-append _ _ (k.word-octets (4 * r + 1))
    (octets-append _ _ (k.word-octets (4 * r + 2)) (k.word-octets (4 * r + 3))))

pub block-add : {w : List (List ℕ)} {s : List ℕ} → KeyOctets w → (r : ℕ) → IsBlock s → IsBlock (add_round_key w r s)
unfolding add_round_key
block-add {w} {s} k r b =
    record { size = length-xor s (round_key w r) ∙ b.size; bytes = octets-xor s (round_key w r) b.bytes (octets-round_key k r) }

pub block-rounds : {w : List (List ℕ)} {s : List ℕ} → KeyOctets w → (n : ℕ) → IsBlock s → IsBlock (rounds w n s)
unfolding rounds
block-rounds k zero b = b
block-rounds k (suc n) b = block-add k (suc n) (block-mix (block-shift (block-sub (block-rounds k n b))))

-- ---- the key expansion

none : KeyOctets []
unfolding word
none = record { word-octets = λ i. zeros i }
  where
    zeros : (i : ℕ) → Octets (get_or [] i (0 ∷ 0 ∷ 0 ∷ 0 ∷ []))
    zeros i = octets-cons (lit< tt) (octets-cons (lit< tt) (octets-cons (lit< tt) (octets-cons (lit< tt) octets-nil)))

behind : (v : List ℕ) (w : List (List ℕ)) → KeyOctets w → Octets v → KeyOctets (v ∷ w)
unfolding word
behind v w k p = record { word-octets = go }
  where
    go : (i : ℕ) → Octets (get_or (v ∷ w) i (0 ∷ 0 ∷ 0 ∷ 0 ∷ []))
    go zero = p
    go (suc i) = k.word-octets i

tail : (v : List ℕ) (w : List (List ℕ)) → KeyOctets (v ∷ w) → KeyOctets w
unfolding word
tail v w k = record { word-octets = λ i. k.word-octets (suc i) }

-- one word more
snoc : (w : List (List ℕ)) (v : List ℕ) → KeyOctets w → Octets v → KeyOctets (w ++ v ∷ [])
unfolding word
snoc [] v k p = behind v [] k p
snoc (u ∷ w) v k p = behind u (w ++ v ∷ []) (snoc w v (tail u w k) p) (k.word-octets 0)

x_power-lt : (n : ℕ) → x_power n < 256
unfolding x_power
x_power-lt zero = lit< tt
x_power-lt (suc n) = x_times-lt (x_power n) (x_power-lt n)

octets-if : (b : Bool) (s t : List ℕ) → Octets s → Octets t → Octets (cond b s t)
octets-if true s t p q = p
octets-if false s t p q = q

octets-temp : (nk i : ℕ) (t : List ℕ) → Octets t → Octets (temp nk i t)
unfolding temp sub_word rot_word rcon
octets-temp nk i t p =
    octets-if (eqb (i % nk) 0) _ _
    (octets-xor _ _ (octets-sub _ (octets-append _ _ (octets-drop 1 p) (octets-take 1 t p)))
    (octets-cons (x_power-lt (i / nk - 1)) (octets-cons (lit< tt) (octets-cons (lit< tt) (octets-cons (lit< tt) octets-nil)))))
    (octets-if (ltb 6 nk) _ _ (octets-if (eqb (i % nk) 4) _ _ (octets-sub t p) p) p)

octets-key_words : (key : List ℕ) → Octets key → (n : ℕ) → KeyOctets (key_words key n)
unfolding key_words
octets-key_words key p zero = none
octets-key_words key p (suc i) =
    snoc _ _ (octets-key_words key p i)
    (octets-cons (p.octet (4 * i)) (octets-cons (p.octet (4 * i + 1)) (octets-cons (p.octet (4 * i + 2)) (octets-cons (p.octet (4 * i + 3)) octets-nil))))

octets-expanded : (nk : ℕ) (key : List ℕ) → Octets key → (n : ℕ) → KeyOctets (expanded nk key n)
unfolding expanded
octets-expanded nk key p zero = octets-key_words key p nk
octets-expanded nk key p (suc n) =
    let k = octets-expanded nk key p n in
    snoc _ _ k (octets-xor _ _ (k.word-octets n) (octets-temp nk (nk + n) _ (k.word-octets (nk + n - 1))))

pub octets-key_expansion : (nk : ℕ) (key : List ℕ) → Octets key → KeyOctets (key_expansion nk key)
unfolding key_expansion
octets-key_expansion nk key p = octets-expanded nk key p (3 * nk + 28)
