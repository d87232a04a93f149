-- What is sealed and opened under a nonce depends on its three words; the inner nonce and the subkey by words.
-- Assumes nothing.
use mathlib.Core.Path.{◌≡◌, refl, sym, ap, ap₂, ◌∙◌}
use mathlib.Core.List.{List, [], ◌∷◌, ◌++◌}
use Prim.Native.Nat.{ℕ, ◌+◌, ◌/◌, ◌%◌, ◌^◌, ◌<◌, ◌≤◌}
use native.Mathlib.Nat.{mod-eq_of_lt}
use native.Mathlib.Omega.{arith}
use lib.Dec.{lit≤}
use lib.ListN.{length, take, drop, replicate}
use lib.Seq.{get_or-drop, get_or-take, drop-drop}
use Rattle.octets.specs.Buffers.{◌⊞◌, put, same}
use Rattle.octets.specs.Numbers.{le, to_le}
use Rattle.octets.proofs.NumberLaws.{le_same, le-to_le}
use Rattle.chacha.specs.Words.{bytes}
use Rattle.chacha.specs.ChaCha.{doubles, initial, ends, counted, block_of, key_block, joined, key_stream, stream, hchacha}
use Rattle.poly1305.specs.Poly1305.{mac, mac_data}
use Rattle.chacha_poly.specs.Aead.{one_time_key, crypt, tag, seal, text_of, tag_of, authentic, opened}
use Rattle.chacha_poly.specs.Extended.{subkey, inner_nonce, SameWords}

module _ (n : ℕ) (key a b : List ℕ) (e : SameWords a b) where
  same-counted : (c : ℕ) → counted key c a ≡ counted key c b
  unfolding counted
  same-counted c = λ i. initial key (c % 2 ^ 32 ∷ e.first i ∷ e.second i ∷ e.third i ∷ [])

  same_block : (c : ℕ) → key_block n key c a ≡ key_block n key c b
  unfolding key_block
  same_block c = ap (block_of n) (same-counted c)

  same-crypt : (s : List ℕ) → crypt n key a s ≡ crypt n key b s
  unfolding crypt stream key_stream
  same-crypt s = λ i. s ⊞ joined (λ (c : ℕ). same_block c i) 1 ((length s + 63) / 64)

  same_tag : (c : List ℕ) → tag n key a c ≡ tag n key b c
  unfolding tag one_time_key
  same_tag c = ap (λ (k : List ℕ). mac (take 32 k) (mac_data c)) (same_block 0)

  pub same-seal : (p : List ℕ) → seal n key a p ≡ seal n key b p
  unfolding seal
  same-seal p =
      ap₂ (λ (x y : List ℕ). x ++ y) (same-crypt p) (same_tag (crypt n key a p) ∙ ap (tag n key b) (same-crypt p))

  pub same-authentic : (s : List ℕ) → authentic n key a s ≡ authentic n key b s
  unfolding authentic
  same-authentic s = ap (λ (t : List ℕ). same t (tag_of s)) (same_tag (text_of s))

  pub same-opened : (s : List ℕ) → opened n key a s ≡ opened n key b s
  unfolding opened
  same-opened s = same-crypt (text_of s)

-- bytes of the first k
le-within : (n k at : ℕ) (s : List ℕ) → at + n ≤ k → le n (drop at (take k s)) ≡ le n (drop at s)
le-within n k at s h =
    le_same n (drop at (take k s)) (drop at s) (λ i l. get_or-drop at (take k s) i 0 ∙ get_or-take k s (at + i) 0 (omega arith) ∙ sym (get_or-drop at s i 0))

-- HChaCha reads the first 16 bytes of its nonce
pub subkey-law : (n : ℕ) (key nonce : List ℕ) → hchacha n key nonce ≡ subkey n key nonce
unfolding subkey hchacha
subkey-law n key nonce =
    let w : (at : ℕ) → at + 4 ≤ 16 → le 4 (drop at nonce) ≡ le 4 (drop at (take 16 nonce)) = λ at h. sym (le-within 4 16 at nonce h) in
    let w0 = w 0 (lit≤ tt) in
    let w1 = w 4 (lit≤ tt) in
    let w2 = w 8 (lit≤ tt) in
    let w3 = w 12 (lit≤ tt) in
    λ i. bytes (ends (doubles n (initial key (w0 i ∷ w1 i ∷ w2 i ∷ w3 i ∷ []))))

-- the inner nonce, as it is written
module _ (nonce b r : List ℕ) (x y : ℕ) (lx : x < 2 ^ 32) (ly : y < 2 ^ 32) (ex : x ≡ le 4 (drop 16 nonce)) (ey : y ≡ le 4 (drop 20 nonce))
    (eb : b ≡ put (replicate 12 0) 4 (to_le 4 x)) (er : r ≡ put b 8 (to_le 4 y)) where
  whole : r ≡ put (put (replicate 12 0) 4 (to_le 4 x)) 8 (to_le 4 y)
  whole = er ∙ ap (λ (t : List ℕ). put t 8 (to_le 4 y)) eb

  as-second : le 4 (drop 4 (put (put (replicate 12 0) 4 (to_le 4 x)) 8 (to_le 4 y))) ≡ le 4 (to_le 4 x)
  unfolding put to_le le
  as-second = refl

  as-third : le 4 (drop 8 (put (put (replicate 12 0) 4 (to_le 4 x)) 8 (to_le 4 y))) ≡ le 4 (to_le 4 y)
  unfolding put to_le le
  as-third = refl

  as_first : le 4 (put (put (replicate 12 0) 4 (to_le 4 x)) 8 (to_le 4 y)) ≡ le 4 (inner_nonce nonce)
  unfolding put to_le le inner_nonce
  as_first = refl

  back : (z : ℕ) → z < 2 ^ 32 → le 4 (to_le 4 z) ≡ z
  back z h = le-to_le 4 z ∙ mod-eq_of_lt h

  pub inner-law : SameWords r (inner_nonce nonce)
  unfolding inner_nonce
  inner-law =
      let t = drop 16 nonce in
      record {
        first = ap (le 4) whole ∙ as_first;
        second = ap (λ (s : List ℕ). le 4 (drop 4 s)) whole ∙ as-second ∙ back x lx ∙ ex ∙ sym (le-within 4 8 0 t (lit≤ tt));
        third =
            ap (λ (s : List ℕ). le 4 (drop 8 s)) whole ∙ as-third ∙ back y ly ∙ ey
            ∙ sym (le-within 4 8 4 t (lit≤ tt) ∙ ap (le 4) (drop-drop 4 16 nonce));
      }
