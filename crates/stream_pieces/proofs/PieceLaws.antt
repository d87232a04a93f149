-- One piece of a stream: its nonce, its subkey in words and in bytes, sealed and opened.
-- Assumes nothing.
use mathlib.Core.Path.{◌≡◌, sym, ap, ◌∙◌, subst}
use mathlib.Core.Bool.{Bool, true, cond}
use mathlib.Core.List.{List, ◌++◌, append_assoc}
use Prim.Native.Nat.{ℕ, ◌+◌, ◌-◌, ◌/◌, ◌<◌, ◌≤◌}
use native.Mathlib.Omega.{arith}
use lib.ListN.{length, take, drop, replicate, length-append, length-drop}
use lib.Seq.{length-take-le, get_or-drop, take_at, drop_at, take-take}
use Rattle.octets.specs.Buffers.{put}
use Rattle.octets.specs.Numbers.{be, to_be, to_le}
use Rattle.octets.proofs.BufferLaws.{put-behind, put_whole, get_or-padded, length-put, take_put}
use Rattle.octets.proofs.NumberLaws.{be-same, to_le-add, length-to_be, length-to_le}
use Rattle.protocol.specs.declared.Cipher.{Cipher}
use Rattle.aead.specs.Aead.{Keyed, keyed, KeyFor, text_of, seal_by, authentic_by, opened_by}
use Rattle.aead.proofs.AeadLaws.{key-for-most, sealed-authentic, sealed-opens}
use Rattle.stream_pieces.specs.declared.Subkey.{Subkey}
use Rattle.stream_pieces.specs.declared.key.PieceKey.{PieceKey}
use Rattle.stream_pieces.specs.Pieces.{nonce, seal_at, authentic_at, open_at, subkey_words, subkey_bytes, key_of}
use Rattle.stream_pieces.proofs.LengthLaws.{length-subkey_bytes}

-- ---- the nonce

-- a counter of 8 bytes in 12 of zeros
pub nonce-law : (counter : ℕ) (w : List ℕ) → counter < 18446744073709551616 → w ≡ put (replicate 12 0) 0 (to_le 8 counter) → w ≡ nonce counter
unfolding nonce put to_le
nonce-law counter w h e =
    let n : 0 + length (to_le 8 counter) ≡ 8 = omega (arith, length-to_le 8 counter) in
    let high : 0 ≡ counter / 18446744073709551616 = omega arith in
    e ∙ ap (λ (k : ℕ). to_le 8 counter ++ drop k (replicate 12 0)) n ∙ ap (λ (x : ℕ). to_le 8 counter ++ to_le 4 x) high
    ∙ sym (to_le-add 8 4 counter)

-- ---- a subkey in words and in bytes

pub words-law : (s : List ℕ) (a b c d : ℕ) → a ≡ be 8 s → b ≡ be 8 (drop 8 s) → c ≡ be 8 (drop 16 s) → d ≡ be 8 (drop 24 s)
    → record { a = a; b = b; c = c; d = d } ≡ subkey_words s
unfolding subkey_words
words-law s a b c d ea eb ec ed = λ i. record { a = ea i; b = eb i; c = ec i; d = ed i }

-- zeros behind a subkey do not change its words
pub padded-words : (n : ℕ) (s o : List ℕ) (r : Subkey) → o ≡ put (replicate n 0) 0 s → r ≡ subkey_words o → r ≡ subkey_words s
unfolding subkey_words
padded-words n s o r eo er = er ∙ ap subkey_words eo ∙ words-law s _ _ _ _ (word 0) (word 8) (word 16) (word 24)
  where
    word : (at : ℕ) → be 8 (drop at (put (replicate n 0) 0 s)) ≡ be 8 (drop at s)
    word at =
        be-same 8 (drop at (put (replicate n 0) 0 s)) (drop at s)
        (λ i h. get_or-drop at (put (replicate n 0) 0 s) i 0 ∙ get_or-padded n s (at + i) ∙ sym (get_or-drop at s i 0))

pub bytes-law : (d v u t r : List ℕ) (w : Subkey) → length d ≡ 32 → v ≡ put d 0 (to_be 8 w.a) → u ≡ put v 8 (to_be 8 w.b)
    → t ≡ put u 16 (to_be 8 w.c) → r ≡ put t 24 (to_be 8 w.d) → r ≡ subkey_bytes w
unfolding subkey_bytes
bytes-law d v u t r w l ev eu et er =
    let a = to_be 8 w.a in
    let b = to_be 8 w.b in
    let c = to_be 8 w.c in
    let e = to_be 8 w.d in
    let la = length-to_be 8 w.a in
    let lb = length-to_be 8 w.b in
    let lc = length-to_be 8 w.c in
    let lab = length-append a b in
    let labc = length-append (a ++ b) c in
    let n₁ : 8 ≡ 0 + length a = omega (arith, la) in
    let n₂ : 16 ≡ 0 + length (a ++ b) = omega (arith, la, lb, lab) in
    let n₃ : 24 ≡ 0 + length (a ++ b ++ c) = omega (arith, la, lb, lc, lab, labc) in
    let same = append_assoc (a ++ b) c e ∙ append_assoc a b (c ++ e) in
    put-behind d (a ++ b ++ c) e t r 0 24 n₃ (omega (arith, l, sym n₃))
    (put-behind d (a ++ b) c u t 0 16 n₂ (omega (arith, l, sym n₂)) (put-behind d a b v u 0 8 n₁ (omega (arith, l, sym n₁)) ev eu) et)
    er
    ∙ ap (put d 0) same ∙ put_whole d (subkey_bytes w) (omega (arith, l, length-subkey_bytes w))

-- ---- the key of a piece

module _ (k : PieceKey) where
  pub key-most : k.length ≤ 32
  key-most = key-for-most k.cipher k.length k.key_for

  -- in the buffer that the subkey's bytes were written to
  module _ (bytes : List ℕ) (e : bytes ≡ subkey_bytes k.subkey) where
    pub key-inside : k.length ≤ length bytes
    key-inside = omega (arith, key-most, ap length e, length-subkey_bytes k.subkey)

    pub length-key : length (take k.length bytes) ≡ k.length
    length-key = length-take-le k.length bytes key-inside

    pub key-there : KeyFor k.cipher (length (take k.length bytes))
    key-there = subst (KeyFor k.cipher) (sym length-key) k.key_for

-- ---- two pieces, one behind the other

-- sealed one after the other in their buffer, under one key
pub pair-sealed : (c : Cipher) (w : Subkey) (k counter at : ℕ) (key n m d r : List ℕ) → key ≡ subkey_bytes w → n ≡ nonce counter
    → m ≡ nonce (counter + 1) → r ≡ seal_by c (take k key) n (text_of (take at d)) ++ seal_by c (take k key) m (text_of (drop at d))
    → r ≡ seal_at (keyed c (key_of w k)) counter (text_of (take at d)) ++ seal_at (keyed c (key_of w k)) (counter + 1) (text_of (drop at d))
unfolding seal_at key_of
pair-sealed c w k counter at key n m d r ek en em er =
    er ∙ (λ i. seal_by c (take k (ek i)) (en i) (text_of (take at d)) ++ seal_by c (take k (ek i)) (em i) (text_of (drop at d)))

-- two texts, each with room for its tag behind it
module _ (d p q v o : List ℕ) (at : ℕ) (front : at ≡ length p + 16) (whole : length d ≡ at + length q + 16) (ev : v ≡ put d 0 p)
    (eo : o ≡ put v at q) where
  lv : length v ≡ length d
  lv = ap length ev ∙ length-put d 0 p (omega arith)

  parts : o ≡ take at v ++ (q ++ drop (at + length q) v)
  unfolding put
  parts = eo ∙ append_assoc (take at v) q (drop (at + length q) v)

  long : length (take at v) ≡ at
  long = length-take-le at v (omega (arith, lv))

  first-text : text_of (take at o) ≡ p
  unfolding text_of
  first-text =
      let n : length (take at v) - 16 ≡ 0 + length p = omega (arith, long) in
      ap text_of (ap (take at) parts ∙ take_at (take at v) (q ++ drop (at + length q) v) at long)
      ∙ ap (λ (m : ℕ). take m (take at v)) n
      ∙ take-take (0 + length p) at v (omega arith)
      ∙ ap (take (0 + length p)) ev
      ∙ take_put d 0 p (omega arith)

  second-text : text_of (drop at o) ≡ q
  unfolding text_of
  second-text =
      let r = drop (at + length q) v in
      let n : length q ≡ length (q ++ r) - 16 = omega (arith, length-append q r, length-drop (at + length q) v, lv) in
      ap text_of (ap (drop at) parts ∙ drop_at (take at v) (q ++ r) at long) ∙ take_at q r (length (q ++ r) - 16) n

  -- so the two are sealed
  pub pair-law : (key : Keyed) (r : List ℕ) (counter : ℕ)
      → r ≡ seal_at key counter (text_of (take at o)) ++ seal_at key (counter + 1) (text_of (drop at o))
      → r ≡ seal_at key counter p ++ seal_at key (counter + 1) q
  pair-law key r counter er = er ∙ (λ i. seal_at key counter (first-text i) ++ seal_at key (counter + 1) (second-text i))

-- ---- opened

pub piece-opened : (c : Cipher) (w : Subkey) (k counter : ℕ) (s out key n : List ℕ) (b : Bool) (o : List ℕ) → key ≡ subkey_bytes w → n ≡ nonce counter
    → b ≡ authentic_by c (take k key) n s → o ≡ cond b (put out 0 (opened_by c (take k key) n s)) out
    → (b ≡ authentic_at (keyed c (key_of w k)) counter s) × (o ≡ cond b (put out 0 (open_at (keyed c (key_of w k)) counter s)) out)
unfolding authentic_at open_at key_of
piece-opened c w k counter s out key n b o ek en eb eo =
    (eb ∙ (λ i. authentic_by c (take k (ek i)) (en i) s), eo ∙ (λ i. cond b (put out 0 (opened_by c (take k (ek i)) (en i) s)) out))

-- what is sealed is authentic, and opens to the same text
pub piece_back : (key : Keyed) (counter : ℕ) (text : List ℕ)
    → (authentic_at key counter (seal_at key counter text) ≡ true) × (open_at key counter (seal_at key counter text) ≡ text)
unfolding authentic_at open_at seal_at
piece_back key counter text =
    (sealed-authentic key.cipher key.bytes (nonce counter) text, sealed-opens key.cipher key.bytes (nonce counter) text)
