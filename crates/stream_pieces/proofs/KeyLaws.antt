-- The subkey of a stream: its length, and its bytes from the words that the state has.
-- Assumes nothing.
use mathlib.Core.Path.{◌≡◌, sym, ap, ◌∙◌}
use mathlib.Core.Bool.{Bool, true, false, cond}
use mathlib.Core.List.{List, [], ◌++◌, append-nil}
use mathlib.Core.Logic.{◌⊎◌, inl, inr}
use Prim.Native.Nat.{ℕ, zero, suc, ◌+◌, ◌*◌, ◌≤◌, ◌<◌}
use native.Mathlib.Nat.{le_of_suc-le-suc}
use native.Mathlib.Omega.{arith}
use lib.Dec.{T, eqb, eqb→eq, lit≤}
use lib.ListN.{length, take, drop, length-drop, take-append-drop}
use lib.Seq.{length-take-le, take_all, take-append-add, drop-drop}
use Rattle.octets.specs.Buffers.{Octets}
use Rattle.octets.specs.Numbers.{be, to_be}
use Rattle.octets.proofs.BufferLaws.{octets-drop, octets-take}
use Rattle.octets.proofs.NumberLaws.{to_be-be, be-take, length-to_be}
use Rattle.aes.specs.Keyed.{nk_of}
use Rattle.aes.proofs.KeyedLaws.{key-of-size}
use Rattle.blake3.specs.Derivation.{subkey_context}
use Rattle.blake3.specs.Tree.{derive_key}
use Rattle.blake3.proofs.DerivationLaws.{length-derive_key, octets-derive_key}
use Rattle.aead.specs.Aead.{KeyFor}
use Rattle.protocol.specs.declared.Cipher.{Cipher}
use Rattle.protocol.specs.declared.Cipher.TheVariants.{AesGcm, ChaChaPoly}
use Rattle.protocol.specs.Method.{key_fits, key_length, cipher_of}
use Rattle.protocol.specs.Subkey.{subkey}
use Rattle.protocol.proofs.MethodLaws.{OfChaCha, fits-sizes, fits-cipher, length-fits}
use Rattle.stream_pieces.specs.Pieces.{subkey_words, subkey_bytes, key_of}

-- ---- methods

-- a key of its method's length is one of its cipher
pub key-of-method : (method k : ℕ) → key_fits method k ≡ true → KeyFor (cipher_of method) k
key-of-method method k h = by-cipher (cipher_of method) (fits-cipher method k h)
  where
    by-cipher : (c : Cipher) → OfChaCha c k → KeyFor c k
    by-cipher AesGcm o = key-of-size k (fits-sizes method k h).either
    by-cipher (ChaChaPoly n) o = o

-- so is a key as long as a known method's
pub key-of-length : (method : ℕ) → (key_length method ≡ 0 → ⊥) → KeyFor (cipher_of method) (key_length method)
key-of-length method h = key-of-method method (key_length method) (length-fits method h)

-- ---- the subkey

module _ (key salt : List ℕ) (h : length key ≤ 32) where
  pub length-subkey : length (subkey key salt) ≡ length key
  unfolding subkey
  length-subkey = length-take-le (length key) _ (omega (arith, length-derive_key subkey_context (key ++ salt)))

pub octets-subkey : (key salt : List ℕ) → Octets (subkey key salt)
unfolding subkey
octets-subkey key salt =
    octets-take (length key) (derive_key subkey_context (key ++ salt)) (octets-derive_key subkey_context (key ++ salt))

-- eight bytes as a word and back
eight : (s : List ℕ) → Octets s → 8 ≤ length s → to_be 8 (be 8 s) ≡ take 8 s
eight s o l =
    ap (to_be 8) (sym (be-take 8 s)) ∙ to_be-be {n = 8} {s = take 8 s} (octets-take 8 s o) (length-take-le 8 s l)

-- a length of so many words, of which a subkey has at most four
pub record Words (n : ℕ) : Type 0 where
  pub words : ℕ
  pub most : words ≤ 4
  pub size : n ≡ 8 * words

pub words-of-either : (n : ℕ) → (n ≡ 16) ⊎ (n ≡ 32) → Words n
words-of-either n (inl e) = record { words = 2; most = lit≤ tt; size = e }
words-of-either n (inr e) = record { words = 4; most = lit≤ tt; size = e }

-- a key of AES has four words at most
pub words-of-aes : (n : ℕ) → 0 < nk_of n → Words n
unfolding nk_of
words-of-aes n = go (eqb n 16) (eqb n 24) (eqb n 32) (eqb→eq n 16) (eqb→eq n 24) (eqb→eq n 32)
  where
    go : (a b c : Bool) → (T a → n ≡ 16) → (T b → n ≡ 24) → (T c → n ≡ 32) → 0 < cond a 4 (cond b 6 (cond c 8 0)) → Words n
    go true b c e f g h = record { words = 2; most = lit≤ tt; size = e tt }
    go false true c e f g h = record { words = 3; most = lit≤ tt; size = f tt }
    go false false true e f g h = record { words = 4; most = lit≤ tt; size = g tt }
    go false false false e f g h = absurd (omega (arith, h))

-- so has every key for a cipher
pub words-of-cipher : (c : Cipher) (n : ℕ) → KeyFor c n → Words n
words-of-cipher AesGcm n h = words-of-aes n h
words-of-cipher (ChaChaPoly k) n e = record { words = 4; most = lit≤ tt; size = e }

-- a string's first n words, and their bytes one behind the other
abbrev bytes_of : ℕ → List ℕ → List ℕ
bytes_of zero s = []
bytes_of (suc n) s = to_be 8 (be 8 s) ++ bytes_of n (drop 8 s)

-- of those of n words, the bytes of no more than n are the string's own
own-bytes : (n m : ℕ) (s : List ℕ) → Octets s → m ≤ n → length s ≡ 8 * m → take (8 * m) (bytes_of n s) ≡ s
own-bytes n zero s o h e = take_all 0 s (omega (arith, e))
own-bytes zero (suc m) s o h e = absurd (omega (arith, h))
own-bytes (suc n) (suc m) s o h e =
    let first = to_be 8 (be 8 s) in
    let size : 8 * suc m ≡ length first + 8 * m = omega (arith, length-to_be 8 (be 8 s)) in
    let rest : length (drop 8 s) ≡ 8 * m = omega (arith, length-drop 8 s, e) in
    ap (λ (k : ℕ). take k (first ++ bytes_of n (drop 8 s))) size
    ∙ take-append-add first (bytes_of n (drop 8 s)) (8 * m)
    ∙ (λ i. eight s o (omega (arith, e)) i ++ own-bytes n m (drop 8 s) (octets-drop 8 o) (le_of_suc-le-suc h) rest i)
    ∙ take-append-drop 8 s

-- a subkey is read from its words: of every multiple of 8 bytes up to 32
pub subkey-back : (s : List ℕ) → Octets s → Words (length s) → key_of (subkey_words s) (length s) ≡ s
unfolding key_of subkey_words subkey_bytes
subkey-back s o w =
    ap (λ (k : ℕ). take k (subkey_bytes (subkey_words s))) w.size
    ∙ ap (take (8 * w.words)) four-words
    ∙ own-bytes 4 w.words s o w.most w.size
  where
    third : drop 16 s ≡ drop 8 (drop 8 s)
    third = sym (drop-drop 8 8 s)

    fourth : drop 24 s ≡ drop 8 (drop 8 (drop 8 s))
    fourth = sym (drop-drop 8 16 s) ∙ ap (drop 8) third

    four-words : subkey_bytes (subkey_words s) ≡ bytes_of 4 s
    four-words =
        λ i. to_be 8 (be 8 s)
        ++ (to_be 8 (be 8 (drop 8 s)) ++ (to_be 8 (be 8 (third i)) ++ sym (append-nil (to_be 8 (be 8 (fourth i)))) i))
